-- `unpack` meets its contract. One law of UnpackLaws for each way out; a line's length bounds what is asked of each
-- writer.
use mathlib.Core.Path.{◌∙◌, ap, refl, sym}
use native.Mathlib.Omega.{arith}
use lib.ListN.{length}
use borrow.Author.Rules.{rules}
use Rattle.print.proofs.UnpackLaws.{done_few, ready_sizes, unpack_done, unpack_long, unpack_refused, unpack_unready}
use Rattle.record.proofs.Filled.{writer_filled}
use Rattle.std.specs.Prelude.{Err}
use Rattle.text.proofs.WriterLaws.{writes_append}
use Rattle.theory.proofs.ResultLaws.{answer_err}
use Rattle.print.proofs.unpack.Goals as goal
use Rattle.print.proofs.unpack.Goals.{in-Ok, in-Err}

pub returns-then-not-is_ready : goal.returns-then-not-is_ready
returns-then-not-is_ready c = unpack_unready _ _ _ _ _ (sym c.is_ready.ensures ∙ c.if-not-is_ready.true)

pub returns-then-bytes-gt2048 : goal.returns-then-bytes-gt2048
returns-then-bytes-gt2048 c =
    let new = c.new-w.ensures in
    unpack_long _ _ _ _ _ (sym c.is_ready.ensures ∙ c.if-not-is_ready.false) c.if-bytes-gt2048.true
    (writer_filled _ _ new.same_bytes new.start (rw c.at.ensures at c.write_refusal.ensures) _ (search rules) _
    c.size.ensures)

pub write_triangles-requires : goal.write_triangles-requires
write_triangles-requires c =
    let a = c.args in
    let well = sym c.is_ready.ensures ∙ c.if-not-is_ready.false in
    let sizes = ready_sizes (length a.vs.now) (length a.os.now) (length a.work.now) (length a.out.now) well in
    let few = done_few a.bytes.now a.vs.now a.os.now a.work.now a.out.now well (omega arith) c.in-Ok.ensures refl in
    record {
      tables = (omega (arith, few, sizes, c.read_record.auto.vs), omega (arith, few, sizes, c.read_record.auto.os));
      room = omega (arith, few, sizes, ap length c.new-w.ensures.same_bytes);
    }

pub returns : goal.returns
returns c =
    let well = sym c.is_ready.ensures ∙ c.if-not-is_ready.false in
    let new = c.new-w.ensures in
    elim c.match-read_record.branch [
      | in-Ok w ↦
          let lines = writes_append w.write_counts.ensures.line w.write_triangles.ensures in
          unpack_done _ _ _ _ _ well (omega arith) w.in-Ok.ensures refl
          (writer_filled _ _ new.same_bytes new.start lines _ (search rules) _ (c.size-2.ensures ∙ rw w.w-is))
      | in-Err w ↦
          unpack_refused _ _ _ _ _ well (omega arith) w.in-Err.ensures (answer_err (Err w.in-Err.refusal) refl)
          (writer_filled _ _ new.same_bytes new.start w.write_refusal-in-Err.ensures _ (search rules) _
          (c.size-2.ensures ∙ rw w.w-is))
    ]
