-- `record_again` meets its contract, from the promises of the record part alone. A head that is refused refuses the
-- record, so past the first test the letters stand where the head says.
use mathlib.Core.Path.{refl}
use native.Mathlib.Omega.{arith}
use Rattle.promises.proofs.RecordAgain.{head_err, head_letters, record_refused, record_returned}
use Rattle.record.proofs.OpenLaws.{part_inside}
use Rattle.std.specs.Prelude.{Err}
use Rattle.theory.proofs.ResultLaws.{answer_err}
use Rattle.promises.proofs.record_again.Goals as goal

pub returns-in-Err : goal.returns-in-Err
returns-in-Err c =
    let opened = c.read_record-opened.ensures in
    record_refused opened (head_err opened c.in-Err.refusal c.in-Err.ensures)

pub overflow_add-start : goal.overflow_add-start
overflow_add-start c = omega (arith, part_inside _ _ _ _ c.in-Ok.ensures)

pub slice_bounds-write_record-end : goal.slice_bounds-write_record-end
slice_bounds-write_record-end c = part_inside _ _ _ _ c.in-Ok.ensures

pub returns-in-Ok-opened : goal.returns-in-Ok-opened
returns-in-Ok-opened c =
    record_returned c.in-Ok-opened.ensures (head_letters _ _ _ c.in-Ok.ensures refl refl) c.write_record-packed.ensures

pub returns-in-Err-opened : goal.returns-in-Err-opened
returns-in-Err-opened c = record_refused c.in-Err-opened.ensures (answer_err (Err c.in-Err-opened.refusal) refl)
