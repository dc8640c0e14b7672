-- `write_letters` meets its contract: a refusal is answered before an output is touched; the walk of an accepted mesh,
-- which the judge kept, is spelt out. The work space is cleared once, at the end.
use mathlib.Core.Path.{◌∙◌, ap, sym}
use native.Mathlib.Omega.{arith}
use lib.ListN.{replicate}
use Prim.Native.Nat.{ℕ}
use Rattle.conn.proofs.Outcomes.{walk_kept, walk_left, walk_made}
use Rattle.theory.proofs.MeshLaws.{shape_of}
use Rattle.theory.proofs.ResultLaws.{answer_err, answer_ok}
use Rattle.conn.proofs.write_letters.Goals as goal
use Rattle.conn.proofs.write_letters.Goals.{then-is_ok, else-is_ok}

pub spell_out-requires : goal.spell_out-requires
spell_out-requires c =
    let h = shape_of _ _ c.args.tables.now.shape in
    rw c.count.ensures
    (h.few, omega (arith, c.requires.room, c.judge-found.auto.work), c.requires.string, c.requires.table)

pub returns : goal.returns
returns c =
    let zero = c.clear.ensures ∙ ap (λ (n : ℕ). replicate n 0) c.judge-found.auto.work in
    elim c.if-is_ok.branch [
      | then-is_ok w ↦
          let done = answer_ok _ (sym c.is_ok.ensures.value ∙ w.if-is_ok.true) in
          walk_left w.letters-is w.walk-is
          (walk_made c.judge-found.ensures done (rw w.count.ensures at w.spell_out.ensures) zero)
      | else-is_ok w ↦
          let refused = answer_err _ (sym c.is_ok.ensures.value ∙ w.if-is_ok.false) in
          walk_left w.letters-is w.walk-is (walk_kept c.judge-found.ensures.answer refused zero)
    ]
