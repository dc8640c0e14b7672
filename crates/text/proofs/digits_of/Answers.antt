-- A digit goes on with `Reading`; the rest Rattle finds from the laws of `Reading`.
use mathlib.Core.Path.{◌∙◌, subst, sym}
use Prim.Native.Nat.{◌*◌, ◌+◌}
use Rattle.text.proofs.Reading.{Reading, reading_next}
use Rattle.text.proofs.digits_of.Goals as goal

pub loop-b-preserved : goal.loop-b-preserved
loop-b-preserved c =
    subst (λ d. Reading c.args.s.now (c.loop-b.n * 10 + d) (c.loop-b.b-index + 1)) (sym c.from.ensures)
    (reading_next _ _ _ c.loop-b.invariant c.loop-b-test.true
    (sym c.is_ascii_digit.ensures.value ∙ c.if-not-is_ascii_digit.false))
