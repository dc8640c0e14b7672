-- The loop keeps `Writing`, and at its end no digit is left.
use native.Mathlib.Omega.{arith}
use Rattle.text.proofs.Writing.{writing_end, writing_start, writing_turn}
use Rattle.text.proofs.digits.Goals as goal

pub loop-i-init : goal.loop-i-init
loop-i-init c = writing_start _ _ c.requires

pub loop-i-preserved : goal.loop-i-preserved
loop-i-preserved c = writing_turn _ _ _ _ c.loop-i-test.true c.loop-i.invariant

pub returns : goal.returns
returns c = writing_end _ _ _ _ (omega (arith, c.loop-i-test.false)) c.loop-i.invariant
