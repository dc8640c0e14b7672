use Rattle.tables.proofs.Folded.{folded_done, folded_off, halted}
use Rattle.tables.proofs.Folding.{begins, folding_turn}
use Rattle.tables.proofs.fold.Goals as goal

pub loop-k-init : goal.loop-k-init
loop-k-init c = begins c.requires

pub returns-in_default : goal.returns-in_default
returns-in_default c = halted c.requires c.loop-k.invariant c.loop-k-test.true c.in_default.ensures

pub loop-k-preserved : goal.loop-k-preserved
loop-k-preserved c =
    folding_turn c.requires c.loop-k.invariant c.loop-k-test.true c.in-Some.ensures c.step-ends.auto.work
    c.step-ends.ensures

pub returns-then-not-closes : goal.returns-then-not-closes
returns-then-not-closes c = folded_off c.requires c.loop-k.invariant c.loop-k-test.false c.if-not-closes.ensures

pub returns : goal.returns
returns c =
    folded_done c.requires c.loop-k.invariant c.loop-k-test.false c.if-not-closes.ensures c.join.ensures
