use native.Mathlib.Omega.{arith}
use Rattle.judge.proofs.Folding.{folds_end, folds_ready, folds_turn}
use Rattle.judge.proofs.closes.Goals as goal

pub turn-requires : goal.turn-requires
turn-requires c = folds_ready c.loop-b.invariant _ _ c.in-Some.ensures.steps c.requires.0 c.requires.1

pub loop-b-preserved : goal.loop-b-preserved
loop-b-preserved c =
    let read = c.in-Ok.ensures in
    let turned = c.in-Some-turn.ensures in
    folds_turn c.loop-b.invariant _ _ c.in-Some.ensures.steps read.0 read.1 turned (omega arith)

pub returns-then-eq : goal.returns-then-eq
returns-then-eq c = λ e. folds_end c.loop-b.invariant c.in-None.ensures.steps.0 c.if-eq.ensures (c.is_empty.ensures.0 e)
