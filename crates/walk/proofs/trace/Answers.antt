use Rattle.std.proofs.Common.{arith, rules}
use Rattle.walk.proofs.Tracing.{at_fits, end, keep_fits, start, steppable, stop, turn}
use Rattle.walk.proofs.trace.Goals as goal

pub loop-k-init : goal.loop-k-init
loop-k-init c = search (rules, start)

pub step-letter-requires : goal.step-letter-requires
step-letter-requires c = search (rules, steppable)

pub keep-requires : goal.keep-requires
keep-requires c = grind (arith, at_fits, keep_fits)

pub loop-k-preserved : goal.loop-k-preserved
loop-k-preserved c = search (rules, turn)

pub returns-after-loop-k : goal.returns-after-loop-k
returns-after-loop-k c = search (rules, end)

pub returns-in_default : goal.returns-in_default
returns-in_default c = search (rules, stop)
