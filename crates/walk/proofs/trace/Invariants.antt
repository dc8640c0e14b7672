-- `trace` meets its contract: the invariant says that the walk is the steps made, which are kept, and those to come.
use Rattle.std.proofs.Common.{length}
use Rattle.walk.proofs.Tracing.{Tracing}
use Rattle.walk.proofs.trace.Given as goal

abbrev pub invariant-loop-k : goal.invariant-loop-k
invariant-loop-k l = Tracing l.vs l.os l.v l.g (length l.fn.work) l.work l.here l.k
