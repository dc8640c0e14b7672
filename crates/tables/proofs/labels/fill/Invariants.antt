-- `fill` meets its contract: k letters are filled in.
use Rattle.tables.proofs.Filling.{Filling}
use Rattle.tables.proofs.labels.fill.Given as goal

abbrev pub invariant-loop-k : goal.invariant-loop-k
invariant-loop-k l = Filling l.s l.notes l.os l.fn.vs l.vs l.sides l.k
