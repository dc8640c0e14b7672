-- `closes` meets its contract: the loop folds the letters from the right into words (`Folding`), and only one word of
-- width 2 is answered with yes.
use Rattle.std.specs.Iterator.Adapters.{rev_source}
use Rattle.std.specs.Slice.Iter.{iter_rest}
use Rattle.judge.proofs.Folding.{Folding}
use Rattle.judge.proofs.closes.Given as goal

abbrev pub invariant-loop-b : goal.invariant-loop-b
invariant-loop-b l = Folding l.s l.fn.work (iter_rest (rev_source l.b-iterator)) l.top l.behind
