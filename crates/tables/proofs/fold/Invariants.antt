-- `fold` meets its contract: the loop reads the letters from the right (`Folding`); where it stops no string closes,
-- and one that does not is left with more words than one, or with another width.
use Rattle.tables.proofs.Folding.{Folding}
use Rattle.tables.proofs.fold.Given as goal

abbrev pub invariant-loop-k : goal.invariant-loop-k
invariant-loop-k l = Folding l.s l.fn.work l.work l.ends l.k
