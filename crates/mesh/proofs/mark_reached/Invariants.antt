-- `mark_reached` meets its contract. The search in the two tables keeps its invariant, and what it owes falls.
use lib.ListN.{length}
use Rattle.mesh.proofs.SearchTables.{Searching}
use Rattle.mesh.proofs.Touching.{owed}
use Rattle.mesh.specs.Search.{search_at}
use Rattle.mesh.proofs.mark_reached.Given as goal

abbrev pub invariant-loop-p : goal.invariant-loop-p
invariant-loop-p l = Searching (length l.fn.seen) l.pairs.os.now l.a l.seen l.stack l.p

abbrev pub decreases-loop-p : goal.decreases-loop-p
decreases-loop-p l = owed (search_at l.seen l.stack l.p)
