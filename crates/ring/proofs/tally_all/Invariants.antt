-- `tally_all` meets its contract: at every turn the corners from c on are counted.
use Rattle.ring.specs.Tally.{Tallied}
use Rattle.ring.proofs.tally_all.Given as goal

abbrev pub invariant-loop-c : goal.invariant-loop-c
invariant-loop-c l = Tallied l.vs l.c l.work
