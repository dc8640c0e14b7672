-- `away_for` meets its contract: at every turn d is the corner after as many swings as the counter says.
use Rattle.ring.proofs.Turns.{Swinging}
use Rattle.ring.proofs.away_for.Given as goal

abbrev pub invariant-loop : goal.invariant-loop
invariant-loop l = Swinging l.pairs.os.now l.c l.d l.counter
