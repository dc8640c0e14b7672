-- `digits_of` meets its contract. The loop keeps `Reading`: the digits so far make n, which is below 10 ^ i.
use Rattle.text.proofs.Reading.{Reading}
use Rattle.text.proofs.digits_of.Given as goal

abbrev pub invariant-loop-b : goal.invariant-loop-b
invariant-loop-b l = Reading l.s l.n l.b-index
