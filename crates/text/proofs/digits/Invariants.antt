-- `digits` meets its contract: the digits of m are left to write below i (`Writing`).
use Rattle.text.proofs.Writing.{Writing}
use Rattle.text.proofs.digits.Given as goal

abbrev pub invariant-loop-i : goal.invariant-loop-i
invariant-loop-i l = Writing l.n l.part l.i l.m
