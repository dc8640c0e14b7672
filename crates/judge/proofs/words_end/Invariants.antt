-- `words_end` meets its contract: what is left of the string is to end as many words as are wanted, at most one more
-- than the letters read.
use mathlib.Core.Path.{◌≡◌}
use Prim.Native.Nat.{◌+◌, ◌≤◌}
use lib.ListN.{drop}
use Rattle.theory.specs.Judge.{words_end}
use Rattle.judge.proofs.words_end.Given as goal

abbrev pub invariant-loop-i : goal.invariant-loop-i
invariant-loop-i l =
    record { few : l.need ≤ l.i + 1; left : words_end l.s 1 ≡ l.i + words_end (drop l.i l.s) l.need }
