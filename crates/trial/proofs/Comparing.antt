-- What `equal` answers, of strings and of tables of numbers, tells whether they are equal.
use mathlib.Core.List.{List}
use mathlib.Core.Path.{sym}
use Prim.Native.Nat.{ℕ}
use Rattle.std.specs.Prelude.{nat_eq}
use Rattle.std.specs.Cmp.Lexicographic.{other_text, pointwise, same_text}
use Rattle.trial.specs.Same.{Tells}

pub tells : (a b : List ℕ) → Tells a b (pointwise nat_eq a b)
tells a b = record { one = λ e. same_text a b (sym e); other = λ e. other_text a b (sym e) }
