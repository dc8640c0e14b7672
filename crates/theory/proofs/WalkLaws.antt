-- Laws of the letters of the walk: which letter the tests find.
--
--   letter_new letter_old     at an unmarked tip, and at a marked one by its two sides
use mathlib.Core.Bool.{Bool, false, true}
use mathlib.Core.List.{List, ◌∷◌}
use mathlib.Core.Path.{◌≡◌}
use Prim.Native.Nat.{ℕ}
use Rattle.theory.specs.Corner.{left, right}
use Rattle.theory.specs.Lists.{mem}
use Rattle.theory.specs.Walk.{Step, ◌＠◌, by_sides, letter_at, marks, seen}
use Rattle.theory.specs.declared.Letter.TheVariants.{C, E}

module _ (lab opp : ℕ → ℕ) (g : ℕ) (steps : List Step) (c : ℕ) where
  pub letter_new : mem (lab c) (marks lab g steps) ≡ false → letter_at lab opp g steps c ≡ C
  unfolding letter_at
  letter_new h = rw h

  pub letter_old : (a b : Bool) → mem (lab c) (marks lab g steps) ≡ true → seen ((E ＠ c) ∷ steps) (left opp c) ≡ a
      → seen ((E ＠ c) ∷ steps) (right opp c) ≡ b → letter_at lab opp g steps c ≡ by_sides a b
  unfolding letter_at
  letter_old a b h p q = rw (h, p, q)
