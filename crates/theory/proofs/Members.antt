-- Laws of `mem`: membership is being counted.
use mathlib.Core.Bool.{Bool, ◌||◌, false, true}
use mathlib.Core.List.{List, [], ◌++◌, ◌∷◌}
use mathlib.Core.Path.{◌≡◌, refl}
use Prim.Native.Nat.{◌+◌, ◌≤◌, ℕ}
use native.Mathlib.Omega.{arith}
use lib.Dec.{eqb}
use Rattle.theory.proofs.Counting.{bit, count}
use Rattle.theory.proofs.TestLaws.{not_both}
use Rattle.theory.specs.Lists.{mem}

pub mem_true : (x : ℕ) (l : List ℕ) → mem x l ≡ true → 1 ≤ count x l
unfolding mem count bit
mem_true x [] e = absurd (not_both false e refl)
mem_true x (y ∷ l) e = go (eqb x y) e (mem_true x l)
  where
    go : (b : Bool) → (b || mem x l) ≡ true → (mem x l ≡ true → 1 ≤ count x l) → 1 ≤ bit b + count x l
    go true e f = omega arith
    go false e f = let z = f e in omega arith

pub mem_false : (x : ℕ) (l : List ℕ) → mem x l ≡ false → count x l ≡ 0
unfolding mem count bit
mem_false x [] e = refl
mem_false x (y ∷ l) e = go (eqb x y) e (mem_false x l)
  where
    go : (b : Bool) → (b || mem x l) ≡ false → (mem x l ≡ false → count x l ≡ 0) → bit b + count x l ≡ 0
    go true e f = absurd (not_both true refl e)
    go false e f = omega (arith, f e)

pub mem_append : (x : ℕ) (a b : List ℕ) → mem x (a ++ b) ≡ (mem x a || mem x b)
unfolding mem
mem_append x [] b = refl
mem_append x (y ∷ a) b = go (eqb x y) (mem_append x a b)
  where
    go : (q : Bool) → mem x (a ++ b) ≡ (mem x a || mem x b) → (q || mem x (a ++ b)) ≡ ((q || mem x a) || mem x b)
    go true e = refl
    go false e = e
