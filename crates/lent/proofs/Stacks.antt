-- Laws of a stack that grows down in a table: what stands from p on.
--
--   top_none under_some under_none   its top and what is under it
--   top_set push_set                 after a store at its top, and one place before it
use mathlib.Core.List.{List, ◌∷◌}
use mathlib.Core.Path.{◌≡◌}
use Prim.Native.Nat.{◌+◌, ◌-◌, ◌<◌, ◌≤◌, suc, zero, ℕ}
use native.Mathlib.Numerals.{add-one}
use native.Mathlib.Omega.{arith}
use lib.ListN.{drop, drop_of_length-le, length, length-set, set}
use lib.Seq.{drop-cons, drop-set-lt, get_or-set_same}
use Rattle.theory.specs.Lists.{head, tail}

module _ (l : List ℕ) (p : ℕ) where
  pub top_none : length l ≤ p → 0 ≡ head (drop p l)
  unfolding head
  top_none h = rw (drop_of_length-le l h)

  pub under_some : p < length l → drop (p + 1) l ≡ tail (drop p l)
  unfolding tail
  under_some h = rw (add-one p, drop-cons l p 0 h)

  pub under_none : length l ≤ p → drop p l ≡ tail (drop p l)
  unfolding tail
  under_none h = rw (drop_of_length-le l h)

  pub top_set : (x : ℕ) → p < length l → drop p (set l p x) ≡ x ∷ drop (suc p) l
  top_set x h =
      let k : p < length (set l p x) = rw (length-set l p x) h in
      rw (drop-cons (set l p x) p 0 k, get_or-set_same l p x 0 h, drop-set-lt (suc p) l p x (omega arith))

pub push_set : (l : List ℕ) (p x : ℕ) → 0 < p → p ≤ length l → drop (p - 1) (set l (p - 1) x) ≡ x ∷ drop p l
push_set l zero x z h = absurd (omega arith)
push_set l (suc q) x z h = let e : suc q - 1 ≡ q = omega arith in rw e (top_set l q x h)
