-- Laws of `lowest`: how a search for the first place where a test fails knows it, and what it says of `least`.
--
--   lowest_at lowest_none      how it is known
--   lowest_found               the same from what `find` over a range ends with
--   lowest_position            the same of `position` in a list
--   lowest_some lowest_all     what it says: the least place, or that every place passes
--   lowest_same                of two tests that agree below n
use mathlib.Core.Bool.{Bool, cond, false, not, true}
use mathlib.Core.List.{List}
use mathlib.Core.Path.{◌≡◌, refl}
use Prim.Native.Nat.{◌<◌, ◌≤◌, ℕ}
use native.Mathlib.Omega.{arith}
use lib.Dec.{ltb}
use lib.ListN.{get_or, length}
use borrow.Author.Tests.{le-ltb, lt-ltb, ltb-false, ltb-true}
use Rattle.std.specs.Prelude.{Option, Some, None, MatchOption, position}
use Rattle.std.specs.List.{position_or_len}
use Rattle.std.proofs.lemmas.List.Sums.{position_or_len_is}
use Rattle.theory.proofs.LeastLaws.{Before, least_all, least_at, least_below, least_fails, least_le, least_same}
use Rattle.std.proofs.lemmas.Bool.{not-false, not-true}
use Rattle.theory.specs.Lists.{least, lowest}

module _ (ok : ℕ → Bool) (n : ℕ) where
  pub lowest_at : (k : ℕ) → k < n → Before ok k → ok k ≡ false → Some k ≡ lowest ok n
  unfolding lowest
  lowest_at k h below here =
      let e : k ≡ least ok n = least_at ok n k h below here in
      rw (← e, lt-ltb k n h)

  pub lowest_none : Before ok n → None ≡ lowest ok n
  unfolding lowest
  lowest_none below =
      let e : least ok n ≡ n = least_all ok n below in
      rw (e, le-ltb n n (omega arith))

  pub lowest_some : (k : ℕ) → lowest ok n ≡ Some k → (k ≡ least ok n) × (k < n)
  unfolding lowest
  lowest_some k e = go (ltb (least ok n) n) refl e
    where
      go : (b : Bool) → ltb (least ok n) n ≡ b → cond b (Some (least ok n)) None ≡ Some k
          → (k ≡ least ok n) × (k < n)
      go true q h =
          let s : k ≡ least ok n = cc in
          (s, omega (arith, ltb-true (least ok n) n q))
      go false q h = cc

  pub lowest_all : lowest ok n ≡ None → n ≤ least ok n
  unfolding lowest
  lowest_all e = go (ltb (least ok n) n) refl e
    where
      go : (b : Bool) → ltb (least ok n) n ≡ b → cond b (Some (least ok n)) None ≡ None → n ≤ least ok n
      go true q h = cc
      go false q h = omega (arith, ltb-false (least ok n) n q)

  pub lowest_found : (r : Option ℕ)
      → MatchOption r ((k : ℕ) → 0 ≤ k → k < n → ok k ≡ true)
      (λ i. (0 ≤ i) × (i < n) × (ok i ≡ false) × ((k : ℕ) → 0 ≤ k → k < i → ok k ≡ true))
      → r ≡ lowest ok n
  lowest_found (Some i) h = lowest_at i h.1 (λ k l. h.3 k (omega arith) l) h.2
  lowest_found None h = lowest_none (λ k l. h k (omega arith) l)

pub lowest_same : (f g : ℕ → Bool) (n : ℕ) → ((k : ℕ) → k < n → f k ≡ g k) → lowest f n ≡ lowest g n
unfolding lowest
lowest_same f g n same = rw (least_same f g n same)

module _ (p : ℕ → Bool) (xs : List ℕ) (d : ℕ) where
  pub lowest_position : position p xs ≡ lowest (λ i. not (p (get_or xs i d))) (length xs)
  unfolding lowest
  lowest_position =
      let ok : ℕ → Bool = λ i. not (p (get_or xs i d)) in
      let n : ℕ = length xs in
      let e : position_or_len p xs ≡ least ok n = position_or_len_is p xs (least ok n) d (least_le ok n)
      (λ k l. not-true (p (get_or xs k d)) (least_below ok n k l))
      (λ l. not-false (p (get_or xs (least ok n) d)) (least_fails ok n l)) in
      rw e refl
