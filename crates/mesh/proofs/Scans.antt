-- A search for the first place where a test fails: `find` over a range and `position` in a slice end with `lowest`, if
-- the closure that they call is the test's negation.
--
--   find_lowest position_lowest
use mathlib.Core.Bool.{Bool, false, true}
use mathlib.Core.List.{List}
use mathlib.Core.Path.{◌≡◌}
use Prim.Native.Nat.{◌<◌, ℕ}
use native.Mathlib.Omega.{arith}
use denote.Param.Members.{Mut}
use denote.Ref.{Bor}
use lib.ListN.{get_or, length}
use Rattle.std.specs.Prelude.{MatchOption, None, Option, Some}
use Rattle.std.specs.Fn.{Called, CalledAt}
use Rattle.std.specs.Iterator.{YieldsThen}
use Rattle.std.specs.List.{AllWithin, FoldsTo, HoldsAt}
use Rattle.std.specs.Slice.Iter.{iter_rest}
use Rattle.std.proofs.iter.Yields.{fronts, nat_range_steps}
use Rattle.std.proofs.lemmas.Iterator.{IsFirst-from_position, YieldsList-from_slice, first_from_Range}
use Rattle.theory.proofs.LowestLaws.{lowest_at, lowest_found, lowest_none}
use Rattle.theory.specs.Lists.{lowest}

pub find_lowest : {F : Type 0} {g : Mut F (Bor ℕ × Unit {0}) Bool} (ok : ℕ → Bool) (n : ℕ) (u : _) (f : F)
    (r : Option ℕ)
    → (xs : List ℕ) × (j : F) × YieldsThen nat_range_steps (record { start = 0; end = n }) xs r u
    × FoldsTo (λ p x q. CalledAt g p x false q) f xs j × MatchOption r (Unit {0}) (λ x. (h : F) × CalledAt g j x true h)
    → ((x : ℕ) (q : F) → CalledAt g f x true q → ok x ≡ false)
    → ((x : ℕ) (q : F) → CalledAt g f x false q → (q ≡ f) × (ok x ≡ true))
    → r ≡ lowest ok n
find_lowest ok n u f r ran stops goes =
    lowest_found ok n r (first_from_Range _ u f r (λ i. ok i ≡ false) (λ i. ok i ≡ true) ran stops goes)

module _ (ok : ℕ → Bool) (xs : List ℕ) where
  first_lowest : (r : Option ℕ)
      → MatchOption r (AllWithin (λ x. ok x ≡ true) xs 0 (length xs))
      (λ i. (i < length xs) × HoldsAt (λ x. ok x ≡ false) xs i × AllWithin (λ x. ok x ≡ true) xs 0 i)
      → r ≡ lowest (λ i. ok (get_or xs i 0)) (length xs)
  first_lowest (Some i) h = lowest_at _ _ i h.0 (λ k l. h.2 k 0 (omega arith) l) (h.1 0)
  first_lowest None h = lowest_none _ _ (λ k l. h k 0 (omega arith) l)

  pub position_lowest : {F : Type 0} {g : Mut F (Bor ℕ × Unit {0}) Bool} (s u : _) (f : F) (r : Option ℕ)
      → (ys : List (Bor ℕ)) × (o : Option (Bor ℕ)) × (j : F) × YieldsThen fronts s ys o u
      × FoldsTo (λ p x q. Called g p (x, tt) false q) f ys j
      × MatchOption o (r ≡ None) (λ x. (r ≡ Some (length ys)) × ((h : F) × Called g j (x, tt) true h))
      → iter_rest s ≡ xs
      → ((x : Bor ℕ) (q : F) → Called g f (x, tt) true q → ok x.now ≡ false)
      → ((x : Bor ℕ) (q : F) → Called g f (x, tt) false q → (q ≡ f) × (ok x.now ≡ true))
      → r ≡ lowest (λ i. ok (get_or xs i 0)) (length xs)
  position_lowest s u f r ran rest stops goes =
      let all = YieldsList-from_slice xs rest in
      first_lowest r (IsFirst-from_position u f r (λ x. ok x ≡ false) (λ x. ok x ≡ true) ran all stops goes)
