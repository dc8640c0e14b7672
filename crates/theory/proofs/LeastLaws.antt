-- Laws of `least`, `all` and `some`, and of a loop that looks at 0, 1, .. for the first place where a test fails.
--
--   least_below least_fails least_le    what the least place is
--   least_at least_all                  how it is known
--   all_true all_each some_true some_one
--   Before ok x, scan_turn scan_stop scan_end    the invariant of such a loop and its three turns
use mathlib.Core.Bool.{Bool, cond, false, not, true}
use mathlib.Core.Path.{◌∙◌, ◌≡◌, ap, refl, sym}
use Prim.Native.Nat.{◌+◌, ◌<◌, ◌≤◌, suc, zero, ℕ}
use native.Mathlib.Decide.{dec_lt, ℕ_discrete}
use native.Mathlib.Omega.{arith}
use borrow.Author.Tests.{eq-eqb, eqb-false, eqb-true}
use Rattle.std.proofs.lemmas.Bool.{not-false, not-true}
use Rattle.theory.proofs.TestLaws.{not_both}
use Rattle.theory.specs.Lists.{all, least, least_from, some}

module _ (ok : ℕ → Bool) where
  from_least : (n i : ℕ) → i ≤ least_from ok n i
  unfolding least_from
  from_least zero i = omega arith
  from_least (suc n) i = go (ok i) (from_least n (suc i))
    where
      go : (b : Bool) → suc i ≤ least_from ok n (suc i) → i ≤ cond b (least_from ok n (suc i)) i
      go true h = omega arith
      go false h = omega arith

  to_least : (n i : ℕ) → least_from ok n i ≤ i + n
  unfolding least_from
  to_least zero i = omega arith
  to_least (suc n) i = go (ok i) (to_least n (suc i))
    where
      go : (b : Bool) → least_from ok n (suc i) ≤ suc i + n → cond b (least_from ok n (suc i)) i ≤ i + suc n
      go true h = omega arith
      go false h = omega arith

  -- below it the test holds, and at it the test fails if it is below n
  below_from : (n i k : ℕ) → i ≤ k → k < least_from ok n i → ok k ≡ true
  unfolding least_from
  below_from zero i k h l = absurd (omega arith)
  below_from (suc n) i k h l = go (ok i) refl l (ℕ_discrete i k) (below_from n (suc i) k)
    where
      go : (b : Bool) → ok i ≡ b → k < cond b (least_from ok n (suc i)) i → Dec (i ≡ k)
          → (suc i ≤ k → k < least_from ok n (suc i) → ok k ≡ true) → ok k ≡ true
      go true e l (yes q) ih = rw (← q) e
      go true e l (no q) ih = ih (omega arith) l
      go false e l d ih = absurd (omega arith)

  fails_from : (n i : ℕ) → least_from ok n i < i + n → ok (least_from ok n i) ≡ false
  unfolding least_from
  fails_from zero i l = absurd (omega arith)
  fails_from (suc n) i l = go (ok i) refl l (fails_from n (suc i))
    where
      go : (b : Bool) → ok i ≡ b → cond b (least_from ok n (suc i)) i < i + suc n
          → (least_from ok n (suc i) < suc i + n → ok (least_from ok n (suc i)) ≡ false)
          → ok (cond b (least_from ok n (suc i)) i) ≡ false
      go true e l ih = ih (omega arith)
      go false e l ih = e

  pub least_below : (n k : ℕ) → k < least ok n → ok k ≡ true
  unfolding least
  least_below n k h = below_from n 0 k (omega arith) h

  pub least_fails : (n : ℕ) → least ok n < n → ok (least ok n) ≡ false
  unfolding least
  least_fails n h = fails_from n 0 (omega arith)

  pub least_le : (n : ℕ) → least ok n ≤ n
  unfolding least
  least_le n = omega (arith, to_least n 0)

  -- how a loop knows it
  pub least_at : (n x : ℕ) → x < n → ((k : ℕ) → k < x → ok k ≡ true) → ok x ≡ false → x ≡ least ok n
  least_at n x h lower bad = go (dec_lt x (least ok n)) (dec_lt (least ok n) x)
    where
      go : Dec (x < least ok n) → Dec (least ok n < x) → x ≡ least ok n
      go (yes l) d = absurd (not_both (ok x) (least_below n x l) bad)
      go (no l) (yes m) = absurd (not_both (ok (least ok n)) (lower (least ok n) m) (least_fails n (omega arith)))
      go (no l) (no m) = omega arith

  pub least_all : (n : ℕ) → ((k : ℕ) → k < n → ok k ≡ true) → least ok n ≡ n
  least_all n lower = go (dec_lt (least ok n) n)
    where
      go : Dec (least ok n < n) → least ok n ≡ n
      go (yes l) = absurd (not_both (ok (least ok n)) (lower (least ok n) l) (least_fails n l))
      go (no l) = omega (arith, least_le n)

  pub all_true : (n : ℕ) → ((k : ℕ) → k < n → ok k ≡ true) → all ok n ≡ true
  unfolding all
  all_true n lower = eq-eqb (least ok n) n (least_all n lower)

  pub all_each : (n : ℕ) → all ok n ≡ true → (k : ℕ) → k < n → ok k ≡ true
  unfolding all
  all_each n e k h = least_below n k (omega (arith, eqb-true (least ok n) n e))

  pub all_not : (n : ℕ) → all ok n ≡ false → (least ok n < n) × (ok (least ok n) ≡ false)
  unfolding all
  all_not n e =
      let q : least ok n < n = omega (arith, eqb-false (least ok n) n e, least_le n) in
      (q, least_fails n q)

  pub all_off : (n k : ℕ) → k < n → ok k ≡ false → all ok n ≡ false
  all_off n k h e = go (all ok n) refl
    where
      go : (b : Bool) → all ok n ≡ b → b ≡ false
      go true q = absurd (not_both (ok k) (all_each n q k h) e)
      go false q = refl

module _ (ok : ℕ → Bool) where
  pub some_true : (n k : ℕ) → k < n → ok k ≡ true → some ok n ≡ true
  unfolding some
  some_true n k h e = let q = all_off (λ i. not (ok i)) n k h (ap not e) in rw q

  pub some_one : (n : ℕ) → some ok n ≡ true → (k : ℕ) × (k < n) × (ok k ≡ true)
  unfolding some
  some_one n e =
      let q = all_not (λ i. not (ok i)) n (not-true (all (λ i. not (ok i)) n) e) in
      (least (λ i. not (ok i)) n, q.0, not-false (ok (least (λ i. not (ok i)) n)) q.1)

-- ---- a scan from 0 on

abbrev pub Before : (ℕ → Bool) → ℕ → Type 0
Before ok x = (y : ℕ) → y < x → ok y ≡ true

module _ (ok : ℕ → Bool) (n x : ℕ) (b : Before ok x) where
  pub scan_turn : ok x ≡ true → Before ok (x + 1)
  scan_turn e y h = go (ℕ_discrete y x)
    where
      go : Dec (y ≡ x) → ok y ≡ true
      go (yes q) = rw q e
      go (no q) = b y (omega arith)

  pub scan_stop : x < n → ok x ≡ false → x ≡ least ok n
  scan_stop h e = least_at ok n x h b e

  pub scan_end : x ≤ n → n ≤ x → x ≡ least ok n
  scan_end l h = let q : x ≡ n = omega arith in q ∙ sym (least_all ok n (λ y k. b y (omega arith)))

-- what a scan found
pub found_none : (ok : ℕ → Bool) (n x : ℕ) → x ≡ least ok n → n ≤ x → all ok n ≡ true
found_none ok n x e h = all_true ok n (λ k l. least_below ok n k (omega arith))

pub found_one : (ok : ℕ → Bool) (n x : ℕ) → x ≡ least ok n → x < n → all ok n ≡ false
found_one ok n x e h = all_off ok n (least ok n) (omega arith) (least_fails ok n (omega arith))

-- two tests that agree below n
pub least_same : (f g : ℕ → Bool) (n : ℕ) → ((k : ℕ) → k < n → f k ≡ g k) → least f n ≡ least g n
least_same f g n same = go (dec_lt (least f n) n)
  where
    go : Dec (least f n < n) → least f n ≡ least g n
    go (yes h) =
        least_at g n (least f n) h (λ k l. sym (same k (omega arith)) ∙ least_below f n k l)
        (sym (same (least f n) h) ∙ least_fails f n h)
    go (no h) =
        let q : least f n ≡ n = omega (arith, least_le f n) in
        q ∙ sym (least_all g n (λ k l. sym (same k l) ∙ least_below f n k (omega arith)))
