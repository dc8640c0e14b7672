-- Laws of `greatest`, and of a loop that looks at n - 1, n - 2, .. for the last place where a test fails.
--
--   greatest_at greatest_none       how it is known
--   last_failure                    the test fails nowhere below n, or there is a last place where it does
--   Above ok n x, down_turn down_stop down_end   the invariant of such a loop, at x, and its three turns
use mathlib.Core.Bool.{Bool, cond, false, true}
use mathlib.Core.Logic.{◌⊎◌, inl, inr}
use mathlib.Core.Path.{◌≡◌, refl}
use Prim.Native.Nat.{◌-◌, ◌<◌, ◌≤◌, suc, zero, ℕ}
use native.Mathlib.Decide.{ℕ_discrete}
use native.Mathlib.Omega.{arith}
use Rattle.theory.specs.Lists.{greatest, greatest_or}

-- the test holds from x on, below n
abbrev pub Above : (ℕ → Bool) → ℕ → ℕ → Type 0
Above ok n x = (y : ℕ) → x ≤ y → y < n → ok y ≡ true

module _ (ok : ℕ → Bool) where
  or_at : (n d x : ℕ) → x < n → Above ok n (suc x) → ok x ≡ false → greatest_or ok n d ≡ x
  unfolding greatest_or
  or_at zero d x h upper bad = absurd (omega arith)
  or_at (suc n) d x h upper bad = go (ℕ_discrete n x) (or_at n d x)
    where
      go : Dec (n ≡ x) → (x < n → Above ok n (suc x) → ok x ≡ false → greatest_or ok n d ≡ x)
          → cond (ok n) (greatest_or ok n d) n ≡ x
      go (yes q) ih = let e : ok n ≡ false = rw q bad in rw e q
      go (no q) ih = rw (upper n (omega arith) (omega arith)) (ih (omega arith) (λ y a b. upper y a (omega arith)) bad)

  or_none : (n d : ℕ) → Above ok n 0 → greatest_or ok n d ≡ d
  unfolding greatest_or
  or_none zero d upper = refl
  or_none (suc n) d upper = rw (upper n (omega arith) (omega arith)) (or_none n d (λ y a b. upper y a (omega arith)))

  pub greatest_at : (n x : ℕ) → x < n → Above ok n (suc x) → ok x ≡ false → greatest ok n ≡ x
  unfolding greatest
  greatest_at n x h upper bad = or_at n n x h upper bad

  pub greatest_none : (n : ℕ) → Above ok n 0 → greatest ok n ≡ n
  unfolding greatest
  greatest_none n upper = or_none n n upper

  pub last_failure : (n : ℕ) → Above ok n 0 ⊎ ((x : ℕ) × (x < n) × Above ok n (suc x) × (ok x ≡ false))
  last_failure zero = inl (λ y a b. absurd (omega arith))
  last_failure (suc n) = go (ok n) refl (last_failure n)
    where
      Last : ℕ → Type 0
      Last k = (x : ℕ) × (x < k) × Above ok k (suc x) × (ok x ≡ false)

      more : (x : ℕ) → Above ok n x → ok n ≡ true → Above ok (suc n) x
      more x upper e y a b = at (ℕ_discrete y n)
        where
          at : Dec (y ≡ n) → ok y ≡ true
          at (yes q) = rw q e
          at (no q) = upper y a (omega arith)

      go : (b : Bool) → ok n ≡ b → Above ok n 0 ⊎ Last n → Above ok (suc n) 0 ⊎ Last (suc n)
      go true e (inl upper) = inl (more 0 upper e)
      go true e (inr l) = inr (l.0, omega (arith, l.1), more (suc l.0) l.2 e, l.3)
      go false e d = inr (n, omega arith, (λ y a b. absurd (omega arith)), e)

-- ---- a scan from n - 1 down

module _ (ok : ℕ → Bool) (n x : ℕ) (upper : Above ok n x) where
  pub down_turn : ok (x - 1) ≡ true → Above ok n (x - 1)
  down_turn e y a b = go (ℕ_discrete y (x - 1))
    where
      go : Dec (y ≡ x - 1) → ok y ≡ true
      go (yes q) = rw q e
      go (no q) = upper y (omega arith) b

  pub down_stop : 0 < x → x ≤ n → ok (x - 1) ≡ false → greatest ok n ≡ x - 1
  down_stop h k e = greatest_at ok n (x - 1) (omega arith) (λ y a b. upper y (omega arith) b) e

  pub down_end : x ≤ 0 → greatest ok n ≡ n
  down_end h = greatest_none ok n (λ y a b. upper y (omega arith) b)
