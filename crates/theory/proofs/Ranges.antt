-- Facts at every corner of the triangles k, .., k + n - 1 (`Range`), put together from the first triangle and the rest,
-- or from two parts.
use mathlib.Core.Path.{◌≡◌, subst, sym}
use Prim.Native.Nat.{◌*◌, ◌+◌, ◌<◌, ◌≤◌, suc, ℕ}
use native.Mathlib.Decide.{dec_lt, ℕ_discrete}
use native.Mathlib.Omega.{arith}

abbrev pub Range : (ℕ → Type 0) → ℕ → ℕ → Type 0
Range P k n = (x : ℕ) → 3 * k ≤ x → x < 3 * (k + n) → P x

pub range_first : (P : ℕ → Type 0) (k n : ℕ) → P (3 * k) → P (3 * k + 1) → P (3 * k + 2) → Range P (k + 1) n
    → Range P k (suc n)
range_first P k n a b d f x p q = go (ℕ_discrete x (3 * k)) (ℕ_discrete x (3 * k + 1)) (ℕ_discrete x (3 * k + 2))
  where
    go : Dec (x ≡ 3 * k) → Dec (x ≡ 3 * k + 1) → Dec (x ≡ 3 * k + 2) → P x
    go (yes u) v w = subst P (sym u) a
    go (no u) (yes v) w = subst P (sym v) b
    go (no u) (no v) (yes w) = subst P (sym w) d
    go (no u) (no v) (no w) = f x (omega arith) (omega arith)

pub range_both : (P : ℕ → Type 0) (k n m : ℕ) → Range P k n → Range P (k + n) m → Range P k (n + m)
range_both P k n m f h x p q = go (dec_lt x (3 * (k + n)))
  where
    go : Dec (x < 3 * (k + n)) → P x
    go (yes u) = f x p u
    go (no u) = h x (omega arith) (omega arith)
