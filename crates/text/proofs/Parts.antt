-- Parts of lists, as code lends them: `&s[at..]` is take (length s - at) (drop at s).
use mathlib.Core.List.{List, [], ◌∷◌}
use mathlib.Core.Path.{◌≡◌, refl, sym}
use Prim.Native.Nat.{◌-◌, ◌≤◌, suc, zero, ℕ}
use native.Mathlib.Omega.{arith}
use lib.ListN.{drop, length, length-drop, take}
use lib.Seq.{take_all}

pub drop_take : (k n : ℕ) (l : List ℕ) → drop k (take n l) ≡ take (n - k) (drop k l)
drop_take zero n l =
    let q : n - 0 ≡ n = omega arith in
    rw q
drop_take (suc k) zero l =
    let q : 0 - suc k ≡ 0 = omega arith in
    rw q
drop_take (suc k) (suc n) [] = sym (take_none (suc n - suc k))
  where
    take_none : (m : ℕ) → take {A = ℕ} m [] ≡ []
    take_none zero = refl
    take_none (suc m) = refl
drop_take (suc k) (suc n) (x ∷ l) =
    let q : suc n - suc k ≡ n - k = omega arith in
    rw q (drop_take k n l)

pub tail_part : (s : List ℕ) (at : ℕ) → at ≤ length s → take (length s - at) (drop at s) ≡ drop at s
tail_part s at h = take_all (length s - at) (drop at s) (omega (arith, length-drop at s))
