-- Up and down sides by letter. E5 (`more_down`): where every up side, and corner 0, has its opposite at a later
-- triangle, there are more down sides than up sides.
--
--   up_at a k, down_at a k   the sides of triangle k that the letter a leaves for later, and those that it closes
--   ups downs              of the triangles k, .., k + n - 1; every bottom corner is down
--   UpR a, UpL a           the letter a leaves its right, its left side for later
--   Lifts a k x            x is such a side of triangle k
use mathlib.Core.List.{List, [], ◌++◌, ◌∷◌, map}
use mathlib.Core.Logic.{◌⊎◌, inl, inr}
use mathlib.Core.Path.{◌∙◌, ◌≡◌, ap, refl, sym}
use Prim.Native.Nat.{◌*◌, ◌+◌, ◌<◌, ◌≤◌, suc, zero, ℕ}
use native.Mathlib.Decide.{dec_lt, ℕ_discrete}
use native.Mathlib.Numerals.{add-one}
use native.Mathlib.Omega.{arith}
use lib.Dec.{eqb}
use lib.ListN.{length, length-append, length-map}
use Rattle.theory.proofs.Counting.{bit, bit_off, bit_one, bit_refl, count, count_append, pigeon, tris, tris_once}
use Rattle.theory.specs.Corner.{triangle}
use Rattle.theory.specs.declared.Letter.{Letter}
use Rattle.theory.specs.declared.Letter.TheVariants.{C, E, L, R, S}

unfoldable pub up_at : Letter → ℕ → List ℕ
up_at C k = (3 * k + 1) ∷ ((3 * k + 2) ∷ [])
up_at L k = (3 * k + 1) ∷ []
up_at E k = []
up_at R k = (3 * k + 2) ∷ []
up_at S k = (3 * k + 1) ∷ ((3 * k + 2) ∷ [])

unfoldable pub down_at : Letter → ℕ → List ℕ
down_at C k = []
down_at L k = (3 * k + 2) ∷ []
down_at E k = (3 * k + 1) ∷ ((3 * k + 2) ∷ [])
down_at R k = (3 * k + 1) ∷ []
down_at S k = []

sides_at : (a : Letter) (x k : ℕ)
    → count x (up_at a k) + count x (down_at a k) ≡ bit (eqb x (3 * k + 1)) + bit (eqb x (3 * k + 2))
unfolding up_at down_at count
sides_at C x k = omega arith
sides_at L x k = omega arith
sides_at E x k = omega arith
sides_at R x k = omega arith
sides_at S x k = omega arith

abbrev pub UpR : Letter → Type 0
UpR C = Unit {0}
UpR L = Unit {0}
UpR E = ⊥
UpR R = ⊥
UpR S = Unit {0}

abbrev pub UpL : Letter → Type 0
UpL C = Unit {0}
UpL L = ⊥
UpL E = ⊥
UpL R = Unit {0}
UpL S = Unit {0}

abbrev pub Lifts : Letter → ℕ → ℕ → Type 0
Lifts a k x = ((x ≡ 3 * k + 1) × UpR a) ⊎ ((x ≡ 3 * k + 2) × UpL a)

pub up_at_lem : (a : Letter) (x k : ℕ) → 1 ≤ count x (up_at a k) → Lifts a k x
unfolding up_at count
up_at_lem C x k h = go (ℕ_discrete x (3 * k + 1))
  where
    go : Dec (x ≡ 3 * k + 1) → Lifts C k x
    go (yes q) = inl (q, tt)
    go (no q) = let z = bit_off x (3 * k + 1) q in inr (bit_one x (3 * k + 2) (omega arith), tt)
up_at_lem L x k h = inl (bit_one x (3 * k + 1) (omega arith), tt)
up_at_lem E x k h = absurd (omega arith)
up_at_lem R x k h = inr (bit_one x (3 * k + 2) (omega arith), tt)
up_at_lem S x k h = go (ℕ_discrete x (3 * k + 1))
  where
    go : Dec (x ≡ 3 * k + 1) → Lifts S k x
    go (yes q) = inl (q, tt)
    go (no q) = let z = bit_off x (3 * k + 1) q in inr (bit_one x (3 * k + 2) (omega arith), tt)

module _ (sp : ℕ → Letter) where
  unfoldable pub ups : ℕ → ℕ → List ℕ
  ups k zero = []
  ups k (suc n) = up_at (sp k) k ++ ups (k + 1) n

  unfoldable pub downs : ℕ → ℕ → List ℕ
  downs k zero = []
  downs k (suc n) = (3 * k) ∷ (down_at (sp k) k ++ downs (k + 1) n)

  parts : (x n k : ℕ) → count x (ups k n) + count x (downs k n) ≡ count x (tris k n)
  unfolding ups downs tris count
  parts x zero k = refl
  parts x (suc n) k =
      let i = parts x n (k + 1) in
      let j = sides_at (sp k) x k in
      let a = count_append x (up_at (sp k) k) (ups (k + 1) n) in
      let b = count_append x (down_at (sp k) k) (downs (k + 1) n) in
      omega arith

  pub ups_in : (x n k : ℕ) → 1 ≤ count x (ups k n) → (j : ℕ) × (j < k + n) × (1 ≤ count x (up_at (sp j) j))
  unfolding ups count
  ups_in x zero k h = absurd (omega arith)
  ups_in x (suc n) k h = go (dec_lt 0 (count x (up_at (sp k) k))) (λ z. ups_in x n (k + 1) z)
    where
      go : Dec (0 < count x (up_at (sp k) k))
          → (1 ≤ count x (ups (k + 1) n) → (j : ℕ) × (j < k + 1 + n) × (1 ≤ count x (up_at (sp j) j)))
          → (j : ℕ) × (j < k + suc n) × (1 ≤ count x (up_at (sp j) j))
      go (yes z) f = (k, omega arith, z)
      go (no z) f =
          let a = count_append x (up_at (sp k) k) (ups (k + 1) n) in
          let r = f (omega arith) in
          (r.0, omega arith, r.2)

  -- one triangle more
  pub ups_length : (k n : ℕ) (a : Letter) → sp k ≡ a
      → length (ups k (suc n)) ≡ length (up_at a k) + length (ups (suc k) n)
  unfolding ups
  ups_length k n a q = length-append (up_at (sp k) k) (ups (k + 1) n) ∙ rw (q, add-one k)

  pub downs_length : (k n : ℕ) (a : Letter) → sp k ≡ a
      → length (downs k (suc n)) ≡ suc (length (down_at a k) + length (downs (suc k) n))
  unfolding downs
  downs_length k n a q = ap suc (length-append (down_at (sp k) k) (downs (k + 1) n) ∙ rw (q, add-one k))

-- F5: an involution carries counts along
count_map : (f : ℕ → ℕ) → ((x : ℕ) → f (f x) ≡ x) → (z : ℕ) (q : List ℕ) → count z (map f q) ≡ count (f z) q
unfolding count
count_map f twice z [] = refl
count_map f twice z (y ∷ q) = go (ℕ_discrete z (f y)) (count_map f twice z q)
  where
    go : Dec (z ≡ f y) → count z (map f q) ≡ count (f z) q
        → bit (eqb z (f y)) + count z (map f q) ≡ bit (eqb (f z) y) + count (f z) q
    go (yes p) i =
        let a : bit (eqb z (f y)) ≡ 1 = rw (← p) (bit_refl z) in
        let w : f z ≡ y = ap f p ∙ twice y in
        let b : bit (eqb (f z) y) ≡ 1 = rw w (bit_refl y) in
        omega arith
    go (no p) i =
        let a = bit_off z (f y) p in
        let b = bit_off (f z) y (λ (o : f z ≡ y). p (sym (twice z) ∙ ap f o)) in
        omega arith

-- E5
module _ (sp : ℕ → Letter) (m : ℕ) (other : ℕ → ℕ) (twice : (x : ℕ) → other (other x) ≡ x)
    (rises : (x : ℕ) → 1 ≤ count x (0 ∷ ups sp 0 (suc m))
    → (triangle x < triangle (other x)) × (1 ≤ count (other x) (tris 0 (suc m)))) where
  -- the up sides with corner 0, the down sides without it
  abbrev risen : List ℕ
  risen = 0 ∷ ups sp 0 (suc m)

  abbrev sunk : List ℕ
  sunk = down_at (sp 0) 0 ++ downs sp 1 m

  fits : (z : ℕ) → count z (map other risen) ≤ count z sunk
  unfolding downs count
  fits z = go (dec_lt 0 (count (other z) risen)) (dec_lt 0 (count z risen))
    where
      both : (y : ℕ) → count y risen + count y sunk ≡ count y (tris 0 (suc m))
      both y = let i = parts sp y (suc m) 0 in omega arith

      go : Dec (0 < count (other z) risen) → Dec (0 < count z risen) → count z (map other risen) ≤ count z sunk
      go (no p) q = let a = count_map other twice z risen in rw a (omega arith)
      go (yes p) (yes q) =
          let a = rises (other z) p in
          let b = rises z q in
          let d : triangle (other (other z)) ≡ triangle z = ap triangle (twice z) in
          absurd (omega arith)
      go (yes p) (no q) =
          let a = count_map other twice z risen in
          let b = both (other z) in
          let d = tris_once (other z) (suc m) 0 in
          let u = rises (other z) p in
          let v : 1 ≤ count z (tris 0 (suc m)) = rw twice at u.1 in
          let w = both z in
          rw a (omega arith)

  pub more_down : length (ups sp 0 (suc m)) + 2 ≤ length (downs sp 0 (suc m))
  unfolding downs
  more_down =
      let a = pigeon (map other risen) sunk fits in
      let b = length-map risen other in
      omega arith
