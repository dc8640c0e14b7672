-- How often a number stands in a list. "Exactly once" is said by counting, so that omega decides it.
--
--   count x l         how often; additive over ++
--   pigeon            a list whose numbers occur no oftener than in another is no longer than it
--   tris k n          the corners of the triangles k, .., k + n - 1
--   differ            two entries of a list without repetition differ
use mathlib.Core.Bool.{Bool, cond, false, true}
use mathlib.Core.List.{List, [], ◌++◌, ◌∷◌}
use mathlib.Core.Logic.{◌≢◌}
use mathlib.Core.Path.{◌∙◌, ◌≡◌, ap, refl, sym}
use Prim.Native.Nat.{◌*◌, ◌+◌, ◌<◌, ◌≤◌, suc, zero, ℕ}
use native.Mathlib.Decide.{dec_lt, ℕ_discrete}
use native.Mathlib.Nat.{add-zero, suc-add, zero-add}
use native.Mathlib.Omega.{arith}
use lib.Dec.{T, eqb, eqb_refl, eqb→eq}
use lib.ListN.{drop, get_or, length, take, take-append-drop}
use Rattle.theory.proofs.Each.{EachN}
use Rattle.theory.specs.Lists.{front, tail}

-- occurrences
unfoldable pub bit : Bool → ℕ
bit true = 1
bit false = 0

unfoldable pub count : ℕ → List ℕ → ℕ
count x [] = 0
count x (y ∷ ys) = bit (eqb x y) + count x ys

pub count_append : (x : ℕ) (a b : List ℕ) → count x (a ++ b) ≡ count x a + count x b
unfolding count
count_append x [] b = omega arith
count_append x (y ∷ ys) b = let i = count_append x ys b in omega arith

-- take one x out
unfoldable pub less : ℕ → List ℕ → List ℕ
less x [] = []
less x (y ∷ ys) = cond (eqb x y) ys (y ∷ less x ys)

pub length_less : (x : ℕ) (ys : List ℕ) → 1 ≤ count x ys → length (less x ys) + 1 ≡ length ys
unfolding less count bit
length_less x [] h = absurd (omega arith)
length_less x (y ∷ ys) h = go (eqb x y) refl (length_less x ys)
  where
    go : (b : Bool) → eqb x y ≡ b → (1 ≤ count x ys → length (less x ys) + 1 ≡ length ys)
        → length (cond (eqb x y) ys (y ∷ less x ys)) + 1 ≡ suc (length ys)
    go true q f = rw q (omega arith)
    go false q f = let i0 = rw q at h in let i : 1 ≤ count x ys = omega arith in let j = f i in rw q (omega arith)

-- what is left of the others
pub count_less : (z x : ℕ) (ys : List ℕ) → 1 ≤ count x ys → count z (less x ys) + bit (eqb z x) ≡ count z ys
unfolding less count bit
count_less z x [] h = absurd (omega arith)
count_less z x (y ∷ ys) h = go (eqb x y) refl (count_less z x ys)
  where
    go : (b : Bool) → eqb x y ≡ b → (1 ≤ count x ys → count z (less x ys) + bit (eqb z x) ≡ count z ys)
        → count z (cond (eqb x y) ys (y ∷ less x ys)) + bit (eqb z x) ≡ bit (eqb z y) + count z ys
    go true q f = let w : x ≡ y = eqb→eq x y (rw q tt) in rw (q, w) (omega arith)
    go false q f = let i0 = rw q at h in let i : 1 ≤ count x ys = omega arith in let j = f i in rw q (omega arith)

pub bit_refl : (x : ℕ) → bit (eqb x x) ≡ 1
unfolding bit
bit_refl x = go (eqb x x) (eqb_refl x)
  where
    go : (b : Bool) → T b → bit b ≡ 1
    go true q = refl
    go false q = absurd q

-- F1 pigeon: if every number occurs in xs at most as often as in ys, then xs is no longer than ys
pub pigeon : (xs ys : List ℕ) → ((x : ℕ) → count x xs ≤ count x ys) → length xs ≤ length ys
unfolding count
pigeon [] ys h = omega arith
pigeon (x ∷ xs) ys h =
    let one : bit (eqb x x) ≡ 1 = bit_refl x in
    let h0 = h x in
    let m : 1 ≤ count x ys = omega arith in
    let i = pigeon xs (less x ys) (λ z. let a = h z in let b = count_less z x ys m in omega arith) in
    let j = length_less x ys m in
    omega arith

pub bit_off : (x y : ℕ) → x ≢ y → bit (eqb x y) ≡ 0
unfolding bit
bit_off x y h = go (eqb x y) refl
  where
    go : (b : Bool) → eqb x y ≡ b → bit b ≡ 0
    go true q = absurd (h (eqb→eq x y (rw q tt)))
    go false q = refl

pub bit_one : (x y : ℕ) → 1 ≤ bit (eqb x y) → x ≡ y
bit_one x y h = go (ℕ_discrete x y)
  where
    go : Dec (x ≡ y) → x ≡ y
    go (yes q) = q
    go (no q) = let z = bit_off x y q in absurd (omega arith)

pub bit_two : (x y z : ℕ) → y < z → bit (eqb x y) + bit (eqb x z) ≤ 1
unfolding bit
bit_two x y z h = go (eqb x y) (eqb x z) refl refl
  where
    go : (a b : Bool) → eqb x y ≡ a → eqb x z ≡ b → bit a + bit b ≤ 1
    go true true p q = let u = eqb→eq x y (rw p tt) in let v = eqb→eq x z (rw q tt) in absurd (omega arith)
    go true false p q = omega arith
    go false true p q = omega arith
    go false false p q = omega arith

-- b is not among the numbers that occur no time
pub each_n_absent : (b : ℕ) (a : List ℕ) → count b a ≡ 0 → EachN (λ x. x ≢ b) a
unfolding count
each_n_absent b [] h = tt
each_n_absent b (x ∷ a) h =
    let other : x ≢ b = λ (q : x ≡ b). let w = bit_refl b in let v : bit (eqb b x) ≡ 1 = rw q w in omega arith in
    (other, each_n_absent b a (omega arith))

-- number of x in the triangles k .. k + n - 1
unfoldable pub tris : ℕ → ℕ → List ℕ
tris k zero = []
tris k (suc n) = (3 * k) ∷ ((3 * k + 1) ∷ ((3 * k + 2) ∷ tris (k + 1) n))

pub tris_append : (x m n k : ℕ) → count x (tris k (m + n)) ≡ count x (tris k m) + count x (tris (k + m) n)
unfolding tris count
tris_append x zero n k = rw (zero-add, add-zero) (omega arith)
tris_append x (suc m) n k =
    let i = tris_append x m n (k + 1) in
    let q : k + 1 + m ≡ k + suc m = omega arith in
    rw (suc-add, ← q) (omega arith)

pub tris_low : (x n k : ℕ) → x < 3 * k → count x (tris k n) ≡ 0
unfolding tris count
tris_low x zero k h = refl
tris_low x (suc n) k h =
    let i = tris_low x n (k + 1) (omega arith) in
    let a = bit_off x (3 * k) (omega arith) in
    let b = bit_off x (3 * k + 1) (omega arith) in
    let d = bit_off x (3 * k + 2) (omega arith) in
    omega arith

pub tris_once : (x n k : ℕ) → count x (tris k n) ≤ 1
unfolding tris count
tris_once x zero k = omega arith
tris_once x (suc n) k = go (dec_lt x (3 * (k + 1))) (tris_once x n (k + 1))
  where
    go : Dec (x < 3 * (k + 1)) → count x (tris (k + 1) n) ≤ 1
        → bit (eqb x (3 * k)) + (bit (eqb x (3 * k + 1)) + (bit (eqb x (3 * k + 2)) + count x (tris (k + 1) n))) ≤ 1
    go (yes h) z =
        let i = tris_low x n (k + 1) h in
        let a = bit_two x (3 * k) (3 * k + 1) (omega arith) in
        let b = bit_two x (3 * k) (3 * k + 2) (omega arith) in
        let d = bit_two x (3 * k + 1) (3 * k + 2) (omega arith) in
        omega arith
    go (no h) z =
        let a = bit_off x (3 * k) (omega arith) in
        let b = bit_off x (3 * k + 1) (omega arith) in
        let d = bit_off x (3 * k + 2) (omega arith) in
        omega arith

-- the triangles k, .., k + n - 1 hold each of their corners, and no other
pub tris_in : (x n k : ℕ) → 3 * k ≤ x → x < 3 * (k + n) → 1 ≤ count x (tris k n)
unfolding tris count
tris_in x zero k h i = absurd (omega arith)
tris_in x (suc n) k h i =
    go (ℕ_discrete x (3 * k)) (ℕ_discrete x (3 * k + 1)) (ℕ_discrete x (3 * k + 2)) (tris_in x n (k + 1))
  where
    go : Dec (x ≡ 3 * k) → Dec (x ≡ 3 * k + 1) → Dec (x ≡ 3 * k + 2)
        → (3 * (k + 1) ≤ x → x < 3 * (k + 1 + n) → 1 ≤ count x (tris (k + 1) n))
        → 1 ≤ bit (eqb x (3 * k)) + (bit (eqb x (3 * k + 1)) + (bit (eqb x (3 * k + 2)) + count x (tris (k + 1) n)))
    go (yes p) q d f = let u : bit (eqb x (3 * k)) ≡ 1 = rw (← p) (bit_refl x) in omega arith
    go (no p) (yes q) d f = let u : bit (eqb x (3 * k + 1)) ≡ 1 = rw (← q) (bit_refl x) in omega arith
    go (no p) (no q) (yes d) f = let u : bit (eqb x (3 * k + 2)) ≡ 1 = rw (← d) (bit_refl x) in omega arith
    go (no p) (no q) (no d) f = let z = f (omega arith) (omega arith) in omega arith

pub tris_off : (x n k : ℕ) → 3 * (k + n) ≤ x → count x (tris k n) ≡ 0
unfolding tris count
tris_off x zero k h = refl
tris_off x (suc n) k h =
    let i = tris_off x n (k + 1) (omega arith) in
    let a = bit_off x (3 * k) (omega arith) in
    let b = bit_off x (3 * k + 1) (omega arith) in
    let d = bit_off x (3 * k + 2) (omega arith) in
    omega arith

pub count_in : (i : ℕ) (us : List ℕ) → i < length us → 1 ≤ count (get_or us i 0) us
unfolding count
count_in i [] h = absurd (omega arith)
count_in zero (u ∷ us) h = let b = bit_refl u in omega arith
count_in (suc i) (u ∷ us) h = let z = count_in i us (omega arith) in omega arith

pub differ : (us : List ℕ) (i j : ℕ) → ((x : ℕ) → count x us ≤ 1) → i < j → j < length us → get_or us i 0 ≢ get_or us j 0
unfolding count
differ [] i j h p q = absurd (omega arith)
differ (u ∷ us) i zero h p q = absurd (omega arith)
differ (u ∷ us) zero (suc j) h p q = λ (o : u ≡ get_or us j 0).
    let a = count_in j us (omega arith) in
    let m : 1 ≤ count u us = rw o a in
    let b = bit_refl u in
    let n = h u in
    omega arith
differ (u ∷ us) (suc i) (suc j) h p q = differ us i j (λ x. let n = h x in omega arith) (omega arith) (omega arith)

pub count_front : (x : ℕ) (us : List ℕ) → count x (front us) ≤ count x us
unfolding count front
count_front x [] = omega arith
count_front x (u ∷ []) = omega arith
count_front x (u ∷ (y ∷ us)) = let i = count_front x (y ∷ us) in omega arith

pub count_tail : (x : ℕ) (us : List ℕ) → count x (tail us) ≤ count x us
unfolding count tail
count_tail x [] = omega arith
count_tail x (u ∷ us) = omega arith

pub count_parts : (x n : ℕ) (us : List ℕ) → count x us ≡ count x (take n us) + count x (drop n us)
count_parts x n us = sym (ap (count x) (take-append-drop n us)) ∙ count_append x (take n us) (drop n us)
