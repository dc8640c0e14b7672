-- The places of a number in a list: as many as it is counted, each once.
--
--   places u i l     where u stands in l, the first place of l counted as i
--   length_places places_once places_at places_only    they are that
--   counted count_find    a number that stands in a list is counted, and one that is counted stands in it
--   present_few           numbers that all stand in a list are no more than it is long
--   vals_apart vals_meet  the values of a map: each at most once, and each met
use mathlib.Core.Bool.{cond}
use mathlib.Core.List.{List, [], ◌∷◌}
use mathlib.Core.Logic.{◌≢◌}
use mathlib.Core.Path.{◌∙◌, ◌≡◌, ap, refl, sym}
use Prim.Native.Nat.{◌+◌, ◌-◌, ◌<◌, ◌≤◌, suc, zero, ℕ}
use native.Mathlib.Decide.{dec_lt, ℕ_discrete}
use native.Mathlib.Omega.{arith}
use lib.Dec.{eqb}
use lib.ListN.{get_or, length}
use borrow.Author.Tests.{eq-eqb, ne_eqb}
use Rattle.theory.proofs.Counting.{bit, bit_off, count, pigeon}
use Rattle.theory.proofs.Injections.{length_vals, vals, vals_in, vals_off, vals_once}

pub bit_on : (x y : ℕ) → x ≡ y → bit (eqb x y) ≡ 1
unfolding bit
bit_on x y e = rw (eq-eqb x y e)

-- ---- the values g 0, .., g (m - 1)

pub vals_apart : (g : ℕ → ℕ) (x m : ℕ) → ((i j : ℕ) → i < j → j < m → g i ≢ g j) → count x (vals g m) ≤ 1
vals_apart g x m h = vals_once g x m (λ i j p q e. same i j p q e (dec_lt i j) (dec_lt j i))
  where
    same : (i j : ℕ) → i < m → j < m → g i ≡ g j → Dec (i < j) → Dec (j < i) → i ≡ j
    same i j p q e (yes l) d = absurd (h i j l q e)
    same i j p q e (no l) (yes k) = absurd (h j i k p (sym e))
    same i j p q e (no l) (no k) = omega arith

pub vals_meet : (g : ℕ → ℕ) (x m i : ℕ) → i < m → g i ≡ x → 1 ≤ count x (vals g m)
unfolding vals count
vals_meet g x zero i h e = absurd (omega arith)
vals_meet g x (suc m) i h e = go (ℕ_discrete i m) (vals_meet g x m i)
  where
    go : Dec (i ≡ m) → (i < m → g i ≡ x → 1 ≤ count x (vals g m)) → 1 ≤ bit (eqb x (g m)) + count x (vals g m)
    go (yes p) f = let b = bit_on x (g m) (sym e ∙ ap g p) in omega arith
    go (no p) f = let z = f (omega arith) e in omega arith

-- ---- the places

-- the places of u in a list, its first place counted as i
unfoldable pub places : ℕ → ℕ → List ℕ → List ℕ
places u i [] = []
places u i (y ∷ l) = cond (eqb u y) (i ∷ places u (suc i) l) (places u (suc i) l)

pub length_places : (u i : ℕ) (l : List ℕ) → length (places u i l) ≡ count u l
unfolding places count bit
length_places u i [] = refl
length_places u i (y ∷ l) = go (ℕ_discrete u y) (length_places u (suc i) l)
  where
    go : Dec (u ≡ y) → length (places u (suc i) l) ≡ count u l
        → length (cond (eqb u y) (i ∷ places u (suc i) l) (places u (suc i) l)) ≡ bit (eqb u y) + count u l
    go (yes e) z = rw (eq-eqb u y e) (omega arith)
    go (no n) z = rw (ne_eqb u y n) (omega arith)

-- none stands before i
places_low : (u i d : ℕ) (l : List ℕ) → d < i → count d (places u i l) ≡ 0
unfolding places count bit
places_low u i d [] h = refl
places_low u i d (y ∷ l) h = go (ℕ_discrete u y) (places_low u (suc i) d l (omega arith))
  where
    go : Dec (u ≡ y) → count d (places u (suc i) l) ≡ 0
        → count d (cond (eqb u y) (i ∷ places u (suc i) l) (places u (suc i) l)) ≡ 0
    go (yes e) z = let b = bit_off d i (λ q. omega arith) in rw (eq-eqb u y e) (omega arith)
    go (no n) z = rw (ne_eqb u y n) (omega arith)

pub places_once : (u i d : ℕ) (l : List ℕ) → count d (places u i l) ≤ 1
unfolding places count bit
places_once u i d [] = omega arith
places_once u i d (y ∷ l) = go (ℕ_discrete u y) (ℕ_discrete d i) (places_once u (suc i) d l)
  where
    go : Dec (u ≡ y) → Dec (d ≡ i) → count d (places u (suc i) l) ≤ 1
        → count d (cond (eqb u y) (i ∷ places u (suc i) l) (places u (suc i) l)) ≤ 1
    go (yes e) (yes q) z =
        let b = bit_on d i q in
        let a = places_low u (suc i) d l (omega arith) in
        rw (eq-eqb u y e) (omega arith)
    go (yes e) (no q) z = let b = bit_off d i q in rw (eq-eqb u y e) (omega arith)
    go (no n) q z = rw (ne_eqb u y n) (omega arith)

pub places_in : (u i d : ℕ) (l : List ℕ) → d < length l → get_or l d 0 ≡ u → 1 ≤ count (i + d) (places u i l)
unfolding places count bit
places_in u i d [] h e = absurd (omega arith)
places_in u i zero (y ∷ l) h e = let b = bit_on (i + 0) i (omega arith) in rw (eq-eqb u y (sym e)) (omega arith)
places_in u i (suc d) (y ∷ l) h e = go (ℕ_discrete u y) (places_in u (suc i) d l (omega arith) e)
  where
    go : Dec (u ≡ y) → 1 ≤ count (suc i + d) (places u (suc i) l)
        → 1 ≤ count (i + suc d) (cond (eqb u y) (i ∷ places u (suc i) l) (places u (suc i) l))
    go (yes q) z =
        let p : i + suc d ≡ suc i + d = omega arith in
        let a = rw (← p) at z in
        rw (eq-eqb u y q) (omega arith)
    go (no n) z =
        let p : i + suc d ≡ suc i + d = omega arith in
        let a = rw (← p) at z in
        rw (ne_eqb u y n) (omega arith)

pub places_at : (u d : ℕ) (l : List ℕ) → d < length l → get_or l d 0 ≡ u → 1 ≤ count d (places u 0 l)
places_at u d l h e = let q : 0 + d ≡ d = omega arith in rw q at (places_in u 0 d l h e)

pub places_only : (u i d : ℕ) (l : List ℕ) → 1 ≤ count d (places u i l)
    → (i ≤ d) × (d < i + length l) × (get_or l (d - i) 0 ≡ u)
unfolding places count bit
places_only u i d [] h = absurd (omega arith)
places_only u i d (y ∷ l) h = go (ℕ_discrete u y) (ℕ_discrete d i) (places_only u (suc i) d l)
  where
    beyond : (i ≤ d) → (suc i ≤ d) × (d < suc i + length l) × (get_or l (d - suc i) 0 ≡ u) → get_or (y ∷ l) (d - i) 0 ≡ u
    beyond p r = let q : d - i ≡ suc (d - suc i) = omega (arith, r.0) in rw q r.2

    go : Dec (u ≡ y) → Dec (d ≡ i)
        → (1 ≤ count d (places u (suc i) l) → (suc i ≤ d) × (d < suc i + length l) × (get_or l (d - suc i) 0 ≡ u))
        → (i ≤ d) × (d < i + suc (length l)) × (get_or (y ∷ l) (d - i) 0 ≡ u)
    go (yes e) (yes q) f = let z : d - i ≡ 0 = omega arith in (omega arith, omega arith, rw z (sym e))
    go (yes e) (no q) f =
        let g = rw (eq-eqb u y e, ne_eqb d i q) at h in
        let r = f (omega arith) in
        (omega (arith, r.0), omega (arith, r.1), beyond (omega (arith, r.0)) r)
    go (no n) q f =
        let g = rw (ne_eqb u y n) at h in
        let r = f (omega arith) in
        (omega (arith, r.0), omega (arith, r.1), beyond (omega (arith, r.0)) r)

pub counted : (u d : ℕ) (l : List ℕ) → d < length l → get_or l d 0 ≡ u → 1 ≤ count u l
unfolding count
counted u d [] h e = absurd (omega arith)
counted u zero (y ∷ l) h e = let b = bit_on u y (sym e) in omega arith
counted u (suc d) (y ∷ l) h e = let r = counted u d l (omega arith) e in omega arith

pub count_find : (u : ℕ) (l : List ℕ) → 1 ≤ count u l → (d : ℕ) × (d < length l) × (get_or l d 0 ≡ u)
unfolding count
count_find u [] h = absurd (omega arith)
count_find u (y ∷ l) h = go (ℕ_discrete u y) (count_find u l)
  where
    go : Dec (u ≡ y) → (1 ≤ count u l → (d : ℕ) × (d < length l) × (get_or l d 0 ≡ u))
        → (d : ℕ) × (d < suc (length l)) × (get_or (y ∷ l) d 0 ≡ u)
    go (yes e) f = (0, omega arith, sym e)
    go (no n) f = let b = bit_off u y n in let r = f (omega arith) in (suc r.0, omega (arith, r.1), r.2)

pub count_short : (u : ℕ) (l : List ℕ) → count u l ≤ length l
count_short u l =
    let a = pigeon (places u 0 l) (vals (λ i. i) (length l)) among in
    omega (arith, length_places u 0 l, length_vals (λ i. i) (length l))
  where
    among : (d : ℕ) → count d (places u 0 l) ≤ count d (vals (λ i. i) (length l))
    among d = go (ℕ_discrete (count d (places u 0 l)) 0)
      where
        go : Dec (count d (places u 0 l) ≡ 0) → count d (places u 0 l) ≤ count d (vals (λ i. i) (length l))
        go (yes e) = omega arith
        go (no n) =
            let p = places_only u 0 d l (omega arith) in
            omega (arith, places_once u 0 d l, vals_in d (length l) (omega (arith, p.1)))

-- numbers below n that all stand in a list are no more than it is long
pub present_few : (n : ℕ) (l : List ℕ) → ((u : ℕ) → u < n → 1 ≤ count u l) → n ≤ length l
present_few n l f = let a = pigeon (vals (λ i. i) n) l among in omega (arith, length_vals (λ i. i) n)
  where
    among : (u : ℕ) → count u (vals (λ i. i) n) ≤ count u l
    among u = go (dec_lt u n)
      where
        go : Dec (u < n) → count u (vals (λ i. i) n) ≤ count u l
        go (yes h) = omega (arith, f u h, vals_once (λ i. i) u n (λ i j p q e. e))
        go (no h) = omega (arith, vals_off (λ i. i) u n (λ i l q. omega arith))
