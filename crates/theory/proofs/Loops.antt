-- N3 and N4 (`rows_good`): on a loop without repetition, all below the next new vertex, the rows of a word have no
-- vertex twice in a triangle and all vertices below nv + news w, and a tip is the next new vertex at a C and below it
-- elsewhere.
--
--   Up P k         P holds of every number below k
--   Loop nv us     no vertex twice in the loop us, all below nv
--   Good v k       rules 9 and 12 at triangle k, v the vertex count
--   Tips k nv w    the tips of the word's triangles, new ones at its Cs
use mathlib.Core.List.{List, [], ◌++◌, ◌∷◌}
use mathlib.Core.Logic.{◌≢◌}
use mathlib.Core.Path.{◌∙◌, ◌≡◌, sym}
use Prim.Native.Nat.{◌*◌, ◌+◌, ◌-◌, ◌<◌, ◌≤◌, suc, ℕ}
use native.Mathlib.Decide.{dec_lt, ℕ_discrete}
use native.Mathlib.Omega.{arith}
use lib.Dec.{eqb}
use lib.ListN.{drop, get_or, length, length-append, length-drop, take}
use lib.Seq.{length-take-le}
use Rattle.theory.proofs.Counting.{bit, bit_off, bit_refl, bit_two, count, count_append, count_front, count_in, count_parts, count_tail, differ}
use Rattle.theory.proofs.ListLaws.{back_get, front_get, head_drop, length_front, length_tail}
use Rattle.theory.proofs.Rows.{Row, Rows}
use Rattle.theory.proofs.WordLaws.{width_two}
use Rattle.theory.specs.Lists.{front, tail}
use Rattle.theory.specs.Word.{Sound, Word, news, size, w_c, w_e, w_l, w_r, w_s, width}

abbrev pub Up : (ℕ → Type 0) → ℕ → Type 0
Up P k = (j : ℕ) → j < k → P j

pub up_more : (P : ℕ → Type 0) (k : ℕ) → Up P k → P k → Up P (k + 1)
up_more P k h p j q = go (ℕ_discrete j k)
  where
    go : Dec (j ≡ k) → P j
    go (yes i) = rw i p
    go (no i) = h j (omega arith)

-- ---- loops

abbrev pub Loop : ℕ → List ℕ → Type 0
Loop nv us = (x : ℕ) → (count x us ≤ 1) × (nv ≤ x → count x us ≡ 0)

-- the loop on which tables begin
pub loop_root : Loop 2 (1 ∷ (0 ∷ []))
unfolding count
loop_root x =
    let a = bit_two x 0 1 (omega arith) in
    (omega arith, λ h. let b = bit_off x 0 (omega arith) in let d = bit_off x 1 (omega arith) in omega arith)

-- a new vertex
loop_new : (nv : ℕ) (us : List ℕ) → Loop nv us → Loop (nv + 1) (us ++ (nv ∷ []))
unfolding count
loop_new nv us h x = go (ℕ_discrete x nv)
  where
    a : count x (us ++ (nv ∷ [])) ≡ count x us + (bit (eqb x nv) + 0)
    a = count_append x us (nv ∷ [])

    go : Dec (x ≡ nv) → (count x (us ++ (nv ∷ [])) ≤ 1) × (nv + 1 ≤ x → count x (us ++ (nv ∷ [])) ≡ 0)
    go (yes q) =
        let s = a in
        let z : count x us ≡ 0 = (h x).1 (omega arith) in
        let b : bit (eqb x nv) ≡ 1 = rw (← q) (bit_refl x) in
        (omega arith, λ m. absurd (omega arith))
    go (no q) =
        let s = a in
        let b = bit_off x nv q in
        let i = (h x).0 in
        (omega arith, λ m. let j = (h x).1 (omega arith) in omega arith)

-- a part of a loop
loop_part : (nv m : ℕ) (us ys : List ℕ) → ((x : ℕ) → count x ys ≤ count x us) → nv ≤ m → Loop nv us → Loop m ys
loop_part nv m us ys f q h x =
    let a = f x in
    let b = (h x).0 in
    (omega arith, λ i. let z = (h x).1 (omega arith) in omega arith)

loop_below : (nv i : ℕ) (us : List ℕ) → Loop nv us → i < length us → get_or us i 0 < nv
loop_below nv i us h q = go (dec_lt (get_or us i 0) nv)
  where
    go : Dec (get_or us i 0 < nv) → get_or us i 0 < nv
    go (yes p) = p
    go (no p) = let a = count_in i us q in let z = (h (get_or us i 0)).1 (omega arith) in absurd (omega arith)

-- ---- rows on a loop

module _ (lab : ℕ → ℕ) where
  abbrev pub Apart3 : ℕ → Type 0
  Apart3 k = (lab (3 * k) ≢ lab (3 * k + 1)) × (lab (3 * k + 1) ≢ lab (3 * k + 2)) × (lab (3 * k + 2) ≢ lab (3 * k))

  abbrev pub Good : ℕ → ℕ → Type 0
  Good v k = Apart3 k × (lab (3 * k) < v) × (lab (3 * k + 1) < v) × (lab (3 * k + 2) < v)

  -- by the tip, which is neither end of the loop
  good_at : (v k nv n tip : ℕ) (us : List ℕ) → Loop nv us → length us ≡ suc n → 0 < n → nv ≤ v → Row lab k tip us
      → tip < v → tip ≢ get_or us n 0 → get_or us 0 0 ≢ tip → Good v k
  good_at v k nv n tip us h q i m (a, b, d) lo f g =
      let l : lab (3 * k + 1) ≡ get_or us n 0 = b ∙ back_get us n q in
      let r : lab (3 * k + 2) ≡ get_or us 0 0 = d ∙ head_drop 0 us in
      let e = differ us 0 n (λ x. (h x).0) i (omega arith) in
      let x = loop_below nv n us h (omega arith) in
      let y = loop_below nv 0 us h (omega arith) in
      let apart : Apart3 k = (λ z. f (sym a ∙ z ∙ l), λ z. e (sym r ∙ sym z ∙ l), λ z. g (sym r ∙ z ∙ a)) in
      (apart, omega arith, omega arith, omega arith)

  -- a tip inside the loop
  good_old : (v k nv n i : ℕ) (us : List ℕ) → Loop nv us → length us ≡ suc n → 0 < i → i < n → nv ≤ v
      → Row lab k (get_or us i 0) us → Good v k × (lab (3 * k) < nv)
  good_old v k nv n i us h q i0 i1 m on =
      let once : (x : ℕ) → count x us ≤ 1 = λ x. (h x).0 in
      let lo = loop_below nv i us h (omega arith) in
      let f = differ us i n once i1 (omega arith) in
      let g = differ us 0 i once i0 (omega arith) in
      let tip = on.0 in
      (good_at v k nv n (get_or us i 0) us h q (omega arith) m on (omega arith) f g, omega arith)

  -- a new tip
  good_new : (v k nv n : ℕ) (us : List ℕ) → Loop nv us → length us ≡ suc n → 0 < n → nv < v → Row lab k nv us → Good v k
  good_new v k nv n us h q i m on =
      let x = loop_below nv n us h (omega arith) in
      let y = loop_below nv 0 us h (omega arith) in
      good_at v k nv n nv us h q i (omega arith) on m (λ z. omega arith) (λ z. omega arith)

  abbrev pub Tips : ℕ → ℕ → Word → Type 0
  Tips k nv w_e = lab (3 * k) < nv
  Tips k nv (w_c w) = (lab (3 * k) ≡ nv) × Tips (k + 1) (nv + 1) w
  Tips k nv (w_l w) = (lab (3 * k) < nv) × Tips (k + 1) nv w
  Tips k nv (w_r w) = (lab (3 * k) < nv) × Tips (k + 1) nv w
  Tips k nv (w_s a b) = (lab (3 * k) < nv) × Tips (k + 1) nv a × Tips (k + 1 + size a) (nv + news a) b

  pub rows_good : (v k nv : ℕ) (w : Word) (us : List ℕ) → Sound w → length us ≡ width w → Loop nv us → nv + news w ≤ v
      → Rows lab k nv w us → Up (Good v) k → Up (Good v) (k + size w) × Tips k nv w
  unfolding width news size
  rows_good v k nv w_e us o q h m z u =
      let g = good_old v k nv 2 1 us h (omega arith) (omega arith) (omega arith) (omega arith) z in
      (up_more (Good v) k u g.0, g.1)
  rows_good v k nv (w_c w) us o q h m z u =
      let two = o.1 in
      let g = good_new v k nv (width w - 2) us h (omega arith) (omega arith) (omega arith) z.0 in
      let i = rows_good v (k + 1) (nv + 1) w (us ++ (nv ∷ [])) o.0 (rw length-append (omega arith))
      (loop_new nv us h) (omega arith) z.1 (up_more (Good v) k u g) in
      (λ j p. i.0 j (omega arith), (z.0.0, i.1))
  rows_good v k nv (w_l w) us o q h m z u =
      let two = width_two w o in
      let f = length_front us in
      let n = width w in
      let tip = z.0.0 ∙ front_get us (n - 1) (omega arith) in
      let g = good_old v k nv n (n - 1) us h (omega arith) (omega arith) (omega arith) (omega arith)
      (tip, z.0.1, z.0.2) in
      let part = loop_part nv nv us (front us) (λ x. count_front x us) (omega arith) h in
      let i = rows_good v (k + 1) nv w (front us) o (omega arith) part (omega arith) z.1
      (up_more (Good v) k u g.0) in
      (λ j p. i.0 j (omega arith), (g.1, i.1))
  rows_good v k nv (w_r w) us o q h m z u =
      let two = width_two w o in
      let f = length_tail us (omega arith) in
      let g = good_old v k nv (width w) 1 us h (omega arith) (omega arith) (omega arith) (omega arith) z.0 in
      let part = loop_part nv nv us (tail us) (λ x. count_tail x us) (omega arith) h in
      let i = rows_good v (k + 1) nv w (tail us) o (omega arith) part (omega arith) z.1
      (up_more (Good v) k u g.0) in
      (λ j p. i.0 j (omega arith), (g.1, i.1))
  rows_good v k nv (w_s a b) us o q h m z u =
      let ta = width_two a o.0 in
      let tb = width_two b o.1 in
      let n = width a + width b - 2 in
      let g = good_old v k nv n (width a - 1) us h (omega arith) (omega arith) (omega arith) (omega arith) z.0 in
      let ua = take (width a) us in
      let ub = drop (width a - 1) us in
      let pa = loop_part nv nv us ua (λ x. let y = count_parts x (width a) us in omega arith) (omega arith) h in
      let pb = loop_part nv (nv + news a) us ub (λ x. let y = count_parts x (width a - 1) us in omega arith)
      (omega arith) h in
      let i = rows_good v (k + 1) nv a ua o.0 (length-take-le (width a) us (omega arith)) pa (omega arith) z.1
      (up_more (Good v) k u g.0) in
      let e = rows_good v (k + 1 + size a) (nv + news a) b ub o.1 (rw length-drop (omega arith)) pb (omega arith)
      z.2 i.0 in
      (λ j p. e.0 j (omega arith), (g.1, i.1, e.1))
