-- Document 01's joins, top down, are the joins of open sides, bottom up; and a table of joins holds each of them.
--
--   Both P os rs     two lists side by side
--   up down          D2: `zips` joins what `mates` and the open sides beside the remembered corners join
--   ends_root        every corner below 3t is an end of exactly one join of a sound word of width 2
--   joined_at        D4: a table of joins whose ends occur once holds each of them, in any order, over any contents
--   each_at          every end of some joins has its partner
use mathlib.Core.List.{List, [], ◌++◌, ◌∷◌}
use mathlib.Core.Logic.{◌≢◌}
use mathlib.Core.Path.{◌∙◌, ◌≡◌, ap, refl}
use Prim.Native.Nat.{◌*◌, ◌+◌, ◌-◌, ◌<◌, ◌≤◌, suc, zero, ℕ}
use native.Mathlib.Decide.{ℕ_discrete}
use native.Mathlib.Omega.{arith}
use lib.Dec.{eqb}
use lib.ListN.{drop, length, length-append, length-drop, length-set, set, take}
use lib.Seq.{get_or-set_other, get_or-set_same, length-take-le}
use Rattle.theory.proofs.Chain.{Each, each_append, each_split}
use Rattle.theory.proofs.Counting.{bit, bit_off, bit_refl, count, count_append, count_parts, tris}
use Rattle.theory.proofs.ListLaws.{length_front, snoc_view}
use Rattle.theory.proofs.Opens.{count_ends, cover, ends, length_opens, mates, opens}
use Rattle.theory.proofs.WordLaws.{width_two}
use Rattle.theory.specs.Corner.{opposite}
use Rattle.theory.specs.Lists.{back, front, head, tail}
use Rattle.theory.specs.Tables.{Pair, ◌⇌◌, join_at, joined, joins, links, zips}
use Rattle.theory.specs.Word.{Sound, Word, size, w_c, w_e, w_l, w_r, w_s, width}

module _ (P : ℕ → ℕ → Type 0) where
  -- side by side
  abbrev pub Both : List ℕ → List ℕ → Type 0
  Both [] [] = Unit {0}
  Both [] (y ∷ ys) = ⊥
  Both (x ∷ xs) [] = ⊥
  Both (x ∷ xs) (y ∷ ys) = P x y × Both xs ys

  pub both_snoc : (os rs : List ℕ) (b x : ℕ) → Both os rs → P b x → Both (os ++ (b ∷ [])) (rs ++ (x ∷ []))
  both_snoc [] [] b x h p = (p, tt)
  both_snoc [] (y ∷ ys) b x h p = absurd h
  both_snoc (o ∷ os) [] b x h p = absurd h
  both_snoc (o ∷ os) (y ∷ ys) b x h p = (h.0, both_snoc os ys b x h.1 p)

  pub both_unsnoc : (os rs : List ℕ) (b x : ℕ) → length os ≡ length rs → Both (os ++ (b ∷ [])) (rs ++ (x ∷ []))
      → Both os rs × P b x
  both_unsnoc [] [] b x q h = (tt, h.0)
  both_unsnoc [] (y ∷ ys) b x q h = absurd (omega arith)
  both_unsnoc (o ∷ os) [] b x q h = absurd (omega arith)
  both_unsnoc (o ∷ os) (y ∷ ys) b x q h = let i = both_unsnoc os ys b x (omega arith) h.1 in ((h.0, i.0), i.1)

  pub both_join : (us bs rs : List ℕ) (n : ℕ) → length us ≡ n → Both us (take n rs) → Both bs (drop n rs)
      → Both (us ++ bs) rs
  both_join [] bs rs zero q h i = i
  both_join [] bs rs (suc n) q h i = absurd (omega arith)
  both_join (a ∷ us) bs rs zero q h i = absurd (omega arith)
  both_join (a ∷ us) bs [] (suc n) q h i = absurd h
  both_join (a ∷ us) bs (y ∷ ys) (suc n) q h i = (h.0, both_join us bs ys n (omega arith) h.1 i)

  pub both_split : (us bs rs : List ℕ) (n : ℕ) → length us ≡ n → Both (us ++ bs) rs
      → Both us (take n rs) × Both bs (drop n rs)
  both_split [] bs rs zero q h = (tt, h)
  both_split [] bs rs (suc n) q h = absurd (omega arith)
  both_split (a ∷ us) bs rs zero q h = absurd (omega arith)
  both_split (a ∷ us) bs [] (suc n) q h = absurd h
  both_split (a ∷ us) bs (y ∷ ys) (suc n) q h =
      let i = both_split us bs ys n (omega arith) h.1 in
      ((h.0, i.0), i.1)

  -- D2, up: from the open sides to document 01's joins
  pub up : (k : ℕ) (w : Word) (rs : List ℕ) → Sound w → length rs + 1 ≡ width w → Each P (mates k w)
      → Both (opens k w) rs → Each P (zips k w rs)
  unfolding mates opens zips head tail width
  up k w_e [] o q m h = absurd h
  up k w_e (x ∷ []) o q m h = absurd h.1
  up k w_e (x ∷ (y ∷ ys)) o q m h = (h.0, (h.1.0, tt))
  up k (w_c w) rs o q m h =
      let n = length_opens (k + 1) w o.0 in
      let bs = opens (k + 1) w in
      let i = both_snoc (front bs) rs (back bs) (3 * k + 2) h m.0 in
      up (k + 1) w (rs ++ ((3 * k + 2) ∷ [])) o.0 (rw length-append (omega arith)) m.1
      (rw (snoc_view bs (omega arith)) i)
  up k (w_l w) rs o q m h =
      let two = width_two w o in
      let v = snoc_view rs (omega arith) in
      let f = length_front rs in
      let n = length_opens (k + 1) w o in
      let i = both_unsnoc (opens (k + 1) w) (front rs) (3 * k + 2) (back rs) (omega arith) (rw v at h) in
      (i.1, up (k + 1) w (front rs) o (omega arith) m i.0)
  up k (w_r w) [] o q m h = absurd h
  up k (w_r w) (x ∷ rs) o q m h = (h.0, up (k + 1) w rs o (omega arith) m h.1)
  up k (w_s a b) rs o q m h =
      let n = length_opens (k + 1) a o.0 in
      let ta = width_two a o.0 in
      let tb = width_two b o.1 in
      let j = k + 1 + size a in
      let ra = take (width a - 1) rs in
      let rb = drop (width a - 1) rs in
      let la : length ra + 1 ≡ width a = rw (length-take-le (width a - 1) rs (omega arith)) (omega arith) in
      let i = both_split (opens (k + 1) a) (opens j b) rs (width a - 1) (omega arith) h in
      let g = each_split P (mates (k + 1) a) (mates j b) m in
      each_append P (zips (k + 1) a ra) (zips j b rb) (up (k + 1) a ra o.0 la g.0 i.0)
      (up j b rb o.1 (rw length-drop (omega arith)) g.1 i.1)

-- the last elements of two lists side by side
pub both_back : (P : ℕ → ℕ → Type 0) (os rs : List ℕ) → 1 ≤ length os → Both P os rs → P (back os) (back rs)
unfolding back
both_back P [] rs q h = absurd (omega arith)
both_back P (o ∷ []) [] q h = absurd h
both_back P (o ∷ []) (y ∷ []) q h = h.0
both_back P (o ∷ []) (y ∷ (z ∷ rs)) q h = absurd h.1
both_back P (o ∷ (u ∷ os)) [] q h = absurd h
both_back P (o ∷ (u ∷ os)) (y ∷ []) q h = absurd h.1
both_back P (o ∷ (u ∷ os)) (y ∷ (z ∷ rs)) q h = both_back P (u ∷ os) (z ∷ rs) (omega arith) h.1

-- D2, down: from document 01's joins to the open sides
module _ (P : ℕ → ℕ → Type 0) where
  pub down : (k : ℕ) (w : Word) (rs : List ℕ) → Sound w → length rs + 1 ≡ width w → Each P (zips k w rs)
      → Each P (mates k w) × Both P (opens k w) rs
  unfolding mates opens zips head tail width
  down k w_e [] o q z = absurd (omega arith)
  down k w_e (x ∷ []) o q z = absurd (omega arith)
  down k w_e (x ∷ (y ∷ [])) o q z = (tt, (z.0, (z.1.0, tt)))
  down k w_e (x ∷ (y ∷ (a ∷ rs))) o q z = absurd (omega arith)
  down k (w_c w) rs o q z =
      let g = o.1 in
      let i = down (k + 1) w (rs ++ ((3 * k + 2) ∷ [])) o.0 (rw length-append (omega arith)) z in
      let n = length_opens (k + 1) w o.0 in
      let bs = opens (k + 1) w in
      let v = snoc_view bs (omega arith) in
      let f = length_front bs in
      let u = both_unsnoc P (front bs) rs (back bs) (3 * k + 2) (omega arith) (rw v at i.1) in
      ((u.1, i.0), u.0)
  down k (w_l w) rs o q z =
      let two = width_two w o in
      let v = snoc_view rs (omega arith) in
      let f = length_front rs in
      let i = down (k + 1) w (front rs) o (omega arith) z.1 in
      (i.0, rw v (both_snoc P (opens (k + 1) w) (front rs) (3 * k + 2) (back rs) i.1 z.0))
  down k (w_r w) [] o q z = let two = width_two w o in absurd (omega arith)
  down k (w_r w) (x ∷ rs) o q z = let i = down (k + 1) w rs o (omega arith) z.1 in (i.0, (z.0, i.1))
  down k (w_s a b) rs o q z =
      let n = length_opens (k + 1) a o.0 in
      let ta = width_two a o.0 in
      let tb = width_two b o.1 in
      let ra = take (width a - 1) rs in
      let rb = drop (width a - 1) rs in
      let la : length ra + 1 ≡ width a = rw (length-take-le (width a - 1) rs (omega arith)) (omega arith) in
      let g = each_split P (zips (k + 1) a ra) (zips (k + 1 + size a) b rb) z in
      let i = down (k + 1) a ra o.0 la g.0 in
      let j = down (k + 1 + size a) b rb o.1 (rw length-drop (omega arith)) g.1 in (
        each_append P (mates (k + 1) a) (mates (k + 1 + size a) b) i.0 j.0,
        both_join P (opens (k + 1) a) (opens (k + 1 + size a) b) rs (width a - 1) (omega arith) i.1 j.1,
      )

-- ends of document 01's joins, counted
ends_zips : (x k : ℕ) (w : Word) (rs : List ℕ) → Sound w → length rs + 1 ≡ width w
    → count x (ends (zips k w rs)) ≡ count x (ends (mates k w)) + count x (opens k w) + count x rs
unfolding ends count zips mates opens head tail width
ends_zips x k w_e [] o q = absurd (omega arith)
ends_zips x k w_e (y ∷ []) o q = absurd (omega arith)
ends_zips x k w_e (y ∷ (z ∷ [])) o q = omega arith
ends_zips x k w_e (y ∷ (z ∷ (a ∷ rs))) o q = absurd (omega arith)
ends_zips x k (w_c w) rs o q =
    let g = o.1 in
    let i = ends_zips x (k + 1) w (rs ++ ((3 * k + 2) ∷ [])) o.0 (rw length-append (omega arith)) in
    let n = length_opens (k + 1) w o.0 in
    let bs = opens (k + 1) w in
    let v = ap (count x) (snoc_view bs (omega arith)) ∙ count_append x (front bs) (back bs ∷ []) in
    let p = count_append x rs ((3 * k + 2) ∷ []) in
    omega arith
ends_zips x k (w_l w) rs o q =
    let two = width_two w o in
    let v = ap (count x) (snoc_view rs (omega arith)) ∙ count_append x (front rs) (back rs ∷ []) in
    let f = length_front rs in
    let i = ends_zips x (k + 1) w (front rs) o (omega arith) in
    let p = count_append x (opens (k + 1) w) ((3 * k + 2) ∷ []) in
    omega arith
ends_zips x k (w_r w) [] o q = let two = width_two w o in absurd (omega arith)
ends_zips x k (w_r w) (y ∷ rs) o q = let i = ends_zips x (k + 1) w rs o (omega arith) in omega arith
ends_zips x k (w_s a b) rs o q =
    let ta = width_two a o.0 in
    let tb = width_two b o.1 in
    let ra = take (width a - 1) rs in
    let rb = drop (width a - 1) rs in
    let la : length ra + 1 ≡ width a = rw (length-take-le (width a - 1) rs (omega arith)) (omega arith) in
    let i = ends_zips x (k + 1) a ra o.0 la in
    let j = ends_zips x (k + 1 + size a) b rb o.1 (rw length-drop (omega arith)) in
    let p = count_ends x (zips (k + 1) a ra) (zips (k + 1 + size a) b rb) in
    let m = count_ends x (mates (k + 1) a) (mates (k + 1 + size a) b) in
    let n = count_append x (opens (k + 1) a) (opens (k + 1 + size a) b) in
    let t = count_parts x (width a - 1) rs in
    omega arith

-- D3 for document 01's joins
pub ends_root : (x : ℕ) (w : Word) → Sound w → width w ≡ 2 → count x (ends (joins w)) ≡ count x (tris 0 (size w))
unfolding count joins
ends_root x w o q =
    let i = ends_zips x 0 w (0 ∷ []) o (omega arith) in
    let p = count_ends x (links 0 w) (zips 0 w (0 ∷ [])) in
    let z = cover x 0 w o in
    omega arith

pub length_joined : (js : List Pair) (o : List ℕ) → length (joined js o) ≡ length o
unfolding joined join_at
length_joined [] o = refl
length_joined ((a ⇌ b) ∷ js) o = length_joined js (set (set o a b) b a) ∙ length-set (set o a b) b a ∙ length-set o a b

-- a corner that is no end keeps its entry
joined_off : (x : ℕ) (js : List Pair) (o : List ℕ) → count x (ends js) ≡ 0 → opposite (joined js o) x ≡ opposite o x
unfolding joined join_at ends count
joined_off x [] o h = refl
joined_off x ((a ⇌ b) ∷ js) o h =
    let na : x ≢ a = λ (q : x ≡ a). let u : bit (eqb x a) ≡ 1 = rw (← q) (bit_refl x) in omega arith in
    let nb : x ≢ b = λ (q : x ≡ b). let u : bit (eqb x b) ≡ 1 = rw (← q) (bit_refl x) in omega arith in
    joined_off x js (set (set o a b) b a) (omega arith) ∙ get_or-set_other (set o a b) b x a x nb
    ∙ get_or-set_other o a x b x na

-- the table f joins a and b
abbrev pub Join : (ℕ → ℕ) → ℕ → ℕ → Type 0
Join f a b = (f a ≡ b) × (f b ≡ a) × (a ≢ b)

pub joined_at : (js : List Pair) (o : List ℕ) → ((x : ℕ) → count x (ends js) ≤ 1)
    → ((x : ℕ) → 1 ≤ count x (ends js) → x < length o) → Each (Join (opposite (joined js o))) js
unfolding joined join_at ends count
joined_at [] o once low = tt
joined_at ((a ⇌ b) ∷ js) o once low =
    let ra = bit_refl a in
    let rb = bit_refl b in
    let oa = once a in
    let ob = once b in
    let la : a < length o = low a (omega arith) in
    let lb : b < length o = low b (omega arith) in
    let lb2 : b < length (set o a b) = rw length-set lb in
    let ne : a ≢ b = λ (q : a ≡ b). let u : bit (eqb a b) ≡ 1 = rw (← q) ra in omega arith in
    let o2 = set (set o a b) b a in
    let pa = joined_off a js o2 (omega arith) ∙ get_or-set_other (set o a b) b a a a ne ∙ get_or-set_same o a b a la in
    let pb = joined_off b js o2 (omega arith) ∙ get_or-set_same (set o a b) b a b lb2 in
    let long = length-set (set o a b) b a ∙ length-set o a b in
    ((pa, pb, ne), joined_at js o2 (λ x. let u = once x in omega arith) (λ x h. rw long (low x (omega arith))))

-- every end of a list of joins has a partner
pub each_at : (P : ℕ → ℕ → Type 0) → ((x y : ℕ) → P x y → P y x) → (x : ℕ) (js : List Pair) → Each P js
    → 1 ≤ count x (ends js) → (y : ℕ) × P x y × (1 ≤ count y (ends js))
unfolding ends count
each_at P sy x [] h i = absurd (omega arith)
each_at P sy x ((a ⇌ b) ∷ js) h i = go (ℕ_discrete x a) (ℕ_discrete x b) (each_at P sy x js h.1)
  where
    go : Dec (x ≡ a) → Dec (x ≡ b) → (1 ≤ count x (ends js) → (y : ℕ) × P x y × (1 ≤ count y (ends js)))
        → (y : ℕ) × P x y × (1 ≤ bit (eqb y a) + (bit (eqb y b) + count y (ends js)))
    go (yes p) d f = let u = bit_refl b in (b, rw p h.0, omega arith)
    go (no p) (yes q) f = let u = bit_refl a in (a, rw q (sy a b h.0), omega arith)
    go (no p) (no q) f =
        let u = bit_off x a p in
        let v = bit_off x b q in
        let z = f (omega arith) in
        let m = z.2 in
        (z.0, z.1, omega arith)
