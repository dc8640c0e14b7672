-- Document 01's vertices, triangle by triangle, and rule 11 for them.
--
--   Row k tip us, Rows k nv w us   triangle k, and the triangles of w, have the vertices that the loop us gives them
--   Edges us rs                    the remembered corners rs stand on the edges of the loop us
--   agree                          D6: every join of a word joins edges with the same ends
use mathlib.Core.List.{List, [], ◌++◌, ◌∷◌}
use mathlib.Core.Path.{◌∙◌, ◌≡◌, refl, sym}
use Prim.Native.Nat.{◌*◌, ◌+◌, ◌-◌, ◌≤◌, suc, zero, ℕ}
use native.Mathlib.Omega.{arith}
use lib.ListN.{drop, get_or, length, length-append, length-drop, take}
use lib.Seq.{length-take-le}
use Rattle.theory.proofs.Chain.{Each, each_append}
use Rattle.theory.proofs.CornerLaws.{next_left, next_right, next_tip, previous_left, previous_right, previous_tip}
use Rattle.theory.proofs.ListLaws.{back_drop, back_snoc, back_tail, back_take, head_drop, head_front, head_snoc, head_tail, head_take, length_front, length_tail, third}
use Rattle.theory.proofs.WordLaws.{width_two}
use Rattle.theory.specs.Corner.{next, previous}
use Rattle.theory.specs.Lists.{back, front, head, tail}
use Rattle.theory.specs.Tables.{links, zips}
use Rattle.theory.specs.Word.{Sound, Word, news, size, w_c, w_e, w_l, w_r, w_s, width}

module _ (lab : ℕ → ℕ) where
  abbrev pub Row : ℕ → ℕ → List ℕ → Type 0
  Row k tip us = (lab (3 * k) ≡ tip) × (lab (3 * k + 1) ≡ back us) × (lab (3 * k + 2) ≡ head us)

  -- document 01's vertices of the triangles of a word on the loop us
  abbrev pub Rows : ℕ → ℕ → Word → List ℕ → Type 0
  Rows k nv w_e us = Row k (get_or us 1 0) us
  Rows k nv (w_c w) us = Row k nv us × Rows (k + 1) (nv + 1) w (us ++ (nv ∷ []))
  Rows k nv (w_l w) us = Row k (back (front us)) us × Rows (k + 1) nv w (front us)
  Rows k nv (w_r w) us = Row k (get_or us 1 0) us × Rows (k + 1) nv w (tail us)
  Rows k nv (w_s a b) us =
      Row k (get_or us (width a - 1) 0) us × Rows (k + 1) nv a (take (width a) us)
      × Rows (k + 1 + size a) (nv + news a) b (drop (width a - 1) us)

  pub rows_ends : (k nv : ℕ) (w : Word) (us : List ℕ) → Rows k nv w us
      → (lab (3 * k + 1) ≡ back us) × (lab (3 * k + 2) ≡ head us)
  rows_ends k nv w_e us h = (h.1, h.2)
  rows_ends k nv (w_c w) us h = (h.0.1, h.0.2)
  rows_ends k nv (w_l w) us h = (h.0.1, h.0.2)
  rows_ends k nv (w_r w) us h = (h.0.1, h.0.2)
  rows_ends k nv (w_s a b) us h = (h.0.1, h.0.2)

  abbrev pub Agree : ℕ → ℕ → Type 0
  Agree a b = (lab (next a) ≡ lab (previous b)) × (lab (previous a) ≡ lab (next b))

  -- remembered corners and the loop: the i-th edge is u_i, u_(i+1)
  abbrev pub Edges : List ℕ → List ℕ → Type 0
  Edges [] rs = ⊥
  Edges (u ∷ []) [] = Unit {0}
  Edges (u ∷ []) (x ∷ rs) = ⊥
  Edges (u ∷ (y ∷ us)) [] = ⊥
  Edges (u ∷ (y ∷ us)) (x ∷ rs) = (lab (previous x) ≡ u) × (lab (next x) ≡ y) × Edges (y ∷ us) rs

  pub edges_snoc : (us rs : List ℕ) (v x : ℕ) → Edges us rs → lab (previous x) ≡ back us → lab (next x) ≡ v
      → Edges (us ++ (v ∷ [])) (rs ++ (x ∷ []))
  unfolding back
  edges_snoc [] rs v x h p q = absurd h
  edges_snoc (u ∷ []) [] v x h p q = (p, q, tt)
  edges_snoc (u ∷ []) (y ∷ rs) v x h p q = absurd h
  edges_snoc (u ∷ (z ∷ us)) [] v x h p q = absurd h
  edges_snoc (u ∷ (z ∷ us)) (y ∷ rs) v x h p q = (h.0, h.1, edges_snoc (z ∷ us) rs v x h.2 p q)

  pub edges_last : (us rs : List ℕ) → 2 ≤ length us → Edges us rs
      → Edges (front us) (front rs) × (lab (previous (back rs)) ≡ back (front us)) × (lab (next (back rs)) ≡ back us)
  unfolding back front
  edges_last [] rs g h = absurd h
  edges_last (u ∷ []) rs g h = absurd (omega arith)
  edges_last (u ∷ (z ∷ us)) [] g h = absurd h
  edges_last (u ∷ (z ∷ [])) (x ∷ []) g h = (tt, h.0, h.1)
  edges_last (u ∷ (z ∷ [])) (x ∷ (y ∷ rs)) g h = absurd h.2
  edges_last (u ∷ (z ∷ (a ∷ us))) (x ∷ []) g h = absurd h.2
  edges_last (u ∷ (z ∷ (a ∷ us))) (x ∷ (y ∷ rs)) g h =
      let i = edges_last (z ∷ (a ∷ us)) (y ∷ rs) (omega arith) h.2 in
      ((h.0, h.1, i.0), i.1, i.2)

  pub edges_take : (i : ℕ) (us rs : List ℕ) → suc i ≤ length us → Edges us rs → Edges (take (suc i) us) (take i rs)
  edges_take i [] rs g h = absurd h
  edges_take zero (u ∷ us) rs g h = tt
  edges_take (suc i) (u ∷ []) rs g h = absurd (omega arith)
  edges_take (suc i) (u ∷ (z ∷ us)) [] g h = absurd h
  edges_take (suc i) (u ∷ (z ∷ us)) (x ∷ rs) g h = (h.0, h.1, edges_take i (z ∷ us) rs (omega arith) h.2)

  pub edges_drop : (i : ℕ) (us rs : List ℕ) → suc i ≤ length us → Edges us rs → Edges (drop i us) (drop i rs)
  edges_drop zero us rs g h = h
  edges_drop (suc i) [] rs g h = absurd h
  edges_drop (suc i) (u ∷ []) rs g h = absurd (omega arith)
  edges_drop (suc i) (u ∷ (z ∷ us)) [] g h = absurd h
  edges_drop (suc i) (u ∷ (z ∷ us)) (x ∷ rs) g h = edges_drop i (z ∷ us) rs (omega arith) h.2

  pub edges_first : (us rs : List ℕ) → 2 ≤ length us → Edges us rs
      → (lab (previous (head rs)) ≡ head us) × (lab (next (head rs)) ≡ get_or us 1 0) × Edges (tail us) (tail rs)
  unfolding head tail
  edges_first [] rs g h = absurd h
  edges_first (u ∷ []) rs g h = absurd (omega arith)
  edges_first (u ∷ (z ∷ us)) [] g h = absurd h
  edges_first (u ∷ (z ∷ us)) (x ∷ rs) g h = (h.0, h.1, h.2)

  -- the right side of a triangle, and its left side, against a corner x with the same ends
  side_right : (k tip x : ℕ) (us : List ℕ) → Row k tip us → lab (previous x) ≡ head us → lab (next x) ≡ tip
      → Agree (3 * k + 1) x
  side_right k tip x us h p q = (rw next_left (h.2 ∙ sym p), rw previous_left (h.0 ∙ sym q))

  side_left : (k tip x : ℕ) (us : List ℕ) → Row k tip us → lab (previous x) ≡ tip → lab (next x) ≡ back us
      → Agree (3 * k + 2) x
  side_left k tip x us h p q = (rw next_right (h.0 ∙ sym p), rw previous_right (h.1 ∙ sym q))

  -- a link: the child's ends are the parent's tip and end
  link_right : (k j nv tip : ℕ) (w : Word) (us vs : List ℕ) → Row k tip us → Rows j nv w vs → back vs ≡ tip
      → head vs ≡ head us → Agree (3 * k + 1) (3 * j)
  link_right k j nv tip w us vs h i p q =
      let z = rows_ends j nv w vs i in
      side_right k tip (3 * j) us h (rw previous_tip (z.1 ∙ q)) (rw next_tip (z.0 ∙ p))

  link_left : (k j nv tip : ℕ) (w : Word) (us vs : List ℕ) → Row k tip us → Rows j nv w vs → back vs ≡ back us
      → head vs ≡ tip → Agree (3 * k + 2) (3 * j)
  link_left k j nv tip w us vs h i p q =
      let z = rows_ends j nv w vs i in
      side_left k tip (3 * j) us h (rw previous_tip (z.1 ∙ q)) (rw next_tip (z.0 ∙ p))

  -- D6
  pub agree : (k nv : ℕ) (w : Word) (us rs : List ℕ) → Sound w → length us ≡ width w → Rows k nv w us → Edges us rs
      → Each Agree (links k w) × Each Agree (zips k w rs)
  unfolding links zips width head tail
  agree k nv w_e us rs o n h g =
      let f = edges_first us rs (omega arith) g in
      let m = length_tail us (omega arith) in
      let e = edges_first (tail us) (tail rs) (omega arith) f.2 in
      let r = side_right k (get_or us 1 0) (head rs) us h f.0 f.1 in
      let l = side_left k (get_or us 1 0) (head (tail rs)) us h (e.0 ∙ head_tail us) (e.1 ∙ third us n) in
      (tt, (r, (l, tt)))
  agree k nv (w_c w) us rs o n h g =
      let two = o.1 in
      let vs = us ++ (nv ∷ []) in
      let e = edges_snoc us rs nv (3 * k + 2) g (rw previous_right h.0.1) (rw next_right h.0.0) in
      let i = agree (k + 1) (nv + 1) w vs (rs ++ ((3 * k + 2) ∷ [])) o.0 (rw length-append (omega arith)) h.1 e in
      let first = head_snoc us nv (omega arith) in
      ((link_right k (k + 1) (nv + 1) nv w us vs h.0 h.1 (back_snoc us nv) first, i.0), i.1)
  agree k nv (w_l w) us rs o n h g =
      let two = width_two w o in
      let f = edges_last us rs (omega arith) g in
      let m = length_front us in
      let tip = back (front us) in
      let i = agree (k + 1) nv w (front us) (front rs) o (omega arith) h.1 f.0 in
      let r = link_right k (k + 1) nv tip w us (front us) h.0 h.1 refl (head_front us (omega arith)) in
      ((r, i.0), (side_left k tip (back rs) us h.0 f.1 f.2, i.1))
  agree k nv (w_r w) us rs o n h g =
      let two = width_two w o in
      let f = edges_first us rs (omega arith) g in
      let m = length_tail us (omega arith) in
      let tip = get_or us 1 0 in
      let i = agree (k + 1) nv w (tail us) (tail rs) o (omega arith) h.1 f.2 in
      let l = link_left k (k + 1) nv tip w us (tail us) h.0 h.1 (back_tail us (omega arith)) (head_tail us) in
      ((l, i.0), (side_right k tip (head rs) us h.0 f.0 f.1, i.1))
  agree k nv (w_s a b) us rs o n h g =
      let ta = width_two a o.0 in
      let tb = width_two b o.1 in
      let p = width a - 1 in
      let m = k + 1 + size a in
      let tip = get_or us p 0 in
      let ua = take (width a) us in
      let ub = drop p us in
      let ra = take p rs in
      let rb = drop p rs in
      let same : suc p ≡ width a = omega arith in
      let ea : Edges ua ra = rw same at (edges_take p us rs (omega arith) g) in
      let eb = edges_drop p us rs (omega arith) g in
      let last : back ua ≡ tip = rw same at (back_take p us (omega arith)) in
      let i = agree (k + 1) nv a ua ra o.0 (length-take-le (width a) us (omega arith)) h.1 ea in
      let j = agree m (nv + news a) b ub rb o.1 (rw length-drop (omega arith)) h.2 eb in
      let r = link_right k (k + 1) nv tip a us ua h.0 h.1 last (head_take (width a) us (omega arith)) in
      let l = link_left k m (nv + news a) tip b us ub h.0 h.2 (back_drop p us (omega arith)) (head_drop p us) in (
        (r, (l, each_append Agree (links (k + 1) a) (links m b) i.0 j.0)),
        each_append Agree (zips (k + 1) a ra) (zips m b rb) i.1 j.1,
      )
