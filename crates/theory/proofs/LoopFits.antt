-- The loops of document 01, read in the mesh: the vertex that table V has at a corner is the mesh's (`vertex_named`).
--
-- M x is the mesh's vertex at corner x in the walk's numbers, N u the mesh's vertex for the vertex number u of a loop.
-- The loop at the root fits the word's open sides, and every letter hands the fit on to the words behind it.
--
--   Fit us bs        the i-th side of bs has the ends N u_i and N u_(i+1)
--   Names k nv w     N takes the new vertices nv, nv + 1, .. to the tips of the Cs of w
--   Fitted w k nv us what a word and its loop have to do with M, N and a table
use mathlib.Core.List.{List, [], ◌++◌, ◌∷◌}
use mathlib.Core.Path.{◌∙◌, ◌≡◌, ap, sym}
use Prim.Native.Nat.{◌*◌, ◌+◌, ◌-◌, ◌≤◌, suc, zero, ℕ}
use native.Mathlib.Omega.{arith}
use lib.ListN.{drop, get_or, length, length-append, take}
use Rattle.theory.proofs.Chain.{Each, each_split}
use Rattle.theory.proofs.CornerLaws.{next_right, next_tip, previous_left, previous_right}
use Rattle.theory.proofs.ListLaws.{back_take, snoc_view}
use Rattle.theory.proofs.Opens.{length_opens, mates, opens}
use Rattle.theory.proofs.Ranges.{Range, range_both, range_first}
use Rattle.theory.proofs.Rows.{Row, Rows}
use Rattle.theory.proofs.VertexChain.{Path, SameEnds, open_path}
use Rattle.theory.proofs.WordLaws.{width_two}
use Rattle.theory.specs.Corner.{next, previous}
use Rattle.theory.specs.Lists.{back, front, head, tail}
use Rattle.theory.specs.Tables.{links}
use Rattle.theory.specs.Word.{Sound, Word, news, size, w_c, w_e, w_l, w_r, w_s, width}

module _ (M N : ℕ → ℕ) where
  abbrev pub Fit : List ℕ → List ℕ → Type 0
  Fit [] bs = ⊥
  Fit (u ∷ []) [] = Unit {0}
  Fit (u ∷ []) (b ∷ bs) = ⊥
  Fit (u ∷ (y ∷ us)) [] = ⊥
  Fit (u ∷ (y ∷ us)) (b ∷ bs) = (M (next b) ≡ N u) × (M (previous b) ≡ N y) × Fit (y ∷ us) bs

  fit_length : (us bs : List ℕ) → Fit us bs → length us ≡ length bs + 1
  fit_length [] bs h = absurd h
  fit_length (u ∷ []) [] h = omega arith
  fit_length (u ∷ []) (b ∷ bs) h = absurd h
  fit_length (u ∷ (y ∷ us)) [] h = absurd h
  fit_length (u ∷ (y ∷ us)) (b ∷ bs) h = let i = fit_length (y ∷ us) bs h.2 in omega arith

  -- where the sides are a path from x to y, the loop's ends are those vertices
  fit_ends : (us bs : List ℕ) (x y : ℕ) → 1 ≤ length bs → Fit us bs → Path M x bs y
      → (M x ≡ N (head us)) × (M y ≡ N (back us))
  unfolding head back
  fit_ends [] bs x y n h d = absurd h
  fit_ends (u ∷ []) [] x y n h d = absurd (omega arith)
  fit_ends (u ∷ []) (b ∷ bs) x y n h d = absurd h
  fit_ends (u ∷ (z ∷ us)) [] x y n h d = absurd h
  fit_ends (u ∷ (z ∷ [])) (b ∷ []) x y n h d = (sym d.0 ∙ h.0, d.1 ∙ h.1)
  fit_ends (u ∷ (z ∷ (a ∷ us))) (b ∷ []) x y n h d = absurd h.2
  fit_ends (u ∷ (z ∷ us)) (b ∷ (f ∷ bs)) x y n h d =
      (sym d.0 ∙ h.0, (fit_ends (z ∷ us) (f ∷ bs) (previous b) y (omega arith) h.2 d.1).1)

  fit_snoc : (us bs : List ℕ) (b nv : ℕ) → Fit us bs → M (next b) ≡ N (back us) → M (previous b) ≡ N nv
      → Fit (us ++ (nv ∷ [])) (bs ++ (b ∷ []))
  unfolding back
  fit_snoc [] bs b nv h p q = absurd h
  fit_snoc (u ∷ []) [] b nv h p q = (p, q, tt)
  fit_snoc (u ∷ []) (d ∷ bs) b nv h p q = absurd h
  fit_snoc (u ∷ (y ∷ us)) [] b nv h p q = absurd h
  fit_snoc (u ∷ (y ∷ us)) (d ∷ bs) b nv h p q = (h.0, h.1, fit_snoc (y ∷ us) bs b nv h.2 p q)

  fit_last : (us bs : List ℕ) (b : ℕ) → Fit us (bs ++ (b ∷ [])) → Fit (front us) bs × (M (next b) ≡ N (back (front us)))
  unfolding front back
  fit_last [] bs b h = absurd h
  fit_last (u ∷ []) [] b h = absurd h
  fit_last (u ∷ []) (d ∷ bs) b h = absurd h
  fit_last (u ∷ (y ∷ [])) [] b h = (tt, h.0)
  fit_last (u ∷ (y ∷ (z ∷ us))) [] b h = absurd h.2
  fit_last (u ∷ (y ∷ [])) (d ∷ []) b h = absurd h.2
  fit_last (u ∷ (y ∷ [])) (d ∷ (f ∷ bs)) b h = absurd h.2
  fit_last (u ∷ (y ∷ (z ∷ us))) (d ∷ bs) b h = let i = fit_last (y ∷ (z ∷ us)) bs b h.2 in ((h.0, h.1, i.0), i.1)

  fit_first : (us bs : List ℕ) (b : ℕ) → Fit us (b ∷ bs) → (M (previous b) ≡ N (get_or us 1 0)) × Fit (tail us) bs
  unfolding tail
  fit_first [] bs b h = absurd h
  fit_first (u ∷ []) bs b h = absurd h
  fit_first (u ∷ (y ∷ us)) bs b h = (h.1, h.2)

  fit_split : (i : ℕ) (us xs bs : List ℕ) → length xs ≡ i → Fit us (xs ++ bs)
      → Fit (take (suc i) us) xs × Fit (drop i us) bs
  fit_split i [] xs bs n h = absurd h
  fit_split zero (u ∷ us) [] bs n h = (tt, h)
  fit_split zero (u ∷ us) (a ∷ xs) bs n h = absurd (omega arith)
  fit_split (suc i) (u ∷ us) [] bs n h = absurd (omega arith)
  fit_split (suc i) (u ∷ []) (a ∷ xs) bs n h = absurd h
  fit_split (suc i) (u ∷ (y ∷ us)) (a ∷ xs) bs n h =
      let z = fit_split i (y ∷ us) xs bs (omega arith) h.2 in
      ((h.0, h.1, z.0), z.1)

  abbrev pub Names : ℕ → ℕ → Word → Type 0
  Names k nv w_e = Unit {0}
  Names k nv (w_c w) = (N nv ≡ M (3 * k)) × Names (k + 1) (nv + 1) w
  Names k nv (w_l w) = Names (k + 1) nv w
  Names k nv (w_r w) = Names (k + 1) nv w
  Names k nv (w_s a b) = Names (k + 1) nv a × Names (k + 1 + size a) (nv + news a) b

module _ (M N lab : ℕ → ℕ) where
  abbrev Named : ℕ → Type 0
  Named x = M x ≡ N (lab x)

  -- a word's joins keep ends, N names its Cs, the loop us fits it and lab has its rows
  pub record Fitted (w : Word) (k nv : ℕ) (us : List ℕ) : Type 0 where
    pub sound : Sound w
    pub links_same : Each (SameEnds M) (links k w)
    pub mates_same : Each (SameEnds M) (mates k w)
    pub names : Names M N k nv w
    pub fit : Fit M N us (opens k w)
    pub rows : Rows lab k nv w us

  ends_at : {w : Word} {k nv : ℕ} {us : List ℕ} → Fitted w k nv us
      → (M (3 * k + 2) ≡ N (head us)) × (M (3 * k + 1) ≡ N (back us))
  ends_at {w = w} {k = k} {us = us} p =
      let n = length_opens k w p.sound in
      let two = width_two w p.sound in
      let path = open_path M k w p.sound p.links_same p.mates_same in
      fit_ends M N us (opens k w) (3 * k + 2) (3 * k + 1) (omega arith) p.fit path

  top : {w : Word} {k nv : ℕ} {us : List ℕ} → Fitted w k nv us → (n tip : ℕ) → M (3 * k) ≡ N tip → Row lab k tip us
      → Range Named (k + 1) n → Range Named k (suc n)
  top {k = k} p n tip m z f =
      let d = ends_at p in
      range_first Named k n (m ∙ ap N (sym z.0)) (d.1 ∙ ap N (sym z.1)) (d.0 ∙ ap N (sym z.2)) f

  fitted_c : {w : Word} {k nv : ℕ} {us : List ℕ} → Fitted (w_c w) k nv us → Fitted w (k + 1) (nv + 1) (us ++ (nv ∷ []))
  unfolding links mates opens
  fitted_c {w = w} {k = k} {nv = nv} {us = us} p =
      let n = length_opens (k + 1) w p.sound.0 in
      let big = p.sound.1 in
      let b = back (opens (k + 1) w) in
      let m = p.mates_same.0 in
      let low : M (next (back (opens (k + 1) w))) ≡ N (back us) = sym m.1 ∙ ap M (previous_right k) ∙ (ends_at p).1 in
      let high : M (previous (back (opens (k + 1) w))) ≡ N nv = m.0 ∙ ap M (next_right k) ∙ sym p.names.0 in
      record {
        sound = p.sound.0;
        links_same = p.links_same.1;
        mates_same = p.mates_same.1;
        names = p.names.1;
        fit =
            rw (snoc_view (opens (k + 1) w) (omega arith))
            (fit_snoc M N us (front (opens (k + 1) w)) b nv p.fit low high);
        rows = p.rows.1;
      }

  fitted_l : {w : Word} {k nv : ℕ} {us : List ℕ} → Fitted (w_l w) k nv us → Fitted w (k + 1) nv (front us)
  unfolding links mates opens
  fitted_l {w = w} {k = k} {us = us} p = record {
    sound = p.sound;
    links_same = p.links_same.1;
    mates_same = p.mates_same;
    names = p.names;
    fit = (fit_last M N us (opens (k + 1) w) (3 * k + 2) p.fit).0;
    rows = p.rows.1;
  }

  fitted_r : {w : Word} {k nv : ℕ} {us : List ℕ} → Fitted (w_r w) k nv us → Fitted w (k + 1) nv (tail us)
  unfolding links mates opens
  fitted_r {w = w} {k = k} {us = us} p = record {
    sound = p.sound;
    links_same = p.links_same.1;
    mates_same = p.mates_same;
    names = p.names;
    fit = (fit_first M N us (opens (k + 1) w) (3 * k + 1) p.fit).1;
    rows = p.rows.1;
  }

  fitted_s : {a b : Word} {k nv : ℕ} {us : List ℕ} → Fitted (w_s a b) k nv us
      → Fitted a (k + 1) nv (take (width a) us) × Fitted b (k + 1 + size a) (nv + news a) (drop (width a - 1) us)
  unfolding links mates opens
  fitted_s {a = a} {b = b} {k = k} {us = us} p =
      let l = each_split (SameEnds M) (links (k + 1) a) (links (k + 1 + size a) b) p.links_same.1.1 in
      let m = each_split (SameEnds M) (mates (k + 1) a) (mates (k + 1 + size a) b) p.mates_same in
      let n = length_opens (k + 1) a p.sound.0 in
      let two = width_two a p.sound.0 in
      let one : suc (width a - 1) ≡ width a = omega arith in
      let h = fit_split M N (width a - 1) us (opens (k + 1) a) (opens (k + 1 + size a) b) (omega arith) p.fit in (
        record {
          sound = p.sound.0;
          links_same = l.0;
          mates_same = m.0;
          names = p.names.0;
          fit = rw one at h.0;
          rows = p.rows.1;
        },
        record {
          sound = p.sound.1;
          links_same = l.1;
          mates_same = m.1;
          names = p.names.1;
          fit = h.1;
          rows = p.rows.2;
        },
      )

  -- the tip of an S is the left end of its right branch
  tip_s : {a b : Word} {k nv : ℕ} {us : List ℕ} → Fitted (w_s a b) k nv us → M (3 * k) ≡ N (get_or us (width a - 1) 0)
  unfolding links opens
  tip_s {a = a} {b = b} {k = k} {us = us} p =
      let n = length_opens (k + 1) a p.sound.0 in
      let two = width_two a p.sound.0 in
      let one : suc (width a - 1) ≡ width a = omega arith in
      let len = fit_length M N us (opens (k + 1) a ++ opens (k + 1 + size a) b) p.fit in
      let both = length-append (opens (k + 1) a) (opens (k + 1 + size a) b) in
      let last : back (take (width a) us) ≡ get_or us (width a - 1) 0 =
      rw one at (back_take (width a - 1) us (omega arith)) in
      ap M (sym (previous_left k)) ∙ p.links_same.0.0 ∙ ap M (next_tip (k + 1)) ∙ (ends_at (fitted_s p).0).1
      ∙ ap N last

  pub vertex_named : (w : Word) (k nv : ℕ) (us : List ℕ) → Fitted w k nv us → Range Named k (size w)
  unfolding opens size
  vertex_named w_e k nv us p =
      let i = fit_first M N us ((3 * k + 2) ∷ []) (3 * k + 1) p.fit in
      top p 0 (get_or us 1 0) (rw (previous_left k) at i.0) p.rows (λ x a b. absurd (omega arith))
  vertex_named (w_c w) k nv us p =
      top p (size w) nv (sym p.names.0) p.rows.0
      (vertex_named w (k + 1) (nv + 1) (us ++ (nv ∷ [])) (fitted_c p))
  vertex_named (w_l w) k nv us p =
      let i = fit_last M N us (opens (k + 1) w) (3 * k + 2) p.fit in
      top p (size w) (back (front us)) (rw (next_right k) at i.1) p.rows.0
      (vertex_named w (k + 1) nv (front us) (fitted_l p))
  vertex_named (w_r w) k nv us p =
      let i = fit_first M N us (opens (k + 1) w) (3 * k + 1) p.fit in
      top p (size w) (get_or us 1 0) (rw (previous_left k) at i.0) p.rows.0
      (vertex_named w (k + 1) nv (tail us) (fitted_r p))
  vertex_named (w_s a b) k nv us p =
      let i = vertex_named a (k + 1) nv (take (width a) us) (fitted_s p).0 in
      let j = vertex_named b (k + 1 + size a) (nv + news a) (drop (width a - 1) us) (fitted_s p).1 in
      top p (size a + size b) (get_or us (width a - 1) 0) (tip_s p) p.rows.0
      (range_both Named (k + 1) (size a) (size b) i j)
