-- The second pass where the triangles of a word begin (`OnLoop`), handed on to the words behind its letter
-- (`behind-..`), and the vertex at the tip of the letter's triangle (`tip-is-..`).
--
-- The tip of L, E and R stands behind an edge that is joined to an earlier triangle (D6), as do the ends of the first
-- triangle of a left branch. The tip of an S stands behind the last open side of its right branch, which is recorded.
use mathlib.Core.List.{List, [], ◌++◌, ◌∷◌}
use mathlib.Core.Path.{◌∙◌, ◌≡◌, ap, subst, sym}
use Prim.Native.Nat.{◌*◌, ◌+◌, ◌-◌, ◌<◌, ◌≤◌, suc, ℕ}
use native.Mathlib.Omega.{arith}
use lib.ListN.{drop, get_or, length, length-append, length-drop, take}
use lib.Seq.{length-take-le}
use Rattle.tables.proofs.Filled.{after_mix, before_mix, here, mix, resumed_here}
use Rattle.tables.proofs.Noted.{Noted}
use Rattle.tables.specs.Fill.{after_facing, before_facing, resumed}
use Rattle.theory.proofs.Chain.{Each}
use Rattle.theory.proofs.CornerLaws.{next_right, previous_left, previous_right}
use Rattle.theory.proofs.Each.{EachN, each_back, each_drop, each_first, each_front, each_take, each_tl, each_n_append, each_n_map}
use Rattle.theory.proofs.HoldsWord.{HoldsWord, holds_c, holds_e, holds_l, holds_r, holds_s}
use Rattle.theory.proofs.JoinLaws.{Join, both_back, down}
use Rattle.theory.proofs.ListLaws.{back_take, length_front, length_tail}
use Rattle.theory.proofs.Opens.{length_opens, opens}
use Rattle.theory.proofs.Rows.{Agree, Edges, Rows, agree, edges_drop, edges_first, edges_last, edges_snoc, edges_take}
use Rattle.theory.proofs.WordLaws.{width_two}
use Rattle.theory.specs.Corner.{opposite, vertex}
use Rattle.theory.specs.Lists.{back, front, head, tail}
use Rattle.theory.specs.Tables.{links, zips}
use Rattle.theory.specs.Word.{Word, news, size, w_c, w_e, w_l, w_r, w_s, width}

module _ (vt vs₀ ot ns : List ℕ) (same : length vs₀ ≡ length vt) where
  abbrev J : ℕ → ℕ → Type 0
  J a b = Join (opposite ot) a b

  -- table vt up to corner i
  abbrev half : ℕ → List ℕ
  half i = mix vt vs₀ ot same i

  -- w stands on the loop us with the remembered corners rs, all of them of earlier triangles
  pub record OnLoop (w : Word) (k nv : ℕ) (us rs : List ℕ) : Type 0 where
    pub holds : HoldsWord (opposite ot) k w rs
    pub earlier : EachN (λ y. y < 3 * k) rs
    pub loop : length us ≡ width w
    pub rows : Rows (vertex vt) k nv w us
    pub edges : Edges (vertex vt) us rs
    pub noted : Noted ns k w
    pub within : 3 * (k + size w) ≤ length vt

  pub agreed : (w : Word) (k nv : ℕ) (us rs : List ℕ) → OnLoop w k nv us rs
      → Each (Agree (vertex vt)) (links k w) × Each (Agree (vertex vt)) (zips k w rs)
  agreed w k nv us rs h = agree (vertex vt) k nv w us rs h.holds.sound h.loop h.rows h.edges

  later : (k j : ℕ) (xs : List ℕ) → k ≤ j → EachN (λ y. y < 3 * k) xs → EachN (λ y. y < 3 * j) xs
  later k j xs m h = each_n_map (λ y. y < 3 * k) (λ y. y < 3 * j) (λ y a. omega arith) xs h

  -- ---- one word behind the letter

  module _ (w : Word) (k nv : ℕ) (us rs : List ℕ) where
    pub behind_c : OnLoop (w_c w) k nv us rs → OnLoop w (k + 1) (nv + 1) (us ++ (nv ∷ [])) (rs ++ ((3 * k + 2) ∷ []))
    unfolding width size links zips
    behind_c h =
        let p = holds_c (opposite ot) k w rs h.holds in
        let A = agreed (w_c w) k nv us rs h in
        let wide = h.holds.sound.1 in
        let r = h.rows.0 in
        let low = later k (k + 1) rs (omega arith) h.earlier in
        record {
          holds = p.1;
          earlier = each_n_append (λ y. y < 3 * (k + 1)) rs ((3 * k + 2) ∷ []) low (omega arith, tt);
          loop = rw length-append (omega arith);
          rows = h.rows.1;
          edges =
              edges_snoc (vertex vt) us rs nv (3 * k + 2) h.edges (rw previous_right r.1) (rw next_right r.0);
          noted = h.noted;
          within = omega arith;
        }

    pub behind_l : OnLoop (w_l w) k nv us rs → OnLoop w (k + 1) nv (front us) (front rs)
    unfolding width size links zips
    behind_l h =
        let p = holds_l (opposite ot) k w rs h.holds in
        let A = agreed (w_l w) k nv us rs h in
        let two = width_two w h.holds.sound in
        let n = length_front us in
        record {
          holds = p.2;
          earlier = later k (k + 1) (front rs) (omega arith) (each_front (λ y. y < 3 * k) rs h.earlier);
          loop = omega arith;
          rows = h.rows.1;
          edges = (edges_last (vertex vt) us rs (omega arith) h.edges).0;
          noted = h.noted;
          within = omega arith;
        }

    pub behind_r : OnLoop (w_r w) k nv us rs → OnLoop w (k + 1) nv (tail us) (tail rs)
    unfolding width size links zips
    behind_r h =
        let p = holds_r (opposite ot) k w rs h.holds in
        let A = agreed (w_r w) k nv us rs h in
        let two = width_two w h.holds.sound in
        let n = length_tail us (omega arith) in
        record {
          holds = p.2;
          earlier = later k (k + 1) (tail rs) (omega arith) (each_tl (λ y. y < 3 * k) rs h.earlier);
          loop = omega arith;
          rows = h.rows.1;
          edges = (edges_first (vertex vt) us rs (omega arith) h.edges).2;
          noted = h.noted;
          within = omega arith;
        }

    pub tip_is_l : OnLoop (w_l w) k nv us rs → before_facing ot (half (3 * k)) (3 * k + 2) ≡ vertex vt (3 * k)
    unfolding width size zips
    tip_is_l h =
        let p = holds_l (opposite ot) k w rs h.holds in
        let A = agreed (w_l w) k nv us rs h in
        let two = width_two w h.holds.sound in
        let n = h.holds.long in
        let y = each_back (λ y. y < 3 * k) rs (omega arith) h.earlier in
        before_mix vt vs₀ ot same k (3 * k + 2) (back rs) p.1.0 y (omega arith)
        ∙ sym (rw next_right at A.1.0.0)

    pub tip_is_r : OnLoop (w_r w) k nv us rs → after_facing ot (half (3 * k)) (3 * k + 1) ≡ vertex vt (3 * k)
    unfolding width size zips
    tip_is_r h =
        let p = holds_r (opposite ot) k w rs h.holds in
        let A = agreed (w_r w) k nv us rs h in
        let two = width_two w h.holds.sound in
        let n = h.holds.long in
        let y = each_first (λ y. y < 3 * k) rs (omega arith) h.earlier in
        after_mix vt vs₀ ot same k (3 * k + 1) (head rs) p.1.0 y (omega arith)
        ∙ sym (rw previous_left at A.1.0.1)

  pub tip_is_e : (k nv : ℕ) (us rs : List ℕ) → OnLoop w_e k nv us rs
      → after_facing ot (half (3 * k)) (3 * k + 1) ≡ vertex vt (3 * k)
  unfolding width size zips
  tip_is_e k nv us rs h =
      let p = holds_e (opposite ot) k rs h.holds in
      let A = agreed w_e k nv us rs h in
      let n = h.holds.long in
      let y = each_first (λ y. y < 3 * k) rs (omega arith) h.earlier in
      after_mix vt vs₀ ot same k (3 * k + 1) (head rs) p.0.0 y (omega arith)
      ∙ sym (rw previous_left at A.1.0.1)

  -- ---- the two branches of an S

  module _ (a b : Word) (k nv : ℕ) (us rs : List ℕ) (h : OnLoop (w_s a b) k nv us rs) where
    widths_are : (2 ≤ width a) × (2 ≤ width b) × (length us ≡ width a + width b - 1) × (suc (width a - 1) ≡ width a)
    unfolding width
    widths_are =
        let ta = width_two a h.holds.sound.0 in
        (ta, width_two b h.holds.sound.1, h.loop, omega arith)

    edges_right : Edges (vertex vt) (take (width a) us) (take (width a - 1) rs)
    edges_right =
        let s = widths_are in
        let e = edges_take (vertex vt) (width a - 1) us rs (omega arith) h.edges in
        subst (λ (n : ℕ). Edges (vertex vt) (take n us) (take (width a - 1) rs)) s.3 e

    pub behind_right : OnLoop a (k + 1) nv (take (width a) us) (take (width a - 1) rs)
    unfolding width size links zips
    behind_right =
        let s = widths_are in
        let p = holds_s (opposite ot) k a b rs h.holds in
        let A = agreed (w_s a b) k nv us rs h in
        let ra = take (width a - 1) rs in
        record {
          holds = p.2;
          earlier = later k (k + 1) ra (omega arith) (each_take (λ y. y < 3 * k) (width a - 1) rs h.earlier);
          loop = length-take-le (width a) us (omega arith);
          rows = h.rows.1;
          edges = edges_right;
          noted = h.noted.1;
          within = omega arith;
        }

    pub behind_left : OnLoop b (k + 1 + size a) (nv + news a) (drop (width a - 1) us) (drop (width a - 1) rs)
    unfolding width size links zips
    behind_left =
        let s = widths_are in
        let p = holds_s (opposite ot) k a b rs h.holds in
        let A = agreed (w_s a b) k nv us rs h in
        let rb = drop (width a - 1) rs in
        let n = length-drop (width a - 1) us in
        let m = k + 1 + size a in
        record {
          holds = p.3;
          earlier = later k m rb (omega arith) (each_drop (λ y. y < 3 * k) (width a - 1) rs h.earlier);
          loop = omega arith;
          rows = h.rows.2;
          edges = edges_drop (vertex vt) (width a - 1) us rs (omega arith) h.edges;
          noted = h.noted.2;
          within = omega arith;
        }

    -- the left branch is resumed where the S waits
    pub left_resumed : (n : ℕ) → resumed (k + 1 + size a) ot (half (3 * (k + 1 + size a))) n
        ≡ here vt vs₀ ot same (k + 1 + size a) n
    unfolding size links
    left_resumed n =
        let p = holds_s (opposite ot) k a b rs h.holds in
        let A = agreed (w_s a b) k nv us rs h in
        let within = h.within in
        resumed_here vt vs₀ ot same (3 * k + 2) (k + 1 + size a) n (omega arith) (omega arith) p.1 A.0.1.0

    pub tip_is_s : after_facing ot (half (3 * k)) (get_or ns k 0) ≡ vertex vt (3 * k)
    unfolding size
    tip_is_s =
        let s = widths_are in
        let right = behind_right in
        let ua = take (width a) us in
        let ra = take (width a - 1) rs in
        let long = right.holds.long in
        let tip-at : back (take (suc (width a - 1)) us) ≡ get_or us (width a - 1) 0 =
        back_take (width a - 1) us (omega arith) in
        let lo = length_opens (k + 1) a h.holds.sound.0 in
        let dn = down J (k + 1) a ra h.holds.sound.0 long right.holds.zipped in
        let op = both_back J (opens (k + 1) a) ra (omega arith) dn.1 in
        let earlier = each_take (λ y. y < 3 * k) (width a - 1) rs h.earlier in
        let y = each_back (λ y. y < 3 * k) ra (omega arith) earlier in
        let f = edges_last (vertex vt) ua ra (omega (arith, right.loop)) edges_right in
        ap (after_facing ot (half (3 * k))) h.noted.0
        ∙ after_mix vt vs₀ ot same k (back (opens (k + 1) a)) (back ra) op y (omega arith)
        ∙ f.2 ∙ rw s.3 at tip-at ∙ sym h.rows.0.0
