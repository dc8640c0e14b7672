-- The second pass over the letters of a word fills in document 01's vertices (`fill_run_lem`), and of a string that
-- closes table V of its word (`fill_table`).
use mathlib.Core.List.{List, [], ◌++◌, ◌∷◌, append_assoc, append-nil}
use mathlib.Core.Path.{◌∙◌, ◌≡◌, ap, refl, subst, sym}
use Prim.Native.Nat.{◌*◌, ◌+◌, ◌-◌, suc, zero, ℕ}
use native.Mathlib.Omega.{arith}
use lib.ListN.{drop, get_or, length, take}
use Rattle.tables.proofs.Behind.{OnLoop, agreed, behind_c, behind_l, behind_r, behind_left, behind_right, left_resumed, tip_is_e, tip_is_l, tip_is_r, tip_is_s}
use Rattle.tables.proofs.Filled.{at_left_lem, at_right_lem, filled, here, mix, mix_all, mix_none, stored_mix}
use Rattle.tables.proofs.Noted.{Noted}
use Rattle.tables.specs.Fill.{Fill, after_facing, at_right, before_facing, fill_run, fill_step, fill_v, resumed}
use Rattle.theory.proofs.CornerLaws.{next_right, next_tip, previous_right, previous_tip}
use Rattle.theory.proofs.HoldsWord.{holds_c}
use Rattle.theory.proofs.Rows.{Edges, agree, edges_snoc}
use Rattle.theory.proofs.WordLaws.{root}
use Rattle.theory.proofs.WordTables.{first_ends, holds_root, length_v, opposite_of, rows}
use Rattle.theory.specs.Corner.{vertex}
use Rattle.theory.specs.Letter.{letter}
use Rattle.theory.specs.Lists.{back, front, tail}
use Rattle.theory.specs.Tables.{links, table_o, table_v}
use Rattle.theory.specs.Word.{Sound, Word, news, size, spell, w_c, w_e, w_l, w_r, w_s, width}

module _ (vt vs₀ ot ns : List ℕ) (same : length vs₀ ≡ length vt) where
  abbrev half : ℕ → List ℕ
  half i = mix vt vs₀ ot same i

  abbrev now : ℕ → ℕ → Fill
  now k nv = here vt vs₀ ot same k nv

  done : (s : List ℕ) (k k' n n' : ℕ) → k ≡ k' → n ≡ n'
      → fill_run s k ns ot (resumed k ot (half (3 * k)) n) ≡ fill_run s k' ns ot (resumed k' ot (half (3 * k')) n')
  done s k k' n n' p q = rw (p, q) refl

  pub fill_run_lem : (w : Word) (k nv : ℕ) (us rs : List ℕ) → OnLoop vt vs₀ ot ns same w k nv us rs → (s : List ℕ)
      → fill_run (spell w ++ s) k ns ot (now k nv)
      ≡ fill_run s (k + size w) ns ot (resumed (k + size w) ot (half (3 * (k + size w))) (nv + news w))
  unfolding fill_run fill_step letter spell size news links
  fill_run_lem w_e k nv us rs h s =
      let x = after_facing ot (half (3 * k)) (3 * k + 1) in
      let tip = tip_is_e vt vs₀ ot ns same k nv us rs h in
      let within = h.within in
      ap (λ (l : List ℕ). fill_run s (k + 1) ns ot (resumed (k + 1) ot l nv))
      (stored_mix vt vs₀ ot same k nv x tip (omega arith))
      ∙ done s (k + 1) (k + suc zero) nv (nv + 0) (omega arith) (omega arith)
  fill_run_lem (w_c w) k nv us rs h s =
      let behind = behind_c vt vs₀ ot ns same w k nv us rs h in
      let A = agreed vt vs₀ ot ns same (w_c w) k nv us rs h in
      let within = h.within in
      ap (fill_run (spell w ++ s) (k + 1) ns ot)
      (at_right_lem vt vs₀ ot same k nv nv (sym h.rows.0.0) (omega arith) (nv + 1) A.0.0)
      ∙ fill_run_lem w (k + 1) (nv + 1) (us ++ (nv ∷ [])) (rs ++ ((3 * k + 2) ∷ [])) behind s
      ∙ done s (k + 1 + size w) (k + suc (size w)) (nv + 1 + news w) (nv + suc (news w)) (omega arith) (omega arith)
  fill_run_lem (w_l w) k nv us rs h s =
      let x = before_facing ot (half (3 * k)) (3 * k + 2) in
      let A = agreed vt vs₀ ot ns same (w_l w) k nv us rs h in
      let within = h.within in
      ap (fill_run (spell w ++ s) (k + 1) ns ot)
      (at_right_lem vt vs₀ ot same k nv x (tip_is_l vt vs₀ ot ns same w k nv us rs h) (omega arith) nv A.0.0)
      ∙ fill_run_lem w (k + 1) nv (front us) (front rs) (behind_l vt vs₀ ot ns same w k nv us rs h) s
      ∙ done s (k + 1 + size w) (k + suc (size w)) (nv + news w) (nv + news w) (omega arith) refl
  fill_run_lem (w_r w) k nv us rs h s =
      let x = after_facing ot (half (3 * k)) (3 * k + 1) in
      let A = agreed vt vs₀ ot ns same (w_r w) k nv us rs h in
      let within = h.within in
      ap (fill_run (spell w ++ s) (k + 1) ns ot)
      (at_left_lem vt vs₀ ot same k nv x (tip_is_r vt vs₀ ot ns same w k nv us rs h) (omega arith) A.0.0)
      ∙ fill_run_lem w (k + 1) nv (tail us) (tail rs) (behind_r vt vs₀ ot ns same w k nv us rs h) s
      ∙ done s (k + 1 + size w) (k + suc (size w)) (nv + news w) (nv + news w) (omega arith) refl
  fill_run_lem (w_s a b) k nv us rs h s =
      let m = k + 1 + size a in
      let rest = spell b ++ s in
      let x = after_facing ot (half (3 * k)) (get_or ns k 0) in
      let A = agreed vt vs₀ ot ns same (w_s a b) k nv us rs h in
      let within = h.within in
      let right = behind_right vt vs₀ ot ns same a b k nv us rs h in
      let left = behind_left vt vs₀ ot ns same a b k nv us rs h in
      ap (λ (l : List ℕ). fill_run l (k + 1) ns ot (at_right k x nv (now k nv))) (append_assoc (spell a) (spell b) s)
      ∙ ap (fill_run (spell a ++ rest) (k + 1) ns ot)
      (at_right_lem vt vs₀ ot same k nv x (tip_is_s vt vs₀ ot ns same a b k nv us rs h) (omega arith) nv A.0.0)
      ∙ fill_run_lem a (k + 1) nv (take (width a) us) (take (width a - 1) rs) right rest
      ∙ ap (fill_run rest m ns ot) (left_resumed vt vs₀ ot ns same a b k nv us rs h (nv + news a))
      ∙ fill_run_lem b m (nv + news a) (drop (width a - 1) us) (drop (width a - 1) rs) left s
      ∙ done s (m + size b) (k + suc (size a + size b)) (nv + news a + news b) (nv + (news a + news b)) (omega arith)
      (omega arith)

-- the first triangle is a C on the gate's edge: its ends are 0 and 1, and the rest of the word stands on 1, 0, 2
fill_c : (w : Word) → Sound (w_c w) → width (w_c w) ≡ 2 → (vs₀ ns : List ℕ) → length vs₀ ≡ 3 * size (w_c w)
    → Noted ns 0 (w_c w) → fill_v (spell (w_c w)) ns (table_o (w_c w)) vs₀ ≡ table_v (w_c w)
unfolding spell fill_v fill_run fill_step letter width size links back resumed
fill_c w sound two vs₀ ns n noted =
    let vt = table_v (w_c w) in
    let ot = table_o (w_c w) in
    let us : List ℕ = 1 ∷ (0 ∷ []) in
    let lv = length_v (w_c w) in
    let same : length vs₀ ≡ length vt = omega arith in
    let row = rows (w_c w) in
    let ends = first_ends (w_c w) in
    let p = holds_c (opposite_of (w_c w)) 0 w (0 ∷ []) (holds_root (w_c w) sound two) in
    let right_end = ap (vertex vt) (previous_tip 0) ∙ ends.1 in
    let left_end = ap (vertex vt) (next_tip 0) ∙ ends.0 in
    let edges : Edges (vertex vt) us (0 ∷ []) = (right_end, left_end, tt) in
    let A = agree (vertex vt) 0 2 (w_c w) us (0 ∷ []) sound (omega arith) row edges in
    let start : OnLoop vt vs₀ ot ns same w 1 3 (1 ∷ (0 ∷ (2 ∷ []))) (0 ∷ (2 ∷ [])) =
    record {
      holds = p.1;
      earlier = (omega arith, (omega arith, tt));
      loop = omega arith;
      rows = row.1;
      edges =
          edges_snoc (vertex vt) us (0 ∷ []) 2 2 edges (rw (previous_right 0) ends.0)
          (rw (next_right 0) row.0.0);
      noted = noted;
      within = omega arith;
    } in
    let first : filled vs₀ 0 1 2 ≡ here vt vs₀ ot same 0 2 = rw (ends.0, ends.1, mix_none vt vs₀ ot same) refl in
    ap (λ (z : Fill). (fill_run (spell w) 1 ns ot (at_right 0 z.new (z.new + 1) z)).vs) first
    ∙ ap (λ (z : Fill). (fill_run (spell w) 1 ns ot z).vs)
    (at_right_lem vt vs₀ ot same 0 2 2 (sym row.0.0) (omega arith) 3 A.0.0)
    ∙ ap (λ (l : List ℕ). (fill_run l 1 ns ot (here vt vs₀ ot same 1 3)).vs) (sym (append-nil (spell w)))
    ∙ ap (λ (z : Fill). z.vs) (fill_run_lem vt vs₀ ot ns same w 1 3 (1 ∷ (0 ∷ (2 ∷ []))) (0 ∷ (2 ∷ [])) start [])
    ∙ mix_all vt vs₀ ot same (3 * (1 + size w)) (omega arith)

pub fill_table : (w : Word) → Sound w → width w ≡ 2 → (vs ns : List ℕ) → length vs ≡ 3 * size w → Noted ns 0 w
    → fill_v (spell w) ns (table_o w) vs ≡ table_v w
fill_table w sound two vs ns n noted = go (root w sound two)
  where
    go : (x : Word) × (w ≡ w_c x) → fill_v (spell w) ns (table_o w) vs ≡ table_v w
    go (x, e) =
        subst
        (λ (y : Word).
        Sound y → width y ≡ 2 → length vs ≡ 3 * size y → Noted ns 0 y → fill_v (spell y) ns (table_o y) vs ≡ table_v y)
        (sym e) (λ a b d i. fill_c x a b vs ns d i) sound two n noted
