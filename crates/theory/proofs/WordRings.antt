-- Rule 13 for the tables of a sound word of width 2: every vertex has a corner that made it, which carries it, and
-- swings lead there from each of its corners.
--
--   maker_of w u          the corner that made vertex u: an end of the gate's edge, or the tip of a C (`maker`)
--   all_home all_born    swings lead to it, and it carries the vertex
--   rings_of_word        swings lead from any corner of a vertex to any other
use mathlib.Core.List.{[], ◌∷◌, append-nil}
use mathlib.Core.Logic.{◌⊎◌, inl, inr}
use mathlib.Core.Path.{◌≡◌, refl, sym}
use Prim.Native.Nat.{◌*◌, ◌+◌, ◌<◌, suc, zero, ℕ}
use native.Mathlib.Omega.{arith}
use lib.ListN.{get_or}
use Rattle.theory.proofs.Each.{each_get_d}
use Rattle.theory.proofs.Homes.{homes}
use Rattle.theory.proofs.Loops.{Up}
use Rattle.theory.proofs.Makers.{AtC, Born, Makers, born, length_makers, makers, makers_at, makers_of}
use Rattle.theory.proofs.Swings.{To, to_refl, to_sym, to_trans}
use Rattle.theory.proofs.WordLaws.{size_one}
use Rattle.theory.proofs.WordTables.{faced, first_ends, glued_all, good, holds_root, opposite_far, opposite_of, paired_all, vertex_of}
use Rattle.theory.specs.Corner.{opposite, vertex}
use Rattle.theory.specs.Mesh.{Rings}
use Rattle.theory.specs.Tables.{table_o, table_v}
use Rattle.theory.specs.Word.{Sound, Word, news, size, spell, width}

abbrev pub maker_of : Word → ℕ → ℕ
maker_of w u = get_or (1 ∷ (2 ∷ makers 0 w)) u 0

made : (w : Word) → Makers (maker_of w) 0 2 w
made w = makers_of (1 ∷ (2 ∷ makers 0 w)) 0 2 w [] (sym (append-nil (makers 0 w)))

pub maker : (w : Word) (u : ℕ) → u < 2 + news w
    → ((u < 2) × (maker_of w u ≡ u + 1)) ⊎ AtC (spell w) (size w) (maker_of w u)
maker w zero h = inl (omega arith, refl)
maker w (suc zero) h = inl (omega arith, refl)
maker w (suc (suc u)) h =
    let n = length_makers 0 w in
    let tips-made = makers_at (spell w) (size w) 0 w [] (omega arith) (sym (append-nil (spell w))) in
    inr (each_get_d (AtC (spell w) (size w)) (makers 0 w) u (omega arith) tips-made)

module _ (w : Word) (o : Sound w) (q : width w ≡ 2) where
  pub swing_back : (a b : ℕ) → To (opposite_of w) a b → To (opposite_of w) b a
  swing_back = to_sym (opposite_of w) (size w) (paired_all w o q) (λ x p. (faced w o q x p).0) (opposite_far w)

  -- D9
  pub all_home : (d : ℕ) → d < 3 * size w → To (opposite_of w) d (maker_of w (vertex_of w d))
  all_home d lo =
      let opp = opposite_of w in
      let f = first_ends w in
      homes opp (vertex_of w) (maker_of w) swing_back (λ x. (glued_all w o q x).1) 0 2 w (0 ∷ [])
      (holds_root w o q) (made w) (good w o q).1
      (λ e h. absurd (omega arith)) (rw f.0 (to_refl opp 1)) (rw f.1 (to_refl opp 2)) d (omega arith)

  pub all_born : (u : ℕ) → u < 2 + news w → (maker_of w u < 3 * size w) × (vertex_of w (maker_of w u) ≡ u)
  all_born = born (vertex_of w) (maker_of w) (size w) 0 2 w (omega arith) (made w) (good w o q).1 two
    where
      two : Up (Born (vertex_of w) (maker_of w) (size w)) 2
      two zero h = let n = size_one w in (omega arith, (first_ends w).0)
      two (suc zero) h = let n = size_one w in (omega arith, (first_ends w).1)
      two (suc (suc u)) h = absurd (omega arith)

  pub rings_of_word : Rings (vertex (table_v w)) (opposite (table_o w)) (size w)
  rings_of_word a b p n h =
      let c = maker_of w (vertex_of w b) in
      to_trans (opposite_of w) a c b (rw h at (all_home a p)) (swing_back b c (all_home b n))
