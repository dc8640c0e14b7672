-- What the tables of a sound word of width 2 hold: its joins, its rows, and rules 9 to 12.
--
--   vertex_of opposite_of    the tables of a word as functions of a corner
--   length_v length_o      3 * size w entries
--   held holds_root        D4: every join of the word
--   rows good              its rows, N4 for all triangles
--   at_joins               what holds at every join, either way round, holds at every corner and its opposite
--   faced paired_all glued_all below_all apart_all    the rules
use mathlib.Core.List.{[], ◌∷◌, append-nil}
use mathlib.Core.Logic.{◌≢◌}
use mathlib.Core.Path.{◌∙◌, ◌≡◌, ap, sym}
use Prim.Native.Nat.{◌*◌, ◌+◌, ◌/◌, ◌<◌, ◌≤◌, ℕ}
use native.Mathlib.Decide.{dec_lt}
use native.Mathlib.Omega.{arith}
use lib.ListN.{get_or-eq_default, length, length-replicate, replicate}
use Rattle.theory.proofs.Chain.{Each, each_append, each_both, each_split}
use Rattle.theory.proofs.CornerLaws.{by_place, next_high, next_left, next_right, next_tip, previous_high, previous_tip}
use Rattle.theory.proofs.Counting.{count, tris_in}
use Rattle.theory.proofs.HoldsWord.{HoldsWord}
use Rattle.theory.proofs.JoinLaws.{Join, each_at, ends_root, length_joined}
use Rattle.theory.proofs.JoinedTables.{ends_low, joined_all}
use Rattle.theory.proofs.Loops.{Good, Tips, Up, loop_root, rows_good}
use Rattle.theory.proofs.Opens.{ends}
use Rattle.theory.proofs.Rows.{Agree, Edges, Rows, agree, rows_ends}
use Rattle.theory.proofs.TableRows.{length_vertices, rows_of}
use Rattle.theory.specs.Corner.{next, opposite, previous, vertex}
use Rattle.theory.specs.Lists.{back, head}
use Rattle.theory.specs.Tables.{joins, links, table_o, table_v, vertices, zips}
use Rattle.theory.specs.Word.{Sound, Word, news, size, width}

abbrev pub vertex_of : Word → ℕ → ℕ
vertex_of w = vertex (table_v w)

abbrev pub opposite_of : Word → ℕ → ℕ
opposite_of w = opposite (table_o w)

pub length_v : (w : Word) → length (table_v w) ≡ 3 * size w
unfolding table_v
length_v w = length_vertices 2 w (1 ∷ (0 ∷ []))

pub length_o : (w : Word) → length (table_o w) ≡ 3 * size w
unfolding table_o
length_o w = length_joined (joins w) (replicate (3 * size w) 0) ∙ length-replicate (3 * size w) 0

pub triangles : (w : Word) → length (table_v w) / 3 ≡ size w
triangles w = let l = length_v w in omega arith

-- beyond the end opposite is the identity and vertex is 0
pub opposite_far : (w : Word) (x : ℕ) → 3 * size w ≤ x → opposite_of w x ≡ x
opposite_far w x h = get_or-eq_default (table_o w) x (rw (length_o w) h)

vertex_far : (w : Word) (x : ℕ) → 3 * size w ≤ x → vertex_of w x ≡ 0
vertex_far w x h = get_or-eq_default (table_v w) 0 (rw (length_v w) h)

pub rows : (w : Word) → Rows (vertex_of w) 0 2 w (1 ∷ (0 ∷ []))
unfolding table_v
rows w = rows_of (table_v w) 0 2 w (1 ∷ (0 ∷ [])) [] (sym (append-nil (vertices 2 w (1 ∷ (0 ∷ [])))))

pub first_ends : (w : Word) → (vertex_of w 1 ≡ 0) × (vertex_of w 2 ≡ 1)
unfolding head back
first_ends w = rows_ends (vertex_of w) 0 2 w (1 ∷ (0 ∷ [])) (rows w)

module _ (w : Word) (o : Sound w) (q : width w ≡ 2) where
  -- ---- joins

  low : (x : ℕ) → 1 ≤ count x (ends (joins w)) → x < 3 * size w
  low x h = ends_low (size w) (joins w) (λ y. ends_root y w o q) x h

  pub held : Each (Join (opposite_of w)) (joins w)
  unfolding table_o
  held =
      let n = length-replicate {A = ℕ} (3 * size w) 0 in
      joined_all (size w) (joins w) (λ x. ends_root x w o q) (replicate (3 * size w) 0) n

  pub holds_root : HoldsWord (opposite_of w) 0 w (0 ∷ [])
  unfolding joins
  holds_root =
      let h = each_split (Join (opposite_of w)) (links 0 w) (zips 0 w (0 ∷ [])) held in
      record { sound = o; long = omega arith; low = (omega arith, tt); linked = h.0; zipped = h.1 }

  join_sym : (x y : ℕ) → Join (opposite_of w) x y → Join (opposite_of w) y x
  join_sym x y h = (h.1, h.0, λ p. h.2 (sym p))

  pub at_joins : (P : ℕ → ℕ → Type 0) → ((x y : ℕ) → P x y → P y x) → Each P (joins w) → (x : ℕ) → x < 3 * size w
      → P x (opposite_of w x) × (opposite_of w x < 3 * size w)
  at_joins P sy h x lo =
      let J : ℕ → ℕ → Type 0 = Join (opposite_of w) in
      let a = ends_root x w o q in
      let b = tris_in x (size w) 0 (omega arith) (omega arith) in
      let both = each_both J P (λ i j. J i j × P i j) (λ i j a b. (a, b)) (joins w) held h in
      let sides : (i j : ℕ) → J i j × P i j → J j i × P j i = λ i j m. (join_sym i j m.0, sy i j m.1) in
      let z = each_at (λ i j. J i j × P i j) sides x (joins w) both (omega arith) in
      rw z.1.0.0 (z.1.1, low z.0 z.2)

  -- rule 10
  pub faced : (x : ℕ) → x < 3 * size w
      → (opposite_of w x < 3 * size w) × (opposite_of w (opposite_of w x) ≡ x) × (opposite_of w x ≢ x)
  faced x h = let z = at_joins (Join (opposite_of w)) join_sym held x h in (z.1, z.0.1, λ p. z.0.2 (sym p))

  pub paired_all : (x : ℕ) → opposite_of w (opposite_of w x) ≡ x
  paired_all x = go (dec_lt x (3 * size w))
    where
      go : Dec (x < 3 * size w) → opposite_of w (opposite_of w x) ≡ x
      go (yes p) = (faced x p).1
      go (no p) = let f = opposite_far w x (omega arith) in ap (opposite_of w) f ∙ f

  -- ---- vertices

  -- D6
  agrees : Each (Agree (vertex_of w)) (joins w)
  unfolding joins
  agrees =
      let lab = vertex_of w in
      let f = first_ends w in
      let e : Edges lab (1 ∷ (0 ∷ [])) (0 ∷ []) = (ap lab (previous_tip 0) ∙ f.1, ap lab (next_tip 0) ∙ f.0, tt) in
      let a = agree lab 0 2 w (1 ∷ (0 ∷ [])) (0 ∷ []) o (sym q) (rows w) e in
      each_append (Agree lab) (links 0 w) (zips 0 w (0 ∷ [])) a.0 a.1

  -- rule 11
  pub glued_all : (x : ℕ) → Agree (vertex_of w) x (opposite_of w x)
  glued_all x = go (dec_lt x (3 * size w))
    where
      go : Dec (x < 3 * size w) → Agree (vertex_of w) x (opposite_of w x)
      go (yes p) = (at_joins (Agree (vertex_of w)) (λ a b m. (sym m.1, sym m.0)) agrees x p).0
      go (no p) =
          let n = vertex_far w (next x) (next_high (size w) x (omega arith)) in
          let m = vertex_far w (previous x) (previous_high (size w) x (omega arith)) in
          rw (opposite_far w x (omega arith)) (n ∙ sym m, m ∙ sym n)

  pub good : Up (Good (vertex_of w) (2 + news w)) (size w) × Tips (vertex_of w) 0 2 w
  good =
      let z = rows_good (vertex_of w) (2 + news w) 0 2 w (1 ∷ (0 ∷ [])) o (sym q) loop_root (omega arith) (rows w)
      (λ j h. absurd (omega arith)) in
      ((λ j h. z.0 j (omega arith)), z.1)

  -- rule 9
  pub below_all : (x : ℕ) → x < 3 * size w → vertex_of w x < 2 + news w
  below_all =
      by_place (λ c. c < 3 * size w → vertex_of w c < 2 + news w)
      (λ k h. (good.0 k (omega arith)).1)
      (λ k h. (good.0 k (omega arith)).2)
      (λ k h. (good.0 k (omega arith)).3)

  -- rule 12
  pub apart_all : (x : ℕ) → x < 3 * size w → vertex_of w x ≢ vertex_of w (next x)
  apart_all =
      by_place (λ c. c < 3 * size w → vertex_of w c ≢ vertex_of w (next c))
      (λ k h. rw next_tip (good.0 k (omega arith)).0.0)
      (λ k h. rw next_left (good.0 k (omega arith)).0.1)
      (λ k h. rw next_right (good.0 k (omega arith)).0.2)
