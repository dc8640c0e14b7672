-- T2: the tables of every string read are a mesh, and writing them returns the string.
--
--   sphere_of_word     the tables of a sound word of width 2 are a mesh of size w triangles and 2 + news w vertices
--   closes_accepted    the tables read from a string that closes are accepted
--   walk_returns       their walk from corner 0 has the word's letters, at the corners 0, 3, 6, ..
use mathlib.Core.Bool.{◌||◌, false, true}
use mathlib.Core.List.{List, [], ◌∷◌, append-nil}
use mathlib.Core.Path.{◌∙◌, ◌≡◌, ap, refl, sym}
use Prim.Native.Nat.{◌%◌, ◌+◌, ◌/◌, ℕ}
use native.Mathlib.Decide.{ℕ_discrete}
use native.Mathlib.Nat.{add-zero}
use native.Mathlib.Omega.{arith}
use lib.Dec.{eqb, ltb}
use lib.ListN.{length}
use borrow.Author.Tests.{eq-eqb, le-ltb, lt-ltb, ne_eqb}
use Rattle.theory.proofs.CornerLaws.{next_tip, previous_tip}
use Rattle.theory.proofs.Loops.{Up}
use Rattle.theory.proofs.Reaches.{reach}
use Rattle.theory.proofs.WalkBack.{take_left, walk_word, word_steps}
use Rattle.theory.proofs.WalkLetters.{Visited}
use Rattle.theory.proofs.WordLaws.{length_spell, size_one, width_news, word_of_spell}
use Rattle.theory.proofs.WordRings.{all_born, maker_of, rings_of_word}
use Rattle.theory.proofs.WordSteps.{corners_steps, letters_steps, tip_corners}
use Rattle.theory.proofs.WordTables.{apart_all, below_all, faced, first_ends, glued_all, good, holds_root, length_o, length_v, opposite_of, paired_all, triangles, vertex_of}
use Rattle.theory.specs.Answer.{count_ok}
use Rattle.theory.specs.Corner.{opposite, triangle, vertex}
use Rattle.theory.specs.Lists.{mem}
use Rattle.theory.specs.Mesh.{Accepted, Reach, Sphere, here, shape_ok}
use Rattle.theory.specs.Tables.{table_o, table_v}
use Rattle.theory.specs.Walk.{corners_of, letters_of, marks, mesh_walk, seen, tips, walk, walk_from}
use Rattle.theory.specs.Word.{Closes, Sound, Word, news, size, spell, width, word_of}

-- before the first step only the gate's ends are marked
marks_root : (y : ℕ) → (eqb y 0 || (eqb y 1 || false)) ≡ ltb y 2
marks_root y = go (ℕ_discrete y 0) (ℕ_discrete y 1)
  where
    go : Dec (y ≡ 0) → Dec (y ≡ 1) → (eqb y 0 || (eqb y 1 || false)) ≡ ltb y 2
    go (yes p) d = rw (eq-eqb y 0 p, lt-ltb y 2 (omega arith))
    go (no p) (yes d) = rw (ne_eqb y 0 p, eq-eqb y 1 d, lt-ltb y 2 (omega arith))
    go (no p) (no d) = rw (ne_eqb y 0 p, ne_eqb y 1 d, le-ltb y 2 (omega arith))

nothing_visited : (w : Word) → Visited (vertex_of w) 0 0 2 []
unfolding seen mem marks tips
nothing_visited w = (
  (λ x. sym (le-ltb (triangle x) 0 (omega arith))),
  λ y. rw (next_tip 0, previous_tip 0, (first_ends w).0, (first_ends w).1) (marks_root y),
)

module _ (w : Word) (o : Sound w) (q : width w ≡ 2) where
  pub sphere_of_word : Sphere (vertex (table_v w)) (opposite (table_o w)) (size w) (2 + news w) 0
  sphere_of_word =
      let start : Up (Reach (opposite_of w) 0) 0 = λ j p. absurd (omega arith) in
      let n = size_one w in
      let e = width_news w o in
      record {
        gate = omega arith;
        below = below_all w o q;
        inside = λ c h. (faced w o q c h).0;
        paired = paired_all w o q;
        moves = λ c h. (faced w o q c h).2;
        glued = λ c. (glued_all w o q c).0;
        apart = apart_all w o q;
        present = λ u h. let z = all_born w o q u h in (maker_of w u, z.0, z.1);
        reaches = λ k h. reach (opposite_of w) 0 0 w (0 ∷ []) (holds_root w o q) here start k (omega arith);
        euler = omega arith;
      }

  -- with room for size w steps or more
  pub walk_back : (n : ℕ) → walk (vertex_of w) (opposite_of w) 0 (size w + n) [] [] 0 ≡ word_steps 0 w
  unfolding take_left
  walk_back n =
      let h = holds_root w o q in
      let v = nothing_visited w in
      walk_word (vertex_of w) (opposite_of w) 0 0 2 w (0 ∷ []) h (good w o q).1 [] v n [] [] (λ pre i. refl)
      ∙ append-nil (word_steps 0 w)

  pub walk_steps : mesh_walk (table_v w) (table_o w) 0 ≡ word_steps 0 w
  unfolding mesh_walk walk_from
  walk_steps = rw (triangles w) (rw (add-zero (size w)) at (walk_back 0))

  pub walk_returns : (letters_of (mesh_walk (table_v w) (table_o w) 0) ≡ spell w)
      × (corners_of (mesh_walk (table_v w) (table_o w) 0) ≡ tip_corners (size w))
  walk_returns = rw walk_steps (letters_steps 0 w, corners_steps 0 w)

pub shape_of_word : (w : Word) → count_ok (size w) ≡ true → shape_ok (table_v w) (table_o w) ≡ true
unfolding shape_ok
shape_of_word w ok =
    let v = length_v w in
    let same = eq-eqb (length (table_v w)) (length (table_o w)) (v ∙ sym (length_o w)) in
    let thirds = eq-eqb (length (table_v w) % 3) 0 (omega arith) in
    rw (same, thirds, triangles w) ok

pub closes_accepted : (s : List ℕ) → Closes s → count_ok (length s) ≡ true
    → Accepted (table_v (word_of s)) (table_o (word_of s)) (length s / 2 + 2) 0
closes_accepted s h ok =
    let w = h.word in
    let same : word_of s ≡ w = ap word_of (sym h.spelt) ∙ word_of_spell w in
    let long : length s ≡ size w = ap length (sym h.spelt) ∙ length_spell w in
    let e = width_news w h.sound in
    let two = h.two in
    let v : length s / 2 + 2 ≡ 2 + news w = omega arith in
    rw same (record {
      shape = shape_of_word w (rw long at ok);
      sphere = rw (triangles w, v) (sphere_of_word w h.sound two);
      rings = rw (triangles w) (rings_of_word w h.sound two);
    })
