-- T3 and T4 for tables: what accepted meshes and their strings have to do with each other.
--
-- Rule 13's ring part (`rings`) is not used.
--
--   mesh_round           T3: the walk of an accepted mesh has t steps, and reading its string back gives the mesh
--   mesh_closes          its string closes
--   mesh_renumbers       the tables read back from it are the mesh but for its numbers, by the walk table
--   letters_length corners_length    its string and its walk table have t entries
--   strings_sizes strings_renumber   T4: equal strings, so equal sizes and a renumbering ..
--   renumber_strings                 .. and back
--   renumber_corners renumber_vertices   there is only one renumbering, ..
--   corners_by_walk                  .. which the two walk tables show
use mathlib.Core.Bool.{◌&&◌, true}
use mathlib.Core.List.{List}
use mathlib.Core.Path.{◌∙◌, ◌≡◌, ap, sym}
use Prim.Native.Nat.{◌%◌, ◌*◌, ◌/◌, ◌<◌, ℕ}
use native.Mathlib.Omega.{arith}
use lib.Dec.{eqb}
use lib.ListN.{length}
use borrow.Author.Tests.{eqb-true}
use Rattle.theory.proofs.Renumbered.{corner_at, corner_map, equal_strings, only_corners, only_vertices, renumbered, same_t, same_v, vertex_map}
use Rattle.theory.proofs.RoundTrip.{Round, round, round_closes, round_renumbers}
use Rattle.theory.proofs.TestLaws.{and_left, and_right}
use Rattle.theory.proofs.WholeRun.{length_corners, length_letters}
use Rattle.theory.proofs.WordLaws.{word_of_spell}
use Rattle.theory.specs.Answer.{count_ok}
use Rattle.theory.specs.Corner.{opposite, vertex}
use Rattle.theory.specs.Mesh.{Accepted, shape_ok}
use Rattle.theory.specs.Renumber.{Renumbering, by_walk}
use Rattle.theory.specs.Tables.{table_o, table_v}
use Rattle.theory.specs.Walk.{corners_of, letters_of, mesh_walk}
use Rattle.theory.specs.Word.{Closes, word_of}

shape_length : (vs os : List ℕ) → shape_ok vs os ≡ true → length vs ≡ 3 * (length vs / 3)
unfolding shape_ok
shape_length vs os h =
    let fits = count_ok (length vs / 3) in
    let rest = and_right (eqb (length vs) (length os)) (eqb (length vs % 3) 0 && fits) h in
    let e = eqb-true (length vs % 3) 0 (and_left (eqb (length vs % 3) 0) fits rest) in
    omega arith

module _ {vs os : List ℕ} {v g : ℕ} (m : Accepted vs os v g) where
  pub mesh_round : Round (vertex vs) (opposite os) (length vs / 3) v g (mesh_walk vs os g)
  unfolding mesh_walk
  mesh_round = round m.sphere

  pub mesh_closes : Closes (letters_of (mesh_walk vs os g))
  mesh_closes = round_closes mesh_round

  -- what is read back from the string
  pub mesh_renumbers : let w = word_of (letters_of (mesh_walk vs os g)) in
      Renumbering (vertex (table_v w)) (opposite (table_o w)) (vertex vs) (opposite os) (length vs / 3) v 0 g
      (by_walk (corners_of (mesh_walk vs os g))) mesh_round.name
  mesh_renumbers =
      let e = ap word_of (sym mesh_round.spelt) ∙ word_of_spell mesh_round.word in
      rw e (round_renumbers mesh_round)

  pub letters_length : length (letters_of (mesh_walk vs os g)) ≡ length vs / 3
  letters_length = length_letters (mesh_walk vs os g) ∙ mesh_round.long

  pub corners_length : length (corners_of (mesh_walk vs os g)) ≡ length vs / 3
  corners_length = length_corners (mesh_walk vs os g) ∙ mesh_round.long

module _ {vs os vs' os' : List ℕ} {v g v' g' : ℕ} (m : Accepted vs os v g) (m' : Accepted vs' os' v' g') where
  abbrev pub SameString : Type 0
  SameString = letters_of (mesh_walk vs os g) ≡ letters_of (mesh_walk vs' os' g')

  abbrev pub SameMesh : (ℕ → ℕ) → (ℕ → ℕ) → Type 0
  SameMesh h a = Renumbering (vertex vs) (opposite os) (vertex vs') (opposite os') (length vs / 3) v g g' h a

  -- the renumbering
  unfoldable pub mesh_corners : ℕ → ℕ
  mesh_corners = corner_map (mesh_round m) (mesh_round m')

  unfoldable pub mesh_vertices : ℕ → ℕ
  mesh_vertices = vertex_map (mesh_round m) (mesh_round m')

  pub corners_by_walk : (x : ℕ)
      → mesh_corners (by_walk (corners_of (mesh_walk vs os g)) x) ≡ by_walk (corners_of (mesh_walk vs' os' g')) x
  unfolding mesh_corners
  corners_by_walk = corner_at (mesh_round m) (mesh_round m')

  pub strings_sizes : SameString → (length vs ≡ length vs') × (v ≡ v')
  strings_sizes s =
      let a = same_t (mesh_round m) (mesh_round m') s in
      let b = shape_length vs os m.shape in
      let d = shape_length vs' os' m'.shape in
      (omega arith, same_v (mesh_round m) (mesh_round m') s)

  pub strings_renumber : SameString → SameMesh mesh_corners mesh_vertices
  unfolding mesh_corners mesh_vertices
  strings_renumber s = renumbered (mesh_round m) (mesh_round m') s

  module _ (n : length vs ≡ length vs') {h a : ℕ → ℕ} (iso : SameMesh h a) where
    pub renumber_strings : SameString
    unfolding mesh_walk
    renumber_strings = equal_strings m.sphere m'.sphere (omega arith) iso

    pub renumber_corners : (c : ℕ) → c < 3 * (length vs / 3) → h c ≡ mesh_corners c
    unfolding mesh_corners mesh_round
    renumber_corners = only_corners m.sphere m'.sphere (omega arith) iso

    pub renumber_vertices : (u : ℕ) → u < v → a u ≡ mesh_vertices u
    unfolding mesh_vertices mesh_round
    renumber_vertices = only_vertices m.sphere m'.sphere (omega arith) iso
