-- What was asked, theorem by theorem: each is stated whole, on the definitions of theory/specs, and proved by citing
-- what theory has. docs/PROMISES.md has the demand's own words beside each name.
--
--   demand_1_settled         two answers for one input are equal, and so are the tables and the work space
--   demand_2_closes          a string is read exactly if it closes: one word, of width 2
--   demand_2_verdict         and else refused by number and place, exactly as document 01's table says
--   demand_2_mesh            the tables read are a mesh, accepted from corner 0
--   demand_2_string          and written from corner 0 they return the string, at the corners 0, 3, 6, ..
--   demand_2_accepted        a mesh is accepted exactly if it has document 01's properties
--   demand_2_written         writing an accepted mesh gives t letters that close, and t walk entries
--   demand_2_read_back       and reading them returns the mesh, renumbered by the walk table
--   demand_3_equal           equal strings: a renumbering carries one mesh onto the other, gate to gate
--   demand_3_renumbered      a renumbering: equal strings
--   demand_3_only            there is just one, and the two walk tables show it
use mathlib.Core.Bool.{true}
use mathlib.Core.List.{List}
use mathlib.Core.Path.{◌∙◌, ◌≡◌, ap, sym}
use Prim.Native.Nat.{◌*◌, ◌+◌, ◌/◌, ◌<◌, ℕ}
use lib.ListN.{length}
use Rattle.theory.proofs.Closing.{answer_closes, closes_answer}
use Rattle.theory.proofs.MeshMeaning.{accepted, accepts}
use Rattle.theory.proofs.MeshStrings.{corners_by_walk, corners_length, letters_length, mesh_closes, mesh_renumbers, mesh_round, mesh_corners, mesh_vertices, renumber_corners, renumber_strings, renumber_vertices, strings_renumber, strings_sizes}
use Rattle.theory.proofs.ReadMesh.{closes_accepted, walk_returns}
use Rattle.theory.proofs.Verdict.{Verdict, verdict, verdict_only}
use Rattle.theory.proofs.WordSteps.{tip_corners}
use Rattle.theory.specs.Answer.{count_ok, done}
use Rattle.theory.specs.Calls.{Reads, Writes, cleared, filled, sizes}
use Rattle.theory.specs.Corner.{opposite, vertex}
use Rattle.theory.specs.Judge.{letter_answer, string_done}
use Rattle.theory.specs.Mesh.{Accepted, mesh_answer}
use Rattle.theory.specs.Renumber.{Renumbering, by_walk}
use Rattle.theory.specs.Tables.{table_o, table_v}
use Rattle.theory.specs.Walk.{corners_of, letters_of, mesh_walk}
use Rattle.theory.specs.Word.{Closes, Sound, Word, size, spell, width, word_of}
use Rattle.theory.specs.Answer.{Answer}

pub demand_1_settled : {s vs os work vs' os' work' vs'' os'' work'' : List ℕ} {a b : Answer}
    → Reads s vs os work a vs' os' work' → Reads s vs os work b vs'' os'' work''
    → (a ≡ b) × (vs' ≡ vs'') × (os' ≡ os'') × (work' ≡ work'')
demand_1_settled {s} {vs} {os} {work} r q =
    let e = r.answer ∙ sym q.answer in (
      e,
      r.vertices ∙ ap (λ (x : Answer). filled x (table_v (word_of s)) vs) e ∙ sym q.vertices,
      r.neighbours ∙ ap (λ (x : Answer). filled x (table_o (word_of s)) os) e ∙ sym q.neighbours,
      r.space ∙ ap (λ (x : Answer). cleared sizes x work) e ∙ sym q.space,
    )

pub demand_1_written_settled : {vs os letters walk work letters' walk' work' letters'' walk'' work'' : List ℕ} {v g : ℕ} {a b : Answer}
    → Writes vs os v g letters walk work a letters' walk' work'
    → Writes vs os v g letters walk work b letters'' walk'' work''
    → (a ≡ b) × (letters' ≡ letters'') × (walk' ≡ walk'') × (work' ≡ work'')
demand_1_written_settled {vs} {os} {letters} {walk} {work} {g = g} r q =
    let e = r.answer ∙ sym q.answer in (
      e,
      r.string ∙ ap (λ (x : Answer). filled x (letters_of (mesh_walk vs os g)) letters) e ∙ sym q.string,
      r.table ∙ ap (λ (x : Answer). filled x (corners_of (mesh_walk vs os g)) walk) e ∙ sym q.table,
      r.space ∙ ap (λ (x : Answer). cleared sizes x work) e ∙ sym q.space,
    )

pub demand_2_closes : (s : List ℕ)
    → ((letter_answer s).number ≡ 0 → Closes s) × (Closes s → letter_answer s ≡ string_done s)
demand_2_closes s = (answer_closes s, closes_answer s)

pub demand_2_verdict : (s : List ℕ) → Verdict s (letter_answer s) × ((a : Answer) → Verdict s a → a ≡ letter_answer s)
demand_2_verdict s = (verdict s, verdict_only s)

pub demand_2_mesh : (s : List ℕ) → Closes s → count_ok (length s) ≡ true
    → mesh_answer (table_v (word_of s)) (table_o (word_of s)) (length s / 2 + 2) 0 true
    ≡ done (length (table_v (word_of s)) / 3) (length s / 2 + 2)
demand_2_mesh s c ok = accepts (table_v (word_of s)) (table_o (word_of s)) (length s / 2 + 2) 0 (closes_accepted s c ok)

pub demand_2_string : (w : Word) → Sound w → width w ≡ 2
    → (letters_of (mesh_walk (table_v w) (table_o w) 0) ≡ spell w)
    × (corners_of (mesh_walk (table_v w) (table_o w) 0) ≡ tip_corners (size w))
demand_2_string = walk_returns

pub demand_2_accepted : (vs os : List ℕ) (v g : ℕ)
    → ((mesh_answer vs os v g true).number ≡ 0 → Accepted vs os v g)
    × (Accepted vs os v g → mesh_answer vs os v g true ≡ done (length vs / 3) v)
demand_2_accepted vs os v g = (accepted vs os v g true, accepts vs os v g)

module _ {vs os : List ℕ} {v g : ℕ} (m : Accepted vs os v g) where
  pub demand_2_written : Closes (letters_of (mesh_walk vs os g))
      × (length (letters_of (mesh_walk vs os g)) ≡ length vs / 3)
      × (length (corners_of (mesh_walk vs os g)) ≡ length vs / 3)
  demand_2_written = (mesh_closes m, letters_length m, corners_length m)

  pub demand_2_read_back : let w = word_of (letters_of (mesh_walk vs os g)) in
      (name : ℕ → ℕ) × Renumbering (vertex (table_v w)) (opposite (table_o w)) (vertex vs) (opposite os) (length vs / 3)
      v 0 g
      (by_walk (corners_of (mesh_walk vs os g))) name
  demand_2_read_back = ((mesh_round m).name, mesh_renumbers m)

module _ {vs os vs' os' : List ℕ} {v g v' g' : ℕ} (m : Accepted vs os v g) (m' : Accepted vs' os' v' g') where
  pub demand_3_equal : letters_of (mesh_walk vs os g) ≡ letters_of (mesh_walk vs' os' g')
      → (length vs ≡ length vs') × (v ≡ v')
      × Renumbering (vertex vs) (opposite os) (vertex vs') (opposite os') (length vs / 3) v g g' (mesh_corners m m')
      (mesh_vertices m m')
  demand_3_equal s = let n = strings_sizes m m' s in (n.0, n.1, strings_renumber m m' s)

  pub demand_3_renumbered : length vs ≡ length vs' → (h a : ℕ → ℕ)
      → Renumbering (vertex vs) (opposite os) (vertex vs') (opposite os') (length vs / 3) v g g' h a
      → letters_of (mesh_walk vs os g) ≡ letters_of (mesh_walk vs' os' g')
  demand_3_renumbered n h a r = renumber_strings m m' n r

  pub demand_3_only : length vs ≡ length vs' → (h a : ℕ → ℕ)
      → Renumbering (vertex vs) (opposite os) (vertex vs') (opposite os') (length vs / 3) v g g' h a
      → ((c : ℕ) → c < 3 * (length vs / 3) → h c ≡ mesh_corners m m' c) × ((u : ℕ) → u < v → a u ≡ mesh_vertices m m' u)
      × ((x : ℕ) → mesh_corners m m' (by_walk (corners_of (mesh_walk vs os g)) x) ≡ by_walk (corners_of (mesh_walk vs' os' g'))
      x)
  demand_3_only n h a r = (renumber_corners m m' n r, renumber_vertices m m' n r, corners_by_walk m m')
