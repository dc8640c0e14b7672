-- Demand 2, the other way: a mesh written and read back, from the promises of write_string and read_string alone.
--
--   write_was_done     what write_string answering done says
--   written_refused    nothing is promised of a mesh that is refused
--   written_returned   a mesh written, and its string read
use mathlib.Core.Bool.{◌&&◌, true}
use mathlib.Core.List.{List}
use mathlib.Core.Logic.{◌≢◌}
use mathlib.Core.Path.{◌∙◌, ◌≡◌, ap, refl, sym}
use Prim.Native.Nat.{◌%◌, ◌*◌, ◌+◌, ◌/◌, ◌≤◌, ℕ}
use native.Mathlib.Omega.{arith}
use lib.Dec.{eqb}
use lib.ListN.{length, length-replicate, take}
use borrow.Author.Tests.{eqb-true}
use Rattle.promises.proofs.Returns.{first_part, read_neighbours, read_vertices}
use Rattle.promises.specs.Demands.{ReadBack}
use Rattle.theory.proofs.CallLaws.{cleared_later}
use Rattle.theory.proofs.CallsDone.{WriteDone, read_goes, write_done}
use Rattle.theory.proofs.MeshStrings.{corners_length, letters_length, mesh_closes, mesh_renumbers, mesh_round}
use Rattle.theory.proofs.Reading.{read}
use Rattle.theory.proofs.TestLaws.{and_left, and_right}
use Rattle.theory.specs.Answer.{count_ok, done}
use Rattle.theory.specs.Calls.{Reads, Writes, cleared}
use Rattle.theory.specs.Corner.{opposite, vertex}
use Rattle.theory.specs.Judge.{string_done}
use Rattle.theory.specs.Lists.{mem}
use Rattle.theory.specs.Mesh.{shape_ok}
use Rattle.theory.specs.Renumber.{Renumbering, by_walk}
use Rattle.theory.specs.Tables.{table_o, table_v}
use Rattle.theory.specs.Walk.{corners_of, letters_of, mesh_walk}
use Rattle.theory.specs.Word.{word_of}
use Rattle.theory.specs.Answer.{Answer}

-- what number 1 leaves of the lengths
pub lengths_of : (vs os : List ℕ) → shape_ok vs os ≡ true
    → (length vs ≡ length os) × (length vs ≡ 3 * (length vs / 3)) × (count_ok (length vs / 3) ≡ true)
unfolding shape_ok
lengths_of vs os h =
    let count = count_ok (length vs / 3) in
    let rest = and_right (eqb (length vs) (length os)) (eqb (length vs % 3) 0 && count) h in
    let same =
    eqb-true (length vs) (length os) (and_left (eqb (length vs) (length os)) (eqb (length vs % 3) 0 && count) h) in
    let thirds = eqb-true (length vs % 3) 0 (and_left (eqb (length vs % 3) 0) count rest) in
    (same, omega arith, and_right (eqb (length vs % 3) 0) count rest)

module _ {vs os letters walk work letters' walk' work' : List ℕ} {v g : ℕ} {a : Answer}
    (w : Writes vs os v g letters walk work a letters' walk' work') where
  pub write_was_done : a.number ≡ 0 → WriteDone vs os v g (length letters) (length walk) (length work)
  write_was_done h =
      write_done vs os v g (length letters) (length walk) (length work)
      (ap (λ (x : Answer). x.number) (sym w.answer) ∙ h)

  module _ (h : a.number ≡ 0) where
    pub written_string : take (length vs / 3) letters' ≡ letters_of (mesh_walk vs os g)
    written_string =
        first_part a (letters_of (mesh_walk vs os g)) letters (length vs / 3) h w.string
        (letters_length (write_was_done h).mesh)

    pub written_table : take (length vs / 3) walk' ≡ corners_of (mesh_walk vs os g)
    written_table =
        first_part a (corners_of (mesh_walk vs os g)) walk (length vs / 3) h w.table
        (corners_length (write_was_done h).mesh)

    pub write_counts : a ≡ done (length vs / 3) v
    write_counts = w.answer ∙ (write_was_done h).answer

    pub write_space : length work' ≡ length work
    unfolding cleared mem
    write_space = ap length (w.space ∙ cleared_later a work (rw h refl)) ∙ length-replicate {A = ℕ} (length work) 0

  pub written_refused : {vs₀ os₀ vs' os' : List ℕ} {b : Answer} → a.number ≢ 0
      → ReadBack vs os v g letters walk vs₀ os₀ work a b walk' vs' os'
  written_refused h = record { written = w.answer; returns = λ e p q. absurd (h e) }

  pub written_returned :
      {vs₀ os₀ vs' os' work'' : List ℕ} {b : Answer}
      → (a.number ≡ 0 → Reads (take (length vs / 3) letters') vs₀ os₀ work' b vs' os' work'')
      → ReadBack vs os v g letters walk vs₀ os₀ work a b walk' vs' os'
  written_returned {vs₀} {os₀} {vs'} {os'} {work''} {b} read = record { written = w.answer; returns = go }
    where
      go : a.number ≡ 0 → length vs ≤ length vs₀ → length os ≤ length os₀
          → (b ≡ a) × ((name : ℕ → ℕ)
          × Renumbering (vertex (take (length vs) vs')) (opposite (take (length os) os')) (vertex vs) (opposite os)
          (length vs / 3) v 0 g (by_walk (take (length vs / 3) walk')) name)
      go h p q =
          let d = write_was_done h in
          let m = d.mesh in
          let s = letters_of (mesh_walk vs os g) in
          let made : Reads s vs₀ os₀ work' b vs' os' work'' = rw (written_string h) at (read h) in
          let len : length s ≡ length vs / 3 = letters_length m in
          let shape = lengths_of vs os m.shape in
          let thirds : length vs ≡ 3 * (length vs / 3) = shape.1 in
          let same : length vs ≡ length os = shape.0 in
          let euler = m.sphere.euler in
          let room = d.room in
          let space = write_space h in
          let counts : string_done s ≡ done (length vs / 3) v =
          let e : length s / 2 + 2 ≡ v = omega arith in rw (e, len) in
          let ans : b ≡ string_done s =
          made.answer
          ∙ read_goes s (length vs₀) (length os₀) (length work') (rw len shape.2) (mesh_closes m)
          (omega arith) (omega arith) (omega arith) in
          let zero = ap (λ (x : Answer). x.number) ans in
          let nv : 3 * length s ≡ length vs = omega arith in
          let no : 3 * length s ≡ length os = omega arith in
          let tv : take (length vs) vs' ≡ table_v (word_of s) = rw (← nv) (read_vertices made zero) in
          let to : take (length os) os' ≡ table_o (word_of s) = rw (← no) (read_neighbours made zero) in
          (ans ∙ counts ∙ sym (write_counts h), ((mesh_round m).name, rw (tv, to, written_table h) (mesh_renumbers m)))
