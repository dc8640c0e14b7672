-- Demand 2, from the promises of read_string and write_string alone.
--
--   first_part      the first entries of a filled table are what was made
--   read_refused    nothing is promised of a string that is refused
--   read_returned   a string read and written from corner 0
use mathlib.Core.List.{List, ◌++◌}
use mathlib.Core.Logic.{◌≢◌}
use mathlib.Core.Path.{◌∙◌, ◌≡◌, ap, refl, sym}
use Prim.Native.Nat.{◌*◌, ◌+◌, ◌/◌, ◌≤◌, ℕ}
use native.Mathlib.Omega.{arith}
use lib.ListN.{drop, length, length-replicate, take}
use lib.Seq.{take-append_seam}
use Rattle.promises.specs.Demands.{Returned}
use Rattle.theory.proofs.CallLaws.{cleared_later, filled_done}
use Rattle.theory.proofs.CallsDone.{ReadDone, read_done, write_goes}
use Rattle.theory.proofs.Closing.{closes_word}
use Rattle.theory.proofs.ReadMesh.{closes_accepted, walk_returns}
use Rattle.theory.proofs.WordLaws.{length_spell}
use Rattle.theory.proofs.WordSteps.{length_tips, tip_corners}
use Rattle.theory.proofs.WordTables.{length_o, length_v}
use Rattle.theory.specs.Answer.{done}
use Rattle.theory.specs.Calls.{Reads, Writes, cleared, filled}
use Rattle.theory.specs.Judge.{string_done}
use Rattle.theory.specs.Lists.{mem}
use Rattle.theory.specs.Tables.{table_o, table_v}
use Rattle.theory.specs.Walk.{corners_of, letters_of, mesh_walk}
use Rattle.theory.specs.Word.{size, spell, word_of}
use Rattle.theory.specs.Answer.{Answer}

-- the part of a filled table that was made
pub first_part : (a : Answer) (made old : List ℕ) {tab : List ℕ} (n : ℕ) → a.number ≡ 0 → tab ≡ filled a made old
    → length made ≡ n
    → take n tab ≡ made
first_part a made old n h e m =
    ap (take n) (e ∙ filled_done a made old h) ∙ rw (← m) (take-append_seam made (drop (length made) old))

module _ {s vs os work vs' os' work' : List ℕ} {a : Answer} (r : Reads s vs os work a vs' os' work') where
  -- what read_string answering done says
  pub read_was_done : a.number ≡ 0 → ReadDone s (length vs) (length os) (length work)
  read_was_done h =
      read_done s (length vs) (length os) (length work) (ap (λ (x : Answer). x.number) (sym r.answer) ∙ h)

  module _ (h : a.number ≡ 0) where
    pub read_size : size (word_of s) ≡ length s
    read_size =
        let c = (read_was_done h).closes in
        rw (← closes_word s c) (sym (length_spell c.word) ∙ ap length c.spelt)

    pub read_vertices : take (3 * length s) vs' ≡ table_v (word_of s)
    read_vertices =
        first_part a (table_v (word_of s)) vs (3 * length s) h r.vertices
        (length_v (word_of s) ∙ ap (λ (n : ℕ). 3 * n) read_size)

    pub read_neighbours : take (3 * length s) os' ≡ table_o (word_of s)
    read_neighbours =
        first_part a (table_o (word_of s)) os (3 * length s) h r.neighbours
        (length_o (word_of s) ∙ ap (λ (n : ℕ). 3 * n) read_size)

    pub read_counts : a ≡ string_done s
    read_counts = r.answer ∙ (read_was_done h).answer

    -- the work space keeps its length
    pub read_space : length work' ≡ length work
    unfolding cleared mem
    read_space = ap length (r.space ∙ cleared_later a work (rw h refl)) ∙ length-replicate {A = ℕ} (length work) 0

  pub read_refused : {letters walk letters' walk' : List ℕ} {b : Answer} → a.number ≢ 0
      → Returned s vs os letters walk work a b letters' walk'
  read_refused h = record { read = r.answer; returns = λ e p q. absurd (h e) }

  pub read_returned :
      {letters walk letters' walk' work'' : List ℕ} {b : Answer}
      → (a.number ≡ 0
      → Writes (take (3 * length s) vs') (take (3 * length s) os') a.v 0 letters walk work' b letters' walk' work'')
      → Returned s vs os letters walk work a b letters' walk'
  read_returned {letters} {walk} {letters'} {walk'} {work''} {b} wrote = record { read = r.answer; returns = go }
    where
      go : a.number ≡ 0 → length s ≤ length letters → length s ≤ length walk
          → (b ≡ a) × (letters' ≡ s ++ drop (length s) letters)
          × (walk' ≡ tip_corners (length s) ++ drop (length s) walk)
      go h p q =
          let d = read_was_done h in
          let w = word_of s in
          let v = length s / 2 + 2 in
          let made : Writes (table_v w) (table_o w) v 0 letters walk work' b letters' walk' work'' =
          rw (read_vertices h, read_neighbours h, read_counts h) at (wrote h) in
          let m : length (table_v w) / 3 ≡ length s = rw (length_v w, read_size h) (omega arith) in
          let room = d.room in
          let same = read_space h in
          let c = d.closes in
          let word : c.word ≡ w = closes_word s c in
          let back = walk_returns w (rw (← word) c.sound) (rw (← word) c.two) in
          let spelt : spell w ≡ s = rw (← word) c.spelt in
          let ans : b ≡ done (length s) v =
          made.answer
          ∙ write_goes (table_v w) (table_o w) v 0 (length letters) (length walk) (length work')
          (closes_accepted s c d.count) (omega arith) (omega arith) (omega arith)
          ∙ rw m in
          let zero = ap (λ (x : Answer). x.number) ans in (
            ans ∙ sym (read_counts h),
            made.string ∙ filled_done b (letters_of (mesh_walk (table_v w) (table_o w) 0)) letters zero
                ∙ rw (back.0, spelt),
            made.table ∙ filled_done b (corners_of (mesh_walk (table_v w) (table_o w) 0)) walk zero
                ∙ rw (back.1, read_size h, length_tips 0 (length s)),
          )
