-- The demands as promises of functions: what a demand's sentence says of the answers and tables that came out.
--
--   Returned      reading a string and writing it from corner 0 returns that string
--   ReadBack      writing a mesh and reading it returns the mesh, renumbered by the walk table
--   RecordReturned   a record read and written again comes back byte for byte
--   Compared      strings are equal exactly when a renumbering exists; then the two walk tables show it
use Rattle.std.specs.Prelude.{Bool, true, List, ◌++◌, ◌≡◌, ◌/◌, ◌<◌, ◌≤◌, ℕ, drop, length, take}
use Rattle.record.specs.Calls.{open_answer, opened, packed}
use Rattle.record.specs.Lines.{gate_line, letters}
use Rattle.record.specs.Calls.{Opened}
use Rattle.record.specs.Calls.{Packed}
use Rattle.theory.proofs.WordSteps.{tip_corners}
use Rattle.theory.specs.Calls.{read_answer, write_answer}
use Rattle.theory.specs.Corner.{opposite, vertex}
use Rattle.theory.specs.Judge.{string_done}
use Rattle.theory.specs.Renumber.{Renumbering, by_walk}
use Rattle.theory.specs.Answer.{Answer}

-- s was read with answer a and its tables were written with answer b into letters and walk
pub record Returned (s vs os letters walk work : List ℕ) (a b : Answer) (letters' walk' : List ℕ) : Type 0 where
  pub read : a ≡ read_answer s (length vs) (length os) (length work)
  pub returns : a.number ≡ 0 → length s ≤ length letters → length s ≤ length walk
      → (b ≡ a) × (letters' ≡ s ++ drop (length s) letters) × (walk' ≡ tip_corners (length s) ++ drop (length s) walk)

-- the mesh was written with answer a, and its string was read with answer b into vs' and os', lent as vs₀ and os₀
pub record ReadBack (vs os : List ℕ) (v g : ℕ) (letters walk vs₀ os₀ work : List ℕ) (a b : Answer)
    (walk' vs' os' : List ℕ) : Type 0 where
  pub written : a ≡ write_answer vs os v g (length letters) (length walk) (length work)
  pub returns : a.number ≡ 0 → length vs ≤ length vs₀ → length os ≤ length os₀
      → (b ≡ a) × ((name : ℕ → ℕ)
      × Renumbering (vertex (take (length vs) vs')) (opposite (take (length os) os')) (vertex vs) (opposite os)
      (length vs / 3) v 0 g (by_walk (take (length vs / 3) walk')) name)

-- two meshes were written with answers a and b, and their strings compared
pub record Compared (vs os : List ℕ) (v g : ℕ) (vs' os' : List ℕ) (v' g' : ℕ) (a b : Answer) (same : Bool)
    (walk walk' : List ℕ) : Type 0 where
  -- equal strings: one mesh but for its numbers, by the two walk tables
  pub shown : a.number ≡ 0 → b.number ≡ 0 → same ≡ true
      → (length vs ≡ length vs') × (v ≡ v') × ((h : ℕ → ℕ) × (n : ℕ → ℕ)
      × Renumbering (vertex vs) (opposite os) (vertex vs') (opposite os') (length vs / 3) v g g' h n
      × ((x : ℕ) → x < length vs → h (by_walk (take (length vs / 3) walk) x) ≡ by_walk (take (length vs / 3) walk') x))
  -- a renumbering: equal strings
  pub found : a.number ≡ 0 → b.number ≡ 0 → length vs ≡ length vs' → (h n : ℕ → ℕ)
      → Renumbering (vertex vs) (opposite os) (vertex vs') (opposite os') (length vs / 3) v g g' h n → same ≡ true
  -- and there is no other
  pub only : a.number ≡ 0 → b.number ≡ 0 → length vs ≡ length vs' → (h n k m : ℕ → ℕ)
      → Renumbering (vertex vs) (opposite os) (vertex vs') (opposite os') (length vs / 3) v g g' h n
      → Renumbering (vertex vs) (opposite os) (vertex vs') (opposite os') (length vs / 3) v g g' k m
      → ((c : ℕ) → c < length vs → h c ≡ k c) × ((u : ℕ) → u < v → n u ≡ m u)

-- text was read as a record with answer r, and its string and gate were written with answer p into out
pub record RecordReturned (text vs os work out : List ℕ) (r : Opened) (p : Packed) (out' : List ℕ) : Type 0 where
  pub read : r ≡ opened (open_answer text (length vs) (length os) (length work)) (gate_line text).value
  pub returns : r.number ≡ 0 → length text ≤ length out
      → (p ≡ packed (string_done (letters text)) (length text)) × (take (length text) out' ≡ text)
