-- What the calls hand to their inner parts, past the checks 1 and 2, and get back.
--
--   ReadRoom WriteRoom         the sizes fit
--   ReadLetters WriteLetters   the answer of the later checks, the outputs, and the work space all zero
use Rattle.std.specs.Prelude.{List, ◌≡◌, ◌*◌, ◌/◌, ◌≤◌, ℕ, length, replicate}
use Rattle.theory.specs.Answer.{done, first_broken}
use Rattle.theory.specs.Calls.{filled}
use Rattle.theory.specs.Judge.{letter_answer}
use Rattle.theory.specs.Mesh.{mesh_rungs}
use Rattle.theory.specs.Tables.{table_o, table_v}
use Rattle.theory.specs.Walk.{corners_of, letters_of, mesh_walk}
use Rattle.theory.specs.Word.{word_of}
use Rattle.theory.specs.Answer.{Answer}

pub record ReadRoom (s vs os work : List ℕ) : Type 0 where
  pub some : 2 ≤ length s
  pub few : length s ≤ 65536
  pub vertices : 3 * length s ≤ length vs
  pub neighbours : 3 * length s ≤ length os
  pub room : 12 * length s ≤ length work

pub record ReadLetters (s vs os work : List ℕ) (a : Answer) (vs' os' work' : List ℕ) : Type 0 where
  pub answer : a ≡ letter_answer s
  pub vertices : vs' ≡ filled a (table_v (word_of s)) vs
  pub neighbours : os' ≡ filled a (table_o (word_of s)) os
  pub space : work' ≡ replicate (length work) 0

pub record WriteRoom (vs letters walk work : List ℕ) : Type 0 where
  pub string : length vs / 3 ≤ length letters
  pub table : length vs / 3 ≤ length walk
  pub room : 12 * (length vs / 3) ≤ length work

pub record WriteLetters (vs os : List ℕ) (v g : ℕ) (letters walk work : List ℕ) (a : Answer)
    (letters' walk' work' : List ℕ) : Type 0 where
  pub answer : a ≡ first_broken (mesh_rungs vs os v g) (done (length vs / 3) v)
  pub string : letters' ≡ filled a (letters_of (mesh_walk vs os g)) letters
  pub table : walk' ≡ filled a (corners_of (mesh_walk vs os g)) walk
  pub space : work' ≡ replicate (length work) 0
