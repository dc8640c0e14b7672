-- What the calls of the connectivity part do with what they are lent (document 01, "Numbers of an answer").
--
--   filled a made old    an output after the answer a: what was made, later entries kept; as it came after a refusal
--   cleared keep a work  the work space after the answer a: untouched by the refusals keep, else zero, its whole length
--   Judges Reads         the promises of judge_string and read_string, field by field
--   Checks Writes        the promises of check_mesh and write_string
use Rattle.std.specs.Prelude.{◌≡◌, cond, ◌&&◌, List, [], ◌∷◌, ◌++◌, ℕ, ◌*◌, ◌/◌, eqb, leb, length, drop, replicate}
use Rattle.theory.specs.Answer.{Answer}
use Rattle.theory.specs.Lists.{mem}
use Rattle.theory.specs.Word.{word_of}
use Rattle.theory.specs.Judge.{string_answer}
use Rattle.theory.specs.Tables.{table_v, table_o}
use Rattle.theory.specs.Mesh.{mesh_answer}
use Rattle.theory.specs.Walk.{mesh_walk, letters_of, corners_of}

unfoldable pub filled : Answer → List ℕ → List ℕ → List ℕ
filled a made old = cond (eqb a.number 0) (made ++ drop (length made) old) old

unfoldable pub cleared : List ℕ → Answer → List ℕ → List ℕ
cleared keep a work = cond (mem a.number keep) work (replicate (length work) 0)

-- the refusals that leave the work space alone
abbrev pub sizes : List ℕ
sizes = 1 ∷ 2 ∷ []

-- k is the length of the work space
unfoldable pub judge_answer : List ℕ → ℕ → Answer
judge_answer s k = string_answer s (leb (12 * length s) k)

pub record Judges (s work : List ℕ) (a : Answer) (work' : List ℕ) : Type 0 where
  pub answer : a ≡ judge_answer s (length work)
  pub space : work' ≡ cleared sizes a work

-- n and m are the lengths of the lent tables, k that of the work space
unfoldable pub read_answer : List ℕ → ℕ → ℕ → ℕ → Answer
read_answer s n m k =
    string_answer s (leb (3 * length s) n && (leb (3 * length s) m && leb (12 * length s) k))

pub record Reads (s vs os work : List ℕ) (a : Answer) (vs' os' work' : List ℕ) : Type 0 where
  pub answer : a ≡ read_answer s (length vs) (length os) (length work)
  pub vertices : vs' ≡ filled a (table_v (word_of s)) vs
  pub neighbours : os' ≡ filled a (table_o (word_of s)) os
  pub space : work' ≡ cleared sizes a work

unfoldable pub check_answer : List ℕ → List ℕ → ℕ → ℕ → ℕ → Answer
check_answer vs os v g k = mesh_answer vs os v g (leb (12 * (length vs / 3)) k)

pub record Checks (vs os : List ℕ) (v g : ℕ) (work : List ℕ) (a : Answer) (work' : List ℕ) : Type 0 where
  pub answer : a ≡ check_answer vs os v g (length work)
  pub space : work' ≡ cleared sizes a work

-- n and m are the lengths of the lent letters and walk table
unfoldable pub write_answer : List ℕ → List ℕ → ℕ → ℕ → ℕ → ℕ → ℕ → Answer
write_answer vs os v g n m k =
    mesh_answer vs os v g (leb (length vs / 3) n && (leb (length vs / 3) m && leb (12 * (length vs / 3)) k))

pub record Writes (vs os : List ℕ) (v g : ℕ) (letters walk work : List ℕ) (a : Answer)
    (letters' walk' work' : List ℕ) : Type 0 where
  pub answer : a ≡ write_answer vs os v g (length letters) (length walk) (length work)
  pub string : letters' ≡ filled a (letters_of (mesh_walk vs os g)) letters
  pub table : walk' ≡ filled a (corners_of (mesh_walk vs os g)) walk
  pub space : work' ≡ cleared sizes a work
