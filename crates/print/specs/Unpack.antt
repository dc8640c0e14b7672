-- What the program unpack prints (document 01, "Program and worked examples").
--
--   unpack_answer bytes   the checks of a record, with the program's limits: over 2,048 bytes is 2 at 0 before anything
--                        else,
--                        over 800 triangles is 2 at 0 where check 2 stands
--   unpack_text bytes     the counts and the gate, then a line for each triangle; or the refusal
--   ready                the tables, the work space and the buffer are those of 800 triangles
--   Unpacks              the promise of unpack, field by field
use Rattle.std.specs.Prelude.{Bool, ◌&&◌, cond, List, [], ◌++◌, ◌∷◌, ◌≡◌, ◌≤◌, ℕ, eqb, leb, length}
use Rattle.print.specs.Printed.{counts_line, refusal_line, triangle_lines}
use Rattle.record.specs.Calls.{early, open_rungs}
use Rattle.record.specs.Lines.{gate_line, letters}
use Rattle.text.specs.Put.{put}
use Rattle.theory.specs.Answer.{Answer, first_broken, refused, whole}
use Rattle.theory.specs.Calls.{cleared, filled}
use Rattle.theory.specs.Judge.{string_done}
use Rattle.theory.specs.Tables.{table_o, table_v}
use Rattle.theory.specs.Word.{word_of}

abbrev pub byte_limit : ℕ
byte_limit = 2048

abbrev pub triangle_limit : ℕ
triangle_limit = 800

unfoldable pub unpack_answer : List ℕ → Answer
unpack_answer bytes =
    first_broken (whole 2 (leb (length bytes) byte_limit) ∷ open_rungs bytes
    (leb (length (letters bytes)) triangle_limit)) (string_done (letters bytes))

abbrev pub mesh_text : Answer → ℕ → List ℕ → List ℕ → List ℕ
mesh_text a gate vs os = counts_line a.t a.v gate ++ triangle_lines vs os a.t

-- the text of an answer, s being the letters and gate the gate that were read
unfoldable pub answer_text : Answer → ℕ → List ℕ → List ℕ
answer_text a gate s =
    cond (eqb a.number 0) (mesh_text a gate (table_v (word_of s)) (table_o (word_of s)))
    (refusal_line a.number a.place)

unfoldable pub unpack_text : List ℕ → List ℕ
unpack_text bytes = answer_text (unpack_answer bytes) (gate_line bytes).value (letters bytes)

-- room for the counts and 800 lines: no number has over 10 digits, so that they have at most 46 and 83 bytes
abbrev pub text_room : ℕ
text_room = 66446

-- n, m, k and l are the lengths of the two tables, the work space and the buffer
unfoldable pub ready : ℕ → ℕ → ℕ → ℕ → Bool
ready n m k l = eqb n 2400 && (eqb m 2400 && (eqb k 9600 && leb text_room l))

-- what is answered and shown: nothing, and nothing is touched, where what is lent is of another size
unfoldable pub reported : Bool → List ℕ → Answer
reported fit bytes = cond fit (unpack_answer bytes) (refused 2 0)

unfoldable pub shown : Bool → List ℕ → List ℕ
shown fit bytes = cond fit (unpack_text bytes) []

pub record Unpacks (bytes vs os work out : List ℕ) (r : ℕ) (vs' os' work' out' : List ℕ) : Type 0 where
  pub size : r ≡ length (shown (ready (length vs) (length os) (length work) (length out)) bytes)
  pub text : out' ≡ put out 0 (shown (ready (length vs) (length os) (length work) (length out)) bytes)
  pub vertices : vs' ≡ filled (reported (ready (length vs) (length os) (length work) (length out)) bytes)
      (table_v (word_of (letters bytes))) vs
  pub neighbours : os' ≡ filled (reported (ready (length vs) (length os) (length work) (length out)) bytes)
      (table_o (word_of (letters bytes))) os
  pub space : work' ≡ cleared early (reported (ready (length vs) (length os) (length work) (length out)) bytes) work
  pub inside : r ≤ length out'
