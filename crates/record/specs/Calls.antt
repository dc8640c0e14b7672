-- What reading and writing a record answer, and what the two calls do with what they are lent (document 01, "Numbers of
-- an answer").
--
--   early                 the refusals that leave the work space alone
--   Opened Packed         what reading a record answers, and writing one
--   opened a gate         an answer with the gate; packed a n: with a text's length n; in a refusal 0
--   plain_o plain_p       the four numbers that every call answers
--   opened_of packed_of   the answers that the results of the code are
--   Opens                 the promise of read_record, field by field
--   size_rungs room       the checks 1, 8 and 2 of a string, and what 2 asks
--   Packs                 the promise of write_record
use Rattle.std.specs.Prelude.{Bool, ◌&&◌, cond, List, [], ◌++◌, ◌∷◌, ◌≡◌, ◌*◌, ℕ, eqb, leb, ltb, length, Result, Ok, Err}
use Rattle.record.specs.Lines.{gate_line, head_rungs, letters}
use Rattle.record.specs.Record.{record_text}
use Rattle.record.specs.declared.Last.{Last}
use Rattle.record.specs.declared.Text.{Text}
use Rattle.theory.specs.Answer.{Answer, Rung, count_rung, first_broken, number, room_rung, whole}
use Rattle.theory.specs.Calls.{cleared, filled}
use Rattle.theory.specs.Judge.{letter_rungs, string_done}
use Rattle.theory.specs.Tables.{table_o, table_v}
use Rattle.theory.specs.Word.{word_of}
use Rattle.theory.specs.declared.Refusal.{Refusal}

abbrev pub early : List ℕ
early = 1 ∷ 2 ∷ 8 ∷ 16 ∷ 17 ∷ 18 ∷ []

-- what else a call answers: n where it is done, 0 in a refusal
abbrev pub besides : Answer → ℕ → ℕ
besides a n = cond (eqb a.number 0) n 0

-- ---- reading: 16, 17, 1, 8, 18, 2, 3 to 7

abbrev pub open_rungs : List ℕ → Bool → List Rung
open_rungs text fits = head_rungs text ++ (room_rung fits ∷ letter_rungs (letters text))

-- fits says whether what is lent is long enough
unfoldable pub text_answer : List ℕ → Bool → Answer
text_answer text fits = first_broken (open_rungs text fits) (string_done (letters text))

-- n and m are the lengths of the lent tables, k that of the work space
unfoldable pub open_answer : List ℕ → ℕ → ℕ → ℕ → Answer
open_answer text n m k =
    text_answer text (leb (3 * length (letters text)) n &&
    (leb (3 * length (letters text)) m && leb (12 * length (letters text)) k))

pub record Opened : Type 0 where
  pub number : ℕ
  pub place : ℕ
  pub t : ℕ
  pub v : ℕ
  pub gate : ℕ

unfoldable pub opened : Answer → ℕ → Opened
opened a gate = record { number = a.number; place = a.place; t = a.t; v = a.v; gate = besides a gate }

abbrev pub plain_o : Opened → Answer
plain_o r = record { number = r.number; place = r.place; t = r.t; v = r.v }

abbrev pub opened_of : Result Last Refusal → Opened
opened_of (Ok r) = record { number = 0; place = 0; t = r.counts.t; v = r.counts.v; gate = r.gate }
opened_of (Err e) = record { number = number e.rule; place = e.place; t = 0; v = 0; gate = 0 }

pub record Opens (text vs os work : List ℕ) (r : Opened) (vs' os' work' : List ℕ) : Type 0 where
  pub answer : r ≡ opened (open_answer text (length vs) (length os) (length work)) (gate_line text).value
  pub vertices : vs' ≡ filled (plain_o r) (table_v (word_of (letters text))) vs
  pub neighbours : os' ≡ filled (plain_o r) (table_o (word_of (letters text))) os
  pub space : work' ≡ cleared early (plain_o r) work

-- ---- writing: 1, 8, 2, 3 to 7

-- the checks before the letters'
abbrev pub size_rungs : List ℕ → ℕ → Bool → List Rung
size_rungs s gate fits = count_rung (length s) ∷ whole 8 (ltb gate (3 * length s)) ∷ room_rung fits ∷ []

abbrev pub pack_rungs : List ℕ → ℕ → Bool → List Rung
pack_rungs s gate fits = size_rungs s gate fits ++ letter_rungs s

-- the text of a string and a gate
unfoldable pub text_of : List ℕ → ℕ → List ℕ
text_of s gate = record_text (length s) gate s

-- there is room for it in out, and for the string in the work space
abbrev pub room : List ℕ → ℕ → List ℕ → List ℕ → Bool
room s gate out work = leb (length (text_of s gate)) (length out) && leb (12 * length s) (length work)

-- n is the length of the lent text, k that of the work space
unfoldable pub pack_answer : List ℕ → ℕ → ℕ → ℕ → Answer
pack_answer s gate n k =
    first_broken (pack_rungs s gate (leb (length (text_of s gate)) n && leb (12 * length s) k)) (string_done s)

pub record Packed : Type 0 where
  pub number : ℕ
  pub place : ℕ
  pub t : ℕ
  pub v : ℕ
  pub length : ℕ

unfoldable pub packed : Answer → ℕ → Packed
packed a n = record { number = a.number; place = a.place; t = a.t; v = a.v; length = besides a n }

abbrev pub plain_p : Packed → Answer
plain_p r = record { number = r.number; place = r.place; t = r.t; v = r.v }

abbrev pub packed_of : Result Text Refusal → Packed
packed_of (Ok r) = record { number = 0; place = 0; t = r.counts.t; v = r.counts.v; length = r.length }
packed_of (Err e) = record { number = number e.rule; place = e.place; t = 0; v = 0; length = 0 }

pub record Packs (s : List ℕ) (gate : ℕ) (out work : List ℕ) (r : Packed) (out' work' : List ℕ) : Type 0 where
  pub answer : r ≡ packed (pack_answer s gate (length out) (length work)) (length (text_of s gate))
  pub text : out' ≡ filled (plain_p r) (text_of s gate) out
  pub space : work' ≡ cleared early (plain_p r) work
