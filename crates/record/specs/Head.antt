-- The head of a record: what is read before its letters are judged, and where they stand.
--
--   sym_start text        the place of the first letter
--   head_answer text      the checks 16, 17, 1, 8, 18
--   Head, head_of text    number and place of a refusal, or the gate, and the place and the number of the letters
--   head_in r             the head that a result of the code is
--   Numbered Malformed    what a numbered line hands on, and the refusal where it is none
--   front_text            a record's text up to the gate's number, piece by piece as it is written
use Rattle.std.specs.Prelude.{cond, false, true, List, [], ◌++◌, ◌∷◌, ◌≡◌, ◌+◌, ℕ, eqb, length, Result, Ok, Err}
use Rattle.record.specs.Lines.{form_line, gate_line, head_rungs, letters, tri_line}
use Rattle.record.specs.Record.{sym_key}
use Rattle.record.specs.declared.Sym.{Sym}
use Rattle.text.specs.Decimal.{decimal}
use Rattle.text.specs.Line.{after, line_end, number_line}
use Rattle.theory.specs.Answer.{Answer, done, first_broken, number}
use Rattle.theory.specs.declared.Refusal.{Refusal}
use Rattle.theory.specs.declared.Rule.TheVariants.{Line}

pub record Head : Type 0 where
  pub number : ℕ
  pub place : ℕ
  pub gate : ℕ
  pub start : ℕ
  pub len : ℕ

unfoldable pub sym_start : List ℕ → ℕ
sym_start text = (form_line text).size + (tri_line text).size + (gate_line text).size + length sym_key

unfoldable pub head_answer : List ℕ → Answer
head_answer text = first_broken (head_rungs text) (done 0 0)

abbrev pub refused_head : Answer → Head
refused_head a = record { number = a.number; place = a.place; gate = 0; start = 0; len = 0 }

abbrev pub accepted_head : List ℕ → Head
accepted_head text = record {
  number = 0;
  place = 0;
  gate = (gate_line text).value;
  start = sym_start text;
  len = length (letters text);
}

unfoldable pub head_of : List ℕ → Head
head_of text = cond (eqb (head_answer text).number 0) (accepted_head text) (refused_head (head_answer text))

abbrev pub head_in : Result Sym Refusal → Head
head_in (Ok s) = record { number = 0; place = 0; gate = s.gate; start = s.start; len = s.len }
head_in (Err e) = record { number = number e.rule; place = e.place; gate = 0; start = 0; len = 0 }

-- ---- a numbered line, by itself

-- the number n was read from it, and rest is what follows it
pub record Numbered (key text : List ℕ) (n : ℕ) (rest : List ℕ) : Type 0 where
  pub good : (number_line key text).good ≡ true
  pub value : n ≡ (number_line key text).value
  pub behind : rest ≡ after text

-- it is none, which is the refusal e of line i
pub record Malformed (key text : List ℕ) (i : ℕ) (e : Refusal) : Type 0 where
  pub bad : (number_line key text).good ≡ false
  pub refusal : e ≡ record { rule = Line; place = i }

-- ---- the text, piece by piece: "form=1\ntri=", t, "\ngate=", gate; then "\nsym=", the letters, "\n"

abbrev pub form_tri : List ℕ
form_tri = 102 ∷ 111 ∷ 114 ∷ 109 ∷ 61 ∷ 49 ∷ 10 ∷ 116 ∷ 114 ∷ 105 ∷ 61 ∷ []

abbrev pub end_gate : List ℕ
end_gate = 10 ∷ 103 ∷ 97 ∷ 116 ∷ 101 ∷ 61 ∷ []

abbrev pub end_sym : List ℕ
end_sym = 10 ∷ 115 ∷ 121 ∷ 109 ∷ 61 ∷ []

abbrev pub ended : List ℕ
ended = line_end ∷ []

unfoldable pub front_text : ℕ → ℕ → List ℕ
front_text t gate = form_tri ++ decimal t ++ end_gate ++ decimal gate
