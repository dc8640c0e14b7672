-- What the lines of a text say (document 01, "The last record" and numbers 16, 17, 1, 8, 18).
--
--   after1 .. after4      what follows line 0, .., line 3
--   form_line tri_line gate_line is_sym_line   the four lines, read in their order
--   letters text          the sym value, where it stands
--   well_formed_at text i   line i is well formed, 0 to 3; nothing follows them, 4
--   head_rungs text        the checks of a record that come before 2
use Rattle.std.specs.Prelude.{Bool, true, List, [], ◌∷◌, ◌*◌, ℕ, eqb, ltb, get_or, length}
use Rattle.record.specs.Record.{form_key, gate_key, sym_key, tri_key}
use Rattle.text.specs.Line.{NumberLine, after, is_keyed, number_line, value_of}
use Rattle.theory.specs.Answer.{Rung, count_rung, each, whole}

abbrev pub after1 : List ℕ → List ℕ
after1 text = after text

abbrev pub after2 : List ℕ → List ℕ
after2 text = after (after1 text)

abbrev pub after3 : List ℕ → List ℕ
after3 text = after (after2 text)

abbrev pub after4 : List ℕ → List ℕ
after4 text = after (after3 text)

abbrev pub form_line : List ℕ → NumberLine
form_line text = number_line form_key text

abbrev pub tri_line : List ℕ → NumberLine
tri_line text = number_line tri_key (after1 text)

abbrev pub gate_line : List ℕ → NumberLine
gate_line text = number_line gate_key (after2 text)

abbrev pub is_sym_line : List ℕ → Bool
is_sym_line text = is_keyed sym_key (after3 text)

abbrev pub letters : List ℕ → List ℕ
letters text = value_of sym_key (after3 text)

abbrev pub line_tests : List ℕ → List Bool
line_tests text =
    (form_line text).good ∷ (tri_line text).good ∷ (gate_line text).good ∷ is_sym_line text
    ∷ eqb (length (after4 text)) 0 ∷ []

unfoldable pub well_formed_at : List ℕ → ℕ → Bool
well_formed_at text i = get_or (line_tests text) i true

-- 17, 1, 8 and 18, for a form, t, a gate and how many letters there are
abbrev pub value_rungs : ℕ → ℕ → ℕ → ℕ → List Rung
value_rungs form t gate many =
    whole 17 (eqb form 1) ∷ count_rung t ∷ whole 8 (ltb gate (3 * t)) ∷ whole 18 (eqb many t) ∷ []

abbrev pub head_rungs : List ℕ → List Rung
head_rungs text =
    each 16 (well_formed_at text) 5
    ∷ value_rungs (form_line text).value (tri_line text).value (gate_line text).value (length (letters text))
