-- The text of a string and a gate: what its lines say.
--
--   Packable s gate     s and gate can stand in a record: a count, a corner of so many triangles, no byte 10
--   text_good           the head of their text is accepted
--   text_letters text_gate   and says s and gate
use mathlib.Core.Bool.{true}
use mathlib.Core.List.{List, []}
use mathlib.Core.Path.{◌∙◌, ◌≡◌, ap, refl, sym}
use Prim.Native.Nat.{◌*◌, ◌+◌, ◌<◌, ◌≤◌, suc, ℕ}
use native.Mathlib.Omega.{arith}
use lib.ListN.{length}
use Rattle.record.proofs.Accepted.{Good, Lines}
use Rattle.record.specs.Calls.{text_of}
use Rattle.record.specs.Lines.{after1, after2, after3, after4, form_line, gate_line, letters, tri_line}
use Rattle.record.specs.Record.{form_key, gate_key, keyed, record_of, record_text, sym_key, tri_key}
use Rattle.text.proofs.DecimalLaws.{decimal_digits}
use Rattle.text.proofs.KeyedLaws.{keyed_after, keyed_made, value_of_made}
use Rattle.text.proofs.LineLaws.{lacks_digits}
use Rattle.text.proofs.NumberLineLaws.{number_line_made}
use Rattle.text.specs.Decimal.{decimal}
use Rattle.text.specs.Line.{NumberLine, after, is_keyed, lacks, line_end, number_line, value_of}
use Rattle.theory.proofs.AnswerLaws.{count_few}
use Rattle.theory.specs.Answer.{count_ok}

pub record Packable (s : List ℕ) (gate : ℕ) : Type 0 where
  pub count : count_ok (length s) ≡ true
  pub corner : gate < 3 * length s
  pub no_end : lacks line_end s ≡ true

number_after : (key r : List ℕ) (n : ℕ) → lacks line_end key ≡ true → after (keyed key (decimal n) r) ≡ r
number_after key r n h = keyed_after key (decimal n) r h (lacks_digits (decimal n) (decimal_digits n))

module _ (s : List ℕ) (gate : ℕ) (packable : Packable s gate) where
  sym_text : List ℕ
  sym_text = keyed sym_key s []

  gate_text : List ℕ
  gate_text = keyed gate_key (decimal gate) sym_text

  tri_text : List ℕ
  tri_text = keyed tri_key (decimal (length s)) gate_text

  whole_text : List ℕ
  whole_text = keyed form_key (decimal 1) tri_text

  follows1 : after1 whole_text ≡ tri_text
  unfolding whole_text
  follows1 = number_after form_key tri_text 1 refl

  follows2 : after2 whole_text ≡ gate_text
  unfolding tri_text
  follows2 = ap after follows1 ∙ number_after tri_key gate_text (length s) refl

  follows3 : after3 whole_text ≡ sym_text
  unfolding gate_text
  follows3 = ap after follows2 ∙ number_after gate_key sym_text gate refl

  follows4 : after4 whole_text ≡ []
  unfolding sym_text
  follows4 = ap after follows3 ∙ keyed_after sym_key s [] refl packable.no_end

  few : length s ≤ 65536
  few = (count_few (length s) packable.count).2

  form_made : form_line whole_text ≡ record
      { good = true; value = 1; size = suc (length form_key + length (decimal 1)) }
  unfolding whole_text
  form_made = number_line_made form_key tri_text 1 refl (omega arith)

  tri_made : tri_line whole_text ≡ record
      { good = true; value = length s; size = suc (length tri_key + length (decimal (length s))) }
  unfolding tri_text
  tri_made = ap (number_line tri_key) follows1 ∙ number_line_made tri_key gate_text (length s) refl (omega (arith, few))

  gate_made : gate_line whole_text ≡ record
      { good = true; value = gate; size = suc (length gate_key + length (decimal gate)) }
  unfolding gate_text
  gate_made = ap (number_line gate_key) follows2
      ∙ number_line_made gate_key sym_text gate refl (omega (arith, few, packable.corner))

  letters_made : letters whole_text ≡ s
  unfolding sym_text
  letters_made = ap (value_of sym_key) follows3 ∙ value_of_made sym_key s [] refl packable.no_end

  lines_made : Lines whole_text
  unfolding sym_text
  lines_made = record {
    form = ap (λ (a : NumberLine). a.good) form_made;
    tri = ap (λ (a : NumberLine). a.good) tri_made;
    gate = ap (λ (a : NumberLine). a.good) gate_made;
    sym_line = ap (is_keyed sym_key) follows3 ∙ keyed_made sym_key s [] refl packable.no_end;
    end = follows4;
  }

  good_made : Good whole_text
  good_made =
      let three : (tri_line whole_text).value ≡ length s = ap (λ (a : NumberLine). a.value) tri_made in
      record {
        lines = lines_made;
        one = ap (λ (a : NumberLine). a.value) form_made;
        count = ap count_ok three ∙ packable.count;
        corner = omega (arith, ap (λ (a : NumberLine). a.value) gate_made, three, packable.corner);
        enough = ap length letters_made ∙ sym three;
      }

  pub text_good : Good (text_of s gate)
  unfolding text_of record_text record_of whole_text tri_text gate_text sym_text
  text_good = good_made

  pub text_letters : letters (text_of s gate) ≡ s
  unfolding text_of record_text record_of whole_text tri_text gate_text sym_text
  text_letters = letters_made

  pub text_gate : (gate_line (text_of s gate)).value ≡ gate
  unfolding text_of record_text record_of whole_text tri_text gate_text sym_text
  text_gate = ap (λ (a : NumberLine). a.value) gate_made
