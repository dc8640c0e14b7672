-- Texts whose head is accepted.
--
--   Lines text      its four lines are well formed, and nothing follows them
--   lines_text      it is then the record of what its lines say; letters_place, letters_inside: where its letters stand
--   Good text       besides, its values pass 17, 1, 8 and 18
--   good_of         a head that nothing stops is good; good_passes: and nothing stops the head of a good text
use mathlib.Core.Bool.{Bool, false, true}
use mathlib.Core.List.{List, [], ◌++◌, ◌∷◌}
use mathlib.Core.Path.{◌∙◌, ◌≡◌, ap, refl, sym}
use Prim.Native.Nat.{◌*◌, ◌+◌, ◌<◌, ◌≤◌, ℕ}
use native.Mathlib.Omega.{arith}
use lib.Dec.{eqb, ltb}
use lib.ListN.{drop, get_or, length, length-append, length-drop, take}
use lib.Seq.{drop-drop, take-append_seam}
use borrow.Author.Tests.{eq-eqb, eqb-true, lt-ltb, ltb-true}
use Rattle.record.proofs.HeadLaws.{malformed, malformed_none, values_of}
use Rattle.record.proofs.RungLaws.{zero_passed, zero_whole}
use Rattle.record.specs.Head.{sym_start}
use Rattle.record.specs.Lines.{after1, after2, after3, after4, form_line, gate_line, head_rungs, is_sym_line, letters, tri_line, well_formed_at}
use Rattle.record.specs.Record.{form_key, gate_key, keyed, record_of, sym_key, tri_key}
use Rattle.text.proofs.KeyedLaws.{keyed_lacks, keyed_split}
use Rattle.text.proofs.NumberLineLaws.{good_after, good_text, number_line_split}
use Rattle.text.specs.Decimal.{decimal}
use Rattle.text.specs.Line.{lacks, line_end}
use Rattle.theory.proofs.AnswerLaws.{each_passed, none_broken, whole_passed}
use Rattle.theory.specs.Answer.{Answer, count_ok, each, first_broken}
use Rattle.theory.specs.Lists.{least, least_from}

pub record Lines (text : List ℕ) : Type 0 where
  pub form : (form_line text).good ≡ true
  pub tri : (tri_line text).good ≡ true
  pub gate : (gate_line text).good ≡ true
  pub sym_line : is_sym_line text ≡ true
  pub end : after4 text ≡ []

five : (a b c d e : Bool) → 5 ≤ least (λ i. get_or (a ∷ b ∷ c ∷ d ∷ e ∷ []) i true) 5
    → (a ≡ true) × (b ≡ true) × (c ≡ true) × (d ≡ true) × (e ≡ true)
unfolding least least_from
five true true true true true h = (refl, refl, refl, refl, refl)
five true true true true false h = absurd (omega arith)
five true true true false e h = absurd (omega arith)
five true true false d e h = absurd (omega arith)
five true false c d e h = absurd (omega arith)
five false b c d e h = absurd (omega arith)

pub empty : (l : List ℕ) → length l ≡ 0 → l ≡ []
empty [] e = refl
empty (x ∷ l) e = absurd (omega arith)

pub lines_of : (text : List ℕ) → 5 ≤ malformed text → Lines text
unfolding well_formed_at
lines_of text h =
    let a = five (form_line text).good (tri_line text).good (gate_line text).good (is_sym_line text)
    (eqb (length (after4 text)) 0) h in
    record {
      form = a.0;
      tri = a.1;
      gate = a.2;
      sym_line = a.3;
      end = empty (after4 text)
          (eqb-true (length (after4 text)) 0 a.4);
    }

module _ (text : List ℕ) (lines : Lines text) where
  pub lines_well : malformed text ≡ 5
  lines_well = malformed_none text lines.form lines.tri lines.gate lines.sym_line (ap length lines.end)

  pub lines_text : text
      ≡ record_of (form_line text).value (tri_line text).value (gate_line text).value (letters text) []
  unfolding record_of
  lines_text =
      good_text form_key text (number_line_split form_key text lines.form)
      ∙ ap (keyed form_key (decimal (form_line text).value))
      (good_text tri_key (after1 text) (number_line_split tri_key (after1 text) lines.tri)
      ∙ ap (keyed tri_key (decimal (tri_line text).value))
      (good_text gate_key (after2 text) (number_line_split gate_key (after2 text) lines.gate)
      ∙ ap (keyed gate_key (decimal (gate_line text).value))
      (keyed_split sym_key (after3 text) lines.sym_line ∙ ap (keyed sym_key (letters text)) lines.end)))

  pub behind_key : drop (sym_start text) text ≡ letters text ++ line_end ∷ after4 text
  unfolding sym_start
  behind_key =
      sym (drop-drop 4 ((form_line text).size + (tri_line text).size + (gate_line text).size) text)
      ∙ ap (drop 4)
      (sym (drop-drop (gate_line text).size ((form_line text).size + (tri_line text).size) text)
      ∙ ap (drop (gate_line text).size)
      (sym (drop-drop (tri_line text).size (form_line text).size text)
      ∙ ap (drop (tri_line text).size) (good_after form_key text (number_line_split form_key text lines.form))
      ∙ good_after tri_key (after1 text) (number_line_split tri_key (after1 text) lines.tri))
      ∙ good_after gate_key (after2 text) (number_line_split gate_key (after2 text) lines.gate)
      ∙ keyed_split sym_key (after3 text) lines.sym_line)

  pub letters_place : take (length (letters text)) (drop (sym_start text) text) ≡ letters text
  letters_place =
      ap (take (length (letters text))) behind_key ∙ take-append_seam (letters text) (line_end ∷ after4 text)

  -- the part that is passed on ends within the text
  pub letters_inside : sym_start text + length (letters text) ≤ length text
  letters_inside =
      omega (
        arith,
        ap length behind_key,
        length-drop (sym_start text) text,
        length-append (letters text)
            (line_end ∷ after4 text),
      )

  pub letters_lack : lacks line_end (letters text) ≡ true
  letters_lack = keyed_lacks sym_key (after3 text) lines.sym_line

pub record Good (text : List ℕ) : Type 0 where
  pub lines : Lines text
  pub one : (form_line text).value ≡ 1
  pub count : count_ok (tri_line text).value ≡ true
  pub corner : (gate_line text).value < 3 * (tri_line text).value
  pub enough : length (letters text) ≡ (tri_line text).value

pub good_of : (text : List ℕ) (a : Answer) → (first_broken (head_rungs text) a).number ≡ 0 → Good text
good_of text a z =
    let p = zero_passed (each 16 (well_formed_at text) 5) (values_of text) a (λ e. omega arith) z in
    let q = zero_whole 17 (eqb (form_line text).value 1) _ a (λ e. omega arith) p.1 in
    let r = zero_whole 1 (count_ok (tri_line text).value) _ a (λ e. omega arith) q.1 in
    let s = zero_whole 8 (ltb (gate_line text).value (3 * (tri_line text).value)) _ a (λ e. omega arith) r.1 in
    let u = zero_whole 18 (eqb (length (letters text)) (tri_line text).value) [] a (λ e. omega arith) s.1 in
    record {
      lines = lines_of text p.0;
      one = eqb-true (form_line text).value 1 q.0;
      count = r.0;
      corner = ltb-true (gate_line text).value (3 * (tri_line text).value) s.0;
      enough = eqb-true (length (letters text)) (tri_line text).value u.0;
    }

pub good_passes : (text : List ℕ) → Good text → (a : Answer) → first_broken (head_rungs text) a ≡ a
good_passes text good a =
    each_passed 16 (well_formed_at text) 5 (values_of text) a (omega (arith, lines_well text good.lines))
    ∙ whole_passed 17 _ _ a (eq-eqb (form_line text).value 1 good.one)
    ∙ whole_passed 1 _ _ a good.count
    ∙ whole_passed 8 _ _ a (lt-ltb (gate_line text).value (3 * (tri_line text).value) good.corner)
    ∙ whole_passed 18 _ _ a (eq-eqb (length (letters text)) (tri_line text).value good.enough)
    ∙ none_broken a
