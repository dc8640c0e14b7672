-- The head, line by line, as the code reads it: what a numbered line says, what the three say together, and the answer
-- at each way out.
--
--   numbers                        what a numbered line asks: size_inside line_read line_unread
--   Front front_read               the three numbered lines, read one behind another
--   stop_form stop_tri stop_gate   16 at 0, 1 and 2
--   stop_sym stop_extra            16 at 3 and 4
--   key_inside                     the sym line has room for its key and its end
--   stop_values head_read          17, 1, 8, 18, and the head that is accepted
use mathlib.Core.Bool.{true}
use mathlib.Core.List.{List, ◌∷◌}
use mathlib.Core.Logic.{◌≢◌}
use mathlib.Core.Path.{◌∙◌, ◌≡◌, ap, refl, sym}
use Prim.Native.Nat.{◌+◌, ◌-◌, ◌<◌, ◌≤◌, suc, ℕ}
use native.Mathlib.Omega.{arith}
use lib.ListN.{drop, length, length-append, length-drop, take}
use lib.Seq.{length-take-le}
use Rattle.record.proofs.Accepted.{Lines, behind_key, empty, letters_inside}
use Rattle.record.proofs.HeadLaws.{head_accepted, head_line, head_refused, malformed, malformed_extra, malformed_form, malformed_gate, malformed_none, malformed_sym, malformed_tri, values_of}
use Rattle.record.specs.Head.{Malformed, Numbered, head_in, head_of, sym_start}
use Rattle.record.specs.Lines.{after1, after2, after3, after4, form_line, gate_line, is_sym_line, letters, tri_line, value_rungs}
use Rattle.record.specs.Record.{form_key, gate_key, sym_key, tri_key}
use Rattle.std.specs.Prelude.{Err, None, Ok, Some}
use Rattle.text.proofs.Answered.{none_line, none_size, the_line, the_size}
use Rattle.text.proofs.KeyedLaws.{keyed_ended, keyed_fits, size_keyed, size_none, size_some}
use Rattle.text.proofs.LineLaws.{up_le}
use Rattle.text.proofs.NumberLineLaws.{good_after, good_inside, number_line_split}
use Rattle.text.proofs.Parts.{tail_part}
use Rattle.text.specs.Line.{NumberLine, after, keyed_size, line, line_end, number_line, some_line, some_size, up_to}
use Rattle.text.specs.declared.KeyedNumber.{KeyedNumber}
use Rattle.theory.proofs.ResultLaws.{answer_err}
use Rattle.theory.specs.Answer.{checked, done, first_broken}
use Rattle.theory.specs.declared.Refusal.{Refusal}
use Rattle.theory.specs.declared.Rule.TheVariants.{Line}

abbrev line_at : ℕ → Refusal
line_at k = record { rule = Line; place = k }

-- ---- a numbered line

module _ (key l : List ℕ) where
  pub line_unread : None ≡ some_line (number_line key l) → (i : ℕ) (e : Refusal) → e ≡ line_at i → Malformed key l i e
  line_unread n i e q = record { bad = none_line (number_line key l) n; refusal = q }

  module _ (a : KeyedNumber) (e : Some a ≡ some_line (number_line key l)) where
    abbrev as_read : NumberLine
    as_read = number_line key l

    said : (as_read.good ≡ true) × (a.value ≡ as_read.value) × (a.size ≡ as_read.size)
    said = the_line as_read a e

    pub size_inside : a.size ≤ length l
    size_inside = rw (said.2) (good_inside key l (number_line_split key l said.0))

    pub line_read : Numbered key l a.value (take (length l - a.size) (drop a.size l))
    line_read = record {
      good = said.0;
      value = said.1;
      behind = tail_part l a.size size_inside ∙ rw (said.2) (good_after key l (number_line_split key l said.0));
    }

pub ruleset numbers = (line_unread, size_inside, line_read)

-- ---- the three, one behind another

pub record Front (text : List ℕ) (form tri gate : ℕ) (rest : List ℕ) : Type 0 where
  pub form_good : (form_line text).good ≡ true
  pub tri_good : (tri_line text).good ≡ true
  pub gate_good : (gate_line text).good ≡ true
  pub form_is : form ≡ (form_line text).value
  pub tri_is : tri ≡ (tri_line text).value
  pub gate_is : gate ≡ (gate_line text).value
  pub behind : rest ≡ after3 text

module _ (text : List ℕ) where
  -- 16 at k
  stopped : (k : ℕ) → malformed text ≡ k → k < 5 → (e : Refusal) → e ≡ line_at k → head_in (Err e) ≡ head_of text
  stopped k m h e q = ap (λ (x : Refusal). head_in (Err x)) q ∙ head_line text k m h

  pub stop_form : (e : Refusal) → Malformed form_key text 0 e → head_in (Err e) ≡ head_of text
  stop_form e n = stopped 0 (malformed_form text n.bad) (omega arith) e n.refusal

  module _ (form : ℕ) (rest1 : List ℕ) (f : Numbered form_key text form rest1) where
    pub stop_tri : (e : Refusal) → Malformed tri_key rest1 1 e → head_in (Err e) ≡ head_of text
    stop_tri e n = stopped 1 (malformed_tri text f.good (rw f.behind at n.bad)) (omega arith) e n.refusal

    module _ (tri : ℕ) (rest2 : List ℕ) (t : Numbered tri_key rest1 tri rest2) where
      rest2_is : rest2 ≡ after2 text
      rest2_is = t.behind ∙ rw f.behind

      tri_good : (tri_line text).good ≡ true
      tri_good = rw f.behind at t.good

      pub stop_gate : (e : Refusal) → Malformed gate_key rest2 2 e → head_in (Err e) ≡ head_of text
      stop_gate e n =
          stopped 2 (malformed_gate text f.good tri_good (rw rest2_is at n.bad)) (omega arith) e n.refusal

      pub front_read : (gate : ℕ) (rest3 : List ℕ) → Numbered gate_key rest2 gate rest3 → Front text form tri gate rest3
      front_read gate rest3 g = record {
        form_good = f.good;
        tri_good = tri_good;
        gate_good = rw rest2_is at g.good;
        form_is = f.value;
        tri_is = rw f.behind at t.value;
        gate_is = rw rest2_is at g.value;
        behind = g.behind ∙ rw rest2_is;
      }

-- ---- the sym line, and the values

module _ (text : List ℕ) (form tri gate : ℕ) (rest : List ℕ) (r : Front text form tri gate rest) where
  pub stop_sym : None ≡ some_size (keyed_size sym_key rest) → (e : Refusal) → e ≡ line_at 3
      → head_in (Err e) ≡ head_of text
  stop_sym n e q =
      let none : keyed_size sym_key (after3 text) ≡ 0 = rw r.behind at (none_size _ n) in
      stopped text 3 (malformed_sym text r.form_good r.tri_good r.gate_good (size_none sym_key (after3 text) none))
      (omega arith) e q

  module _ (n : ℕ) (e : Some n ≡ some_size (keyed_size sym_key rest)) where
    found : (n ≡ keyed_size sym_key (after3 text)) × (keyed_size sym_key (after3 text) ≡ 0 → ⊥)
    found = rw r.behind at (the_size (keyed_size sym_key rest) n e)

    keyed : is_sym_line text ≡ true
    keyed = size_some sym_key (after3 text) found.1

    size : n ≡ suc (up_to line_end (after3 text))
    size = found.0 ∙ size_keyed sym_key (after3 text) keyed

    -- how much stands behind the line
    behind : length (after4 text) + n ≡ length rest
    behind =
        rw r.behind
        (omega (
          arith,
          size,
          keyed_ended sym_key (after3 text) keyed,
          length-drop (suc (up_to line_end (after3 text))) (after3 text),
        ))

    letter_count : length (letters text) ≡ n - 5
    letter_count =
        omega (
          arith,
          size,
          length-drop 4 (line (after3 text)),
          length-take-le (up_to line_end (after3 text)) (after3 text) (up_le line_end (after3 text)),
        )

    pub key_inside : 5 ≤ n
    key_inside = omega (arith, size, keyed_fits sym_key (after3 text) keyed)

    pub stop_extra : n ≢ length rest → (e : Refusal) → e ≡ line_at 4 → head_in (Err e) ≡ head_of text
    stop_extra more e q =
        let extra : length (after4 text) ≢ 0 = λ z. more (omega (arith, behind, z)) in
        stopped text 4 (malformed_extra text r.form_good r.tri_good r.gate_good keyed extra) (omega arith) e q

    module _ (end : n ≡ length rest) where
      well : malformed text ≡ 5
      well = malformed_none text r.form_good r.tri_good r.gate_good keyed (omega (arith, behind))

      values_read : first_broken (value_rungs form tri gate (n - 5)) (done 0 0)
          ≡ first_broken (values_of text) (done 0 0)
      values_read = rw (r.form_is, r.tri_is, r.gate_is, sym letter_count)

      pub stop_values : (e : Refusal) → checked (Err e) ≡ first_broken (value_rungs form tri gate (n - 5)) (done 0 0)
          → head_in (Err e) ≡ head_of text
      stop_values e q = head_refused text well (checked (Err e)) (q ∙ values_read) (answer_err (Err e) refl)

      lines : Lines text
      lines = record {
        form = r.form_good;
        tri = r.tri_good;
        gate = r.gate_good;
        sym_line = keyed;
        end = empty (after4 text) (omega (arith, behind));
      }

      start_is : length text - length rest + 4 ≡ sym_start text
      unfolding sym_start
      start_is =
          omega (
            arith,
            behind,
            letter_count,
            key_inside,
            ap length (behind_key text lines),
            length-append (letters text) (line_end ∷ after4 text),
            length-drop (sym_start text) text,
            letters_inside text lines,
          )

      pub head_read : checked (Ok tt) ≡ first_broken (value_rungs form tri gate (n - 5)) (done 0 0)
          → head_in (Ok (record { gate = gate; start = length text - length rest + 4; len = n - 5 })) ≡ head_of text
      head_read q =
          rw (start_is, r.gate_is, sym letter_count) (head_accepted text well (done 0 0) (q ∙ values_read) refl)

-- what is behind a line is no longer than the text
pub rest_inside : (text : List ℕ) (form tri gate : ℕ) (rest : List ℕ) → Front text form tri gate rest
    → length rest ≤ length text
rest_inside text form tri gate rest r =
    rw r.behind (omega (arith, after_length (after2 text), after_length (after1 text), after_length text))
  where
    after_length : (l : List ℕ) → length (after l) ≤ length l
    after_length l = omega (arith, length-drop (suc (up_to line_end l)) l)

pub ruleset steps = (
  stop_form,
  stop_tri,
  stop_gate,
  front_read,
  stop_sym,
  key_inside,
  stop_extra,
  stop_values,
  head_read,
  rest_inside,
)
