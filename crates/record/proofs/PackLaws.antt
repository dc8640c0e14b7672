-- Writing a record: a refusal before the letters are judged, a refusal of the letters, and a text that is written.
--
--   sizes sizes_pass         what 1, 8 and 2 ask, and what they say of a string that they pass
--   past_count               what is left of the checks behind 1
--   pack_early               a refusal by one of them: nothing is touched
--   text_fits length_fits    behind them the text has room, and its length 32 bits
--   pack_stopped pack_done   the call's promise after the string judge's
use mathlib.Core.Bool.{Bool, true}
use mathlib.Core.List.{List, [], ◌++◌, ◌∷◌}
use mathlib.Core.Logic.{◌≢◌}
use mathlib.Core.Path.{◌∙◌, ◌≡◌, ap, refl, subst, sym}
use Prim.Native.Nat.{◌*◌, ◌+◌, ◌<◌, ◌≤◌, ℕ}
use native.Mathlib.Omega.{arith}
use lib.Dec.{leb, ltb}
use lib.ListN.{length}
use borrow.Author.Tests.{le-leb, leb-true, ltb-true, ne_eqb}
use Rattle.record.proofs.Filled.{Filled}
use Rattle.record.proofs.HeadLaws.{count_limit}
use Rattle.record.proofs.OpenLaws.{Early, early_kept, judge_numbers, string_cleared}
use Rattle.record.proofs.Pieces.{record_length}
use Rattle.record.proofs.RungLaws.{first_broken_append, none_stops, refused_append, zero_whole}
use Rattle.record.specs.Calls.{Packs, early, pack_answer, packed, packed_of, room, size_rungs, text_of}
use Rattle.record.specs.Record.{record_text}
use Rattle.std.specs.Prelude.{Err, Ok}
use Rattle.text.proofs.DecimalLaws.{decimal_word}
use Rattle.text.proofs.PutLaws.{put_start}
use Rattle.text.specs.Decimal.{decimal}
use Rattle.theory.proofs.AnswerLaws.{none_broken, whole_passed, whole_stops}
use Rattle.theory.proofs.CallLaws.{filled_done, filled_refused, rungs_keep, sized_rest}
use Rattle.theory.proofs.ResultLaws.{answer_err}
use Rattle.theory.proofs.TestLaws.{and_left, and_right}
use Rattle.theory.specs.Answer.{Answer, Rung, answer, checked, count_ok, done, first_broken, number, room_rung, whole}
use Rattle.theory.specs.Calls.{Judges, cleared, judge_answer}
use Rattle.theory.specs.Judge.{letter_rungs, string_answer, string_done}
use Rattle.theory.specs.Lists.{mem}
use Rattle.theory.specs.declared.Counts.{Counts}
use Rattle.theory.specs.declared.Refusal.{Refusal}

-- ---- the checks before the letters'

pub text_length : (s : List ℕ) (gate : ℕ)
    → length (text_of s gate) ≡ 23 + length (decimal (length s)) + length (decimal gate) + length s
unfolding text_of
text_length s gate = record_length (length s) gate s

-- what the code asks of them
pub ruleset sizes = (whole_passed, whole_stops, none_broken, count_limit, text_length, decimal_word)

module _ (s : List ℕ) (gate : ℕ) (fits : Bool) (rs : List Rung) (a : Answer) where
  -- what a string says that none of them stops
  pub sizes_pass : (first_broken (size_rungs s gate fits ++ rs) a).number ≡ 0
      → (count_ok (length s) ≡ true) × (gate < 3 * length s) × (fits ≡ true) × ((first_broken rs a).number ≡ 0)
  sizes_pass z =
      let p = zero_whole 1 (count_ok (length s)) _ a (λ e. omega arith) z in
      let q = zero_whole 8 (ltb gate (3 * length s)) _ a (λ e. omega arith) p.1 in
      let r = zero_whole 2 fits _ a (λ e. omega arith) q.1 in
      (p.0, ltb-true gate (3 * length s) q.0, r.0, r.1)

-- behind 1
pub past_count : (s : List ℕ) (gate : ℕ) (out work : List ℕ) → count_ok (length s) ≡ true
    → pack_answer s gate (length out) (length work) ≡ first_broken
    (whole 8 (ltb gate (3 * length s)) ∷ room_rung (room s gate out work) ∷ letter_rungs s) (string_done s)
unfolding pack_answer
past_count s gate out work count = whole_passed 1 (count_ok (length s)) _ (string_done s) count

-- a refusal is answered with no length
packed_err : (e : Refusal) (n : ℕ) → packed_of (Err e) ≡ packed (answer (Err e)) n
unfolding packed
packed_err e n = rw (ne_eqb (number e.rule) 0 (answer_err (Err e) refl))

module _ (s : List ℕ) (gate : ℕ) (out work : List ℕ) where
  abbrev before : List Rung
  before = size_rungs s gate (room s gate out work)

  -- one of them stops it: nothing is touched
  pub pack_early : (e : Refusal) → checked (Err e) ≡ first_broken before (done 0 0)
      → Packs s gate out work (packed_of (Err e)) out work
  unfolding pack_answer mem
  pack_early e q =
      let a = answer (Err e) in
      let k : a.number ≢ 0 = answer_err (Err e) refl in
      let n : (first_broken before (done 0 0)).number ≢ 0 = λ z. k (ap (λ (x : Answer). x.number) q ∙ z) in
      let o : pack_answer s gate (length out) (length work) ≡ a =
      refused_append before (letter_rungs s) (done 0 0) (string_done s) refl n ∙ sym q in
      let early : (first_broken before (done 0 0)).number ≢ 0 → Early (first_broken before (done 0 0)).number =
      rungs_keep (λ m. m ≢ 0 → Early m) before (done 0 0) ((λ m. refl), ((λ m. refl), ((λ m. refl), tt)))
      (λ m. absurd (m refl)) in
      record {
        answer = rw o (packed_err e _);
        text = sym (filled_refused a (text_of s gate) out k);
        space = sym (early_kept a work (subst (λ (x : Answer). Early x.number) (sym q) (early n)));
      }

  module _ (q : done 0 0 ≡ first_broken before (done 0 0)) where
    zero : (first_broken before (done 0 0)).number ≡ 0
    zero = ap (λ (x : Answer). x.number) (sym q)

    pass : (count_ok (length s) ≡ true) × (gate < 3 * length s) × (room s gate out work ≡ true)
        × ((first_broken [] (done 0 0)).number ≡ 0)
    pass = sizes_pass s gate (room s gate out work) [] (done 0 0) zero

    space : 12 * length s ≤ length work
    space = leb-true _ _ (and_right (leb (length (text_of s gate)) (length out)) _ pass.2)

    pub text_fits : length (record_text (length s) gate s) ≤ length out
    unfolding text_of
    text_fits = leb-true _ _ (and_left (leb (length (text_of s gate)) (length out)) _ pass.2)

    pub few_letters : length s ≤ 65536
    few_letters = count_limit (length s) pass.0

    -- a text's length is a number of 32 bits
    pub length_fits : length (record_text (length s) gate s) < 4294967296
    length_fits =
        omega (
          arith,
          few_letters,
          pass.1,
          record_length (length s) gate s,
          decimal_word (length s) (omega (arith, few_letters)),
          decimal_word gate (omega (arith, few_letters, pass.1)),
        )

    module _ {work' : List ℕ} where
      judged : (a : Answer) → Judges s work a work'
          → (pack_answer s gate (length out) (length work) ≡ a) × (work' ≡ cleared early a work)
      unfolding pack_answer judge_answer string_answer
      judged a j = (
        first_broken_append before (letter_rungs s) (string_done s)
            ∙ none_stops before (done 0 0) _ ((λ e. omega arith), ((λ e. omega arith), ((λ e. omega arith), tt))) zero
            ∙ sym (j.answer ∙ sized_rest _ _ (letter_rungs s) (string_done s) pass.0 (le-leb _ _ space)),
        j.space ∙ string_cleared a work (rw j.answer (judge_numbers s (length work))),
      )

      pub pack_stopped : (f : Refusal) → Judges s work (answer (Err f)) work'
          → Packs s gate out work (packed_of (Err f)) out work'
      pack_stopped f j =
          let r = judged (answer (Err f)) j in
          record {
            answer = rw (r.0) (packed_err f _);
            text = sym (filled_refused (answer (Err f)) (text_of s gate) out (answer_err (Err f) refl));
            space = r.1;
          }

      pub pack_done : (c : Counts) → Judges s work (answer (Ok c)) work' → {out' : List ℕ} {n : ℕ}
          → Filled out (record_text (length s) gate s) out' n
          → Packs s gate out work (packed_of (Ok (record { counts = c; length = n }))) out' work'
      unfolding packed text_of
      pack_done c j f =
          let text = record_text (length s) gate s in
          let r = judged (answer (Ok c)) j in
          record {
            answer = rw (r.0, f.size);
            text = f.text ∙ put_start out text ∙ sym (filled_done (answer (Ok c)) text out refl);
            space = r.1;
          }
