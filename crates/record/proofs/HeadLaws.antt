-- Laws of the record's head, check by check.
--
--   past_form past_count    what is left of 17, 1, 8 and 18 behind the first, and behind the second
--   values          what 17, 1, 8 and 18 ask, which the check finds in this order
--   malformed_*     number 16 at 0 to 4
--   head_line head_refused head_accepted    what the head answers
use mathlib.Core.Bool.{false, true}
use mathlib.Core.List.{List, [], ◌∷◌}
use mathlib.Core.Logic.{◌≢◌}
use mathlib.Core.Path.{◌∙◌, ◌≡◌, sym}
use Prim.Native.Nat.{◌*◌, ◌<◌, ◌≤◌, ℕ}
use native.Mathlib.Omega.{arith}
use lib.Dec.{eqb, ltb}
use lib.ListN.{length}
use borrow.Author.Tests.{eq-eqb, ne_eqb}
use Rattle.record.specs.Head.{accepted_head, head_answer, head_of, refused_head}
use Rattle.record.specs.Lines.{after4, form_line, gate_line, is_sym_line, letters, tri_line, value_rungs, well_formed_at}
use Rattle.theory.proofs.AnswerLaws.{count_few, each_passed, each_stops, none_broken, whole_passed, whole_stops}
use Rattle.theory.specs.Answer.{Answer, Rung, count_ok, count_rung, done, first_broken, refused, whole}
use Rattle.theory.specs.Lists.{least, least_from}

-- ---- the values, in order

-- what number 1 leaves of a count
pub count_limit : (t : ℕ) → count_ok t ≡ true → t ≤ 65536
count_limit t h = (count_few t h).2

module _ (form t gate count : ℕ) (a : Answer) (f : form ≡ 1) where
  pub past_form : first_broken (value_rungs form t gate count) a ≡ first_broken
      (count_rung t ∷ whole 8 (ltb gate (3 * t)) ∷ whole 18 (eqb count t) ∷ []) a
  past_form = whole_passed 17 (eqb form 1) _ a (eq-eqb form 1 f)

  pub past_count : count_ok t ≡ true → first_broken (value_rungs form t gate count) a ≡ first_broken
      (whole 8 (ltb gate (3 * t)) ∷ whole 18 (eqb count t) ∷ []) a
  past_count k = past_form ∙ whole_passed 1 (count_ok t) _ a k

-- what the code asks of the values
pub ruleset values = (whole_passed, whole_stops, none_broken, count_limit)

-- ---- the lines, in order

-- the first malformed or missing line, 4 for extra bytes, 5 where there is none of these
abbrev pub malformed : List ℕ → ℕ
malformed text = least (well_formed_at text) 5

module _ (text : List ℕ) where
  pub malformed_form : (form_line text).good ≡ false → malformed text ≡ 0
  unfolding least least_from well_formed_at
  malformed_form e = rw e

  module _ (f : (form_line text).good ≡ true) where
    pub malformed_tri : (tri_line text).good ≡ false → malformed text ≡ 1
    unfolding least least_from well_formed_at
    malformed_tri e = rw (f, e)

    module _ (t : (tri_line text).good ≡ true) where
      pub malformed_gate : (gate_line text).good ≡ false → malformed text ≡ 2
      unfolding least least_from well_formed_at
      malformed_gate e = rw (f, t, e)

      module _ (g : (gate_line text).good ≡ true) where
        pub malformed_sym : is_sym_line text ≡ false → malformed text ≡ 3
        unfolding least least_from well_formed_at
        malformed_sym e = rw (f, t, g, e)

        module _ (s : is_sym_line text ≡ true) where
          pub malformed_extra : length (after4 text) ≢ 0 → malformed text ≡ 4
          unfolding least least_from well_formed_at
          malformed_extra n = rw (f, t, g, s, ne_eqb (length (after4 text)) 0 n)

          pub malformed_none : length (after4 text) ≡ 0 → malformed text ≡ 5
          unfolding least least_from well_formed_at
          malformed_none e = rw (f, t, g, s, eq-eqb (length (after4 text)) 0 e)

-- ---- the answer

-- what the values of the four lines are refused for
abbrev pub values_of : List ℕ → List Rung
values_of text = value_rungs (form_line text).value (tri_line text).value (gate_line text).value (length (letters text))

module _ (text : List ℕ) where
  pub head_line : (k : ℕ) → malformed text ≡ k → k < 5 → refused_head (refused 16 k) ≡ head_of text
  unfolding head_of head_answer
  head_line k e h = rw (each_stops 16 (well_formed_at text) 5 (values_of text) (done 0 0) (omega (arith, e)), e)

  module _ (well : malformed text ≡ 5) where
    pub head_values : head_answer text ≡ first_broken (values_of text) (done 0 0)
    unfolding head_answer
    head_values = each_passed 16 (well_formed_at text) 5 (values_of text) (done 0 0) (omega (arith, well))

    module _ (a : Answer) (e : a ≡ first_broken (values_of text) (done 0 0)) where
      pub head_refused : a.number ≢ 0 → refused_head a ≡ head_of text
      unfolding head_of
      head_refused n = rw (head_values, sym e, ne_eqb a.number 0 n)

      pub head_accepted : a.number ≡ 0 → accepted_head text ≡ head_of text
      unfolding head_of
      head_accepted z = rw (head_values, sym e, eq-eqb a.number 0 z)
