-- The checks 3 to 7 in their order: the answer where each of them breaks.
--
--   breaks_three breaks_four breaks_five     3 to 5
--   none_breaks                              what is left where none of these does: the checks of the widths
--   breaks_six breaks_seven seven_passed     6 and 7
use mathlib.Core.Bool.{false, not, true}
use mathlib.Core.List.{List, [], ◌∷◌}
use mathlib.Core.Path.{◌∙◌, ◌≡◌, ap, sym}
use Prim.Native.Nat.{◌<◌, ◌≤◌, ℕ}
use native.Mathlib.Omega.{arith}
use lib.Dec.{eqb}
use lib.ListN.{drop, get_or, length}
use Rattle.theory.proofs.AnswerLaws.{each_passed, each_stops, none_broken, rung_passed, rung_stops, whole_passed, whole_stops}
use Rattle.theory.specs.Answer.{Rung, first_broken, refused, whole}
use Rattle.theory.specs.Judge.{letter_answer, letter_rungs, pinched_at, string_done, words_end}
use Rattle.theory.specs.Letter.{is_letter}
use Rattle.theory.specs.Lists.{greatest, least}
use Rattle.theory.specs.Word.{width, word_of}

module _ (s : List ℕ) (f : ℕ) (found : f ≡ least (λ i. is_letter (get_or s i 0)) (length s)) where
  pub breaks_three : f < length s → refused 3 f ≡ letter_answer s
  unfolding letter_answer
  breaks_three h =
      let rest = drop 1 (letter_rungs s) in
      let stops = each_stops 3 (λ i. is_letter (get_or s i 0)) (length s) rest (string_done s) (omega (arith, found)) in
      sym (stops ∙ ap (refused 3) (sym found))

  three_passed : length s ≤ f → letter_answer s ≡ first_broken (drop 1 (letter_rungs s)) (string_done s)
  unfolding letter_answer
  three_passed h =
      let rest = drop 1 (letter_rungs s) in
      each_passed 3 (λ i. is_letter (get_or s i 0)) (length s) rest (string_done s) (omega (arith, found))

-- e is where the first word ends
module _ (s : List ℕ) (f : ℕ) (found : f ≡ least (λ i. is_letter (get_or s i 0)) (length s)) (letters : length s ≤ f)
    (e : ℕ) (end : e ≡ words_end s 1) where
  abbrev four : Rung
  four = record { number = 4; place = length s; limit = words_end s 1 }

  abbrev five : Rung
  five = record { number = 5; place = words_end s 1; limit = length s }

  pub breaks_four : length s < e → refused 4 (length s) ≡ letter_answer s
  breaks_four h =
      let stops = rung_stops four (drop 2 (letter_rungs s)) (string_done s) (omega (arith, end)) in
      sym (three_passed s f found letters ∙ stops)

  four_passed : e ≤ length s → letter_answer s ≡ first_broken (drop 2 (letter_rungs s)) (string_done s)
  four_passed h =
      three_passed s f found letters
      ∙ rung_passed four (drop 2 (letter_rungs s)) (string_done s) (omega (arith, end))

  pub breaks_five : e ≤ length s → e < length s → refused 5 e ≡ letter_answer s
  breaks_five h k =
      let stops = rung_stops five (drop 3 (letter_rungs s)) (string_done s) (omega (arith, end)) in
      sym (four_passed h ∙ stops ∙ ap (refused 5) (sym end))

  pub none_breaks : e ≤ length s → length s ≤ e → first_broken (drop 3 (letter_rungs s)) (string_done s) ≡ letter_answer s
  none_breaks h k = sym (four_passed h ∙ rung_passed five (drop 3 (letter_rungs s)) (string_done s) (omega (arith, end)))

module _ (s : List ℕ) where
  abbrev six : Rung
  six = record { number = 6; place = greatest (λ p. not (pinched_at s p)) (length s); limit = length s }

  abbrev seven : Rung
  seven = whole 7 (eqb (width (word_of s)) 2)

  pub breaks_six : (p : ℕ) → p < length s → greatest (λ p. not (pinched_at s p)) (length s) ≡ p
      → refused 6 p ≡ first_broken (drop 3 (letter_rungs s)) (string_done s)
  breaks_six p h e = sym (rung_stops six (seven ∷ []) (string_done s) (omega (arith, e)) ∙ ap (refused 6) e)

  six_passed : greatest (λ p. not (pinched_at s p)) (length s) ≡ length s
      → first_broken (drop 3 (letter_rungs s)) (string_done s) ≡ first_broken (seven ∷ []) (string_done s)
  six_passed e = rung_passed six (seven ∷ []) (string_done s) (omega (arith, e))

  pub breaks_seven : greatest (λ p. not (pinched_at s p)) (length s) ≡ length s → eqb (width (word_of s)) 2 ≡ false
      → refused 7 0 ≡ first_broken (drop 3 (letter_rungs s)) (string_done s)
  breaks_seven e f = sym (six_passed e ∙ whole_stops 7 (eqb (width (word_of s)) 2) [] (string_done s) f)

  pub seven_passed : greatest (λ p. not (pinched_at s p)) (length s) ≡ length s → eqb (width (word_of s)) 2 ≡ true
      → string_done s ≡ first_broken (drop 3 (letter_rungs s)) (string_done s)
  seven_passed e f =
      sym (six_passed e ∙ whole_passed 7 (eqb (width (word_of s)) 2) [] (string_done s) f ∙ none_broken (string_done s))
