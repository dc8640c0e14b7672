-- The checks 3 to 5 in their order, from what looks for their places.
--
--   foreign_within foreign_breaks    the first byte that is no letter
--   end_breaks behind_breaks         none: then the string ends inside its first word, or letters follow it
--   end_passed                       neither: what the checks of the widths answer
use mathlib.Core.Bool.{Bool}
use mathlib.Core.List.{List}
use mathlib.Core.Path.{◌≡◌, refl, sym}
use Prim.Native.Nat.{◌<◌, ◌≤◌, ℕ}
use lib.ListN.{drop, get_or, length}
use Rattle.std.specs.Prelude.{Option, Some, None}
use Rattle.judge.proofs.Forward.{end_none, end_some}
use Rattle.judge.specs.Ends.{word_end}
use Rattle.theory.proofs.JudgeLaws.{breaks_five, breaks_four, breaks_three, none_breaks}
use Rattle.theory.proofs.LowestLaws.{lowest_all, lowest_some}
use Rattle.theory.specs.Answer.{first_broken, refused}
use Rattle.theory.specs.Judge.{letter_answer, letter_rungs, string_done}
use Rattle.theory.specs.Letter.{is_letter}
use Rattle.theory.specs.Lists.{least, lowest}

abbrev foreign : List ℕ → Option ℕ
foreign s = lowest (λ i. is_letter (get_or s i 0)) (length s)

module _ (s : List ℕ) where
  abbrev ok : ℕ → Bool
  ok i = is_letter (get_or s i 0)

  pub foreign_within : (i : ℕ) → Some i ≡ foreign s → i < length s
  foreign_within i e = (lowest_some ok (length s) i (sym e)).1

  pub foreign_breaks : (i : ℕ) → Some i ≡ foreign s → refused 3 i ≡ letter_answer s
  foreign_breaks i e =
      let at = lowest_some ok (length s) i (sym e) in
      breaks_three s i at.0 at.1

  module _ (none : None ≡ foreign s) where
    letters : length s ≤ least ok (length s)
    letters = lowest_all ok (length s) (sym none)

    pub end_breaks : None ≡ word_end s → refused 4 (length s) ≡ letter_answer s
    end_breaks e = breaks_four s _ refl letters _ refl (end_none s e)

    pub behind_breaks : (e : ℕ) → Some e ≡ word_end s → e < length s → refused 5 e ≡ letter_answer s
    behind_breaks e h =
        let end = end_some s e h in
        breaks_five s _ refl letters e end.0 end.1

    pub end_passed : (e : ℕ) → Some e ≡ word_end s → length s ≤ e
        → first_broken (drop 3 (letter_rungs s)) (string_done s) ≡ letter_answer s
    end_passed e h =
        let end = end_some s e h in
        none_breaks s _ refl letters e end.0 end.1
