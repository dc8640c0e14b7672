-- `first_foreign` meets its contract: the closure says whether a byte is no letter, and `position` finds the first.
use mathlib.Core.Path.{◌≡◌}
use mathlib.Core.Bool.{false, true}
use borrow.Author.Rules.{rules}
use borrow.Author.Tests.{tests}
use Rattle.std.proofs.lemmas.Iterator.{IsFirst-from_position, YieldsList-from_slice}
use Rattle.judge.proofs.Forward.{first_place}
use Rattle.theory.specs.Letter.{is_letter}
use Rattle.judge.proofs.first_foreign.Goals as goal

pub returns : goal.returns
returns c =
    first_place is_letter c.args.s.now _
    (IsFirst-from_position _ _ _ (λ b. is_letter b ≡ false) (λ b. is_letter b ≡ true) c.position.ensures.ran
    (YieldsList-from_slice c.args.s.now cc) (λ x q k. search (rules, tests)) (λ x q k. search (rules, tests)))
