-- `letter_of` meets its contract: what the byte reads as, S where it is no letter.
use mathlib.Core.Path.{◌∙◌}
use Rattle.theory.proofs.LetterLaws.{letter_read}
use Rattle.lent.proofs.letter_of.Goals as goal

pub returns : goal.returns
returns c = c.unwrap_or.ensures ∙ letter_read c.args.b _ c.try_from.ensures
