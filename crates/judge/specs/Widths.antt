-- The widths of words in a row, with which the letters are judged from the right.
--
--   widths_before a st   the widths of words, the first of them first, after a letter before words of the widths st
--   total st            their sum
--   Wide st             each of them is 2 or more
use Rattle.std.specs.Prelude.{List, [], ◌∷◌, ◌+◌, ◌-◌, ◌≤◌, ℕ}
use Rattle.theory.specs.declared.Letter.{Letter}
use Rattle.theory.specs.declared.Letter.TheVariants.{C, E, L, R, S}

unfoldable pub widths_before : Letter → List ℕ → List ℕ
widths_before E st = 3 ∷ st
widths_before C [] = []
widths_before C (w ∷ st) = (w - 1) ∷ st
widths_before L [] = []
widths_before L (w ∷ st) = (w + 1) ∷ st
widths_before R [] = []
widths_before R (w ∷ st) = (w + 1) ∷ st
widths_before S [] = []
widths_before S (i ∷ []) = []
widths_before S (i ∷ (j ∷ st)) = (i + j - 1) ∷ st

abbrev pub total : List ℕ → ℕ
total [] = 0
total (w ∷ st) = w + total st

abbrev pub Wide : List ℕ → Type 0
Wide [] = Unit {0}
Wide (w ∷ st) = (2 ≤ w) × Wide st
