-- Laws of the stack of widths: it is the widths of the words that the string ends with, and what a letter does to it.
--
--   widths ws, widths_before_lem    the widths of some words, and of a letter before them
--   two_first                   whether the first word has width 2
--   before_wide before_total before_length    a letter keeps a stack wide unless a C stands before width 2, and adds at
--                               most 3 to its sum and one to its length
use mathlib.Core.Bool.{false}
use mathlib.Core.List.{List, [], ◌∷◌}
use mathlib.Core.Path.{◌≡◌, refl}
use Prim.Native.Nat.{◌+◌, ◌≤◌, ℕ}
use native.Mathlib.Omega.{arith}
use lib.Dec.{eqb}
use lib.ListN.{length}
use borrow.Author.Tests.{eqb-false}
use Rattle.judge.specs.Widths.{Wide, total, widths_before}
use Rattle.theory.specs.Lists.{head}
use Rattle.theory.specs.Word.{Word, before, first_word, width}
use Rattle.theory.specs.declared.Letter.{Letter}
use Rattle.theory.specs.declared.Letter.TheVariants.{C, E, L, R, S}

abbrev pub widths : List Word → List ℕ
widths [] = []
widths (w ∷ ws) = width w ∷ widths ws

pub widths_before_lem : (a : Letter) (ws : List Word) → widths (before a ws) ≡ widths_before a (widths ws)
unfolding before widths_before width
widths_before_lem E ws = refl
widths_before_lem C [] = refl
widths_before_lem C (w ∷ ws) = refl
widths_before_lem L [] = refl
widths_before_lem L (w ∷ ws) = refl
widths_before_lem R [] = refl
widths_before_lem R (w ∷ ws) = refl
widths_before_lem S [] = refl
widths_before_lem S (v ∷ []) = refl
widths_before_lem S (v ∷ (w ∷ ws)) = refl

pub two_first : (ws : List Word) → eqb (head (widths ws)) 2 ≡ eqb (width (first_word ws)) 2
unfolding head first_word width
two_first [] = refl
two_first (w ∷ ws) = refl

pub before_wide : (a : Letter) (st : List ℕ) → (a ≡ C → eqb (head st) 2 ≡ false) → Wide st → Wide (widths_before a st)
unfolding widths_before head
before_wide C [] e w = tt
before_wide C (x ∷ st) e w = (omega (arith, w.0, eqb-false x 2 (e refl)), w.1)
before_wide L [] e w = tt
before_wide L (x ∷ st) e w = (omega arith, w.1)
before_wide E st e w = (omega arith, w)
before_wide R [] e w = tt
before_wide R (x ∷ st) e w = (omega arith, w.1)
before_wide S [] e w = tt
before_wide S (x ∷ []) e w = tt
before_wide S (x ∷ (y ∷ st)) e w = (omega arith, w.1.1)

pub before_total : (a : Letter) (st : List ℕ) → total (widths_before a st) ≤ total st + 3
unfolding widths_before
before_total C [] = omega arith
before_total C (x ∷ st) = omega arith
before_total L [] = omega arith
before_total L (x ∷ st) = omega arith
before_total E st = omega arith
before_total R [] = omega arith
before_total R (x ∷ st) = omega arith
before_total S [] = omega arith
before_total S (x ∷ []) = omega arith
before_total S (x ∷ (y ∷ st)) = omega arith

pub before_length : (a : Letter) (st : List ℕ) → length (widths_before a st) ≤ length st + 1
unfolding widths_before
before_length C [] = omega arith
before_length C (x ∷ st) = omega arith
before_length L [] = omega arith
before_length L (x ∷ st) = omega arith
before_length E st = omega arith
before_length R [] = omega arith
before_length R (x ∷ st) = omega arith
before_length S [] = omega arith
before_length S (x ∷ []) = omega arith
before_length S (x ∷ (y ∷ st)) = omega arith
