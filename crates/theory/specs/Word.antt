-- Words and their widths (document 01, "Which strings close").
--
--   Word        a word: E; C, L or R before a word; S before two words, the right branch first
--   spell w     its letters, as bytes          size w   how many          news w   how many Cs
--   width w     the width of the loop that it closes
--   Sound w     every C in it stands before a word of width 3 or more
--   Closes s    s is accepted: exactly one word, of width 2
--   words s     the words that s ends with, the first of them first; [] where a letter lacks a word behind it
--   word_of s    the first of them
use Rattle.std.specs.Prelude.{◌≡◌, List, [], ◌∷◌, ◌++◌, ℕ, suc, ◌+◌, ◌-◌, ◌≤◌}
use Rattle.theory.specs.declared.Letter.{Letter}
use Rattle.theory.specs.declared.Letter.TheVariants.{C, L, E, R, S}
use Rattle.theory.specs.Letter.{byte, letter}

pub data Word : Type 0 where
  w_e : Word
  w_c w_l w_r : Word → Word
  w_s : Word → Word → Word

unfoldable pub spell : Word → List ℕ
spell w_e = byte E ∷ []
spell (w_c w) = byte C ∷ spell w
spell (w_l w) = byte L ∷ spell w
spell (w_r w) = byte R ∷ spell w
spell (w_s a b) = byte S ∷ (spell a ++ spell b)

unfoldable pub size : Word → ℕ
size w_e = 1
size (w_c w) = suc (size w)
size (w_l w) = suc (size w)
size (w_r w) = suc (size w)
size (w_s a b) = suc (size a + size b)

unfoldable pub news : Word → ℕ
news w_e = 0
news (w_c w) = suc (news w)
news (w_l w) = news w
news (w_r w) = news w
news (w_s a b) = news a + news b

unfoldable pub width : Word → ℕ
width w_e = 3
width (w_c w) = width w - 1
width (w_l w) = width w + 1
width (w_r w) = width w + 1
width (w_s a b) = width a + width b - 1

abbrev pub Sound : Word → Type 0
Sound w_e = Unit {0}
Sound (w_c w) = Sound w × (3 ≤ width w)
Sound (w_l w) = Sound w
Sound (w_r w) = Sound w
Sound (w_s a b) = Sound a × Sound b

pub record Closes (s : List ℕ) : Type 0 where
  pub word : Word
  pub spelt : spell word ≡ s
  pub sound : Sound word
  pub two : width word ≡ 2

-- a letter before some words
unfoldable pub before : Letter → List Word → List Word
before E ws = w_e ∷ ws
before C [] = []
before C (w ∷ ws) = w_c w ∷ ws
before L [] = []
before L (w ∷ ws) = w_l w ∷ ws
before R [] = []
before R (w ∷ ws) = w_r w ∷ ws
before S [] = []
before S (a ∷ []) = []
before S (a ∷ (b ∷ ws)) = w_s a b ∷ ws

unfoldable pub words : List ℕ → List Word
words [] = []
words (b ∷ s) = before (letter b) (words s)

unfoldable pub first_word : List Word → Word
first_word [] = w_e
first_word (w ∷ ws) = w

abbrev pub word_of : List ℕ → Word
word_of s = first_word (words s)
