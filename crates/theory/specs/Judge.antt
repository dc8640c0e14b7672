-- What judging a string answers (document 01, "Numbers of an answer", 3 to 7).
--
--   wanted a n       how many words are wanted behind the letter a, n of them besides the word that it begins
--   words_end s n     how many letters n words take from the start of s; one more than s has where it ends inside them
--   pinched_at s p    a C stands at p before a word of width 2
--   letter_rungs s    the checks 3 to 7 in their order
--   string_answer     the answer for a string; fits says whether what is lent is long enough
use Rattle.std.specs.Prelude.{Bool, not, ◌&&◌, List, [], ◌∷◌, ℕ, zero, suc, ◌+◌, ◌/◌, eqb, length, get_or, drop}
use Rattle.theory.specs.Answer.{Answer}
use Rattle.theory.specs.declared.Letter.{Letter}
use Rattle.theory.specs.declared.Letter.TheVariants.{C, L, E, R, S}
use Rattle.theory.specs.Lists.{greatest}
use Rattle.theory.specs.Answer.{Rung, each, whole, first_broken, done, count_rung, room_rung}
use Rattle.theory.specs.Letter.{byte, letter, is_letter}
use Rattle.theory.specs.Word.{width, word_of}

unfoldable pub wanted : Letter → ℕ → ℕ
wanted C n = suc n
wanted L n = suc n
wanted E n = n
wanted R n = suc n
wanted S n = suc (suc n)

unfoldable pub words_end : List ℕ → ℕ → ℕ
words_end [] zero = 0
words_end [] (suc n) = 1
words_end (b ∷ s) zero = 0
words_end (b ∷ s) (suc n) = suc (words_end s (wanted (letter b) n))

unfoldable pub pinched_at : List ℕ → ℕ → Bool
pinched_at s p = eqb (get_or s p 0) (byte C) && eqb (width (word_of (drop (suc p) s))) 2

abbrev pub letter_rungs : List ℕ → List Rung
letter_rungs s =
    each 3 (λ i. is_letter (get_or s i 0)) (length s)
    -- the string ends inside its first word
    ∷ record { number = 4; place = length s; limit = words_end s 1 }
    -- letters follow the first word
    ∷ record { number = 5; place = words_end s 1; limit = length s }
    ∷ record { number = 6; place = greatest (λ p. not (pinched_at s p)) (length s); limit = length s }
    ∷ whole 7 (eqb (width (word_of s)) 2)
    ∷ []

abbrev pub string_done : List ℕ → Answer
string_done s = done (length s) (length s / 2 + 2)

unfoldable pub letter_answer : List ℕ → Answer
letter_answer s = first_broken (letter_rungs s) (string_done s)

unfoldable pub string_answer : List ℕ → Bool → Answer
string_answer s fits = first_broken (count_rung (length s) ∷ room_rung fits ∷ letter_rungs s) (string_done s)
