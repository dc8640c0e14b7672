-- T1. Which strings close: the checks 3 to 7 answer 0 exactly for them, and the word is settled by the letters.
--
--   answer_closes closes_answer    number 0 is answered exactly where the string closes, and with its counts
--   closes_word closes_unique      its word is the first word of the string, so there is one
use mathlib.Core.List.{List}
use mathlib.Core.Path.{◌∙◌, ◌≡◌, ap, sym}
use Prim.Native.Nat.{ℕ}
use native.Mathlib.Omega.{arith}
use Rattle.theory.proofs.Verdict.{Verdict, closed, follows, foreign, pinched, unfinished, verdict, verdict_only, wide}
use Rattle.theory.proofs.WordLaws.{word_of_spell}
use Rattle.theory.specs.Judge.{letter_answer, string_done}
use Rattle.theory.specs.Word.{Closes, word_of}
use Rattle.theory.specs.Answer.{Answer}

pub answer_closes : (s : List ℕ) → (letter_answer s).number ≡ 0 → Closes s
answer_closes s = go (letter_answer s) (verdict s)
  where
    go : (a : Answer) → Verdict s a → a.number ≡ 0 → Closes s
    go a (foreign p h lower bad) e = absurd (omega arith)
    go a (unfinished h no_word) e = absurd (omega arith)
    go a (follows h w b rest q) e = absurd (omega arith)
    go a (pinched w q p h most) e = absurd (omega arith)
    go a (wide w q h n) e = absurd (omega arith)
    go a (closed c) e = c

pub closes_answer : (s : List ℕ) → Closes s → letter_answer s ≡ string_done s
closes_answer s c = sym (verdict_only s (string_done s) (closed c))

pub closes_word : (s : List ℕ) (c : Closes s) → c.word ≡ word_of s
closes_word s c = sym (word_of_spell c.word) ∙ ap word_of c.spelt

pub closes_unique : (s : List ℕ) (c d : Closes s) → c.word ≡ d.word
closes_unique s c d = closes_word s c ∙ sym (closes_word s d)
