-- Where the first word of a string ends (`word_end`), none where the string ends inside it. There theory's `words_end`
-- is one more than the length.
use Rattle.std.specs.Prelude.{List, ℕ, Option, Some, None, cond, length, leb}
use Rattle.theory.specs.Judge.{words_end}

unfoldable pub word_end : List ℕ → Option ℕ
word_end s = cond (leb (words_end s 1) (length s)) (Some (words_end s 1)) None
