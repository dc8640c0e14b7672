-- A text written into a buffer.
--
--   put out at s               out, with s from the place at on in the place of what stood there
--   Wrote before at s after r   s was put, and the place behind it is r
--   Room w s                    there is room for s where the writer w stands
--   Writes before s after       the same of a writer: it keeps its buffer
use Rattle.std.specs.Prelude.{List, ◌++◌, ◌≡◌, ◌+◌, ◌≤◌, ℕ, drop, length, take}
use Rattle.text.specs.declared.Writer.{Writer}

unfoldable pub put : List ℕ → ℕ → List ℕ → List ℕ
put out at s = take at out ++ (s ++ drop (at + length s) out)

-- s was written at the place at: before became after, and the place behind s is r
pub record Wrote (before : List ℕ) (at : ℕ) (s after : List ℕ) (r : ℕ) : Type 0 where
  pub place : r ≡ at + length s
  pub text : after ≡ put before at s

abbrev pub Room : Writer → List ℕ → Type 0
Room w s = w.at + length s ≤ length w.out.now

pub record Writes (before : Writer) (s : List ℕ) (after : Writer) : Type 0 where
  pub same_buffer : after.out.ghost_name ≡ before.out.ghost_name
  pub same_length : length after.out.now ≡ length before.out.now
  pub inside : after.at ≤ length after.out.now
  pub wrote : Wrote before.out.now before.at s after.out.now after.at
