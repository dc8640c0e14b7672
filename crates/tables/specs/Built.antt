-- What building the tables of a string asks and gives.
--
--   Buildable   the string is accepted, the first pass is done, and the tables are of the string's size
--   Built       both tables are those of the string's word, whatever they held before
use Rattle.std.specs.Prelude.{List, ◌≡◌, ◌*◌, ◌≤◌, ℕ, length}
use Rattle.tables.specs.Fold.{Joined}
use Rattle.theory.specs.Tables.{table_o, table_v}
use Rattle.theory.specs.Word.{Closes, word_of}

pub record Buildable (s work vs os : List ℕ) : Type 0 where
  pub few : length s ≤ 65536
  pub vertices : length vs ≡ 3 * length s
  pub neighbours : length os ≡ 3 * length s
  pub space : 12 * length s ≤ length work
  pub closes : Closes s
  pub joined : Joined s work

pub record Built (s vs os : List ℕ) : Type 0 where
  pub vertices : vs ≡ table_v (word_of s)
  pub neighbours : os ≡ table_o (word_of s)
