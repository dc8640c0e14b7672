-- The numbers of an answer, and the order of the checks as data (document 01, "Numbers of an answer").
--
--   Answer              what a call answers: a number, a place, and the counts
--   done t v            number 0, place 0 and the counts
--   refused n at        number n at its place, both counts 0
--   Rung                a check: its number, the place that breaks it, and the limit below which such a place lies
--   each n ok k         a check at each of k places, broken at the first where ok fails
--   whole n ok          a check of the whole, without a place: broken unless ok
--   first_broken rs a    the refusal of the first broken rung, a where none is broken
--   count_rung, room_rung numbers 1 and 2
--   number r            the number of a rule, as the code names it
--   answer r            the answer that a result of the code is
--   checked r           the same of a check that answers no counts
use Rattle.std.specs.Prelude.{Bool, cond, ◌&&◌, List, [], ◌∷◌, ℕ, ◌%◌, eqb, leb, ltb, Result, Ok, Err}
use Rattle.theory.specs.Lists.{least}
use Rattle.theory.specs.declared.Counts.{Counts}
use Rattle.theory.specs.declared.Refusal.{Refusal}
use Rattle.theory.specs.declared.Rule.{Rule}
use Rattle.theory.specs.declared.Rule.TheVariants.{Count, Room, Letter, Unfinished, Extra, Pinch, Width, Gate, Vertex, Opposite, Edge, Twice, Ring, Reach, Handle, Line, Form, Length}

pub record Answer : Type 0 where
  pub number : ℕ
  pub place : ℕ
  pub t : ℕ
  pub v : ℕ

abbrev pub done : ℕ → ℕ → Answer
done t v = record { number = 0; place = 0; t = t; v = v }

abbrev pub refused : ℕ → ℕ → Answer
refused n at = record { number = n; place = at; t = 0; v = 0 }

pub record Rung : Type 0 where
  pub number : ℕ
  pub place : ℕ
  pub limit : ℕ

abbrev pub each : ℕ → (ℕ → Bool) → ℕ → Rung
each n ok k = record { number = n; place = least ok k; limit = k }

abbrev pub whole : ℕ → Bool → Rung
whole n ok = record { number = n; place = 0; limit = cond ok 0 1 }

unfoldable pub first_broken : List Rung → Answer → Answer
first_broken [] a = a
first_broken (r ∷ rs) a = cond (ltb r.place r.limit) (refused r.number r.place) (first_broken rs a)

-- t even, 2 to 65,536
unfoldable pub count_ok : ℕ → Bool
count_ok t = eqb (t % 2) 0 && (leb 2 t && leb t 65536)

abbrev pub count_rung : ℕ → Rung
count_rung t = whole 1 (count_ok t)

-- every output, the work space and every table lent beside the input are long enough
abbrev pub room_rung : Bool → Rung
room_rung fits = whole 2 fits

-- ---- the answers of the code

abbrev pub number : Rule → ℕ
number Count = 1
number Room = 2
number Letter = 3
number Unfinished = 4
number Extra = 5
number Pinch = 6
number Width = 7
number Gate = 8
number Vertex = 9
number Opposite = 10
number Edge = 11
number Twice = 12
number Ring = 13
number Reach = 14
number Handle = 15
number Line = 16
number Form = 17
number Length = 18

abbrev pub answer : Result Counts Refusal → Answer
answer (Ok counts) = done counts.t counts.v
answer (Err refusal) = refused (number refusal.rule) refusal.place

abbrev pub checked : Result Unit Refusal → Answer
checked (Ok _) = done 0 0
checked (Err refusal) = refused (number refusal.rule) refusal.place
