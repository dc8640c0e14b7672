-- Laws of the calls' outcomes: which check stops a call before its work, and what an answer leaves in the lent tables.
--
--   rungs_keep                      what holds of every rung's number holds of the number answered
--   sized_first sized_second sized_rest    a call whose first two checks are 1 and 2
--   later_string later_mesh         the numbers behind them are not 1 or 2
--   filled_done filled_refused      an output after done, and after a refusal
--   stopped_first stopped_second went_on      answer and work space of a call together
--   cleared_first cleared_second cleared_later    the work space after 1 and 2, and after every later answer
use mathlib.Core.Bool.{Bool, cond, false, true}
use mathlib.Core.List.{List, [], ◌++◌, ◌∷◌}
use mathlib.Core.Logic.{◌≢◌}
use mathlib.Core.Path.{◌∙◌, ◌≡◌, refl, sym}
use Prim.Native.Nat.{◌/◌, ℕ}
use lib.Dec.{ltb}
use lib.ListN.{drop, length, replicate}
use borrow.Author.Tests.{ne_eqb}
use Rattle.theory.proofs.AnswerLaws.{whole_passed, whole_stops}
use Rattle.theory.specs.Answer.{Rung, done, first_broken, refused, room_rung, whole}
use Rattle.theory.specs.Calls.{cleared, filled, sizes}
use Rattle.theory.specs.Judge.{letter_answer, letter_rungs, string_done}
use Rattle.theory.specs.Lists.{mem}
use Rattle.theory.specs.Mesh.{mesh_rungs}
use Rattle.theory.specs.Answer.{Answer}

-- every rung of a list has a number with P
abbrev pub EachRung : (ℕ → Type 0) → List Rung → Type 0
EachRung P [] = Unit {0}
EachRung P (r ∷ rs) = P r.number × EachRung P rs

pub rungs_keep : (P : ℕ → Type 0) (rs : List Rung) (a : Answer) → EachRung P rs → P a.number
    → P (first_broken rs a).number
unfolding first_broken
rungs_keep P [] a h p = p
rungs_keep P (r ∷ rs) a h p = go (ltb r.place r.limit) (rungs_keep P rs a h.1 p)
  where
    go : (b : Bool) → P (first_broken rs a).number
        → P (cond b (refused r.number r.place) (first_broken rs a)).number
    go true q = h.0
    go false q = q

module _ (shape fits : Bool) (rs : List Rung) (a : Answer) where
  abbrev sized : Answer
  sized = first_broken (whole 1 shape ∷ room_rung fits ∷ rs) a

  pub sized_first : shape ≡ false → sized ≡ refused 1 0
  sized_first h = whole_stops 1 shape (room_rung fits ∷ rs) a h

  pub sized_second : shape ≡ true → fits ≡ false → sized ≡ refused 2 0
  sized_second h f = whole_passed 1 shape (room_rung fits ∷ rs) a h ∙ whole_stops 2 fits rs a f

  pub sized_rest : shape ≡ true → fits ≡ true → sized ≡ first_broken rs a
  sized_rest h f = whole_passed 1 shape (room_rung fits ∷ rs) a h ∙ whole_passed 2 fits rs a f

-- neither 1 nor 2
abbrev pub Later : ℕ → Type 0
Later n = mem n sizes ≡ false

pub later_string : (s : List ℕ) → Later (letter_answer s).number
unfolding letter_answer mem
later_string s = rungs_keep Later (letter_rungs s) (string_done s) (refl, (refl, (refl, (refl, (refl, tt))))) refl

pub later_mesh : (vs os : List ℕ) (v g : ℕ) → Later (first_broken (mesh_rungs vs os v g) (done (length vs / 3) v)).number
unfolding mem
later_mesh vs os v g =
    rungs_keep Later (mesh_rungs vs os v g) (done (length vs / 3) v)
    (refl, (refl, (refl, (refl, (refl, (refl, (refl, (refl, tt)))))))) refl

pub filled_done : (a : Answer) (made old : List ℕ) → a.number ≡ 0 → filled a made old ≡ made ++ drop (length made) old
unfolding filled
filled_done a made old h = rw h

pub filled_refused : (a : Answer) (made old : List ℕ) → a.number ≢ 0 → filled a made old ≡ old
unfolding filled
filled_refused a made old h = rw (ne_eqb a.number 0 h)

pub cleared_later : (a : Answer) (work : List ℕ) → Later a.number → cleared sizes a work ≡ replicate (length work) 0
unfolding cleared
cleared_later a work h = rw h

pub cleared_first : (work : List ℕ) → cleared sizes (refused 1 0) work ≡ work
unfolding cleared mem
cleared_first work = refl

pub cleared_second : (work : List ℕ) → cleared sizes (refused 2 0) work ≡ work
unfolding cleared mem
cleared_second work = refl

-- ---- a call as a whole: its answer and its work space

pub record Outcome (shape fits : Bool) (rs : List Rung) (d : Answer) (work : List ℕ) (a : Answer)
    (work' : List ℕ) : Type 0 where
  pub answer : a ≡ first_broken (whole 1 shape ∷ room_rung fits ∷ rs) d
  pub space : work' ≡ cleared sizes a work

module _ {shape fits : Bool} {rs : List Rung} {d : Answer} {work : List ℕ} {a : Answer} where
  pub stopped_first : shape ≡ false → a ≡ refused 1 0 → Outcome shape fits rs d work a work
  stopped_first h e =
      record { answer = e ∙ sym (sized_first shape fits rs d h); space = rw e (sym (cleared_first work)) }

  pub stopped_second : shape ≡ true → fits ≡ false → a ≡ refused 2 0 → Outcome shape fits rs d work a work
  stopped_second h f e =
      record { answer = e ∙ sym (sized_second shape fits rs d h f); space = rw e (sym (cleared_second work)) }

  pub went_on :
      {work' : List ℕ} → shape ≡ true → fits ≡ true → a ≡ first_broken rs d → Later a.number
      → work' ≡ replicate (length work) 0
      → Outcome shape fits rs d work a work'
  went_on h f e l z =
      record { answer = e ∙ sym (sized_rest shape fits rs d h f); space = z ∙ sym (cleared_later a work l) }
