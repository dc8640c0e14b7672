-- What the walk keeps in its work table: t numbers for the triangles, v for the vertices, from 3t on the steps made,
-- and from the stack's top on the waiting lefts.
--
--   on work i     entry i is not 0
--   AllOn         the first n entries are on
--   SeenIn        entry k is on exactly if triangle k is visited
--   MarkedIn      entry t + u is on exactly if vertex u is marked
--   codes         steps as they are kept, each one number: 256 times its corner, and the byte of its letter
--   kept_to        the first k numbers from 3t on
--   Walkable      what a walk needs of tables: corners lead to corners, and vertices are few
--   Met MetAll    a corner of the tables whose triangle is reached from the gate's; a list of them
--   entered       the table with the triangle of corner c visited
--   entry         entry i of it
--   gate_in        the table with the two ends of the gate corner's edge marked
--   Told          the table tells of some steps made: what they have visited and marked
--   Standing      it tells so, and those steps lead to here, where some lefts wait on the stack
--   Onward        the step a at corner c goes on at a further spot, with the table after it
--   Last          it is the last
--   Leads         the one or the other
use Rattle.std.specs.Prelude.{Option, Some, None, Bool, not, true, List, [], ◌∷◌, ◌≡◌, ◌*◌, ◌+◌, ◌<◌, ◌≤◌, suc, ℕ, eqb, drop, get_or, set, take}
use Rattle.theory.specs.Corner.{next, opposite, previous, triangle, vertex}
use Rattle.theory.specs.Letter.{byte}
use Rattle.theory.specs.Lists.{mem}
use Rattle.theory.specs.Mesh.{Reach}
use Rattle.theory.specs.Walk.{Step, ◌＠◌, corners_of, marks, seen, walk}
use Rattle.theory.specs.declared.Letter.{Letter}
use Rattle.walk.specs.declared.Spot.{Spot}

abbrev pub on : List ℕ → ℕ → Bool
on work i = not (eqb (get_or work i 0) 0)

pub record AllOn (n : ℕ) (work : List ℕ) : Type 0 where
  pub at : (i : ℕ) → i < n → on work i ≡ true

abbrev pub SeenIn : ℕ → List Step → List ℕ → Type 0
SeenIn t steps work = (d : ℕ) → d < 3 * t → on work (triangle d) ≡ seen steps d

abbrev pub MarkedIn : List ℕ → ℕ → ℕ → ℕ → List Step → List ℕ → Type 0
MarkedIn vs t v g steps work = (u : ℕ) → u < v → on work (t + u) ≡ mem u (marks (vertex vs) g steps)

unfoldable pub codes : List Step → List ℕ
codes [] = []
codes ((a ＠ c) ∷ steps) = (256 * c + byte a) ∷ codes steps

abbrev pub kept_to : ℕ → ℕ → List ℕ → List ℕ
kept_to t k work = drop (3 * t) (take (3 * t + k) work)

pub record Walkable (lab opp : ℕ → ℕ) (t v g : ℕ) : Type 0 where
  pub gate : g < 3 * t
  pub below : (c : ℕ) → c < 3 * t → lab c < v
  pub inside : (c : ℕ) → c < 3 * t → opp c < 3 * t
  pub few : v ≤ 2 * t

pub record Met (opp : ℕ → ℕ) (t g c : ℕ) : Type 0 where
  pub low : c < 3 * t
  pub reach : Reach opp (triangle g) (triangle c)

abbrev pub MetAll : (ℕ → ℕ) → ℕ → ℕ → List ℕ → Type 0
MetAll opp t g [] = Unit
MetAll opp t g (d ∷ ds) = Met opp t g d × MetAll opp t g ds

abbrev pub entered : List ℕ → ℕ → List ℕ
entered work c = set work (triangle c) 1

abbrev pub entry : List ℕ → ℕ → ℕ → ℕ
entry work c i = get_or (entered work c) i 0

abbrev pub gate_in : List ℕ → ℕ → ℕ → List ℕ → List ℕ
gate_in vs t g work = set (set work (t + vertex vs (next g)) 1) (t + vertex vs (previous g)) 1

pub record Told (vs os : List ℕ) (t v g : ℕ) (steps : List Step) (work : List ℕ) : Type 0 where
  pub mesh : Walkable (vertex vs) (opposite os) t v g
  pub made : MetAll (opposite os) t g (corners_of steps)
  pub visited : SeenIn t steps work
  pub marked : MarkedIn vs t v g steps work

pub record Standing
    (vs os : List ℕ)
    (t v g : ℕ)
    (steps : List Step)
    (st work : List ℕ)
    (here : Spot)
    : Type 0 where
  pub told : Told vs os t v g steps work
  pub met : Met (opposite os) t g here.at
  pub waiting : drop here.top work ≡ st
  pub waits : MetAll (opposite os) t g st

pub record Onward
    (vs os : List ℕ)
    (t v g : ℕ)
    (steps : List Step)
    (st : List ℕ)
    (c : ℕ)
    (a : Letter)
    (work : List ℕ)
    (next : Spot)
    : Type 0 where
  pub lefts : List ℕ
  pub stands : Standing vs os t v g ((a ＠ c) ∷ steps) lefts work next
  pub goes : (n : ℕ) → walk (vertex vs) (opposite os) g (suc n) steps st c
      ≡ (a ＠ c) ∷ walk (vertex vs) (opposite os) g n ((a ＠ c) ∷ steps) lefts next.at

pub record Last
    (vs os : List ℕ)
    (t v g : ℕ)
    (steps : List Step)
    (st : List ℕ)
    (c : ℕ)
    (a : Letter)
    (work : List ℕ)
    : Type 0 where
  pub told : Told vs os t v g ((a ＠ c) ∷ steps) work
  pub ends : (n : ℕ) → walk (vertex vs) (opposite os) g (suc n) steps st c ≡ (a ＠ c) ∷ []

abbrev pub Leads : List ℕ → List ℕ → ℕ → ℕ → ℕ → List Step → List ℕ → ℕ → Letter → List ℕ → Option Spot → Type 0
Leads vs os t v g steps st c a work (Some next) = Onward vs os t v g steps st c a work next
Leads vs os t v g steps st c a work None = Last vs os t v g steps st c a work
