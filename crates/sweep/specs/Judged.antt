-- What the functions of this crate promise.
--
--   Walks    r says whether the mesh is accepted; if it does, the walk is kept
--   Judges   the answer of the checks 8 to 15; where it is done, the walk is kept
use Rattle.std.specs.Prelude.{Bool, true, List, ◌≡◌, ◌/◌, ℕ, length}
use Rattle.sweep.specs.Sound.{Says}
use Rattle.theory.specs.Answer.{done, first_broken}
use Rattle.theory.specs.Mesh.{Accepted, mesh_rungs}
use Rattle.theory.specs.Walk.{mesh_walk}
use Rattle.theory.specs.Answer.{Answer}
use Rattle.walk.specs.Table.{codes, kept_to}

-- all steps of the walk are kept
abbrev pub Keeps : List ℕ → List ℕ → ℕ → List ℕ → Type 0
Keeps vs os g work = kept_to (length vs / 3) (length vs / 3) work ≡ codes (mesh_walk vs os g)

pub record Walks (r : Bool) (vs os : List ℕ) (v g : ℕ) (work : List ℕ) : Type 0 where
  pub says : Says (Accepted vs os v g) r
  pub keeps : r ≡ true → Keeps vs os g work

pub record Judges (vs os : List ℕ) (v g : ℕ) (a : Answer) (work : List ℕ) : Type 0 where
  pub answer : a ≡ first_broken (mesh_rungs vs os v g) (done (length vs / 3) v)
  pub keeps : a.number ≡ 0 → Keeps vs os g work
