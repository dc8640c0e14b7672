-- What the functions of this crate ask and promise.
--
--   Steppable   a step can be made here: everything that it reads and stores lies in the tables
--   Stepped     it is the walk's own step, whatever steps the table stands for: its letter a, and where it goes on.
--               The stack grows by at most one, and what is kept from 3t on stays
--   Traceable   tables that can be walked, and room for the walk
--   Traced      the walk is kept, and what is on in the table tells of the mesh: triangles reached, vertices present;
--               of an accepted mesh all of them
--   letters_in corners_in   the letters and the corners of steps that are kept
--   Spelt       letters and path begin with those of the t steps kept, and go on as before
use Rattle.std.specs.Prelude.{MatchOption, Option, true, List, [], ◌++◌, ◌∷◌, ◌≡◌, ◌%◌, ◌*◌, ◌+◌, ◌/◌, ◌<◌, ◌≤◌, ℕ, drop, length}
use Rattle.theory.specs.Corner.{left, opposite, right, triangle, vertex}
use Rattle.theory.specs.Mesh.{Reach, Sphere}
use Rattle.theory.specs.Walk.{Step, mesh_walk}
use Rattle.theory.specs.declared.Letter.{Letter}
use Rattle.walk.specs.Table.{AllOn, Leads, Standing, Walkable, codes, kept_to, on}
use Rattle.walk.specs.declared.Spot.{Spot}

pub record Steppable (vs os : List ℕ) (t : ℕ) (here : Spot) (work : List ℕ) : Type 0 where
  pub small : t ≤ 65536
  pub inside : here.at < 3 * t
  pub corners : (length vs ≡ 3 * t) × (length os ≡ 3 * t)
  pub tip : vertex vs here.at < 2 * t
  pub sides : (left (opposite os) here.at < 3 * t) × (right (opposite os) here.at < 3 * t)
  pub room : 4 * t < here.top
  pub within : here.top ≤ length work

pub record Stepped
    (vs os : List ℕ)
    (t : ℕ)
    (here : Spot)
    (work : List ℕ)
    (a : Letter)
    (next : Option Spot)
    (work' : List ℕ)
    : Type 0 where
  pub leads : (v g : ℕ) (steps : List Step) (st : List ℕ) → Standing vs os t v g steps st work here
      → Leads vs os t v g steps st here.at a work' next
  pub keeps : (k : ℕ) → 3 * t + k < here.top → kept_to t k work' ≡ kept_to t k work
  pub near : MatchOption next Unit (λ spot. (here.top ≤ spot.top + 1) × (spot.top ≤ length work))

pub record Traceable (vs os : List ℕ) (v g : ℕ) (work : List ℕ) : Type 0 where
  pub small : length vs / 3 ≤ 65536
  pub corners : (length vs ≡ 3 * (length vs / 3)) × (length os ≡ 3 * (length vs / 3))
  pub mesh : Walkable (vertex vs) (opposite os) (length vs / 3) v g
  pub room : 12 * (length vs / 3) ≤ length work

pub record Traced (vs os : List ℕ) (v g : ℕ) (work : List ℕ) : Type 0 where
  pub kept : kept_to (length vs / 3) (length (mesh_walk vs os g)) work ≡ codes (mesh_walk vs os g)
  pub reached : (k : ℕ) → k < length vs / 3 → on work k ≡ true → Reach (opposite os) (triangle g) k
  pub present : (u : ℕ) → u < v → on work (length vs / 3 + u) ≡ true
      → (c : ℕ) × (c < 3 * (length vs / 3)) × (vertex vs c ≡ u)
  pub whole : Sphere (vertex vs) (opposite os) (length vs / 3) v g → AllOn (length vs / 3 + v) work

unfoldable pub letters_in : List ℕ → List ℕ
letters_in [] = []
letters_in (x ∷ xs) = (x % 256) ∷ letters_in xs

unfoldable pub corners_in : List ℕ → List ℕ
corners_in [] = []
corners_in (x ∷ xs) = (x / 256) ∷ corners_in xs

pub record Spelt (work : List ℕ) (t : ℕ) (letters path letters' path' : List ℕ) : Type 0 where
  pub said : letters' ≡ letters_in (kept_to t t work) ++ drop (length (letters_in (kept_to t t work))) letters
  pub went : path' ≡ corners_in (kept_to t t work) ++ drop (length (corners_in (kept_to t t work))) path
