-- The checks that look at a mesh as a whole, 13 to 15; they are the end of `mesh_rungs`.
use Rattle.std.specs.Prelude.{List, [], ◌∷◌, ◌*◌, ◌+◌, ◌/◌, ℕ, eqb, length}
use Rattle.theory.specs.Answer.{Rung, each, whole}
use Rattle.theory.specs.Mesh.{reached_at, ringed_at}

abbrev pub later_rungs : List ℕ → List ℕ → ℕ → ℕ → List Rung
later_rungs vs os v g =
    each 13 (ringed_at vs os) v
    ∷ each 14 (reached_at os (length vs / 3) g) (length vs / 3)
    ∷ whole 15 (eqb (length vs / 3 + 4) (2 * v))
    ∷ []
