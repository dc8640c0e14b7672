-- The walk and its letters (document 01, "Walk and letters").
--
-- A mesh is lent as two functions of a corner: lab, its vertex, and opp, its opposite. The steps made so far are a
-- list, the latest first.
--
--   a ＠ c              a step: the letter a, found at corner c
--   seen steps d       the triangle of corner d is visited
--   marks lab g steps  the marked vertices: the two ends of the gate corner's edge, and the tips of the Cs
--   letter_at steps c   the letter found at corner c
--   walk n steps st c  at most n further steps from corner c, st the waiting lefts, the latest first
--   walk_from           the walk of a mesh of t triangles from its gate
--   letters_of corners_of   the string and the walk table of some steps
use Rattle.std.specs.Prelude.{Bool, true, false, cond, ◌||◌, List, [], ◌∷◌, ℕ, zero, suc, ◌/◌, eqb, length}
use Rattle.theory.specs.declared.Letter.{Letter}
use Rattle.theory.specs.declared.Letter.TheVariants.{C, L, E, R, S}
use Rattle.theory.specs.Lists.{mem}
use Rattle.theory.specs.Corner.{next, previous, triangle, vertex, opposite, left, right}
use Rattle.theory.specs.Letter.{byte}

pub data Step : Type 0 where
  ◌＠◌ : Letter → ℕ → Step

infixl 50 ◌＠◌
-- the letter of a marked tip, by whether left and right are visited
unfoldable pub by_sides : Bool → Bool → Letter
by_sides true true = E
by_sides true false = L
by_sides false true = R
by_sides false false = S

unfoldable pub seen : List Step → ℕ → Bool
seen [] d = false
seen ((a ＠ c) ∷ steps) d = eqb (triangle d) (triangle c) || seen steps d

unfoldable pub tips : (ℕ → ℕ) → List Step → List ℕ
tips lab [] = []
tips lab ((C ＠ c) ∷ steps) = lab c ∷ tips lab steps
tips lab ((L ＠ c) ∷ steps) = tips lab steps
tips lab ((E ＠ c) ∷ steps) = tips lab steps
tips lab ((R ＠ c) ∷ steps) = tips lab steps
tips lab ((S ＠ c) ∷ steps) = tips lab steps

unfoldable pub marks : (ℕ → ℕ) → ℕ → List Step → List ℕ
marks lab g steps = lab (next g) ∷ (lab (previous g) ∷ tips lab steps)

module _ (lab opp : ℕ → ℕ) (g : ℕ) where
  -- its own triangle is visited, so left and right are looked up with it
  unfoldable pub letter_at : List Step → ℕ → Letter
  letter_at steps c =
      cond (mem (lab c) (marks lab g steps))
      (by_sides (seen ((E ＠ c) ∷ steps) (left opp c)) (seen ((E ＠ c) ∷ steps) (right opp c))) C

  unfoldable pub walk : ℕ → List Step → List ℕ → ℕ → List Step
  walk zero steps st c = []
  walk (suc n) steps st c =
      elim (letter_at steps c) [
        | C ↦ (C ＠ c) ∷ walk n ((C ＠ c) ∷ steps) st (right opp c)
        | L ↦ (L ＠ c) ∷ walk n ((L ＠ c) ∷ steps) st (right opp c)
        | E ↦ (E ＠ c) ∷ (elim st [ [] ↦ [] | d ∷ rest ↦ walk n ((E ＠ c) ∷ steps) rest d ])
        | R ↦ (R ＠ c) ∷ walk n ((R ＠ c) ∷ steps) st (left opp c)
        | S ↦ (S ＠ c) ∷ walk n ((S ＠ c) ∷ steps) (left opp c ∷ st) (right opp c)
      ]

unfoldable pub walk_from : (ℕ → ℕ) → (ℕ → ℕ) → ℕ → ℕ → List Step
walk_from lab opp t g = walk lab opp g t [] [] g

unfoldable pub letters_of : List Step → List ℕ
letters_of [] = []
letters_of ((a ＠ c) ∷ steps) = byte a ∷ letters_of steps

unfoldable pub corners_of : List Step → List ℕ
corners_of [] = []
corners_of ((a ＠ c) ∷ steps) = c ∷ corners_of steps

-- of the tables of a mesh
unfoldable pub mesh_walk : List ℕ → List ℕ → ℕ → List Step
mesh_walk vs os g = walk_from (vertex vs) (opposite os) (length vs / 3) g
