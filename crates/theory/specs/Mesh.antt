-- Which tables are a mesh (document 01, "Mesh tables" and numbers 8 to 15).
--
-- Each rule is a test at one place; then the checks in their order; then the same rules as properties.
--
--   below_at paired_at glued_at    9, 10, 11 at a corner
--   apart_at reached_at           12, 14 at a triangle
--   ringed_at                    13 at a vertex
--   mesh_rungs                   the checks 8 to 15 in their order
--   mesh_answer                  the answer for a mesh; fits says whether what is lent is long enough
--   Sphere                      the seven rules as properties
use Rattle.std.specs.Prelude.{◌≡◌, ◌≢◌, Bool, true, not, cond, ◌&&◌, ◌||◌, List, [], ◌∷◌, ◌++◌, ℕ, zero, suc, ◌+◌, ◌*◌, ◌/◌, ◌%◌, ◌<◌, eqb, ltb, length}
use Rattle.theory.specs.Answer.{Answer}
use Rattle.theory.specs.Lists.{mem, least, all, some, iter}
use Rattle.theory.specs.Answer.{Rung, each, whole, first_broken, done, count_ok, room_rung}
use Rattle.theory.specs.Corner.{next, previous, triangle, vertex, opposite, swing}

-- ---- the rules as tests

-- the vertex number at c is below v
unfoldable pub below_at : List ℕ → ℕ → ℕ → Bool
below_at vs v c = ltb (vertex vs c) v

-- O[c] is below 3t, O[O[c]] = c and O[c] is not c
unfoldable pub paired_at : List ℕ → ℕ → Bool
paired_at os c =
    ltb (opposite os c) (length os) && (eqb (opposite os (opposite os c)) c && not (eqb (opposite os c) c))

-- V[n(c)] = V[p(O[c])] and V[p(c)] = V[n(O[c])]
unfoldable pub glued_at : List ℕ → List ℕ → ℕ → Bool
glued_at vs os c =
    eqb (vertex vs (next c)) (vertex vs (previous (opposite os c)))
    && eqb (vertex vs (previous c)) (vertex vs (next (opposite os c)))

-- triangle k has no vertex twice
unfoldable pub apart_at : List ℕ → ℕ → Bool
apart_at vs k =
    not (eqb (vertex vs (3 * k)) (vertex vs (3 * k + 1)))
    && (not (eqb (vertex vs (3 * k + 1)) (vertex vs (3 * k + 2)))
    && not (eqb (vertex vs (3 * k + 2)) (vertex vs (3 * k))))

-- the first corner of vertex u, the number of corners where it has none
unfoldable pub first_corner : List ℕ → ℕ → ℕ
first_corner vs u = least (λ c. not (eqb (vertex vs c) u)) (length vs)

-- swinging from c meets d
unfoldable pub meets : List ℕ → ℕ → ℕ → Bool
meets os c d = some (λ i. eqb (iter (swing (opposite os)) i c) d) (length os)

-- u has a corner, and swinging from its first one meets all of them
unfoldable pub ringed_at : List ℕ → List ℕ → ℕ → Bool
ringed_at vs os u =
    ltb (first_corner vs u) (length vs)
    && all (λ d. not (eqb (vertex vs d) u) || meets os (first_corner vs u) d) (length vs)

-- some side of triangle k faces one of the triangles ks
unfoldable pub touches : List ℕ → List ℕ → ℕ → Bool
touches os ks k =
    mem (triangle (opposite os (3 * k))) ks
    || (mem (triangle (opposite os (3 * k + 1))) ks || mem (triangle (opposite os (3 * k + 2))) ks)

-- those of the triangles i, i + 1, .., n of them, that are not among ks and face one of them
unfoldable pub facing : List ℕ → List ℕ → ℕ → ℕ → List ℕ
facing os ks zero i = []
facing os ks (suc n) i = cond (not (mem i ks) && touches os ks i) (i ∷ facing os ks n (suc i)) (facing os ks n (suc i))

-- the triangles reached from triangle k over at most n opposites, of t triangles
unfoldable pub reached : List ℕ → ℕ → ℕ → ℕ → List ℕ
reached os t zero k = k ∷ []
reached os t (suc n) k = reached os t n k ++ facing os (reached os t n k) t 0

unfoldable pub reached_at : List ℕ → ℕ → ℕ → ℕ → Bool
reached_at os t g k = mem k (reached os t t (triangle g))

-- ---- the checks in their order, each over the whole table before the next

-- V and O are of one length, a multiple of 3, and a third of it is a count
unfoldable pub shape_ok : List ℕ → List ℕ → Bool
shape_ok vs os = eqb (length vs) (length os) && (eqb (length vs % 3) 0 && count_ok (length vs / 3))

abbrev pub mesh_rungs : List ℕ → List ℕ → ℕ → ℕ → List Rung
mesh_rungs vs os v g =
    whole 8 (ltb g (length vs))
    ∷ each 9 (below_at vs v) (length vs)
    ∷ each 10 (paired_at os) (length vs)
    ∷ each 11 (glued_at vs os) (length vs)
    ∷ each 12 (apart_at vs) (length vs / 3)
    ∷ each 13 (ringed_at vs os) v
    ∷ each 14 (reached_at os (length vs / 3) g) (length vs / 3)
    ∷ whole 15 (eqb (length vs / 3 + 4) (2 * v))
    ∷ []

unfoldable pub mesh_answer : List ℕ → List ℕ → ℕ → ℕ → Bool → Answer
mesh_answer vs os v g fits =
    first_broken (whole 1 (shape_ok vs os) ∷ room_rung fits ∷ mesh_rungs vs os v g) (done (length vs / 3) v)

-- ---- the rules as properties

-- triangle k is reached from triangle a over opposites
pub data Reach (opp : ℕ → ℕ) (a : ℕ) : ℕ → Type 0 where
  here : Reach opp a a
  over : (c : ℕ) → Reach opp a (triangle c) → Reach opp a (triangle (opp c))

-- lab and opp are a mesh of t triangles and v vertices, whole from the gate g; beyond 3t opp c is c
pub record Sphere (lab opp : ℕ → ℕ) (t v g : ℕ) : Type 0 where
  pub gate : g < 3 * t
  pub below : (c : ℕ) → c < 3 * t → lab c < v
  pub inside : (c : ℕ) → c < 3 * t → opp c < 3 * t
  pub paired : (c : ℕ) → opp (opp c) ≡ c
  pub moves : (c : ℕ) → c < 3 * t → opp c ≢ c
  pub glued : (c : ℕ) → lab (next c) ≡ lab (previous (opp c))
  pub apart : (c : ℕ) → c < 3 * t → lab c ≢ lab (next c)
  pub present : (u : ℕ) → u < v → (c : ℕ) × (c < 3 * t) × (lab c ≡ u)
  pub reaches : (k : ℕ) → k < t → Reach opp (triangle g) k
  pub euler : t + 4 ≡ 2 * v

-- 13 beyond presence: swinging from any corner of a vertex leads to each other corner of it
abbrev pub Rings : (ℕ → ℕ) → (ℕ → ℕ) → ℕ → Type 0
Rings lab opp t =
    (c d : ℕ) → c < 3 * t → d < 3 * t → lab c ≡ lab d → (i : ℕ) × (iter (swing opp) i c ≡ d)

-- an accepted mesh
pub record Accepted (vs os : List ℕ) (v g : ℕ) : Type 0 where
  pub shape : shape_ok vs os ≡ true
  pub sphere : Sphere (vertex vs) (opposite os) (length vs / 3) v g
  pub rings : Rings (vertex vs) (opposite os) (length vs / 3)
