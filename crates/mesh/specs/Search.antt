-- A search for the triangles that are reached, as a machine on two lists: which triangles are seen, and which of them
-- wait.
--
--   across os k j           the triangle across corner j of triangle k
--   touch x s               x is seen, and waits if it was not
--   spread os k s           the three neighbours of k are touched
--   search_at seen stack p  the search, read off two tables: what is seen, and what waits, from p on
--   Closed t os             a table of t triangles whose entries are its corners
--   Exact os a seen         seen is not 0 exactly at the triangles that are reached from triangle a
--   marked work k           number k is not 0
use Rattle.std.specs.Prelude.{Bool, cond, not, List, ◌∷◌, ◌≢◌, ◌≡◌, ◌*◌, ◌+◌, ◌<◌, ℕ, eqb, drop, get_or, length, set}
use Rattle.theory.specs.Corner.{opposite, triangle}
use Rattle.theory.specs.Mesh.{Reach}

abbrev pub across : List ℕ → ℕ → ℕ → ℕ
across os k j = triangle (opposite os (3 * k + j))

pub record Search : Type 0 where
  pub seen : List ℕ
  pub stack : List ℕ

unfoldable pub touch : ℕ → Search → Search
touch x s = cond (eqb (get_or s.seen x 0) 0) (record { seen = set s.seen x 1; stack = x ∷ s.stack }) s

abbrev pub spread : List ℕ → ℕ → Search → Search
spread os k s = touch (across os k 2) (touch (across os k 1) (touch (across os k 0) s))

abbrev pub search_at : List ℕ → List ℕ → ℕ → Search
search_at seen stack p = record { seen = seen; stack = drop p stack }

pub record Closed (t : ℕ) (os : List ℕ) : Type 0 where
  pub corners : length os ≡ 3 * t
  pub inside : (c : ℕ) → c < length os → opposite os c < length os

pub record Exact (os : List ℕ) (a : ℕ) (seen : List ℕ) : Type 0 where
  pub sound : (k : ℕ) → get_or seen k 0 ≢ 0 → Reach (opposite os) a k
  pub whole : (k : ℕ) → Reach (opposite os) a k → get_or seen k 0 ≢ 0

abbrev pub marked : List ℕ → ℕ → Bool
marked work k = not (eqb (get_or work k 0) 0)
