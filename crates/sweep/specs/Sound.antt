-- Rules 9 to 12 as the sweep looks at them: once for each triangle, and rule 11 from one side, since it is looked at
-- from the other side at the opposite corner.
--
--   Says P r     r is the answer to P
--   FacesAt      the opposite of c faces back, and the vertex before it is a
--   SoundAt      rules 9 to 12 at triangle k
--   Sound        at the first n triangles
use Rattle.std.specs.Prelude.{Bool, false, true, List, ◌≢◌, ◌≡◌, ◌*◌, ◌+◌, ◌<◌, ℕ, length}
use Rattle.theory.specs.Corner.{opposite, previous, vertex}

pub data Says (P : Type 0) : Bool → Type 0 where
  holds : P → Says P true
  fails : (P → ⊥) → Says P false

pub record FacesAt (vs os : List ℕ) (c a : ℕ) : Type 0 where
  pub inside : opposite os c < length os
  pub back : opposite os (opposite os c) ≡ c
  pub ends : vertex vs (previous (opposite os c)) ≡ a

pub record SoundAt (vs os : List ℕ) (v k : ℕ) : Type 0 where
  pub below : (vertex vs (3 * k) < v) × (vertex vs (3 * k + 1) < v) × (vertex vs (3 * k + 2) < v)
  pub first : vertex vs (3 * k) ≢ vertex vs (3 * k + 1)
  pub second : vertex vs (3 * k + 1) ≢ vertex vs (3 * k + 2)
  pub third : vertex vs (3 * k + 2) ≢ vertex vs (3 * k)
  pub tip : FacesAt vs os (3 * k) (vertex vs (3 * k + 1))
  pub left : FacesAt vs os (3 * k + 1) (vertex vs (3 * k + 2))
  pub right : FacesAt vs os (3 * k + 2) (vertex vs (3 * k))

pub record Sound (vs os : List ℕ) (v n : ℕ) : Type 0 where
  pub at : (k : ℕ) → k < n → SoundAt vs os v k
