-- When two meshes are one but for their numbers (demand 3).
--
--   Renumbering   corners are carried by h and vertices by a: one to one, the turning order in each triangle and every
--                 neighbour kept, gate to gate. A map of corners that keeps n carries triangles to triangles.
--   turned i c    the corner i places behind c in its triangle, i below 3
--   by_walk cs x   the corner of the caller that stands at corner x of the tables read back, cs being the walk table
use Rattle.std.specs.Prelude.{◌≡◌, List, ℕ, zero, suc, ◌*◌, ◌/◌, ◌%◌, ◌<◌, get_or}
use Rattle.theory.specs.Corner.{next, previous}

pub record Renumbering (lab opp lab' opp' : ℕ → ℕ) (t v g g' : ℕ) (h a : ℕ → ℕ) : Type 0 where
  pub gate : h g ≡ g'
  pub low : (c : ℕ) → c < 3 * t → h c < 3 * t
  pub inj : (c d : ℕ) → c < 3 * t → d < 3 * t → h c ≡ h d → c ≡ d
  pub turning : (c : ℕ) → c < 3 * t → h (next c) ≡ next (h c)
  pub neighbour : (c : ℕ) → c < 3 * t → h (opp c) ≡ opp' (h c)
  pub vertex : (c : ℕ) → c < 3 * t → lab' (h c) ≡ a (lab c)
  pub names_low : (u : ℕ) → u < v → a u < v
  pub names_inj : (u w : ℕ) → u < v → w < v → a u ≡ a w → u ≡ w

unfoldable pub turned : ℕ → ℕ → ℕ
turned zero c = c
turned (suc zero) c = next c
turned (suc (suc i)) c = previous c

-- beyond the walk table the corner itself, so that it is one to one on all numbers
unfoldable pub by_walk : List ℕ → ℕ → ℕ
by_walk cs x = turned (x % 3) (get_or cs (x / 3) (3 * (x / 3)))
