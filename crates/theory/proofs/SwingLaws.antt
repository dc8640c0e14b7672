-- Swinging round a vertex, on what rules 10 and 11 leave: a surface.
--
--   Surface vs os     opposites pair the corners of the table, and edges are glued end to end; beyond the table too
--   Pairing os        what rule 10 alone leaves of it
--   swings os i c     the corner after i swings from c
--   swing_inj swing_low swing_vertex     a swing is one to one, stays in the table and at its vertex
--   swings_apart swings_round            corners met before the swings come back, and after
use mathlib.Core.List.{List}
use mathlib.Core.Logic.{◌≢◌}
use mathlib.Core.Path.{◌∙◌, ◌≡◌, ap, refl, sym}
use Prim.Native.Nat.{◌%◌, ◌+◌, ◌<◌, suc, zero, ℕ}
use native.Mathlib.Decide.{ℕ_discrete}
use native.Mathlib.Omega.{arith}
use lib.ListN.{length}
use Rattle.theory.proofs.CornerLaws.{previous_next}
use Rattle.theory.proofs.Swings.{iter_add}
use Rattle.theory.specs.Corner.{next, opposite, previous, swing, vertex}
use Rattle.theory.specs.Lists.{iter}

pub record Surface (vs os : List ℕ) : Type 0 where
  pub same : length vs ≡ length os
  pub thirds : length os % 3 ≡ 0
  pub inside : (c : ℕ) → c < length os → opposite os c < length os
  pub paired : (c : ℕ) → opposite os (opposite os c) ≡ c
  pub glued : (c : ℕ) → vertex vs (next c) ≡ vertex vs (previous (opposite os c))

-- what rule 10 alone leaves
pub record Pairing (os : List ℕ) : Type 0 where
  pub thirds : length os % 3 ≡ 0
  pub inside : (c : ℕ) → c < length os → opposite os c < length os
  pub paired : (c : ℕ) → opposite os (opposite os c) ≡ c

abbrev pub swings : List ℕ → ℕ → ℕ → ℕ
swings os i c = iter (swing (opposite os)) i c

module _ (os : List ℕ) where
  pub swings_none : (c : ℕ) → swings os 0 c ≡ c
  unfolding iter
  swings_none c = refl

  pub swings_more : (i c : ℕ) → swings os (suc i) c ≡ swing (opposite os) (swings os i c)
  unfolding iter
  swings_more i c = refl

  pub swings_add : (i j c : ℕ) → swings os i (swings os j c) ≡ swings os (i + j) c
  swings_add i j c = iter_add (swing (opposite os)) i j c

pub next_in : (n c : ℕ) → n % 3 ≡ 0 → c < n → next c < n
unfolding next
next_in n c k h = omega arith

pub previous_in : (n c : ℕ) → n % 3 ≡ 0 → c < n → previous c < n
unfolding previous
previous_in n c k h = omega arith

pub swing_in : (os : List ℕ) → Pairing os → (c : ℕ) → c < length os → swing (opposite os) c < length os
swing_in os p c h =
    next_in (length os) (opposite os (next c)) p.thirds (p.inside (next c) (next_in (length os) c p.thirds h))

module _ {vs os : List ℕ} (s : Surface vs os) where
  pub pairing : Pairing os
  pairing = record { thirds = s.thirds; inside = s.inside; paired = s.paired }

  -- the other half of rule 11
  pub glued_back : (c : ℕ) → vertex vs (previous c) ≡ vertex vs (next (opposite os c))
  glued_back c = sym (s.glued (opposite os c) ∙ ap (λ (d : ℕ). vertex vs (previous d)) (s.paired c))

  pub swing_inj : (a b : ℕ) → swing (opposite os) a ≡ swing (opposite os) b → a ≡ b
  swing_inj a b q =
      let p : opposite os (next a) ≡ opposite os (next b) = sym (previous_next (opposite os (next a))) ∙ ap previous q
      ∙ previous_next (opposite os (next b)) in
      let r : next a ≡ next b = sym (s.paired (next a)) ∙ ap (opposite os) p ∙ s.paired (next b) in
      sym (previous_next a) ∙ ap previous r ∙ previous_next b

  pub swing_low : (c : ℕ) → c < length os → swing (opposite os) c < length os
  swing_low c h = swing_in os pairing c h

  pub swing_vertex : (c : ℕ) → vertex vs (swing (opposite os) c) ≡ vertex vs c
  swing_vertex c = sym (glued_back (next c)) ∙ ap (vertex vs) (previous_next c)

  pub swings_low : (i c : ℕ) → c < length os → swings os i c < length os
  unfolding iter
  swings_low zero c h = h
  swings_low (suc i) c h = swing_low (swings os i c) (swings_low i c h)

  pub swings_vertex : (i c : ℕ) → vertex vs (swings os i c) ≡ vertex vs c
  unfolding iter
  swings_vertex zero c = refl
  swings_vertex (suc i) c = swing_vertex (swings os i c) ∙ swings_vertex i c

  -- not back in fewer than k swings: all different so far
  pub swings_apart : (c k : ℕ) → ((j : ℕ) → 0 < j → j < k → swings os j c ≢ c) → (i j : ℕ) → i < j → j < k
      → swings os i c ≢ swings os j c
  unfolding iter
  swings_apart c k h zero j p q = λ e. h j p q (sym e)
  swings_apart c k h (suc i) zero p q = absurd (omega arith)
  swings_apart c k h (suc i) (suc j) p q =
      λ e. swings_apart c k h i j (omega arith) (omega arith) (swing_inj (swings os i c) (swings os j c) e)

  -- back after j swings: no further corner is met
  pub swings_round : (c j : ℕ) → 0 < j → swings os j c ≡ c → (i : ℕ)
      → (m : ℕ) × (m < j) × (swings os m c ≡ swings os i c)
  unfolding iter
  swings_round c j p e zero = (0, p, refl)
  swings_round c j p e (suc i) = go (swings_round c j p e i)
    where
      go : (m : ℕ) × (m < j) × (swings os m c ≡ swings os i c)
          → (m : ℕ) × (m < j) × (swings os m c ≡ swing (opposite os) (swings os i c))
      go (m, h, q) = last (ℕ_discrete (suc m) j)
        where
          last : Dec (suc m ≡ j) → (m : ℕ) × (m < j) × (swings os m c ≡ swing (opposite os) (swings os i c))
          last (yes r) = (0, p, sym e ∙ ap (λ (z : ℕ). swings os z c) (sym r) ∙ ap (swing (opposite os)) q)
          last (no n) = (suc m, omega arith, ap (swing (opposite os)) q)
