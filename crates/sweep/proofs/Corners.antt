-- What sound triangles say of every corner: the rules of `Sphere` that look at one place.
--
--   faces_at      the opposite of each corner faces back, and the vertex before it is the corner's next one
--   below_at_lem apart_at_lem moves_at    rules 9 and 12 at each corner; no corner is its own opposite
--   surface       tables that are sound are a surface
use mathlib.Core.Bool.{true}
use mathlib.Core.List.{List}
use mathlib.Core.Logic.{◌≢◌}
use mathlib.Core.Path.{◌∙◌, ◌≡◌, ap, subst, sym}
use Prim.Native.Nat.{◌*◌, ◌+◌, ◌/◌, ◌<◌, ℕ}
use native.Mathlib.Omega.{arith}
use lib.ListN.{length}
use Rattle.sweep.specs.Sound.{FacesAt, Sound, SoundAt}
use Rattle.theory.proofs.CornerLaws.{Place, at_left, at_right, at_tip, next_left, next_low, next_next, next_right, next_tip, place}
use Rattle.theory.proofs.MeshLaws.{Shape, glued_test, paired_test, surface_of}
use Rattle.theory.proofs.SwingLaws.{Surface}
use Rattle.theory.specs.Corner.{next, opposite, previous, triangle, vertex}
use Rattle.theory.specs.Mesh.{glued_at, paired_at}

module _ {vs os : List ℕ} {v : ℕ} (shape : Shape vs os) (h : Sound vs os v (length vs / 3)) where
  at : (c : ℕ) → c < length vs → SoundAt vs os v (triangle c)
  at c l = h.at (triangle c) (omega (arith, shape.thirds))

  -- a property of a corner and the next one, from those of a triangle
  by_corner : (P : ℕ → ℕ → Type 0) (c : ℕ) → P (3 * triangle c) (3 * triangle c + 1)
      → P (3 * triangle c + 1) (3 * triangle c + 2) → P (3 * triangle c + 2) (3 * triangle c) → P c (next c)
  by_corner P c p q r = go (place c)
    where
      k : ℕ
      k = triangle c

      move : (d f : ℕ) → c ≡ d → next d ≡ f → P d f → P c (next c)
      move d f e n x = subst (λ (y : ℕ). P y (next y)) (sym e) (subst (P d) (sym n) x)

      go : Place c → P c (next c)
      go (at_tip e) = move (3 * k) (3 * k + 1) e (next_tip k) p
      go (at_left e) = move (3 * k + 1) (3 * k + 2) e (next_left k) q
      go (at_right e) = move (3 * k + 2) (3 * k) e (next_right k) r

  pub faces_at : (c : ℕ) → c < length vs → FacesAt vs os c (vertex vs (next c))
  faces_at c l =
      let s = at c l in
      by_corner (λ (x y : ℕ). FacesAt vs os x (vertex vs y)) c s.tip s.left s.right

  pub below_at_lem : (c : ℕ) → c < length vs → vertex vs c < v
  below_at_lem c l =
      let s = at c l in
      by_corner (λ (x y : ℕ). vertex vs x < v) c s.below.0 s.below.1 s.below.2

  pub apart_at_lem : (c : ℕ) → c < length vs → vertex vs c ≢ vertex vs (next c)
  apart_at_lem c l =
      let s = at c l in
      by_corner (λ (x y : ℕ). vertex vs x ≢ vertex vs y) c s.first s.second s.third

  next_in : (c : ℕ) → c < length vs → next c < length vs
  next_in c l = let n = next_low (length vs / 3) c (omega (arith, shape.thirds)) in omega (arith, shape.thirds)

  -- the vertices of the edge opposite c would be one
  pub moves_at : (c : ℕ) → c < length vs → opposite os c ≢ c
  moves_at c l e =
      let f = (faces_at c l).ends in
      let b : vertex vs (previous c) ≡ vertex vs (next c) = sym (ap (λ (d : ℕ). vertex vs (previous d)) e) ∙ f in
      apart_at_lem (next c) (next_in c l) (sym b ∙ sym (ap (vertex vs) (next_next c)))

  pairs : (c : ℕ) → c < length vs → paired_at os c ≡ true
  pairs c l =
      let f = faces_at c l in
      paired_test os c (record { inside = f.inside; back = f.back; moves = moves_at c l })

  -- the other half of rule 11 stands at the opposite corner
  glue : (c : ℕ) → c < length vs → glued_at vs os c ≡ true
  glue c l =
      let f = faces_at c l in
      let d = opposite os c in
      let o = faces_at d (omega (arith, f.inside, shape.same)) in
      glued_test vs os c (sym f.ends) (sym (ap (λ (x : ℕ). vertex vs (previous x)) f.back) ∙ o.ends)

  pub surface : Surface vs os
  surface = surface_of vs os shape pairs glue
