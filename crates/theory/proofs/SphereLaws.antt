-- Laws of an accepted mesh.
--
--   glued_left       the other half of rule 11
--   one_corner       rule 12: two corners of a triangle with one vertex are one corner
--   other_triangle   no triangle is its own neighbour
--   swing-..         swinging is one to one, stays in the mesh and keeps the vertex
use mathlib.Core.Logic.{◌≢◌, ◌⊎◌, inl, inr}
use mathlib.Core.Path.{◌∙◌, ◌≡◌, ap, refl, sym}
use Prim.Native.Nat.{◌*◌, ◌<◌, suc, zero, ℕ}
use Rattle.theory.proofs.CornerLaws.{next_low, next_previous, previous_low, previous_next, three}
use Rattle.theory.specs.Corner.{next, previous, right, swing, triangle}
use Rattle.theory.specs.Lists.{iter}
use Rattle.theory.specs.Mesh.{Sphere}

module _ {lab opp : ℕ → ℕ} {t v g : ℕ} (mesh : Sphere lab opp t v g) where
  pub glued_left : (c : ℕ) → lab (previous c) ≡ lab (next (opp c))
  glued_left c = ap (λ (d : ℕ). lab (previous d)) (sym (mesh.paired c)) ∙ sym (mesh.glued (opp c))

  pub one_corner : (c d : ℕ) → d < 3 * t → triangle c ≡ triangle d → lab c ≡ lab d → c ≡ d
  one_corner c d h q l = go (three c d q)
    where
      go : (c ≡ d) ⊎ ((c ≡ next d) ⊎ (c ≡ previous d)) → c ≡ d
      go (inl u) = u
      go (inr (inl u)) = absurd (mesh.apart d h (sym l ∙ ap lab u))
      go (inr (inr u)) =
          absurd (mesh.apart (previous d) (previous_low t d h) (ap lab (sym u) ∙ l ∙ ap lab (sym (next_previous d))))

  pub other_triangle : (c : ℕ) → c < 3 * t → triangle (opp c) ≢ triangle c
  other_triangle c h q = go (three (opp c) c q)
    where
      go : (opp c ≡ c) ⊎ ((opp c ≡ next c) ⊎ (opp c ≡ previous c)) → ⊥
      go (inl u) = mesh.moves c h u
      go (inr (inl u)) =
          mesh.apart c h
          (sym (ap lab (previous_next c)) ∙ ap (λ (d : ℕ). lab (previous d)) (sym u) ∙ sym (mesh.glued c))
      go (inr (inr u)) = mesh.apart (previous c) (previous_low t c h) (glued_left c ∙ ap (λ (d : ℕ). lab (next d)) u)

  pub swing_inj : (c d : ℕ) → swing opp c ≡ swing opp d → c ≡ d
  swing_inj c d q =
      let a = sym (previous_next (right opp c)) ∙ ap previous q ∙ previous_next (right opp d) in
      let b : next c ≡ next d = sym (mesh.paired (next c)) ∙ ap opp a ∙ mesh.paired (next d) in
      sym (previous_next c) ∙ ap previous b ∙ previous_next d

  pub swing_low : (c : ℕ) → c < 3 * t → swing opp c < 3 * t
  swing_low c h = next_low t (right opp c) (mesh.inside (next c) (next_low t c h))

  pub swing_vertex : (c : ℕ) → lab (swing opp c) ≡ lab c
  swing_vertex c = sym (glued_left (next c)) ∙ ap lab (previous_next c)

  pub swings_vertex : (i c : ℕ) → lab (iter (swing opp) i c) ≡ lab c
  unfolding iter
  swings_vertex zero c = refl
  swings_vertex (suc i) c = swing_vertex (iter (swing opp) i c) ∙ swings_vertex i c
