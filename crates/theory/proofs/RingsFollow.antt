-- Rule 13's ring part follows from the other rules (`sphere_rings`): the tables read back from the walk's string have
-- rings (T2), and the mesh is those tables but for its numbers (T3). Euler's count is used there, to count the walk's
-- steps.
--
--   swings_carried     a ring of the tables read back is carried to one of the mesh
--   sphere_accepted    so tables of a right shape that meet the rules of `Sphere` are accepted, and no ring need be
--                      followed
use mathlib.Core.Bool.{true}
use mathlib.Core.List.{List}
use mathlib.Core.Path.{◌∙◌, ◌≡◌, ap, refl, sym}
use Prim.Native.Nat.{◌*◌, ◌/◌, ◌<◌, suc, zero, ℕ}
use native.Mathlib.Omega.{arith}
use lib.ListN.{length}
use Rattle.theory.proofs.Carry.{by_walk_next}
use Rattle.theory.proofs.CornerLaws.{next_low}
use Rattle.theory.proofs.ReadMesh.{sphere_of_word}
use Rattle.theory.proofs.RoundTrip.{Round, round}
use Rattle.theory.proofs.SphereLaws.{swing_low}
use Rattle.theory.proofs.WordRings.{rings_of_word}
use Rattle.theory.specs.Corner.{next, opposite, swing, vertex}
use Rattle.theory.specs.Lists.{iter}
use Rattle.theory.specs.Mesh.{Accepted, Rings, Sphere, shape_ok}
use Rattle.theory.specs.Renumber.{by_walk}
use Rattle.theory.specs.Tables.{table_o, table_v}
use Rattle.theory.specs.Walk.{Step, corners_of}

module _ {lab opp : ℕ → ℕ} {t v g : ℕ} {steps : List Step} (r : Round lab opp t v g steps) where
  -- the opposites read back, and where their corners stand in the mesh
  abbrev back_opp : ℕ → ℕ
  back_opp = opposite (table_o r.word)

  abbrev f : ℕ → ℕ
  f = by_walk (corners_of steps)

  swung_low : (i x : ℕ) → x < 3 * t → iter (swing back_opp) i x < 3 * t
  unfolding iter
  swung_low zero x h = h
  swung_low (suc i) x h =
      let n = r.sized in
      let l = swung_low i x h in
      let s = swing_low (sphere_of_word r.word r.sound r.two) (iter (swing back_opp) i x) (omega arith) in
      omega arith

  swing_carried : (x : ℕ) → x < 3 * t → f (swing back_opp x) ≡ swing opp (f x)
  swing_carried x h =
      let cs = corners_of steps in
      by_walk_next cs (back_opp (next x))
      ∙ ap next (sym (r.neighbours (next x) (next_low t x h)) ∙ ap opp (by_walk_next cs x))

  swings_carried : (i x : ℕ) → x < 3 * t → f (iter (swing back_opp) i x) ≡ iter (swing opp) i (f x)
  unfolding iter
  swings_carried zero x h = refl
  swings_carried (suc i) x h =
      swing_carried (iter (swing back_opp) i x) (swung_low i x h) ∙ ap (swing opp) (swings_carried i x h)

  -- corners of one vertex are read back with one vertex
  back_vertex : (c d : ℕ) → c < 3 * t → d < 3 * t → lab c ≡ lab d
      → vertex (table_v r.word) (r.back c) ≡ vertex (table_v r.word) (r.back d)
  back_vertex c d hc hd q =
      let x = r.back c in
      let y = r.back d in
      let lx = r.back_low c hc in
      let ly = r.back_low d hd in
      let named = sym (r.vertices x lx) ∙ ap lab (r.there c) ∙ q ∙ sym (ap lab (r.there d)) ∙ r.vertices y ly in
      sym (r.unname_name (vertex (table_v r.word) x) (r.read_low x lx)) ∙ ap r.unname named
      ∙ r.unname_name (vertex (table_v r.word) y) (r.read_low y ly)

  round_rings : Rings lab opp t
  round_rings c d hc hd q =
      let x = r.back c in
      let y = r.back d in
      let n = r.sized in
      let lx = r.back_low c hc in
      let ly = r.back_low d hd in
      let z = rings_of_word r.word r.sound r.two x y (omega arith) (omega arith) (back_vertex c d hc hd q) in (
        z.0,
        ap (iter (swing opp) z.0) (sym (r.there c)) ∙ sym (swings_carried z.0 x lx) ∙ ap f z.1 ∙ r.there d,
      )

pub sphere_rings : {lab opp : ℕ → ℕ} {t v g : ℕ} → Sphere lab opp t v g → Rings lab opp t
sphere_rings mesh = round_rings (round mesh)

pub sphere_accepted : {vs os : List ℕ} {v g : ℕ} → shape_ok vs os ≡ true
    → Sphere (vertex vs) (opposite os) (length vs / 3) v g → Accepted vs os v g
sphere_accepted shape mesh = record { shape = shape; sphere = mesh; rings = sphere_rings mesh }
