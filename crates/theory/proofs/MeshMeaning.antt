-- What the mesh check means: done is answered exactly for an accepted mesh.
--
--   accepted accepts          `mesh_answer`, where what is lent is long enough
--   mesh_fits                         done only where what is lent is long enough
--   judged_accepted judged_accepts    the same for the checks 8 to 15 alone, of tables of a right shape
use mathlib.Core.Bool.{Bool, true}
use mathlib.Core.List.{List, ◌∷◌}
use mathlib.Core.Path.{◌∙◌, ◌≡◌, ap, refl, sym}
use Prim.Native.Nat.{◌*◌, ◌+◌, ◌/◌, ◌<◌, ℕ}
use native.Mathlib.Omega.{arith}
use lib.Dec.{eqb, ltb}
use lib.ListN.{length}
use borrow.Author.Tests.{eq-eqb, eqb-true, lt-ltb, ltb-true}
use Rattle.theory.proofs.MeshLaws.{apart_of, apart_test, glued_test, paired_of, paired_test, shape_of, surface_of}
use Rattle.theory.proofs.Passed.{Named, Passed, done_passed, each_passes, passed_done, passes_each, passes_whole, whole_passes}
use Rattle.theory.proofs.Places.{counted}
use Rattle.theory.proofs.ReachLaws.{reached_sound, reached_whole}
use Rattle.theory.proofs.RingLaws.{ring_between, ringed_from}
use Rattle.theory.proofs.RingTests.{first_in, ringed_present}
use Rattle.theory.proofs.SwingLaws.{Surface}
use Rattle.theory.specs.Answer.{done, first_broken, room_rung, whole}
use Rattle.theory.specs.Corner.{opposite, previous, triangle, vertex}
use Rattle.theory.specs.Mesh.{Accepted, apart_at, below_at, first_corner, glued_at, mesh_answer, mesh_rungs, paired_at, reached_at, ringed_at, shape_ok}

module _ (vs os : List ℕ) (v g : ℕ) where
  pub passed_accepted : shape_ok vs os ≡ true → Passed (mesh_rungs vs os v g) → Accepted vs os v g
  unfolding below_at reached_at
  passed_accepted shape (e8, (e9, (e10, (e11, (e12, (e13, (e14, (e15, e16)))))))) =
      let s = shape_of vs os shape in
      let t = length vs / 3 in
      let pairs = passes_each 10 (paired_at os) (length vs) e10 in
      let glue = passes_each 11 (glued_at vs os) (length vs) e11 in
      let surf = surface_of vs os s pairs glue in
      let ring = passes_each 13 (ringed_at vs os) v e13 in
      let gate : g < length vs = ltb-true g (length vs) (passes_whole 8 (ltb g (length vs)) e8) in
      let low : (c : ℕ) → c < 3 * (length vs / 3) → c < length vs = λ c h. omega (arith, s.thirds) in
      let name : (c : ℕ) → c < 3 * (length vs / 3) → vertex vs c < v = λ c h. ltb-true (vertex vs c) v
      (passes_each 9 (below_at vs v) (length vs) e9 c (low c h)) in
      record {
        shape = shape;
        sphere = record {
          gate = omega (arith, s.thirds);
          below = name;
          inside = λ c h. omega (arith, surf.inside c (omega (arith, s.same, low c h)), s.same, s.thirds);
          paired = surf.paired;
          moves = λ c h. (paired_of os c (pairs c (low c h))).moves;
          glued = surf.glued;
          apart = λ c h. apart_of vs c (passes_each 12 (apart_at vs) t e12 (triangle c) (omega arith));
          present = λ u h.
              let f = first_in vs u (ringed_present vs os u (ring u h)) in
              (first_corner vs u, omega (arith, f.0, s.thirds), f.1);
          reaches =
              λ k h. reached_sound os t (triangle g) surf.paired t k (passes_each 14 (reached_at os t g) t e14 k h);
          euler = eqb-true (t + 4) (2 * v) (passes_whole 15 (eqb (t + 4) (2 * v)) e15);
        };
        rings =
            λ c d hc hd q. ring_between surf (vertex vs d) (ring (vertex vs d) (name d hd)) c d (low c hc) q
            (low d hd) refl;
      }

  pub accepted_passed : Accepted vs os v g → Passed (mesh_rungs vs os v g)
  unfolding below_at reached_at
  accepted_passed a =
      let r = a.sphere in
      let t = length vs / 3 in
      let s = shape_of vs os a.shape in
      let low : (c : ℕ) → c < length vs → c < 3 * (length vs / 3) = λ c h. omega (arith, s.thirds) in
      let pairs : (c : ℕ) → c < length vs → paired_at os c ≡ true =
      λ c h. paired_test os c (record {
        inside =
            omega (arith, r.inside c (low c h), s.same);
        back = r.paired c;
        moves = r.moves c (low c h);
      }) in
      let glue : (c : ℕ) → c < length vs → glued_at vs os c ≡ true
      = λ c h. glued_test vs os c (r.glued c)
      (sym (r.glued (opposite os c) ∙ ap (λ (d : ℕ). vertex vs (previous d)) (r.paired c))) in
      let surf = surface_of vs os s pairs glue in
      let gate : triangle g < t = omega (arith, r.gate) in (
        whole_passes 8 (ltb g (length vs)) (lt-ltb g (length vs) (omega (arith, r.gate))),
        (
          each_passes 9 (below_at vs v) (length vs) (λ c h. lt-ltb (vertex vs c) v (r.below c (low c h))),
          (
            each_passes 10 (paired_at os) (length vs) pairs,
            (
              each_passes 11 (glued_at vs os) (length vs) glue,
              (
                each_passes 12 (apart_at vs) t (λ k h. apart_test vs k (λ c e. r.apart c (omega arith))),
                (
                  each_passes 13 (ringed_at vs os) v (λ u h. rings u (r.present u h) surf),
                  (
                    each_passes 14 (reached_at os t g) t
                        (λ k h. reached_whole os t (triangle g) r.paired r.inside
                        (omega (arith, s.same, s.thirds)) gate (r.reaches k h)),
                    (
                      whole_passes 15 (eqb (t + 4) (2 * v)) (eq-eqb (t + 4) (2 * v) r.euler),
                      tt,
                    ),
                  ),
                ),
              ),
            ),
          ),
        ),
      )
    where
      rings : (u : ℕ) → (c : ℕ) × (c < 3 * (length vs / 3)) × (vertex vs c ≡ u) → Surface vs os
          → ringed_at vs os u ≡ true
      rings u p surf =
          let c = counted u p.0 vs (omega (arith, p.1)) p.2 in
          let f = first_in vs u c in
          let s = shape_of vs os a.shape in
          ringed_from surf u c (λ d h e. a.rings (first_corner vs u) d (omega (arith, f.0, s.thirds))
          (omega (arith, s.thirds)) (f.1 ∙ sym e))

  abbrev named : Named (mesh_rungs vs os v g)
  named = (
    omega arith,
    (
      omega arith,
      (
        omega arith,
        (omega arith, (omega arith, (omega arith, (omega arith, (omega arith, tt))))),
      ),
    ),
  )

  -- ---- the checks 8 to 15

  pub judged_accepted : shape_ok vs os ≡ true → (first_broken (mesh_rungs vs os v g) (done (length vs / 3) v)).number ≡ 0
      → Accepted vs os v g
  judged_accepted shape e = passed_accepted shape (done_passed (mesh_rungs vs os v g) (done (length vs / 3) v) named e)

  pub judged_accepts : Accepted vs os v g
      → first_broken (mesh_rungs vs os v g) (done (length vs / 3) v) ≡ done (length vs / 3) v
  judged_accepts a = passed_done (mesh_rungs vs os v g) (done (length vs / 3) v) (accepted_passed a)

  -- ---- all checks

  pub accepted : (fits : Bool) → (mesh_answer vs os v g fits).number ≡ 0 → Accepted vs os v g
  unfolding mesh_answer
  accepted fits e =
      let p = done_passed (whole 1 (shape_ok vs os) ∷ room_rung fits ∷ mesh_rungs vs os v g) (done (length vs / 3) v)
      (omega arith, (omega arith, named)) e in
      passed_accepted (passes_whole 1 (shape_ok vs os) p.0) p.1.1

  pub accepts : Accepted vs os v g → mesh_answer vs os v g true ≡ done (length vs / 3) v
  unfolding mesh_answer
  accepts a =
      passed_done (whole 1 (shape_ok vs os) ∷ room_rung true ∷ mesh_rungs vs os v g) (done (length vs / 3) v)
      (whole_passes 1 (shape_ok vs os) a.shape, (whole_passes 2 true refl, accepted_passed a))

  pub mesh_fits : (fits : Bool) → (mesh_answer vs os v g fits).number ≡ 0 → fits ≡ true
  unfolding mesh_answer
  mesh_fits fits e =
      let p = done_passed (whole 1 (shape_ok vs os) ∷ room_rung fits ∷ mesh_rungs vs os v g) (done (length vs / 3) v)
      (omega arith, (omega arith, named)) e in
      passes_whole 2 fits p.1.0
