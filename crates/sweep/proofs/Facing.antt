-- The test of `faces_at`, branch by branch, for what it has read: d at corner c, and e at d.
--
--   faces_out faces_off    d is no corner; e is not c
--   faces_ends             else the vertex before d decides
--   before_in              it lies in the table
--   all_sound              whether every triangle is sound, from what `all` over them tells
use mathlib.Core.Bool.{Bool, false, true}
use mathlib.Core.List.{List}
use mathlib.Core.Logic.{◌≢◌}
use mathlib.Core.Path.{◌∙◌, ◌≡◌, ap, sym}
use Prim.Native.Nat.{◌/◌, ◌<◌, ◌≤◌, ℕ}
use native.Mathlib.Decide.{ℕ_discrete}
use Rattle.std.proofs.Common.{zero-add}
use native.Mathlib.Omega.{arith}
use lib.Dec.{eqb}
use lib.ListN.{get_or, length}
use borrow.Author.Tests.{eq-eqb, ne_eqb}
use Rattle.sweep.specs.Sound.{FacesAt, Says, Sound, SoundAt, fails, holds}
use Rattle.theory.proofs.CornerLaws.{previous_low}
use Rattle.std.proofs.lemmas.List.{get_or_default}
use Rattle.theory.proofs.MeshLaws.{shape_of}
use Rattle.theory.specs.Corner.{opposite, previous, vertex}
use Rattle.theory.specs.Mesh.{shape_ok}
use Rattle.std.specs.Prelude.{MatchBool}
use Rattle.std.specs.List.{AllWithin, HoldsAt, range_with_len}
use Rattle.std.proofs.lemmas.List.FromFn.{get_or-range_with_len, length-range_with_len}

module _ (vs os : List ℕ) (c a d : ℕ) (k : c < length os) (ed : d ≡ get_or os c 0) where
  face : opposite os c ≡ d
  face = get_or_default os c c 0 k ∙ sym ed

  pub faces_out : length os ≤ d → Says (FacesAt vs os c a) false
  faces_out h = fails (λ f. let i = f.inside in omega (arith, face))

  module _ (h : d < length os) (e : ℕ) (ee : e ≡ get_or os d 0) where
    faced : opposite os d ≡ e
    faced = get_or_default os d d 0 h ∙ sym ee

    pub faces_off : e ≢ c → Says (FacesAt vs os c a) false
    faces_off n = fails (λ f. n (sym faced ∙ ap (opposite os) (sym face) ∙ f.back))

    pub faces_ends : e ≡ c → (q : ℕ) → q ≡ previous d → Says (FacesAt vs os c a) (eqb (get_or vs q 0) a)
    faces_ends n q eq = go (ℕ_discrete (vertex vs q) a)
      where
        there : vertex vs (previous (opposite os c)) ≡ vertex vs q
        there = ap (λ (x : ℕ). vertex vs (previous x)) face ∙ ap (vertex vs) (sym eq)

        go : Dec (vertex vs q ≡ a) → Says (FacesAt vs os c a) (eqb (get_or vs q 0) a)
        go (yes z) =
            rw (eq-eqb (vertex vs q) a z)
            (holds (record {
              inside = omega (arith, face);
              back = ap (opposite os) face ∙ faced ∙ n;
              ends = there
                  ∙ z;
            }))
        go (no z) = rw (ne_eqb (vertex vs q) a z) (fails (λ f. z (sym there ∙ f.ends)))

-- it lies in the table
pub before_in : (vs os : List ℕ) → shape_ok vs os ≡ true → (d q : ℕ) → d < length os → q ≡ previous d → q < length vs
before_in vs os ok d q l e =
    let h = shape_of vs os ok in
    let n = previous_low (length vs / 3) d (omega (arith, h.same, h.thirds)) in
    omega (arith, h.thirds)

-- ---- all triangles

pub all_sound : (vs os : List ℕ) (v n : ℕ) (r : Bool)
    → MatchBool r (AllWithin (SoundAt vs os v) (range_with_len 0 n) 0 (length (range_with_len 0 n)))
    ((k : ℕ) × (k < length (range_with_len 0 n)) × HoldsAt (λ x. SoundAt vs os v x → ⊥) (range_with_len 0 n) k)
    → Says (Sound vs os v n) r
all_sound vs os v n true h = holds (record {
  at = λ k l.
      let m : k < length (range_with_len 0 n) = omega (arith, length-range_with_len 0 n) in
      let e : get_or (range_with_len 0 n) k 0 ≡ k = get_or-range_with_len 0 n k 0 l ∙ zero-add k in
      rw e at (h k 0 (omega arith) m);
})
all_sound vs os v n false h = fails (λ s.
    let k = h.0 in
    let l : k < n = omega (arith, h.1, length-range_with_len 0 n) in
    let e : get_or (range_with_len 0 n) k 0 ≡ k = get_or-range_with_len 0 n k 0 l ∙ zero-add k in
    (rw e at (h.2 0)) (s.at k l))
