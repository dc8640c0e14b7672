-- Tables that pass the sweep, from the gate and Euler's count to an accepted mesh and back.
--
--   Swept             what was found before the walk
--   swept             from the tests
--   swept_walkable    such tables can be walked
--   swept_accepted    where the walk turns all on, they are an accepted mesh
--   accepted_sound    an accepted mesh passes the sweep
use mathlib.Core.Bool.{Bool, true}
use mathlib.Core.List.{List}
use mathlib.Core.Path.{◌∙◌, ◌≡◌, ap, sym}
use Prim.Native.Nat.{◌*◌, ◌+◌, ◌/◌, ◌<◌, ◌≤◌, ℕ}
use native.Mathlib.Omega.{arith}
use lib.ListN.{length}
use Rattle.sweep.proofs.Corners.{apart_at_lem, below_at_lem, faces_at, moves_at, surface}
use Rattle.sweep.proofs.Saying.{said_yes}
use Rattle.sweep.specs.Sound.{FacesAt, Says, Sound, SoundAt}
use Rattle.theory.proofs.CornerLaws.{next_left, next_right, next_tip}
use Rattle.theory.proofs.MeshLaws.{Shape, shape_of}
use Rattle.theory.proofs.RingsFollow.{sphere_accepted}
use Rattle.theory.specs.Corner.{next, opposite, vertex}
use Rattle.theory.specs.Mesh.{Accepted, shape_ok}
use Rattle.walk.specs.Calls.{Traceable, Traced}
use Rattle.walk.specs.Table.{AllOn}

pub record Swept (vs os : List ℕ) (v g : ℕ) : Type 0 where
  pub shape : shape_ok vs os ≡ true
  pub gate : g < length vs
  pub euler : length vs / 3 + 4 ≡ 2 * v
  pub sound : Sound vs os v (length vs / 3)

pub swept : {vs os : List ℕ} {v g t : ℕ} {r : Bool} → shape_ok vs os ≡ true → t ≡ length vs / 3 → g < length vs
    → t + 4 ≡ 2 * v → Says (Sound vs os v (length vs / 3)) r → r ≡ true → Swept vs os v g
swept shape count gate euler s e =
    record { shape = shape; gate = gate; euler = rw (← count) euler; sound = said_yes s e }

module _ {vs os : List ℕ} {v g : ℕ} (h : Swept vs os v g) where
  abbrev t : ℕ
  t = length vs / 3

  shaped : Shape vs os
  shaped = shape_of vs os h.shape

  low : (c : ℕ) → c < 3 * t → c < length vs
  low c l = omega arith

  inside : (c : ℕ) → c < 3 * t → opposite os c < 3 * t
  inside c l = omega (arith, (faces_at shaped h.sound c (low c l)).inside, shaped.same, shaped.thirds)

  gated : g < 3 * t
  gated = omega (arith, h.gate, shaped.thirds)

  pub swept_walkable : {work : List ℕ} → 12 * t ≤ length work → Traceable vs os v g work
  swept_walkable room = record {
    small = shaped.few;
    corners = (omega (arith, shaped.thirds), omega (arith, shaped.same, shaped.thirds));
    mesh = record {
      gate = gated;
      below = λ c l. below_at_lem shaped h.sound c (low c l);
      inside = inside;
      few = omega (arith, h.euler, shaped.two);
    };
    room = room;
  }

  pub swept_accepted : {work : List ℕ} → Traced vs os v g work → AllOn (t + v) work → Accepted vs os v g
  swept_accepted w on =
      let s = surface shaped h.sound in
      sphere_accepted h.shape (record {
        gate = gated;
        below = λ c l. below_at_lem shaped h.sound c (low c l);
        inside = inside;
        paired = s.paired;
        moves = λ c l. moves_at shaped h.sound c (low c l);
        glued = s.glued;
        apart = λ c l. apart_at_lem shaped h.sound c (low c l);
        present = λ u l. w.present u l (on.at (t + u) (omega arith));
        reaches = λ k l. w.reached k l (on.at k (omega arith));
        euler = h.euler;
      })

module _ {vs os : List ℕ} {v g : ℕ} (a : Accepted vs os v g) where
  accepted_at : (k : ℕ) → k < length vs / 3 → SoundAt vs os v k
  accepted_at k l =
      let m = a.sphere in
      let s = shape_of vs os a.shape in
      let faces : (c d : ℕ) → c < 3 * (length vs / 3) → next c ≡ d → FacesAt vs os c (vertex vs d)
      = λ c d b e. record {
        inside = omega (arith, m.inside c b, s.same);
        back = m.paired c;
        ends = sym (m.glued c) ∙ ap (vertex vs) e;
      } in
      record {
        below =
            (m.below (3 * k) (omega arith), m.below (3 * k + 1) (omega arith), m.below (3 * k + 2) (omega arith));
        first = λ e. m.apart (3 * k) (omega arith) (e ∙ sym (ap (vertex vs) (next_tip k)));
        second = λ e. m.apart (3 * k + 1) (omega arith) (e ∙ sym (ap (vertex vs) (next_left k)));
        third = λ e. m.apart (3 * k + 2) (omega arith) (e ∙ sym (ap (vertex vs) (next_right k)));
        tip = faces (3 * k) (3 * k + 1) (omega arith) (next_tip k);
        left = faces (3 * k + 1) (3 * k + 2) (omega arith) (next_left k);
        right = faces (3 * k + 2) (3 * k) (omega arith) (next_right k);
      }

  pub accepted_sound : Sound vs os v (length vs / 3)
  accepted_sound = record { at = accepted_at }

  pub accepted_gate : g < length vs
  accepted_gate = omega (arith, a.sphere.gate)
