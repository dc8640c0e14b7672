-- A table that tells of some steps. A store between the vertices and the stack leaves what it tells; and one that
-- tells of the whole walk, which is kept, says of the mesh what `Traced` promises.
--
--   told_aside aside    such a store
--   traced              the walk is made and kept
use mathlib.Core.Bool.{true}
use mathlib.Core.List.{List}
use mathlib.Core.Logic.{inr}
use mathlib.Core.Path.{◌∙◌, ◌≡◌, ap, sym}
use Prim.Native.Nat.{◌*◌, ◌+◌, ◌-◌, ◌/◌, ◌<◌, ◌≤◌, ℕ}
use native.Mathlib.Decide.{dec_lt}
use native.Mathlib.Omega.{arith}
use lib.ListN.{length, length-drop, set, take}
use lib.Seq.{drop-set-lt, length-take-le}
use Rattle.theory.proofs.ByTime.{Holds}
use Rattle.theory.proofs.CornerLaws.{triangle_tip}
use Rattle.theory.proofs.Covered.{Covers, walk_covers}
use Rattle.theory.proofs.WholeRun.{corner_of, letter_of}
use Rattle.theory.specs.Corner.{opposite, vertex}
use Rattle.theory.specs.Walk.{Step, mesh_walk, walk_from}
use Rattle.walk.proofs.Made.{length_codes, marked_present, seen_reached}
use Rattle.walk.proofs.TableLaws.{marked_past, visited_past}
use Rattle.walk.specs.Calls.{Traced}
use Rattle.walk.specs.Table.{AllOn, Standing, Told, codes, kept_to, on}
use Rattle.walk.specs.declared.Spot.{Spot}

-- a store between the vertices and the stack leaves what the table tells
module _ {vs os : List ℕ} {t v g : ℕ} {steps : List Step} {work : List ℕ} (i x : ℕ) (h : 3 * t ≤ i) where
  pub told_aside : Told vs os t v g steps work → Told vs os t v g steps (set work i x)
  told_aside s = record {
    mesh = s.mesh;
    made = s.made;
    visited = visited_past t steps work s.visited i x (omega arith);
    marked = marked_past vs t v g steps work s.marked i x (inr (omega (arith, s.mesh.few)));
  }

  pub aside : {st : List ℕ} {here : Spot} → i < here.top → Standing vs os t v g steps st work here
      → Standing vs os t v g steps st (set work i x) here
  aside {st} {here} b s = record {
    told = told_aside s.told;
    met = s.met;
    waiting = drop-set-lt here.top work i x b ∙ s.waiting;
    waits = s.waits;
  }

-- where everything is visited and marked, all is on
all_on : {vs os : List ℕ} {t v g : ℕ} {steps : List Step} {work : List ℕ} → Told vs os t v g steps work
    → Covers (vertex vs) t v g steps → AllOn (t + v) work
all_on {vs} {os} {t} {v} {g} {steps} {work} s h = record { at = λ i b. go i b (dec_lt i t) }
  where
    go : (i : ℕ) → i < t + v → Dec (i < t) → on work i ≡ true
    go i b (yes l) =
        ap (on work) (sym (triangle_tip i)) ∙ s.visited (3 * i) (omega arith) ∙ h.visited (3 * i) (omega arith)
    go i b (no l) =
        let e : i ≡ t + (i - t) = omega arith in
        ap (on work) e ∙ s.marked (i - t) (omega arith) ∙ h.marked (i - t) (omega arith)

-- the walk is made and kept
pub traced : {vs os : List ℕ} {v g : ℕ} {work : List ℕ} {steps : List Step} (k : ℕ)
    → Told vs os (length vs / 3) v g steps work → codes (mesh_walk vs os g) ≡ kept_to (length vs / 3) k work
    → Holds (letter_of (mesh_walk vs os g)) (corner_of (mesh_walk vs os g)) steps → length steps ≡ k
    → 3 * (length vs / 3) + k ≤ length work → Traced vs os v g work
unfolding walk_from mesh_walk
traced {vs} {os} {v} {g} {work} {steps} k s whole behind made fits =
    let t = length vs / 3 in
    let a = length-take-le (3 * t + k) work fits in
    let d = length-drop (3 * t) (take (3 * t + k) work) in
    let m : length (mesh_walk vs os g) ≡ k = sym (length_codes (mesh_walk vs os g)) ∙ ap length whole ∙ omega arith in
    record {
      kept = ap (λ (y : ℕ). kept_to t y work) m ∙ sym whole;
      reached = λ j l e.
          rw (triangle_tip j) at (seen_reached (opposite os) t g steps s.made (3 * j)
          (sym (s.visited (3 * j) (omega arith)) ∙ ap (on work) (triangle_tip j) ∙ e));
      present = λ u l e.
          marked_present (vertex vs) t (opposite os) g steps s.made s.mesh.gate u (sym (s.marked u l) ∙ e);
      whole = λ mesh. all_on s (walk_covers mesh steps behind (made ∙ sym m));
    }
