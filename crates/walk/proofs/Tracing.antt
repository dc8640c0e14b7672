-- The loop of `trace`: k steps are made and kept, and the walk is these and the steps to come.
--
--   Tracing           the loop's invariant
--   start             before the loop
--   steppable turn    a turn
--   stop              the step after which the walk ends
--   end               after the last turn
use mathlib.Core.Bool.{false}
use mathlib.Core.List.{List, [], ◌++◌, ◌∷◌, append-nil}
use mathlib.Core.Path.{◌∙◌, ◌≡◌, ap, refl, subst, sym}
use Prim.Native.Nat.{◌*◌, ◌+◌, ◌-◌, ◌/◌, ◌<◌, ◌≤◌, suc, ℕ}
use native.Mathlib.Omega.{arith}
use lib.ListN.{drop, drop_of_length-le, length, length-append, length-drop, length-replicate, length-set, replicate, set, take}
use lib.Seq.{append_snoc, length-take-le}
use Rattle.theory.proofs.ByTime.{Ahead, Holds}
use Rattle.theory.proofs.CornerLaws.{next_low, previous_low}
use Rattle.theory.proofs.WholeRun.{ahead_all, corner_of, letter_of}
use Rattle.theory.specs.Corner.{next, opposite, previous, vertex}
use Rattle.theory.specs.Letter.{byte}
use Rattle.theory.specs.Mesh.{here}
use Rattle.theory.specs.Walk.{Step, ◌＠◌, corners_of, mesh_walk, walk, walk_from}
use Rattle.std.specs.Prelude.{Option, Some, None}
use Rattle.theory.specs.declared.Letter.{Letter}
use Rattle.walk.proofs.Telling.{aside, told_aside, traced}
use Rattle.walk.proofs.Rows.{spot, left_met, right_met, tip_fits}
use Rattle.walk.proofs.TableLaws.{cleared_off, gate, kept_more, no_visits}
use Rattle.walk.specs.Calls.{Steppable, Stepped, Traceable, Traced}
use Rattle.walk.specs.Table.{MarkedIn, SeenIn, Standing, codes, gate_in, kept_to, on}
use Rattle.walk.specs.declared.Spot.{Spot}

-- the steps that follow, n at most
abbrev pub ahead : List ℕ → List ℕ → ℕ → ℕ → List Step → List ℕ → ℕ → List Step
ahead vs os g n steps st c = walk (vertex vs) (opposite os) g n steps st c

pub record Tracing (vs os : List ℕ) (v g long : ℕ) (work : List ℕ) (here : Spot) (k : ℕ) : Type 0 where
  pub small : length vs / 3 ≤ 65536
  pub corners : (length vs ≡ 3 * (length vs / 3)) × (length os ≡ 3 * (length vs / 3))
  pub large : 12 * (length vs / 3) ≤ long
  pub steps : List Step
  pub lefts : List ℕ
  pub stands : Standing vs os (length vs / 3) v g steps lefts work here
  pub kept : codes (mesh_walk vs os g)
      ≡ kept_to (length vs / 3) k work ++ codes (ahead vs os g (length vs / 3 - k) steps lefts here.at)
  -- the steps by their times: those made, and those to come
  pub behind : Holds (letter_of (mesh_walk vs os g)) (corner_of (mesh_walk vs os g)) steps
  pub before : Ahead (letter_of (mesh_walk vs os g)) (corner_of (mesh_walk vs os g)) (length steps)
      (ahead vs os g (length vs / 3 - k) steps lefts here.at)
  pub made : length steps ≡ k
  pub count : k ≤ length vs / 3
  pub same : length work ≡ long
  pub room : long ≤ here.top + k
  pub within : here.top ≤ long

module _ {vs os : List ℕ} {v g : ℕ} {work : List ℕ} (h : Traceable vs os v g work) where
  begun : (blank work' : List ℕ) → length blank ≡ length work → ((i : ℕ) → i < length vs / 3 + v → on blank i ≡ false)
      → work' ≡ gate_in vs (length vs / 3) g blank
      → Tracing vs os v g (length work) work' (spot g (length work)) 0
  unfolding mesh_walk walk_from corners_of
  begun blank work' long off e =
      let t = length vs / 3 in
      let m = h.mesh in
      let all : t - 0 ≡ t = omega arith in
      let a = m.below (next g) (next_low t g m.gate) in
      let b = m.below (previous g) (previous_low t g m.gate) in
      let fits : t + v ≤ length blank = omega (arith, h.room, m.few) in
      let same : length work' ≡ length work =
      ap length e ∙ length-set (set blank (t + vertex vs (next g)) 1) (t + vertex vs (previous g)) 1
      ∙ length-set blank (t + vertex vs (next g)) 1 ∙ long in
      let none : kept_to t 0 work' ≡ [] =
      drop_of_length-le (take (3 * t + 0) work') {i = 3 * t}
      (omega (arith, length-take-le (3 * t + 0) work' (omega (arith, h.room)))) in
      record {
        small = h.small;
        corners = h.corners;
        large = h.room;
        steps = [];
        lefts = [];
        stands = record {
          told = record {
            mesh = m;
            made = tt;
            visited = subst (SeenIn t []) (sym e) (no_visits vs t v g blank off fits a b);
            marked = subst (MarkedIn vs t v g []) (sym e) (gate vs t v g blank off fits a b);
          };
          met = record { low = m.gate; reach = here };
          waiting = drop_of_length-le work' {i = length work} (omega arith);
          waits = tt;
        };
        kept = rw (all, none) refl;
        behind = tt;
        before = rw all (ahead_all (mesh_walk vs os g));
        made = refl;
        count = omega arith;
        same = same;
        room = omega arith;
        within = omega arith;
      }

  pub start : {blank work' : List ℕ}
      → blank ≡ replicate (length vs / 3 + v) 0 ++ drop (length vs / 3 + v) work
      → work' ≡ gate_in vs (length vs / 3) g blank
      → Tracing vs os v g (length work) work' (spot g (length work)) 0
  start {blank} {work'} eb e =
      let n = length vs / 3 + v in
      let z : List ℕ = replicate n 0 in
      let a = length-append z (drop n work) in
      let b : length z ≡ n = length-replicate {A = ℕ} n 0 in
      let d = length-drop n work in
      let long : length blank ≡ length work = ap length eb ∙ omega (arith, h.mesh.few, h.room) in
      begun blank work' long (λ i l. ap (λ (y : List ℕ). on y i) eb ∙ cleared_off n work i (omega arith)) e

module _
    {vs os : List ℕ}
    {v g long : ℕ}
    {work : List ℕ}
    {here : Spot}
    {k : ℕ}
    (i : Tracing vs os v g long work here k) where
  abbrev t : ℕ
  t = length vs / 3

  abbrev c : ℕ
  c = here.at

  pub at_fits : c < 196608
  at_fits = omega (arith, i.stands.met.low, i.small)

  pub keep_fits : k < t → 3 * t + k < length work
  keep_fits b = omega (arith, i.large, i.same)

  pub steppable : k < t → Steppable vs os t here work
  steppable b =
      record {
        small = i.small;
        inside = i.stands.met.low;
        corners = i.corners;
        tip = tip_fits i.stands;
        sides = ((left_met i.stands).low, (right_met i.stands).low);
        room = omega (arith, i.large, i.room);
        within = omega (arith, i.within, i.same);
      }

  -- the step a is made, and kept; later is what follows it
  module _ (b : k < t) {a : Letter} {next : Option Spot} {work₁ : List ℕ} (len : length work₁ ≡ length work)
      (s : Stepped vs os t here work a next work₁) where
    abbrev x : ℕ
    x = 256 * c + byte a

    one_kept : (later : List Step) → ahead vs os g (t - k) i.steps i.lefts c ≡ (a ＠ c) ∷ later
        → codes (mesh_walk vs os g) ≡ kept_to t (k + 1) (set work₁ (3 * t + k) x) ++ codes later
    unfolding codes
    one_kept later q =
        let m : kept_to t k work₁ ≡ kept_to t k work = s.keeps k (omega (arith, i.large, i.room)) in
        let more = kept_more t k work₁ x (omega (arith, len, keep_fits b)) in
        i.kept ∙ ap (λ (y : List Step). kept_to t k work ++ codes y) q
        ∙ ap (λ (y : List ℕ). y ++ (x ∷ codes later)) (sym m)
        ∙ sym (append_snoc (kept_to t k work₁) x (codes later))
        ∙ ap (λ (y : List ℕ). y ++ codes later) (sym more)

    one_ahead : (later : List Step) → ahead vs os g (t - k) i.steps i.lefts c ≡ (a ＠ c) ∷ later
        → Ahead (letter_of (mesh_walk vs os g)) (corner_of (mesh_walk vs os g)) (length i.steps) ((a ＠ c) ∷ later)
    one_ahead later q =
        subst (Ahead (letter_of (mesh_walk vs os g)) (corner_of (mesh_walk vs os g)) (length i.steps)) q i.before

    again : suc (t - (k + 1)) ≡ t - k
    again = omega arith

  pub turn : {a : Letter} {on : Option Spot} {next : Spot} {work₁ work' : List ℕ} → k < t → length work₁ ≡ length work
      → Stepped vs os t here work a on work₁ → on ≡ Some next → work' ≡ set work₁ (3 * t + k) (256 * c + byte a)
      → Tracing vs os v g long work' next (k + 1)
  turn {a} {on} {next} {work₁} {work'} b len s₀ is e =
      let s : Stepped vs os t here work a (Some next) work₁ = rw (← is) s₀ in
      let o = s.leads v g i.steps i.lefts i.stands in
      let later = ahead vs os g (t - (k + 1)) ((a ＠ c) ∷ i.steps) o.lefts next.at in
      let q : ahead vs os g (t - k) i.steps i.lefts c ≡ (a ＠ c) ∷ later =
      ap (λ (y : ℕ). ahead vs os g y i.steps i.lefts c) (sym (again b len s)) ∙ o.goes (t - (k + 1)) in
      let then = one_ahead b len s later q in
      let near = s.near in
      rw e (record {
        small = i.small;
        corners = i.corners;
        large = i.large;
        steps = (a ＠ c) ∷ i.steps;
        lefts = o.lefts;
        stands = aside (3 * t + k) (256 * c + byte a) (omega arith) (omega (arith, i.large, i.room)) o.stands;
        kept = one_kept b len s later q;
        behind = (then.0, then.1, i.behind);
        before = then.2;
        made = omega (arith, i.made);
        count = omega arith;
        same = length-set work₁ (3 * t + k) (256 * c + byte a) ∙ len ∙ i.same;
        room = omega (arith, i.room);
        within = omega (arith, i.same);
      })

  pub stop : {a : Letter} {on : Option Spot} {work₁ work' : List ℕ} → k < t → length work₁ ≡ length work
      → Stepped vs os t here work a on work₁ → on ≡ None → work' ≡ set work₁ (3 * t + k) (256 * c + byte a)
      → Traced vs os v g work'
  unfolding codes
  stop {a} {on} {work₁} {work'} b len s₀ is e =
      let s : Stepped vs os t here work a None work₁ = rw (← is) s₀ in
      let o = s.leads v g i.steps i.lefts i.stands in
      let q : ahead vs os g (t - k) i.steps i.lefts c ≡ (a ＠ c) ∷ [] =
      ap (λ (y : ℕ). ahead vs os g y i.steps i.lefts c) (sym (again b len s)) ∙ o.ends (t - (k + 1)) in
      let then = one_ahead b len s [] q in
      let n = length-set work₁ (3 * t + k) (256 * c + byte a) in
      rw e (traced (k + 1) (told_aside (3 * t + k) (256 * c + byte a) (omega arith) o.told)
      (one_kept b len s [] q ∙ append-nil (kept_to t (k + 1) (set work₁ (3 * t + k) (256 * c + byte a))))
      (then.0, then.1, i.behind) (omega (arith, i.made)) (omega (arith, keep_fits b)))

  pub end : t ≤ k → Traced vs os v g work
  unfolding codes walk
  end b =
      let z : t - k ≡ 0 = omega arith in
      let none : ahead vs os g (t - k) i.steps i.lefts c ≡ [] =
      ap (λ (y : ℕ). ahead vs os g y i.steps i.lefts c) z in
      traced k i.stands.told
      (i.kept ∙ ap (λ (y : List Step). kept_to t k work ++ codes y) none ∙ append-nil (kept_to t k work)) i.behind
      i.made (omega (arith, i.large, i.same, i.count))
