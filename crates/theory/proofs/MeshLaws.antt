-- The mesh rules at one place, from test to property and back, and the surface that rules 10 and 11 leave.
--
--   Shape shape_of shape-test          V and O of one length, a multiple of 3, of a right count
--   Paired paired_of paired_test       rule 10 at a corner
--   glued_of glued_test                rule 11 at a corner
--   apart_of apart_test                rule 12 at a triangle, by a corner and the next one
--   surface_of                         tables that pass 10 and 11 at every corner are a surface
use mathlib.Core.Bool.{Bool, ◌&&◌, not, true}
use mathlib.Core.List.{List}
use mathlib.Core.Logic.{◌≢◌}
use mathlib.Core.Path.{◌∙◌, ◌≡◌, ap, subst, sym}
use Prim.Native.Nat.{◌%◌, ◌*◌, ◌+◌, ◌/◌, ◌<◌, ◌≤◌, ℕ}
use native.Mathlib.Decide.{dec_lt}
use native.Mathlib.Omega.{arith}
use lib.Dec.{eqb, leb, ltb}
use lib.ListN.{get_or-eq_default, length}
use borrow.Author.Tests.{eq-eqb, eqb-false, eqb-true, leb-true, lt-ltb, ltb-true, ne_eqb}
use Rattle.theory.proofs.CornerLaws.{Place, at_left, at_right, at_tip, next_left, next_right, next_tip, place}
use Rattle.theory.proofs.SwingLaws.{Surface}
use Rattle.std.proofs.lemmas.Bool.{not-true}
use Rattle.theory.proofs.TestLaws.{and_left, and_right}
use Rattle.theory.specs.Answer.{count_ok}
use Rattle.theory.specs.Corner.{next, opposite, previous, triangle, vertex}
use Rattle.theory.specs.Mesh.{apart_at, glued_at, paired_at, shape_ok}

pub record Shape (vs os : List ℕ) : Type 0 where
  pub same : length vs ≡ length os
  pub thirds : length vs % 3 ≡ 0
  pub even : (length vs / 3) % 2 ≡ 0
  pub two : 2 ≤ length vs / 3
  pub few : length vs / 3 ≤ 65536

split : (a b : Bool) → (a && b) ≡ true → (a ≡ true) × (b ≡ true)
split a b e = (and_left a b e, and_right a b e)

pub shape_of : (vs os : List ℕ) → shape_ok vs os ≡ true → Shape vs os
unfolding shape_ok count_ok
shape_of vs os e =
    let t = length vs / 3 in
    let a = split (eqb (length vs) (length os))
    (eqb (length vs % 3) 0 && (eqb (t % 2) 0 && (leb 2 t && leb t 65536))) e in
    let b = split (eqb (length vs % 3) 0) (eqb (t % 2) 0 && (leb 2 t && leb t 65536)) a.1 in
    let c = split (eqb (t % 2) 0) (leb 2 t && leb t 65536) b.1 in
    let d = split (leb 2 t) (leb t 65536) c.1 in
    record {
      same = eqb-true (length vs) (length os) a.0;
      thirds = eqb-true (length vs % 3) 0 b.0;
      even = eqb-true (t % 2) 0 c.0;
      two = leb-true 2 t d.0;
      few = leb-true t 65536 d.1;
    }

pub record Paired (os : List ℕ) (c : ℕ) : Type 0 where
  pub inside : opposite os c < length os
  pub back : opposite os (opposite os c) ≡ c
  pub moves : opposite os c ≢ c

module _ (os : List ℕ) (c : ℕ) where
  abbrev opp : ℕ
  opp = opposite os c

  pub paired_of : paired_at os c ≡ true → Paired os c
  unfolding paired_at
  paired_of e =
      let a = split (ltb opp (length os)) (eqb (opposite os opp) c && not (eqb opp c)) e in
      let b = split (eqb (opposite os opp) c) (not (eqb opp c)) a.1 in
      record {
        inside = ltb-true opp (length os) a.0;
        back = eqb-true (opposite os opp) c b.0;
        moves = eqb-false opp c (not-true (eqb opp c) b.1);
      }

  pub paired_test : Paired os c → paired_at os c ≡ true
  unfolding paired_at
  paired_test p = rw (lt-ltb opp (length os) p.inside, eq-eqb (opposite os opp) c p.back, ne_eqb opp c p.moves)

module _ (vs os : List ℕ) (c : ℕ) where
  abbrev ahead : ℕ → ℕ
  ahead d = vertex vs (next d)

  abbrev behind : ℕ → ℕ
  behind d = vertex vs (previous d)

  pub glued_of : glued_at vs os c ≡ true → vertex vs (next c) ≡ vertex vs (previous (opposite os c))
  unfolding glued_at
  glued_of e =
      eqb-true (ahead c) (behind (opposite os c))
      (and_left (eqb (ahead c) (behind (opposite os c))) (eqb (behind c) (ahead (opposite os c))) e)

  pub glued_test : vertex vs (next c) ≡ vertex vs (previous (opposite os c))
      → vertex vs (previous c) ≡ vertex vs (next (opposite os c)) → glued_at vs os c ≡ true
  unfolding glued_at
  glued_test p q = rw (eq-eqb (ahead c) (behind (opposite os c)) p, eq-eqb (behind c) (ahead (opposite os c)) q)

module _ (vs : List ℕ) where
  -- of the three corners of a triangle
  abbrev Differ : ℕ → ℕ → Type 0
  Differ a b = vertex vs a ≢ vertex vs b

  pub apart_of : (c : ℕ) → apart_at vs (triangle c) ≡ true → vertex vs c ≢ vertex vs (next c)
  unfolding apart_at
  apart_of c e = go (place c)
    where
      k : ℕ
      k = triangle c

      differ : (a b : ℕ) → not (eqb (vertex vs a) (vertex vs b)) ≡ true → Differ a b
      differ a b q = eqb-false (vertex vs a) (vertex vs b) (not-true (eqb (vertex vs a) (vertex vs b)) q)

      off : ℕ → ℕ → Bool
      off a b = not (eqb (vertex vs a) (vertex vs b))

      a : (off (3 * k) (3 * k + 1) ≡ true) × ((off (3 * k + 1) (3 * k + 2) && off (3 * k + 2) (3 * k)) ≡ true)
      a = split (off (3 * k) (3 * k + 1)) (off (3 * k + 1) (3 * k + 2) && off (3 * k + 2) (3 * k)) e

      b : (off (3 * k + 1) (3 * k + 2) ≡ true) × (off (3 * k + 2) (3 * k) ≡ true)
      b = split (off (3 * k + 1) (3 * k + 2)) (off (3 * k + 2) (3 * k)) a.1

      by_corner : (d f : ℕ) → c ≡ d → next d ≡ f → Differ d f → Differ c (next c)
      by_corner d f p q n = subst (λ (x : ℕ). Differ x (next x)) (sym p) (subst (Differ d) (sym q) n)

      go : Place c → Differ c (next c)
      go (at_tip p) = by_corner (3 * k) (3 * k + 1) p (next_tip k) (differ (3 * k) (3 * k + 1) a.0)
      go (at_left p) = by_corner (3 * k + 1) (3 * k + 2) p (next_left k) (differ (3 * k + 1) (3 * k + 2) b.0)
      go (at_right p) = by_corner (3 * k + 2) (3 * k) p (next_right k) (differ (3 * k + 2) (3 * k) b.1)

  pub apart_test : (k : ℕ) → ((c : ℕ) → triangle c ≡ k → vertex vs c ≢ vertex vs (next c)) → apart_at vs k ≡ true
  unfolding apart_at
  apart_test k f =
      rw (
        ne_eqb (vertex vs (3 * k)) (vertex vs (3 * k + 1))
            (subst (Differ (3 * k)) (next_tip k) (f (3 * k) (omega arith))),
        ne_eqb (vertex vs (3 * k + 1)) (vertex vs (3 * k + 2))
            (subst (Differ (3 * k + 1)) (next_left k) (f (3 * k + 1) (omega arith))),
        ne_eqb (vertex vs (3 * k + 2)) (vertex vs (3 * k))
            (subst (Differ (3 * k + 2)) (next_right k) (f (3 * k + 2) (omega arith))),
      )

-- ---- beyond the table a corner is its own opposite, and has no vertex but 0

pub opposite_out : (os : List ℕ) (c : ℕ) → length os ≤ c → opposite os c ≡ c
opposite_out os c h = get_or-eq_default os c {n = c} h

module _ (vs os : List ℕ) (s : Shape vs os) (pairs : (c : ℕ) → c < length vs → paired_at os c ≡ true) where
  pub opposite_low : (c : ℕ) → c < length os → opposite os c < length os
  opposite_low c h = (paired_of os c (pairs c (omega (arith, s.same)))).inside

  pub opposite_twice : (c : ℕ) → opposite os (opposite os c) ≡ c
  opposite_twice c = go (dec_lt c (length os))
    where
      go : Dec (c < length os) → opposite os (opposite os c) ≡ c
      go (yes h) = (paired_of os c (pairs c (omega (arith, s.same)))).back
      go (no h) = let e = opposite_out os c (omega arith) in ap (opposite os) e ∙ e

  pub surface_of : ((c : ℕ) → c < length vs → glued_at vs os c ≡ true) → Surface vs os
  unfolding next previous
  surface_of glue =
      record {
        same = s.same;
        thirds = omega (arith, s.same, s.thirds);
        inside = opposite_low;
        paired = opposite_twice;
        glued = λ c. go c (dec_lt c (length vs));
      }
    where
      go : (c : ℕ) → Dec (c < length vs) → vertex vs (next c) ≡ vertex vs (previous (opposite os c))
      go c (yes h) = glued_of vs os c (glue c h)
      go c (no h) =
          let a : vertex vs (next c) ≡ 0 = get_or-eq_default vs 0 {n = next c} (omega (arith, s.thirds)) in
          let b : vertex vs (previous c) ≡ 0 = get_or-eq_default vs 0 {n = previous c} (omega (arith, s.thirds)) in
          a ∙ sym (ap (λ (d : ℕ). vertex vs (previous d)) (opposite_out os c (omega (arith, s.same))) ∙ b)
