-- Laws of the loops that follow a ring and go over the vertices.
--
--   Swinging os c d i     d is the corner after i swings from c, and c was not met again before
--   swing_start swing_turn swing_stop swing_end    the loop that answers `away_for`, all as `swinging`
--   ring_none ring_some   one vertex, from the counts, both as `ring`
--   rings_found           all vertices
use mathlib.Core.Bool.{false, not, true}
use mathlib.Core.List.{List}
use mathlib.Core.Logic.{◌≢◌, ◌⊎◌, inl, inr}
use mathlib.Core.Path.{◌∙◌, ◌≡◌, ap, sym}
use Prim.Native.Nat.{◌+◌, ◌-◌, ◌<◌, ◌≤◌, suc, ℕ}
use native.Mathlib.Decide.{dec_lt, ℕ_discrete}
use native.Mathlib.Numerals.{add-one}
use native.Mathlib.Omega.{arith}
use lib.Dec.{eqb}
use lib.ListN.{get_or, length}
use borrow.Author.Tests.{eq-eqb, ne_eqb}
use Rattle.ring.proofs.Tallies.{first_of}
use Rattle.ring.specs.Tally.{Tallied}
use Rattle.theory.proofs.Counting.{count}
use Rattle.std.specs.Prelude.{Option, Some, None, MatchOption}
use Rattle.theory.proofs.LeastLaws.{Before, all_off, all_true, scan_turn}
use Rattle.theory.proofs.LowestLaws.{lowest_at, lowest_none}
use Rattle.theory.proofs.Places.{present_few}
use Rattle.theory.proofs.RingLaws.{away_for, ring_count}
use Rattle.theory.proofs.RingTests.{absent, ringed_present}
use Rattle.theory.proofs.SwingLaws.{Surface, swings, swings_more}
use Rattle.std.proofs.lemmas.Bool.{cases_Bool}
use Rattle.theory.specs.Corner.{opposite, swing}
use Rattle.theory.specs.Lists.{iter, lowest}
use Rattle.theory.specs.Mesh.{first_corner, ringed_at}

pub record Swinging (os : List ℕ) (c d i : ℕ) : Type 0 where
  pub met : d ≡ swings os i c
  pub inside : d < length os
  pub some : 1 ≤ i
  pub apart : (j : ℕ) → suc j < i → not (eqb (swings os (suc j) c) c) ≡ true

module _ (os : List ℕ) (c : ℕ) where
  pub swing_start : (d : ℕ) → d ≡ swing (opposite os) c → d < length os → Swinging os c d 1
  unfolding iter
  swing_start d e l = record { met = e; inside = l; some = omega arith; apart = λ j l. absurd (omega arith) }

  module _ (d i : ℕ) (s : Swinging os c d i) where
    pub swing_turn : d ≢ c → (e : ℕ) → e ≡ swing (opposite os) d → e < length os → Swinging os c e (i + 1)
    swing_turn n e q l =
        record {
          met =
              q ∙ ap (swing (opposite os)) s.met ∙ sym (swings_more os i c)
              ∙ ap (λ (u : ℕ). swings os u c) (sym (add-one i));
          inside = l;
          some = omega arith;
          apart = λ j l. apart j l (ℕ_discrete (suc j) i);
        }
      where
        apart : (j : ℕ) → suc j < i + 1 → Dec (suc j ≡ i) → not (eqb (swings os (suc j) c) c) ≡ true
        apart j l (yes e) =
            ap not (ne_eqb (swings os (suc j) c) c (λ z. n (s.met ∙ ap (λ (u : ℕ). swings os u c) (sym e) ∙ z)))
        apart j l (no e) = s.apart j (omega arith)

    pub swing_stop : (k : ℕ) → i < k → d ≡ c → false ≡ away_for os c k
    unfolding away_for
    swing_stop k h e =
        sym (all_off (λ j. not (eqb (swings os (suc j) c) c)) (k - 1) (i - 1) (omega (arith, s.some))
        (ap not (eq-eqb (swings os (suc (i - 1)) c) c back)))
      where
        back : swings os (suc (i - 1)) c ≡ c
        back = let q : suc (i - 1) ≡ i = omega (arith, s.some) in ap (λ (u : ℕ). swings os u c) q ∙ sym s.met ∙ e

    pub swing_end : (k : ℕ) → k ≤ i → true ≡ away_for os c k
    unfolding away_for
    swing_end k h = sym (all_true (λ j. not (eqb (swings os (suc j) c) c)) (k - 1) (λ j l. s.apart j (omega arith)))

pub ruleset swinging = (swing_start, swing_turn, swing_stop, swing_end)

-- ---- one vertex

module _ (vs os work : List ℕ) (u : ℕ) (s : Surface vs os) (t : Tallied vs 0 work) (h : u < length vs) where
  count_at : get_or work u 0 ≡ count u vs
  count_at = t.counts u h

  first_found : (get_or work u 0 ≡ 0 → ⊥) → get_or work (length vs + u) 0 ≡ first_corner vs u
  first_found n = first_of vs u (get_or work (length vs + u) 0) (t.firsts u h (omega (arith, count_at)))

  pub ring_none : get_or work u 0 ≡ 0 → false ≡ ringed_at vs os u
  ring_none e = sym (absent vs os u (sym count_at ∙ e))

  pub ring_some : (get_or work u 0 ≡ 0 → ⊥)
      → away_for os (get_or work (length vs + u) 0) (get_or work u 0) ≡ ringed_at vs os u
  ring_some n =
      ap (λ (c : ℕ). away_for os c (get_or work u 0)) (first_found n) ∙ ap (away_for os (first_corner vs u)) count_at
      ∙ ring_count s u (omega (arith, count_at))

pub ruleset ring = (ring_none, ring_some)

-- ---- all vertices

-- what the search over the vertices finds: more vertices than corners are not all present
pub rings_found : (vs os : List ℕ) (v : ℕ) (r : Option ℕ)
    → MatchOption r ((k : ℕ) → 0 ≤ k → k < v → ringed_at vs os k ≡ true)
    (λ u. (0 ≤ u) × (u < v) × (u < length vs → ringed_at vs os u ≡ false)
    × ((k : ℕ) → 0 ≤ k → k < u → ringed_at vs os k ≡ true))
    → r ≡ lowest (ringed_at vs os) v
rings_found vs os v None h = lowest_none (ringed_at vs os) v (λ k l. h k (omega arith) l)
rings_found vs os v (Some u) h =
    lowest_at (ringed_at vs os) v u h.1 before (go (dec_lt u (length vs)) (cases_Bool (ringed_at vs os u)))
  where
    before : Before (ringed_at vs os) u
    before k l = h.3 k (omega arith) l

    go : Dec (u < length vs) → (ringed_at vs os u ≡ true) ⊎ (ringed_at vs os u ≡ false) → ringed_at vs os u ≡ false
    go (yes l) b = h.2 l
    go (no n) (inl q) =
        absurd (omega (
          arith,
          present_few (suc u) vs
              (λ y k. ringed_present vs os y (scan_turn (ringed_at vs os) v u before q y (omega arith))),
        ))
    go (no n) (inr q) = q
