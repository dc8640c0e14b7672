-- Rule 13 by counting (`ring_count`): the swings from the first corner of a vertex do not come back before as many
-- swings as it has corners, exactly where they meet all of them.
--
--   away_for os c k    corner c is not met again in fewer than k swings
--   ringed_from       the test, from swings of any number
--   ring_closes ring_between    such a ring closes, and leads from any of its corners to any other
use mathlib.Core.Bool.{Bool, not, true}
use mathlib.Core.List.{List, ◌∷◌}
use mathlib.Core.Logic.{◌≢◌}
use mathlib.Core.Path.{◌∙◌, ◌≡◌, ap, refl, sym}
use Prim.Native.Nat.{◌+◌, ◌-◌, ◌<◌, ◌≤◌, suc, zero, ℕ}
use native.Mathlib.Decide.{ℕ_discrete}
use native.Mathlib.Omega.{arith}
use lib.Dec.{eqb}
use lib.ListN.{length}
use borrow.Author.Tests.{eqb-false, ne_eqb}
use Rattle.theory.proofs.Counting.{bit, bit_off, count, pigeon}
use Rattle.theory.proofs.Injections.{length_vals, vals, vals_find, vals_off}
use Rattle.theory.proofs.LeastLaws.{all_each, all_true}
use Rattle.theory.proofs.Places.{bit_on, count_short, length_places, places, places_at, places_once, places_only, vals_apart, vals_meet}
use Rattle.theory.proofs.RingTests.{first_in, ringed_meets, ringed_present, ringed_true}
use Rattle.theory.proofs.SwingLaws.{Surface, swing_inj, swings, swings_add, swings_apart, swings_low, swings_more, swings_none, swings_round, swings_vertex}
use Rattle.std.proofs.lemmas.Bool.{not-true}
use Rattle.theory.proofs.TestLaws.{same_test}
use Rattle.theory.specs.Corner.{opposite, swing, vertex}
use Rattle.theory.specs.Lists.{all, iter}
use Rattle.theory.specs.Mesh.{first_corner, ringed_at}

unfoldable pub away_for : List ℕ → ℕ → ℕ → Bool
away_for os c k = all (λ i. not (eqb (iter (swing (opposite os)) (suc i) c) c)) (k - 1)

module _ {vs os : List ℕ} (s : Surface vs os) (u : ℕ) where
  abbrev after : ℕ → ℕ → ℕ
  after c i = swings os i c

  -- different corners of u are no more than u has
  swings_few : (c k d : ℕ) → c < length vs → vertex vs c ≡ u → ((j : ℕ) → 0 < j → j < k → swings os j c ≢ c)
      → d < length vs → vertex vs d ≡ u → ((i : ℕ) → i < k → d ≢ swings os i c) → suc k ≤ count u vs
  unfolding count
  swings_few c k d hc lc far hd ld off =
      let a = pigeon (d ∷ vals (after c) k) (places u 0 vs) among in
      omega (arith, length_vals (after c) k, length_places u 0 vs)
    where
      met : (y i : ℕ) → swings os i c ≡ y → 1 ≤ count y (places u 0 vs)
      met y i q =
          let low : y < length vs = omega (arith, swings_low s i c (omega (arith, s.same)), s.same) in
          places_at u y vs low (ap (vertex vs) (sym q) ∙ swings_vertex s i c ∙ lc)

      among : (y : ℕ) → count y (d ∷ vals (after c) k) ≤ count y (places u 0 vs)
      among y = go (ℕ_discrete y d) (ℕ_discrete (count y (vals (after c) k)) 0)
        where
          go : Dec (y ≡ d) → Dec (count y (vals (after c) k) ≡ 0)
              → bit (eqb y d) + count y (vals (after c) k) ≤ count y (places u 0 vs)
          go (yes q) z =
              let a : 1 ≤ count y (places u 0 vs) = rw q (places_at u d vs hd ld) in
              omega (arith, bit_on y d q, vals_off (after c) y k (λ i h z. off i h (sym q ∙ z)))
          go (no q) (yes z) = omega (arith, bit_off y d q)
          go (no q) (no z) =
              let r = vals_find (after c) y k (omega arith) in
              omega (arith, met y r.0 r.2, bit_off y d q, vals_apart (after c) y k (swings_apart s c k far))

  -- if fewer than j swings meet all corners of u, it has at most j
  swings_all : (c j : ℕ) → ((d : ℕ) → d < length vs → vertex vs d ≡ u → (i : ℕ) × (i < j) × (swings os i c ≡ d))
      → count u vs ≤ j
  swings_all c j f =
      let a = pigeon (places u 0 vs) (vals (after c) j) among in
      let b = length_vals (after c) j in
      let e = length_places u 0 vs in
      omega arith
    where
      among : (y : ℕ) → count y (places u 0 vs) ≤ count y (vals (after c) j)
      among y = go (ℕ_discrete (count y (places u 0 vs)) 0)
        where
          go : Dec (count y (places u 0 vs) ≡ 0) → count y (places u 0 vs) ≤ count y (vals (after c) j)
          go (yes e) = omega arith
          go (no n) =
              let p = places_only u 0 y vs (omega arith) in
              let z : y - 0 ≡ y = omega arith in
              let r = f y (omega (arith, p.1)) (rw z at p.2) in
              let q = vals_meet (after c) y j r.0 r.1 r.2 in
              omega (arith, places_once u 0 y vs)

  -- each corner of u is met, if the ring does not close before
  away_meets : 1 ≤ count u vs → ((j : ℕ) → 0 < j → j < count u vs → swings os j (first_corner vs u) ≢ first_corner vs u)
      → (d : ℕ) → d < length vs → vertex vs d ≡ u → (i : ℕ) × (i < count u vs) × (swings os i (first_corner vs u) ≡ d)
  away_meets p far d hd ld = go (ℕ_discrete (count d (vals (after (first_corner vs u)) (count u vs))) 0)
    where
      go : Dec (count d (vals (after (first_corner vs u)) (count u vs)) ≡ 0)
          → (i : ℕ) × (i < count u vs) × (swings os i (first_corner vs u) ≡ d)
      go (yes z) =
          let f = first_in vs u p in
          absurd (omega (
            arith,
            swings_few (first_corner vs u) (count u vs) d f.0 f.1 far hd ld
                (λ i l e. omega (arith, vals_meet (after (first_corner vs u)) d (count u vs) i l (sym e))),
          ))
      go (no z) = vals_find (after (first_corner vs u)) d (count u vs) (omega arith)

  -- the first corner is not met again in fewer swings than u has corners
  abbrev still : ℕ → Bool
  still i = not (eqb (swings os (suc i) (first_corner vs u)) (first_corner vs u))

  away_far : away_for os (first_corner vs u) (count u vs) ≡ true → (j : ℕ) → 0 < j → j < count u vs
      → swings os j (first_corner vs u) ≢ first_corner vs u
  unfolding away_for
  away_far t zero a b = absurd (omega arith)
  away_far t (suc j) a b =
      eqb-false (swings os (suc j) (first_corner vs u)) (first_corner vs u)
      (not-true (eqb (swings os (suc j) (first_corner vs u)) (first_corner vs u))
      (all_each still (count u vs - 1) t j (omega arith)))

  -- .. if swinging meets all corners of u
  meets_away : ((d : ℕ) → d < length vs → vertex vs d ≡ u → (i : ℕ) × (swings os i (first_corner vs u) ≡ d))
      → away_for os (first_corner vs u) (count u vs) ≡ true
  unfolding away_for
  meets_away f = all_true still (count u vs - 1) among
    where
      among : (j : ℕ) → j < count u vs - 1 → not (eqb (swings os (suc j) (first_corner vs u)) (first_corner vs u)) ≡ true
      among j h = rw (ne_eqb (swings os (suc j) (first_corner vs u)) (first_corner vs u) early)
        where
          early : swings os (suc j) (first_corner vs u) ≢ first_corner vs u
          early e =
              let short = swings_all (first_corner vs u) (suc j) (λ d hd ld.
              let r = f d hd ld in
              let z = swings_round s (first_corner vs u) (suc j) (omega arith) e r.0 in
              (z.0, z.1, z.2 ∙ r.1)) in
              omega arith

  -- M3
  pub ring_count : 1 ≤ count u vs → away_for os (first_corner vs u) (count u vs) ≡ ringed_at vs os u
  ring_count p =
      same_test (away_for os (first_corner vs u) (count u vs)) (ringed_at vs os u)
      (λ t. ringed_true vs os u p (λ d h e. let r = away_meets p (away_far t) d h e in
      (r.0, omega (arith, r.1, count_short u vs, s.same), r.2)))
      (λ t. meets_away (λ d h e. let r = ringed_meets vs os u t d h e in (r.0, r.2)))

  -- the test from the proposition: the number of swings need not be bounded
  pub ringed_from : 1 ≤ count u vs
      → ((d : ℕ) → d < length vs → vertex vs d ≡ u → (i : ℕ) × (swings os i (first_corner vs u) ≡ d))
      → ringed_at vs os u ≡ true
  ringed_from p f = sym (ring_count p) ∙ meets_away f

  -- the ring closes after as many swings as u has corners
  pub ring_closes : ringed_at vs os u ≡ true → swings os (count u vs) (first_corner vs u) ≡ first_corner vs u
  ring_closes t = go (count u vs) refl met.0 met.1 met.2
    where
      p : 1 ≤ count u vs
      p = ringed_present vs os u t

      far : (j : ℕ) → 0 < j → j < count u vs → swings os j (first_corner vs u) ≢ first_corner vs u
      far = away_far (ring_count p ∙ t)

      low : first_corner vs u < length os
      low = let f = first_in vs u p in omega (arith, f.0, s.same)

      met : (i : ℕ) × (i < count u vs) × (swings os i (first_corner vs u) ≡ swings os (count u vs) (first_corner vs u))
      met =
          away_meets p far (swings os (count u vs) (first_corner vs u))
          (omega (arith, swings_low s (count u vs) (first_corner vs u) low, s.same))
          (swings_vertex s (count u vs) (first_corner vs u) ∙ (first_in vs u p).1)

      go : (k : ℕ) → count u vs ≡ k → (i : ℕ) → i < count u vs
          → swings os i (first_corner vs u) ≡ swings os (count u vs) (first_corner vs u)
          → swings os (count u vs) (first_corner vs u) ≡ first_corner vs u
      go zero e i h q = absurd (omega arith)
      go (suc k) e zero h q = sym q ∙ swings_none os (first_corner vs u)
      go (suc k) e (suc i) h q =
          absurd (swings_apart s (first_corner vs u) (count u vs) far i k (omega arith) (omega arith) (swing_inj s
          (swings os i (first_corner vs u)) (swings os k (first_corner vs u))
          (sym (swings_more os i (first_corner vs u)) ∙ q ∙ ap (λ (z : ℕ). swings os z (first_corner vs u)) e
          ∙ swings_more os k (first_corner vs u))))

  -- from any corner of u to any other
  pub ring_between : ringed_at vs os u ≡ true → (a b : ℕ) → a < length vs → vertex vs a ≡ u → b < length vs
      → vertex vs b ≡ u → (i : ℕ) × (swings os i a ≡ b)
  ring_between t a b ha la hb lb =
      let c = first_corner vs u in
      let p = ringed_present vs os u t in
      let ra = ringed_meets vs os u t a ha la in
      let rb = ringed_meets vs os u t b hb lb in
      let z = swings_round s (first_corner vs u) (count u vs) p (ring_closes t) ra.0 in
      let m = rb.0 + (count u vs - z.0) in
      let e : (rb.0 + (count u vs - z.0)) + z.0 ≡ rb.0 + count u vs = omega (arith, z.1) in (
        m,
        ap (swings os m) (sym (z.2 ∙ ra.2)) ∙ swings_add os m z.0 (first_corner vs u)
            ∙ ap (λ (w : ℕ). swings os w (first_corner vs u)) e
            ∙ sym (swings_add os rb.0 (count u vs) (first_corner vs u))
            ∙ ap (swings os rb.0) (ring_closes t) ∙ rb.2,
      )
