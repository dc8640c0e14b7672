-- Rule 13 as a test and by its meaning: the first corner of a vertex, and which corners its swings meet.
--
--   first_in first_none first_at     the first corner of a vertex, where it has one
--   ringed_true ringed_present ringed_meets absent     what `ringed_at` says
use mathlib.Core.Bool.{Bool, ◌||◌, false, not, true}
use mathlib.Core.List.{List}
use mathlib.Core.Logic.{◌≢◌}
use mathlib.Core.Path.{◌≡◌, ap, refl}
use Prim.Native.Nat.{◌<◌, ◌≤◌, ℕ}
use native.Mathlib.Decide.{dec_lt, ℕ_discrete}
use native.Mathlib.Omega.{arith}
use lib.Dec.{eqb, ltb}
use lib.ListN.{length}
use borrow.Author.Tests.{eq-eqb, eqb-false, eqb-true, lt-ltb, ltb-true, ne_eqb}
use Rattle.theory.proofs.Counting.{count}
use Rattle.theory.proofs.LeastLaws.{all_each, all_true, least_at, least_below, least_fails, some_one, some_true}
use Rattle.theory.proofs.Places.{count_find, counted}
use Rattle.theory.proofs.SwingLaws.{swings}
use Rattle.std.proofs.lemmas.Bool.{and_from, not-false, not-true}
use Rattle.theory.proofs.TestLaws.{and_left, and_right}
use Rattle.theory.specs.Corner.{vertex}
use Rattle.theory.specs.Lists.{all, least}
use Rattle.theory.specs.Mesh.{first_corner, meets, ringed_at}
use Rattle.theory.specs.Word.{before}

module _ (vs : List ℕ) (u : ℕ) where
  abbrev other : ℕ → Bool
  other c = not (eqb (vertex vs c) u)

  pub first_at : (c : ℕ) → c < length vs → vertex vs c ≡ u → ((d : ℕ) → d < c → vertex vs d ≢ u) → c ≡ first_corner vs u
  unfolding first_corner
  first_at c h e before =
      least_at other (length vs) c h (λ d l. ap not (ne_eqb (vertex vs d) u (before d l)))
      (ap not (eq-eqb (vertex vs c) u e))

  pub first_in : 1 ≤ count u vs → (first_corner vs u < length vs) × (vertex vs (first_corner vs u) ≡ u)
  unfolding first_corner
  first_in p = go (dec_lt (least other (length vs)) (length vs))
    where
      go : Dec (least other (length vs) < length vs)
          → (least other (length vs) < length vs) × (vertex vs (least other (length vs)) ≡ u)
      go (yes h) = (
        h,
        eqb-true (vertex vs (least other (length vs))) u
            (not-false (eqb (vertex vs (least other (length vs))) u) (least_fails other (length vs) h)),
      )
      go (no h) =
          let r = count_find u vs p in
          absurd (eqb-false (vertex vs r.0) u (not-true (eqb (vertex vs r.0) u)
          (least_below other (length vs) r.0 (omega (arith, r.1)))) r.2)

  pub first_none : count u vs ≡ 0 → length vs ≤ first_corner vs u
  unfolding first_corner
  first_none e = go (dec_lt (least other (length vs)) (length vs))
    where
      go : Dec (least other (length vs) < length vs) → length vs ≤ least other (length vs)
      go (yes h) =
          let q = eqb-true (vertex vs (least other (length vs))) u
          (not-false (eqb (vertex vs (least other (length vs))) u) (least_fails other (length vs) h)) in
          absurd (omega (arith, counted u (least other (length vs)) vs h q))
      go (no h) = omega arith

module _ (vs os : List ℕ) (u : ℕ) where
  abbrev met : ℕ → Bool
  met d = not (eqb (vertex vs d) u) || meets os (first_corner vs u) d

  met_true : (d : ℕ) → (vertex vs d ≡ u → (i : ℕ) × (i < length os) × (swings os i (first_corner vs u) ≡ d))
      → met d ≡ true
  unfolding meets
  met_true d f = go (ℕ_discrete (vertex vs d) u)
    where
      go : Dec (vertex vs d ≡ u) → met d ≡ true
      go (yes e) =
          let r = f e in
          rw (eq-eqb (vertex vs d) u e)
          (some_true (λ i. eqb (swings os i (first_corner vs u)) d) (length os) r.0 r.1
          (eq-eqb (swings os r.0 (first_corner vs u)) d r.2))
      go (no n) = rw (ne_eqb (vertex vs d) u n)

  met_one : (d : ℕ) → met d ≡ true → vertex vs d ≡ u → (i : ℕ) × (i < length os) × (swings os i (first_corner vs u) ≡ d)
  unfolding meets
  met_one d t e =
      let r = some_one (λ i. eqb (swings os i (first_corner vs u)) d) (length os) (rw (eq-eqb (vertex vs d) u e) at t) in
      (r.0, r.1, eqb-true (swings os r.0 (first_corner vs u)) d r.2)

  pub ringed_true : 1 ≤ count u vs
      → ((d : ℕ) → d < length vs → vertex vs d ≡ u → (i : ℕ) × (i < length os) × (swings os i (first_corner vs u) ≡ d))
      → ringed_at vs os u ≡ true
  unfolding ringed_at
  ringed_true p f =
      and_from (ltb (first_corner vs u) (length vs)) (all met (length vs))
      (lt-ltb (first_corner vs u) (length vs) (first_in vs u p).0)
      (all_true met (length vs) (λ d h. met_true d (f d h)))

  pub ringed_present : ringed_at vs os u ≡ true → 1 ≤ count u vs
  unfolding ringed_at
  ringed_present t = go (ℕ_discrete (count u vs) 0)
    where
      go : Dec (count u vs ≡ 0) → 1 ≤ count u vs
      go (yes e) =
          let a = ltb-true (first_corner vs u) (length vs)
          (and_left (ltb (first_corner vs u) (length vs)) (all met (length vs)) t) in
          absurd (omega (arith, first_none vs u e))
      go (no n) = omega arith

  pub ringed_meets : ringed_at vs os u ≡ true → (d : ℕ) → d < length vs → vertex vs d ≡ u
      → (i : ℕ) × (i < length os) × (swings os i (first_corner vs u) ≡ d)
  unfolding ringed_at
  ringed_meets t d h e =
      met_one d (all_each met (length vs) (and_right (ltb (first_corner vs u) (length vs)) (all met (length vs)) t) d h)
      e

  pub absent : count u vs ≡ 0 → ringed_at vs os u ≡ false
  absent e = go (ringed_at vs os u) refl
    where
      go : (b : Bool) → ringed_at vs os u ≡ b → b ≡ false
      go true q = absurd (omega (arith, ringed_present q))
      go false q = refl
