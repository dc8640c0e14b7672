-- Swings lead from a corner to another (`To`), for an involution opp on corners that keeps 0, .., 3t - 1 and is the
-- identity beyond.
--
--   to_refl to_trans to_sym     it is an equivalence; symmetric since swings come back (F3)
--   to_one                      one swing across a joined edge
--   lab_to                      swings keep the vertex
use mathlib.Core.Path.{◌∙◌, ◌≡◌, ap, refl, sym}
use Prim.Native.Nat.{◌*◌, ◌+◌, ◌<◌, ◌≤◌, suc, zero, ℕ}
use native.Mathlib.Decide.{dec_lt}
use native.Mathlib.Nat.{suc-add, zero-add}
use native.Mathlib.Omega.{arith}
use Rattle.theory.proofs.CornerLaws.{next_injective, next_low, next_previous, previous_next}
use Rattle.theory.proofs.Injections.{order}
use Rattle.theory.specs.Corner.{next, previous, swing}
use Rattle.theory.specs.Lists.{iter}

pub iter_add : (g : ℕ → ℕ) (i j x : ℕ) → iter g i (iter g j x) ≡ iter g (i + j) x
unfolding iter
iter_add g zero j x = rw zero-add refl
iter_add g (suc i) j x = rw suc-add (ap g (iter_add g i j x))

module _ (opp : ℕ → ℕ) where
  -- rule 13's relation
  abbrev pub To : ℕ → ℕ → Type 0
  To a b = (j : ℕ) × (iter (swing opp) j a ≡ b)

  pub to_refl : (x : ℕ) → To x x
  unfolding iter
  to_refl x = (0, refl)

  pub to_trans : (x y z : ℕ) → To x y → To y z → To x z
  to_trans x y z (i, p) (j, q) = (j + i, sym (iter_add (swing opp) j i x) ∙ ap (iter (swing opp) j) p ∙ q)

  pub to_one : (a b : ℕ) → opp a ≡ b → To (previous a) (next b)
  unfolding iter
  to_one a b q = (1, ap (λ (x : ℕ). next (opp x)) (next_previous a) ∙ ap next q)

  pub lab_to : (lab : ℕ → ℕ) → ((x : ℕ) → lab (previous x) ≡ lab (next (opp x))) → (a b : ℕ) → To a b → lab a ≡ lab b
  unfolding iter
  lab_to lab glue a b (j, q) = sym (go j) ∙ ap lab q
    where
      go : (i : ℕ) → lab (iter (swing opp) i a) ≡ lab a
      go zero = refl
      go (suc i) = let x = iter (swing opp) i a in sym (glue (next x)) ∙ ap lab (previous_next x) ∙ go i

  module _ (t : ℕ) (inv : (x : ℕ) → opp (opp x) ≡ x) (low : (x : ℕ) → x < 3 * t → opp x < 3 * t)
      (far : (x : ℕ) → 3 * t ≤ x → opp x ≡ x) where
    swing_inj : (x y : ℕ) → swing opp x ≡ swing opp y → x ≡ y
    swing_inj x y q =
        let a = next_injective (opp (next x)) (opp (next y)) q in
        next_injective x y (sym (inv (next x)) ∙ ap opp a ∙ inv (next y))

    -- swings keep every bound from 3t on
    swing_low : (m : ℕ) → t ≤ m → (x : ℕ) → x < 3 * m → swing opp x < 3 * m
    swing_low m h x p = next_low m (opp (next x)) (go (next x) (next_low m x p) (dec_lt (next x) (3 * t)))
      where
        go : (y : ℕ) → y < 3 * m → Dec (y < 3 * t) → opp y < 3 * m
        go y l (yes q) = let z = low y q in omega arith
        go y l (no q) = let z = far y (omega arith) in omega arith

    -- a full turn comes back, so one swing does
    back_one : (x : ℕ) → To (swing opp x) x
    unfolding iter
    back_one x =
        let m = t + x + 1 in
        let o = order (swing opp) (3 * m) (swing_low m (omega arith)) swing_inj x (omega arith) in
        let whole-turn : o.0 + 1 ≡ suc o.0 = omega arith in
        (o.0, iter_add (swing opp) o.0 1 x ∙ ap (λ (n : ℕ). iter (swing opp) n x) whole-turn ∙ o.1)

    pub to_sym : (a b : ℕ) → To a b → To b a
    unfolding iter
    to_sym a b (j, q) = rw (← q) (go j)
      where
        go : (i : ℕ) → To (iter (swing opp) i a) a
        go zero = to_refl a
        go (suc i) = let x = iter (swing opp) i a in to_trans (swing opp x) x a (back_one x) (go i)
