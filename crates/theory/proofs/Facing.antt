-- One round of rule 14: which triangles face one of those reached before.
--
--   touches_at touches_one    a triangle touches some where one of its corners faces them
--   new os ks k               k is not among ks and touches them
--   facing_in facing_count    a round adds each new triangle once, and no other
use mathlib.Core.Bool.{Bool, ◌&&◌, ◌||◌, cond, false, not, true}
use mathlib.Core.List.{List, ◌∷◌}
use mathlib.Core.Logic.{◌⊎◌, inl, inr}
use mathlib.Core.Path.{◌∙◌, ◌≡◌, ap, refl, sym}
use Prim.Native.Nat.{◌*◌, ◌+◌, ◌<◌, ◌≤◌, suc, zero, ℕ}
use native.Mathlib.Decide.{ℕ_discrete}
use native.Mathlib.Omega.{arith}
use lib.Dec.{eqb}
use borrow.Author.Tests.{eq-eqb}
use Rattle.theory.proofs.CornerLaws.{Place, at_left, at_right, at_tip, place}
use Rattle.theory.proofs.Counting.{bit_off, count}
use Rattle.theory.proofs.Places.{bit_on}
use Rattle.std.proofs.lemmas.Bool.{or_cases, or_left, or_right}
use Rattle.theory.proofs.TestLaws.{not_both}
use Rattle.theory.specs.Corner.{opposite, triangle}
use Rattle.theory.specs.Lists.{mem}
use Rattle.theory.specs.Mesh.{facing, touches}

module _ (os : List ℕ) where
  -- the triangle of a corner that faces one of ks touches them
  pub touches_at : (ks : List ℕ) (c : ℕ) → mem (triangle (opposite os c)) ks ≡ true → touches os ks (triangle c) ≡ true
  unfolding touches
  touches_at ks c h = go (place c)
    where
      a : ℕ → Bool
      a d = mem (triangle (opposite os d)) ks

      go : Place c → touches os ks (triangle c) ≡ true
      go (at_tip e) = or_left (a (3 * triangle c)) (a (3 * triangle c + 1) || a (3 * triangle c + 2)) (ap a (sym e) ∙ h)
      go (at_left e) =
          or_right (a (3 * triangle c)) (a (3 * triangle c + 1) || a (3 * triangle c + 2))
          (or_left (a (3 * triangle c + 1)) (a (3 * triangle c + 2)) (ap a (sym e) ∙ h))
      go (at_right e) =
          or_right (a (3 * triangle c)) (a (3 * triangle c + 1) || a (3 * triangle c + 2))
          (or_right (a (3 * triangle c + 1)) (a (3 * triangle c + 2)) (ap a (sym e) ∙ h))

  pub touches_one : (ks : List ℕ) (k : ℕ) → touches os ks k ≡ true
      → (c : ℕ) × (triangle c ≡ k) × (mem (triangle (opposite os c)) ks ≡ true)
  unfolding touches
  touches_one ks k h = go (or_cases (a (3 * k)) (a (3 * k + 1) || a (3 * k + 2)) h)
    where
      a : ℕ → Bool
      a d = mem (triangle (opposite os d)) ks

      last : (a (3 * k + 1) ≡ true) ⊎ (a (3 * k + 2) ≡ true)
          → (c : ℕ) × (triangle c ≡ k) × (mem (triangle (opposite os c)) ks ≡ true)
      last (inl e) = (3 * k + 1, omega arith, e)
      last (inr e) = (3 * k + 2, omega arith, e)

      go : (a (3 * k) ≡ true) ⊎ ((a (3 * k + 1) || a (3 * k + 2)) ≡ true)
          → (c : ℕ) × (triangle c ≡ k) × (mem (triangle (opposite os c)) ks ≡ true)
      go (inl e) = (3 * k, omega arith, e)
      go (inr e) = last (or_cases (a (3 * k + 1)) (a (3 * k + 2)) e)

  module _ (ks : List ℕ) where
    abbrev pub new : ℕ → Bool
    new k = not (mem k ks) && touches os ks k

    pub facing_in : (n i k : ℕ) → i ≤ k → k < i + n → new k ≡ true → mem k (facing os ks n i) ≡ true
    unfolding facing mem
    facing_in zero i k h l e = absurd (omega arith)
    facing_in (suc n) i k h l e = go (ℕ_discrete k i) (new i) refl (facing_in n (suc i) k)
      where
        go : Dec (k ≡ i) → (b : Bool) → new i ≡ b
            → (suc i ≤ k → k < suc i + n → new k ≡ true → mem k (facing os ks n (suc i)) ≡ true)
            → mem k (cond b (i ∷ facing os ks n (suc i)) (facing os ks n (suc i))) ≡ true
        go (yes p) true q f = or_left (eqb k i) (mem k (facing os ks n (suc i))) (eq-eqb k i p)
        go (yes p) false q f = absurd (not_both (new k) e (ap new p ∙ q))
        go (no p) true q f = or_right (eqb k i) (mem k (facing os ks n (suc i))) (f (omega arith) (omega arith) e)
        go (no p) false q f = f (omega arith) (omega arith) e

    -- counted at most once, and only a new one from i on
    pub facing_count : (n i k : ℕ)
        → (count k (facing os ks n i) ≤ 1) × (1 ≤ count k (facing os ks n i) → (i ≤ k) × (k < i + n) × (new k ≡ true))
    unfolding facing count
    facing_count zero i k = (omega arith, λ h. absurd (omega arith))
    facing_count (suc n) i k =
        go (ℕ_discrete k i) (new i) refl (facing_count n (suc i) k).0 (facing_count n (suc i) k).1
      where
        more : ℕ
        more = count k (facing os ks n (suc i))

        go : Dec (k ≡ i) → (b : Bool) → new i ≡ b → more ≤ 1
            → (1 ≤ more → (suc i ≤ k) × (k < suc i + n) × (new k ≡ true))
            → (count k (cond b (i ∷ facing os ks n (suc i)) (facing os ks n (suc i))) ≤ 1)
            × (1 ≤ count k (cond b (i ∷ facing os ks n (suc i)) (facing os ks n (suc i))) → (i ≤ k) × (k < i + suc n)
            × (new k ≡ true))
        go (yes p) true q h f = (omega (arith, bit_on k i p, gone), λ l. (omega arith, omega arith, ap new p ∙ q))
          where
            gone : more ≡ 0
            gone = at (ℕ_discrete more 0)
              where
                at : Dec (more ≡ 0) → more ≡ 0
                at (yes z) = z
                at (no z) = absurd (omega (arith, (f (omega arith)).0))
        go (no p) true q h f = (
          omega (arith, bit_off k i p),
          λ l. let r = f (omega (arith, bit_off k i p)) in
              (omega (arith, r.0), omega (arith, r.1), r.2),
        )
        go (yes p) false q h f = (h, λ l. let r = f l in (omega (arith, r.0), omega (arith, r.1), r.2))
        go (no p) false q h f = (h, λ l. let r = f l in (omega (arith, r.0), omega (arith, r.1), r.2))
