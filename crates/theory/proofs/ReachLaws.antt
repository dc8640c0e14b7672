-- Rule 14: the triangles that t rounds reach are those that `Reach` leads to.
--
--   reached_sound    a triangle reached in any number of rounds is one of them
--   reached_whole    each of them is reached in t rounds: every round but the last ones adds one, and there are t
use mathlib.Core.Bool.{false, not, true}
use mathlib.Core.List.{List, [], ◌++◌, ◌∷◌, append-nil}
use mathlib.Core.Logic.{◌⊎◌, inl, inr}
use mathlib.Core.Path.{◌∙◌, ◌≡◌, ap, refl, subst, sym}
use Prim.Native.Nat.{◌*◌, ◌+◌, ◌<◌, ◌≤◌, suc, zero, ℕ}
use native.Mathlib.Decide.{dec_lt, ℕ_discrete}
use native.Mathlib.Omega.{arith}
use lib.Dec.{eqb}
use lib.ListN.{get_or-eq_default, length, length-append}
use borrow.Author.Tests.{eq-eqb, eqb-true}
use Rattle.theory.proofs.Counting.{bit, bit_off, count, count_append, pigeon}
use Rattle.theory.proofs.Facing.{facing_count, facing_in, new, touches_at, touches_one}
use Rattle.theory.proofs.Injections.{length_vals, vals, vals_in}
use Rattle.theory.proofs.Members.{mem_append, mem_false, mem_true}
use Rattle.theory.proofs.Places.{bit_on}
use Rattle.std.proofs.lemmas.Bool.{and_from, cases_Bool, not-true, or_cases, or_left}
use Rattle.theory.proofs.TestLaws.{and_left, and_right, not_both}
use Rattle.theory.specs.Corner.{opposite, triangle}
use Rattle.theory.specs.Lists.{mem}
use Rattle.theory.specs.Mesh.{Reach, facing, here, over, reached, touches}

module _ (os : List ℕ) (t a : ℕ) where
  reached_start : (n : ℕ) → mem a (reached os t n a) ≡ true
  unfolding reached mem
  reached_start zero = or_left (eqb a a) false (eq-eqb a a refl)
  reached_start (suc n) =
      mem_append a (reached os t n a) (facing os (reached os t n a) t 0)
      ∙ or_left (mem a (reached os t n a)) (mem a (facing os (reached os t n a) t 0)) (reached_start n)

  -- .. each of them below t, and none twice
  reached_count : a < t → (n k : ℕ) → (count k (reached os t n a) ≤ 1) × (1 ≤ count k (reached os t n a) → k < t)
  unfolding reached count
  reached_count h zero k = go (ℕ_discrete k a)
    where
      go : Dec (k ≡ a) → (bit (eqb k a) + 0 ≤ 1) × (1 ≤ bit (eqb k a) + 0 → k < t)
      go (yes p) = (omega (arith, bit_on k a p), λ l. omega arith)
      go (no p) = (omega (arith, bit_off k a p), λ l. absurd (omega (arith, bit_off k a p)))
  reached_count h (suc n) k = go (cases_Bool (mem k ks)) (reached_count h n k)
    where
      ks : List ℕ
      ks = reached os t n a

      add : List ℕ
      add = facing os ks t 0

      go : (mem k ks ≡ true) ⊎ (mem k ks ≡ false) → (count k ks ≤ 1) × (1 ≤ count k ks → k < t)
          → (count k (ks ++ add) ≤ 1) × (1 ≤ count k (ks ++ add) → k < t)
      go (inl e) r = (omega (arith, r.0, count_append k ks add, old), λ l. r.1 (mem_true k ks e))
        where
          old : count k add ≡ 0
          old = at (ℕ_discrete (count k add) 0)
            where
              at : Dec (count k add ≡ 0) → count k add ≡ 0
              at (yes z) = z
              at (no z) =
                  let q = ((facing_count os ks t 0 k).1 (omega arith)).2 in
                  absurd (not_both (mem k ks) e
                  (not-true (mem k ks) (and_left (not (mem k ks)) (touches os ks k) q)))
      go (inr e) r =
          let z = mem_false k ks e in
          let f = facing_count os ks t 0 k in (
            omega (arith, z, count_append k ks add, f.0),
            λ l.
                omega (arith, (f.1 (omega (arith, z, count_append k ks add))).1),
          )

  reached_short : a < t → (n : ℕ) → length (reached os t n a) ≤ t
  reached_short h n = let p = pigeon (reached os t n a) (vals (λ i. i) t) below in omega (arith, length_vals (λ i. i) t)
    where
      below : (k : ℕ) → count k (reached os t n a) ≤ count k (vals (λ i. i) t)
      below k = go (ℕ_discrete (count k (reached os t n a)) 0)
        where
          go : Dec (count k (reached os t n a) ≡ 0) → count k (reached os t n a) ≤ count k (vals (λ i. i) t)
          go (yes z) = omega arith
          go (no z) = let r = reached_count h n k in omega (arith, r.0, vals_in k t (r.1 (omega arith)))

  -- no triangle is new
  abbrev Settled : List ℕ → Type 0
  Settled ks = (k : ℕ) → k < t → new os ks k ≡ false

  -- each round adds a triangle, or none is left to add
  reached_grows : (n : ℕ) → (n < length (reached os t n a)) ⊎ Settled (reached os t n a)
  unfolding reached mem count
  reached_grows zero = inl (omega arith)
  reached_grows (suc n) = go (facing os ks t 0) refl (reached_grows n)
    where
      ks : List ℕ
      ks = reached os t n a

      settled : facing os ks t 0 ≡ [] → Settled ks
      settled e k h = at (cases_Bool (new os ks k))
        where
          at : (new os ks k ≡ true) ⊎ (new os ks k ≡ false) → new os ks k ≡ false
          at (inl q) =
              absurd (not_both (mem k []) (ap (mem k) (sym e) ∙ facing_in os ks t 0 k (omega arith) (omega arith) q)
              refl)
          at (inr q) = q

      go : (add : List ℕ) → facing os ks t 0 ≡ add → (n < length ks) ⊎ Settled ks
          → (suc n < length (ks ++ facing os ks t 0)) ⊎ Settled (ks ++ facing os ks t 0)
      go [] e r = inr (subst Settled (sym (ap (◌++◌ ks) e ∙ append-nil ks)) (settled e))
      go (x ∷ add) e (inl h) = inl (omega (arith, length-append ks (facing os ks t 0), ap length e))
      go (x ∷ add) e (inr s) =
          let f = (facing_count os ks t 0 x).1 (omega (arith, ap (count x) e, bit_on x x refl)) in
          absurd (not_both (new os ks x) f.2 (s x (omega (arith, f.1))))

module _ (os : List ℕ) (t a : ℕ) (paired : (c : ℕ) → opposite os (opposite os c) ≡ c) where
  pub reached_sound : (n k : ℕ) → mem k (reached os t n a) ≡ true → Reach (opposite os) a k
  unfolding reached mem
  reached_sound zero k e = go (or_cases (eqb k a) false e)
    where
      go : (eqb k a ≡ true) ⊎ (false ≡ true) → Reach (opposite os) a k
      go (inl q) = subst (Reach (opposite os) a) (sym (eqb-true k a q)) here
      go (inr q) = absurd (not_both false q refl)
  reached_sound (suc n) k e =
      go (λ j. reached_sound n j)
      (or_cases (mem k ks) (mem k (facing os ks t 0)) (sym (mem_append k ks (facing os ks t 0)) ∙ e))
    where
      ks : List ℕ
      ks = reached os t n a

      -- k has a corner c that faces a triangle reached before
      behind : ((j : ℕ) → mem j ks ≡ true → Reach (opposite os) a j)
          → (c : ℕ) × (triangle c ≡ k) × (mem (triangle (opposite os c)) ks ≡ true) → Reach (opposite os) a k
      behind f (c, p, q) =
          subst (Reach (opposite os) a) (ap triangle (paired c) ∙ p)
          (over (opposite os c) (f (triangle (opposite os c)) q))

      go : ((j : ℕ) → mem j ks ≡ true → Reach (opposite os) a j) → (mem k ks ≡ true) ⊎ (mem k (facing os ks t 0) ≡ true)
          → Reach (opposite os) a k
      go f (inl q) = f k q
      go f (inr q) =
          behind f (touches_one os ks k (and_right (not (mem k ks)) (touches os ks k)
          ((facing_count os ks t 0 k).1 (mem_true k (facing os ks t 0) q)).2))

  module _ (low : (c : ℕ) → c < 3 * t → opposite os c < 3 * t) (corners : length os ≡ 3 * t) (h : a < t) where
    abbrev met : List ℕ
    met = reached os t t a

    settled : (k : ℕ) → k < t → new os met k ≡ false
    settled = go (reached_grows os t a t)
      where
        go : (t < length met) ⊎ ((k : ℕ) → k < t → new os met k ≡ false) → (k : ℕ) → k < t → new os met k ≡ false
        go (inl l) = absurd (omega (arith, reached_short os t a h t))
        go (inr s) = s

    pub reached_whole : {k : ℕ} → Reach (opposite os) a k → mem k met ≡ true
    reached_whole here = reached_start os t a t
    reached_whole (over c r) =
        go (dec_lt c (3 * t)) (cases_Bool (mem (triangle (opposite os c)) met)) (reached_whole r)
      where
        go : Dec (c < 3 * t)
            → (mem (triangle (opposite os c)) met ≡ true) ⊎ (mem (triangle (opposite os c)) met ≡ false)
            → mem (triangle c) met ≡ true → mem (triangle (opposite os c)) met ≡ true
        go d (inl q) e = q
        go (yes l) (inr q) e =
            absurd (not_both (new os met (triangle (opposite os c)))
            (and_from (not (mem (triangle (opposite os c)) met)) (touches os met (triangle (opposite os c))) (ap not q)
            (touches_at os met (opposite os c) (ap (λ (d : ℕ). mem (triangle d) met) (paired c) ∙ e)))
            (settled (triangle (opposite os c)) (omega (arith, low c l))))
        go (no l) (inr q) e = ap (λ (d : ℕ). mem (triangle d) met) (get_or-eq_default os c {n = c} (omega arith)) ∙ e
