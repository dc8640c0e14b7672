-- Touching a triangle: what it keeps, and what it costs.
--
--   Seen s k, In x l          k is seen; x stands in l
--   fresh x s, by_touch       what touching makes of a triangle not seen before, and a law of both cases
--   unseen s, owed s          how many are not seen; the measure of the search
use mathlib.Core.List.{List, [], ◌∷◌}
use mathlib.Core.Logic.{◌⊎◌, inl, inr}
use mathlib.Core.Path.{◌∙◌, ◌≡◌, subst, sym}
use Prim.Native.Nat.{◌*◌, ◌+◌, ◌<◌, suc, zero, ℕ}
use native.Mathlib.Decide.{ℕ_discrete}
use native.Mathlib.Omega.{arith}
use lib.ListN.{get_or, length, set}
use lib.Seq.{get_or-set_other, get_or-set_same}
use borrow.Author.Tests.{eq-eqb, ne_eqb}
use Rattle.mesh.specs.Search.{Search, touch}
use Rattle.theory.proofs.Counting.{bit, count}
use Rattle.theory.proofs.Facing.{new}

abbrev pub Seen : Search → ℕ → Type 0
Seen s k = get_or s.seen k 0 ≡ 0 → ⊥

abbrev pub In : ℕ → List ℕ → Type 0
In x [] = ⊥
In x (b ∷ l) = (x ≡ b) ⊎ In x l

abbrev pub fresh : ℕ → Search → Search
fresh x s = record { seen = set s.seen x 1; stack = x ∷ s.stack }

pub touch_new : (x : ℕ) (s : Search) → get_or s.seen x 0 ≡ 0 → touch x s ≡ fresh x s
unfolding touch
touch_new x s e = rw (eq-eqb (get_or s.seen x 0) 0 e)

pub touch_old : (x : ℕ) (s : Search) → Seen s x → touch x s ≡ s
unfolding touch
touch_old x s e = rw (ne_eqb (get_or s.seen x 0) 0 e)

-- a law of the machine that holds whether or not x was seen
pub by_touch : (P : Search → Type 0) (x : ℕ) (s : Search) → (get_or s.seen x 0 ≡ 0 → P (fresh x s)) → (Seen s x → P s)
    → P (touch x s)
by_touch P x s new old = go (ℕ_discrete (get_or s.seen x 0) 0)
  where
    go : Dec (get_or s.seen x 0 ≡ 0) → P (touch x s)
    go (yes e) = subst P (sym (touch_new x s e)) (new e)
    go (no e) = subst P (sym (touch_old x s e)) (old e)

module _ (x : ℕ) (s : Search) (h : x < length s.seen) where
  pub fresh_seen : Seen (fresh x s) x
  fresh_seen q = omega (arith, get_or-set_same s.seen x 1 0 h)

  pub fresh_keeps : (k : ℕ) → Seen s k → Seen (fresh x s) k
  fresh_keeps k p = go (ℕ_discrete k x)
    where
      go : Dec (k ≡ x) → Seen (fresh x s) k
      go (yes e) = subst (Seen (fresh x s)) (sym e) fresh_seen
      go (no e) = λ q. p (sym (get_or-set_other s.seen x k 1 0 e) ∙ q)

  pub fresh_only : (k : ℕ) → Seen (fresh x s) k → Seen s k ⊎ (k ≡ x)
  fresh_only k p = go (ℕ_discrete k x)
    where
      go : Dec (k ≡ x) → Seen s k ⊎ (k ≡ x)
      go (yes e) = inr e
      go (no e) = inl (λ q. p (get_or-set_other s.seen x k 1 0 e ∙ q))

-- how many are not seen
abbrev pub unseen : Search → ℕ
unseen s = count 0 s.seen

pub count_set : (l : List ℕ) (i : ℕ) → i < length l → get_or l i 0 ≡ 0 → count 0 (set l i 1) + 1 ≡ count 0 l
unfolding count bit
count_set [] i h e = absurd (omega arith)
count_set (b ∷ l) zero h e = rw (eq-eqb 0 b (sym e)) (omega arith)
count_set (b ∷ l) (suc i) h e = omega (arith, count_set l i (omega arith) e)

-- the measure of the search
abbrev pub owed : Search → ℕ
owed s = 2 * unseen s + length s.stack
