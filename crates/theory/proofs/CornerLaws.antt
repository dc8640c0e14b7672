-- Laws of `next`, `previous` and `triangle`: the three corners of a triangle are 3k, 3k+1, 3k+2.
--
--   next_tip .. previous_right     at the tip, the left end and the right end
--   next_previous ..               they undo each other, thrice is once round, and the triangle stays
--   place by_place three           every corner is one of the three
use mathlib.Core.Logic.{◌≢◌, ◌⊎◌, inl, inr}
use mathlib.Core.Path.{◌∙◌, ◌≡◌, ap, sym}
use Prim.Native.Nat.{◌%◌, ◌*◌, ◌+◌, ◌<◌, ◌≤◌, ℕ}
use native.Mathlib.Decide.{ℕ_discrete}
use native.Mathlib.Omega.{arith}
use Rattle.theory.specs.Corner.{next, previous, triangle}

pub next_tip : (k : ℕ) → next (3 * k) ≡ 3 * k + 1
unfolding next
next_tip k = omega arith

pub next_left : (k : ℕ) → next (3 * k + 1) ≡ 3 * k + 2
unfolding next
next_left k = omega arith

pub next_right : (k : ℕ) → next (3 * k + 2) ≡ 3 * k
unfolding next
next_right k = omega arith

pub previous_tip : (k : ℕ) → previous (3 * k) ≡ 3 * k + 2
unfolding previous
previous_tip k = omega arith

pub previous_left : (k : ℕ) → previous (3 * k + 1) ≡ 3 * k
unfolding previous
previous_left k = omega arith

pub previous_right : (k : ℕ) → previous (3 * k + 2) ≡ 3 * k + 1
unfolding previous
previous_right k = omega arith

pub triangle_tip : (k : ℕ) → triangle (3 * k) ≡ k
triangle_tip k = omega arith

pub triangle_left : (k : ℕ) → triangle (3 * k + 1) ≡ k
triangle_left k = omega arith

pub triangle_right : (k : ℕ) → triangle (3 * k + 2) ≡ k
triangle_right k = omega arith

pub next_previous : (c : ℕ) → next (previous c) ≡ c
unfolding next previous
next_previous c = omega arith

pub previous_next : (c : ℕ) → previous (next c) ≡ c
unfolding next previous
previous_next c = omega arith

pub next_next : (c : ℕ) → next (next c) ≡ previous c
unfolding next previous
next_next c = omega arith

pub previous_previous : (c : ℕ) → previous (previous c) ≡ next c
unfolding next previous
previous_previous c = omega arith

pub triangle_next : (c : ℕ) → triangle (next c) ≡ triangle c
unfolding next previous
triangle_next c = omega arith

pub triangle_previous : (c : ℕ) → triangle (previous c) ≡ triangle c
unfolding next previous
triangle_previous c = omega arith

pub next_injective : (c d : ℕ) → next c ≡ next d → c ≡ d
next_injective c d h = sym (previous_next c) ∙ ap previous h ∙ previous_next d

-- both stay in their triangle, so on their side of every multiple of 3

pub next_low : (t c : ℕ) → c < 3 * t → next c < 3 * t
unfolding next
next_low t c h = omega arith

pub next_high : (t c : ℕ) → 3 * t ≤ c → 3 * t ≤ next c
unfolding next
next_high t c h = omega arith

pub previous_low : (t c : ℕ) → c < 3 * t → previous c < 3 * t
unfolding previous
previous_low t c h = omega arith

pub previous_high : (t c : ℕ) → 3 * t ≤ c → 3 * t ≤ previous c
unfolding previous
previous_high t c h = omega arith

pub triangle_low : (t c : ℕ) → c < 3 * t → triangle c < t
triangle_low t c h = omega arith

pub triangle_high : (t c : ℕ) → triangle c < t → c < 3 * t
triangle_high t c h = omega arith

-- every corner is the tip, left end or right end of its triangle
pub data Place (c : ℕ) : Type 0 where
  at_tip : c ≡ 3 * triangle c → Place c
  at_left : c ≡ 3 * triangle c + 1 → Place c
  at_right : c ≡ 3 * triangle c + 2 → Place c

pub place : (c : ℕ) → Place c
place c = go (ℕ_discrete (c % 3) 0) (ℕ_discrete (c % 3) 1)
  where
    go : Dec (c % 3 ≡ 0) → Dec (c % 3 ≡ 1) → Place c
    go (yes h) i = at_tip (omega arith)
    go (no h) (yes i) = at_left (omega arith)
    go (no h) (no i) = at_right (omega arith)

-- a fact about all corners is one about 3k, 3k+1 and 3k+2
pub by_place : (P : ℕ → Type 0) → ((k : ℕ) → P (3 * k)) → ((k : ℕ) → P (3 * k + 1)) → ((k : ℕ) → P (3 * k + 2))
    → (c : ℕ) → P c
by_place P a b d c = go (place c)
  where
    go : Place c → P c
    go (at_tip h) = rw h (a (triangle c))
    go (at_left h) = rw h (b (triangle c))
    go (at_right h) = rw h (d (triangle c))

-- the corners of one triangle
pub three : (c d : ℕ) → triangle c ≡ triangle d → (c ≡ d) ⊎ ((c ≡ next d) ⊎ (c ≡ previous d))
unfolding next previous
three c d h = go (ℕ_discrete c d) (ℕ_discrete c (next d))
  where
    go : Dec (c ≡ d) → Dec (c ≡ next d) → (c ≡ d) ⊎ ((c ≡ next d) ⊎ (c ≡ previous d))
    go (yes p) q = inl p
    go (no p) (yes q) = inr (inl q)
    go (no p) (no q) = inr (inr (omega arith))

-- they differ
pub next_moves : (c : ℕ) → next c ≢ c
unfolding next
next_moves c q = omega arith

pub previous_moves : (c : ℕ) → previous c ≢ c
unfolding previous
previous_moves c q = omega arith

pub next_not_previous : (c : ℕ) → next c ≢ previous c
unfolding next previous
next_not_previous c q = omega arith
