-- Laws of `head`, `tail`, `front` and `back`.
use mathlib.Core.List.{List, [], ◌++◌, ◌∷◌}
use mathlib.Core.Path.{◌≡◌, ap, refl}
use Prim.Native.Nat.{◌+◌, ◌-◌, ◌≤◌, suc, zero, ℕ}
use native.Mathlib.Omega.{arith}
use lib.ListN.{drop, get_or, length, take}
use Rattle.theory.specs.Lists.{back, front, head, tail}

pub snoc_view : (xs : List ℕ) → 1 ≤ length xs → xs ≡ front xs ++ (back xs ∷ [])
unfolding front back
snoc_view [] h = absurd (omega arith)
snoc_view (x ∷ []) h = refl
snoc_view (x ∷ (y ∷ ys)) h = ap (λ (q : List ℕ). x ∷ q) (snoc_view (y ∷ ys) (omega arith))

pub length_front : (xs : List ℕ) → length (front xs) ≡ length xs - 1
unfolding front
length_front [] = omega arith
length_front (x ∷ []) = omega arith
length_front (x ∷ (y ∷ ys)) = let i = length_front (y ∷ ys) in omega arith

pub back_snoc : (us : List ℕ) (x : ℕ) → back (us ++ (x ∷ [])) ≡ x
unfolding back
back_snoc [] x = refl
back_snoc (u ∷ []) x = refl
back_snoc (u ∷ (y ∷ us)) x = back_snoc (y ∷ us) x

pub head_snoc : (us : List ℕ) (x : ℕ) → 1 ≤ length us → head (us ++ (x ∷ [])) ≡ head us
unfolding head
head_snoc [] x h = absurd (omega arith)
head_snoc (u ∷ us) x h = refl

pub back_take : (i : ℕ) (us : List ℕ) → suc i ≤ length us → back (take (suc i) us) ≡ get_or us i 0
unfolding back
back_take i [] h = absurd (omega arith)
back_take zero (u ∷ us) h = refl
back_take (suc i) (u ∷ []) h = absurd (omega arith)
back_take (suc i) (u ∷ (y ∷ us)) h = back_take i (y ∷ us) (omega arith)

pub head_drop : (i : ℕ) (us : List ℕ) → head (drop i us) ≡ get_or us i 0
unfolding head
head_drop zero [] = refl
head_drop (suc i) [] = refl
head_drop zero (u ∷ us) = refl
head_drop (suc i) (u ∷ us) = head_drop i us

pub back_drop : (i : ℕ) (us : List ℕ) → suc i ≤ length us → back (drop i us) ≡ back us
unfolding back
back_drop zero us h = refl
back_drop (suc i) [] h = absurd (omega arith)
back_drop (suc i) (u ∷ []) h = absurd (omega arith)
back_drop (suc i) (u ∷ (y ∷ us)) h = back_drop i (y ∷ us) (omega arith)

pub back_get : (us : List ℕ) (n : ℕ) → length us ≡ suc n → back us ≡ get_or us n 0
unfolding back
back_get [] n h = absurd (omega arith)
back_get (u ∷ []) zero h = refl
back_get (u ∷ []) (suc n) h = absurd (omega arith)
back_get (u ∷ (y ∷ us)) zero h = absurd (omega arith)
back_get (u ∷ (y ∷ us)) (suc n) h = back_get (y ∷ us) n (omega arith)

pub front_get : (us : List ℕ) (n : ℕ) → length us ≡ suc (suc n) → back (front us) ≡ get_or us n 0
unfolding back front
front_get [] n h = absurd (omega arith)
front_get (u ∷ []) n h = absurd (omega arith)
front_get (u ∷ (y ∷ [])) zero h = refl
front_get (u ∷ (y ∷ [])) (suc n) h = absurd (omega arith)
front_get (u ∷ (y ∷ (z ∷ us))) zero h = absurd (omega arith)
front_get (u ∷ (y ∷ (z ∷ us))) (suc n) h = front_get (y ∷ (z ∷ us)) n (omega arith)

pub head_front : (us : List ℕ) → 2 ≤ length us → head (front us) ≡ head us
unfolding front head
head_front [] h = refl
head_front (u ∷ []) h = absurd (omega arith)
head_front (u ∷ (y ∷ us)) h = refl

pub head_take : (i : ℕ) (us : List ℕ) → 1 ≤ i → head (take i us) ≡ head us
unfolding head
head_take zero us h = absurd (omega arith)
head_take (suc i) [] h = refl
head_take (suc i) (u ∷ us) h = refl

pub head_tail : (us : List ℕ) → head (tail us) ≡ get_or us 1 0
unfolding head tail
head_tail [] = refl
head_tail (u ∷ []) = refl
head_tail (u ∷ (y ∷ us)) = refl

pub back_tail : (us : List ℕ) → 2 ≤ length us → back (tail us) ≡ back us
unfolding back tail
back_tail [] h = refl
back_tail (u ∷ []) h = absurd (omega arith)
back_tail (u ∷ (y ∷ us)) h = refl

pub third : (us : List ℕ) → length us ≡ 3 → get_or (tail us) 1 0 ≡ back us
unfolding back tail
third [] h = refl
third (u ∷ []) h = absurd (omega arith)
third (u ∷ (y ∷ [])) h = absurd (omega arith)
third (u ∷ (y ∷ (z ∷ []))) h = refl
third (u ∷ (y ∷ (z ∷ (a ∷ us)))) h = absurd (omega arith)

pub length_tail : (us : List ℕ) → 1 ≤ length us → length (tail us) + 1 ≡ length us
unfolding tail
length_tail [] h = absurd (omega arith)
length_tail (u ∷ us) h = omega arith
