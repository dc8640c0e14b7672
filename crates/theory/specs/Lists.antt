-- What the other files say of lists and tests of numbers.
--
--   head tail front back   the first element, all but it, all but the last, the last; 0 or [] of an empty list
--   mem x l                x stands in l
--   least ok n             the least i below n at which the test fails, n where there is none
--   lowest ok n            that i, or none
--   greatest ok n          the greatest such i, n where there is none
--   all ok n, some ok n    the test holds at every, at some i below n
--   iter f n x             f applied n times to x
use Rattle.std.specs.Prelude.{Bool, false, not, cond, ◌||◌, List, [], ◌∷◌, ℕ, zero, suc, eqb, ltb, Option, Some, None}

unfoldable pub head : List ℕ → ℕ
head [] = 0
head (x ∷ xs) = x

unfoldable pub tail : List ℕ → List ℕ
tail [] = []
tail (x ∷ xs) = xs

unfoldable pub front : List ℕ → List ℕ
front [] = []
front (x ∷ []) = []
front (x ∷ (y ∷ ys)) = x ∷ front (y ∷ ys)

unfoldable pub back : List ℕ → ℕ
back [] = 0
back (x ∷ []) = x
back (x ∷ (y ∷ ys)) = back (y ∷ ys)

unfoldable pub mem : ℕ → List ℕ → Bool
mem x [] = false
mem x (y ∷ ys) = eqb x y || mem x ys

-- the first failure at i, i + 1, .., giving up after n of them
unfoldable pub least_from : (ℕ → Bool) → ℕ → ℕ → ℕ
least_from ok zero i = i
least_from ok (suc n) i = cond (ok i) (least_from ok n (suc i)) i

unfoldable pub least : (ℕ → Bool) → ℕ → ℕ
least ok n = least_from ok n 0

unfoldable pub lowest : (ℕ → Bool) → ℕ → Option ℕ
lowest ok n = cond (ltb (least ok n) n) (Some (least ok n)) None

-- the last failure below n, or the given number
unfoldable pub greatest_or : (ℕ → Bool) → ℕ → ℕ → ℕ
greatest_or ok zero none = none
greatest_or ok (suc n) none = cond (ok n) (greatest_or ok n none) n

unfoldable pub greatest : (ℕ → Bool) → ℕ → ℕ
greatest ok n = greatest_or ok n n

unfoldable pub all : (ℕ → Bool) → ℕ → Bool
all ok n = eqb (least ok n) n

unfoldable pub some : (ℕ → Bool) → ℕ → Bool
some ok n = not (all (λ i. not (ok i)) n)

unfoldable pub iter : (ℕ → ℕ) → ℕ → ℕ → ℕ
iter f zero x = x
iter f (suc n) x = f (iter f n x)
