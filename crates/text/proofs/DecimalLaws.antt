-- Laws of decimal numbers as they are written.
--
--   decimal_small decimal_big   one digit; the digits of n / 10 and one more
--   decimal_induction           by the number's last digit
--   decimal_count decimal_length decimal_word   how many digits a number has, from the powers of 10 around it; a u32 at most 10
--   decimal_digits decimal_value decimal_leads   its digits are digits, make the number, and begin with 0 only for 0
use mathlib.Core.Bool.{Bool, ◌&&◌, false, true}
use mathlib.Core.List.{List, [], ◌++◌, ◌∷◌}
use mathlib.Core.Path.{◌∙◌, ◌≡◌, refl, sym}
use Prim.Native.Nat.{◌%◌, ◌*◌, ◌+◌, ◌-◌, ◌/◌, ◌<◌, ◌≤◌, ◌^◌, suc, zero, ℕ}
use Rattle.std.proofs.Math.Nat.{one-le-pow, pow-suc}
use native.Mathlib.Decide.{dec_lt, ℕ_discrete}
use native.Mathlib.Omega.{arith}
use lib.Dec.{leb}
use lib.ListN.{get_or-append, get_or, length, length-append}
use borrow.Author.Tests.{le-leb, le-ltb, leb-true, lt-ltb, ne_eqb}
use Rattle.text.proofs.Induction.{strong}
use Rattle.text.specs.Decimal.{all_digits, decimal, decimal_in, found, is_digit, is_number, leads_well, number, value, value_after}
use Rattle.theory.proofs.TestLaws.{and_left, and_right}

-- ---- the digits

decimal_in_enough : (f g n : ℕ) → n ≤ f → n ≤ g → decimal_in f n ≡ decimal_in g n
unfolding decimal_in
decimal_in_enough zero zero n h k = refl
decimal_in_enough zero (suc g) n h k =
    let z : n ≡ 0 = omega arith in
    rw (lt-ltb n 10 (omega arith))
decimal_in_enough (suc f) zero n h k = rw (lt-ltb n 10 (omega arith))
decimal_in_enough (suc f) (suc g) n h k = go (dec_lt n 10) (decimal_in_enough f g (n / 10))
  where
    go : Dec (n < 10) → (n / 10 ≤ f → n / 10 ≤ g → decimal_in f (n / 10) ≡ decimal_in g (n / 10))
        → decimal_in (suc f) n ≡ decimal_in (suc g) n
    go (yes l) ih = rw (lt-ltb n 10 l)
    go (no l) ih = rw (le-ltb n 10 (omega arith), ih (omega arith) (omega arith))

pub decimal_small : (n : ℕ) → n < 10 → decimal n ≡ (48 + n) ∷ []
unfolding decimal decimal_in
decimal_small zero h = refl
decimal_small (suc n) h = rw (lt-ltb (suc n) 10 h)

pub decimal_big : (n : ℕ) → 10 ≤ n → decimal n ≡ decimal (n / 10) ++ ((48 + n % 10) ∷ [])
unfolding decimal decimal_in
decimal_big zero h = absurd (omega arith)
decimal_big (suc n) h =
    rw (le-ltb (suc n) 10 h, decimal_in_enough n (suc n / 10) (suc n / 10) (omega arith) (omega arith))

-- by the number's last digit
pub decimal_induction : (P : ℕ → Type 0) → ((n : ℕ) → n < 10 → P n) → ((n : ℕ) → 10 ≤ n → P (n / 10) → P n) → (n : ℕ)
    → P n
decimal_induction P small big = strong P step
  where
    step : (n : ℕ) → ((m : ℕ) → m < n → P m) → P n
    step n ih = go (dec_lt n 10)
      where
        go : Dec (n < 10) → P n
        go (yes h) = small n h
        go (no h) = big n (omega arith) (ih (n / 10) (omega arith))

-- ---- how many

pub decimal_some : (n : ℕ) → 1 ≤ length (decimal n)
decimal_some n = go (dec_lt n 10)
  where
    go : Dec (n < 10) → 1 ≤ length (decimal n)
    go (yes h) = rw (decimal_small n h) (omega arith)
    go (no h) = rw (decimal_big n (omega arith)) (omega (arith, length-append (decimal (n / 10)) ((48 + n % 10) ∷ [])))

pub decimal_more : (n : ℕ) → 10 ≤ n → length (decimal n) ≡ length (decimal (n / 10)) + 1
decimal_more n h = rw (decimal_big n h) (length-append (decimal (n / 10)) ((48 + n % 10) ∷ []))

pub decimal_one : (n : ℕ) → n < 10 → length (decimal n) ≡ 1
decimal_one n h = rw (decimal_small n h)

-- a number from 10 ^ k up to 10 ^ (k + 1) has k + 1 digits, a smaller one no more
pub decimal_count : (k n : ℕ) → 10 ^ k ≤ n → n < 10 * 10 ^ k → k + 1 ≡ length (decimal n)
decimal_count zero n h g = omega (arith, decimal_one n (omega arith))
decimal_count (suc k) n h g =
    let p = pow-suc 10 k in
    let q = one-le-pow k 10 (omega arith) in
    omega (arith, decimal_more n (omega arith), decimal_count k (n / 10) (omega arith) (omega arith))

pub decimal_length : (k n : ℕ) → n < 10 ^ suc k → length (decimal n) ≤ suc k
decimal_length zero n h = omega (arith, decimal_one n (omega arith))
decimal_length (suc k) n h = go (dec_lt n 10) (decimal_length k (n / 10))
  where
    go : Dec (n < 10) → (n / 10 < 10 ^ suc k → length (decimal (n / 10)) ≤ suc k) → length (decimal n) ≤ suc (suc k)
    go (yes l) ih = omega (arith, decimal_one n l)
    go (no l) ih =
        let p = pow-suc 10 (suc k) in
        omega (arith, decimal_more n (omega arith), ih (omega arith))

pub decimal_word : (n : ℕ) → n < 4294967296 → length (decimal n) ≤ 10
decimal_word n h = decimal_length 9 n (omega arith)

-- ---- lists of digits

pub all_digits_append : (l m : List ℕ) → all_digits (l ++ m) ≡ (all_digits l && all_digits m)
all_digits_append [] m = refl
all_digits_append (x ∷ l) m = go (is_digit x) (all_digits_append l m)
  where
    go : (b : Bool) → all_digits (l ++ m) ≡ (all_digits l && all_digits m)
        → (b && all_digits (l ++ m)) ≡ (b && all_digits l && all_digits m)
    go true ih = ih
    go false ih = refl

pub value_after_snoc : (l : List ℕ) (n d : ℕ) → value_after n (l ++ (d ∷ [])) ≡ value_after n l * 10 + (d - 48)
value_after_snoc [] n d = refl
value_after_snoc (x ∷ l) n d = value_after_snoc l (n * 10 + (x - 48)) d

pub digit_yes : (b : ℕ) → 48 ≤ b → b ≤ 57 → is_digit b ≡ true
digit_yes b h k = rw (le-leb 48 b h, le-leb b 57 k)

pub digit_low : (b : ℕ) → is_digit b ≡ true → 48 ≤ b
digit_low b e = leb-true 48 b (and_left (leb 48 b) (leb b 57) e)

pub digit_high : (b : ℕ) → is_digit b ≡ true → b ≤ 57
digit_high b e = leb-true b 57 (and_right (leb 48 b) (leb b 57) e)

-- ---- written, then read

pub decimal_digits : (n : ℕ) → all_digits (decimal n) ≡ true
decimal_digits = decimal_induction (λ n. all_digits (decimal n) ≡ true) small big
  where
    small : (n : ℕ) → n < 10 → all_digits (decimal n) ≡ true
    small n h = rw (decimal_small n h, digit_yes (48 + n) (omega arith) (omega arith))

    big : (n : ℕ) → 10 ≤ n → all_digits (decimal (n / 10)) ≡ true → all_digits (decimal n) ≡ true
    big n h ih =
        rw (
          decimal_big n h,
          all_digits_append (decimal (n / 10)) ((48 + n % 10) ∷ []),
          ih,
          digit_yes (48 + n % 10)
              (omega arith) (omega arith),
        )

pub decimal_value : (n : ℕ) → value (decimal n) ≡ n
decimal_value = decimal_induction (λ n. value (decimal n) ≡ n) small big
  where
    small : (n : ℕ) → n < 10 → value (decimal n) ≡ n
    small n h = rw (decimal_small n h) (omega arith)

    big : (n : ℕ) → 10 ≤ n → value (decimal (n / 10)) ≡ n / 10 → value (decimal n) ≡ n
    big n h ih = rw (decimal_big n h, value_after_snoc (decimal (n / 10)) 0 (48 + n % 10), ih) (omega arith)

-- the first digit of a number is 0 only where the number is
decimal_first : (n : ℕ) → 1 ≤ n → get_or (decimal n) 0 0 ≡ 48 → ⊥
decimal_first = decimal_induction (λ n. 1 ≤ n → get_or (decimal n) 0 0 ≡ 48 → ⊥) small big
  where
    small : (n : ℕ) → n < 10 → 1 ≤ n → get_or (decimal n) 0 0 ≡ 48 → ⊥
    small n h k e = omega (arith, rw (decimal_small n h) at e)

    big : (n : ℕ) → 10 ≤ n → (1 ≤ n / 10 → get_or (decimal (n / 10)) 0 0 ≡ 48 → ⊥) → 1 ≤ n → get_or (decimal n) 0 0 ≡ 48 → ⊥
    big n h ih k e =
        ih (omega arith)
        (sym (get_or-append (decimal (n / 10)) ((48 + n % 10) ∷ []) 0 0 (decimal_some (n / 10)))
        ∙ (rw (decimal_big n h) at e))

pub decimal_leads : (n : ℕ) → leads_well (decimal n) ≡ true
decimal_leads n = go (ℕ_discrete n 0)
  where
    go : Dec (n ≡ 0) → leads_well (decimal n) ≡ true
    go (yes e) = rw (e, decimal_small 0 (omega arith))
    go (no e) = rw (ne_eqb (get_or (decimal n) 0 0) 48 (decimal_first n (omega arith)))

pub is_number_decimal : (n : ℕ) → n < 10000000 → is_number (decimal n) ≡ true
unfolding is_number
is_number_decimal n h =
    rw (
      le-leb 1 (length (decimal n)) (decimal_some n),
      le-leb (length (decimal n)) 7
          (decimal_length 6 n (omega arith)),
      decimal_leads n,
      decimal_digits n,
    )

pub number_decimal : (n : ℕ) → n < 10000000 → number (decimal n) ≡ found n
unfolding number
number_decimal n h = rw (is_number_decimal n h, decimal_value n)
