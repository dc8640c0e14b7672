-- Laws of numbers as they are read.
--
--   number_good number_small    an accepted text is the decimal of its number, which is below 10 ^ 7
--   number_text                 the same for what the reader answers; number_tested: its tests
use mathlib.Core.Bool.{Bool, ◌&&◌, cond, false, true}
use mathlib.Core.List.{List, [], ◌++◌, ◌∷◌}
use mathlib.Core.Path.{◌∙◌, ◌≡◌, ap, refl, sym}
use Prim.Native.Nat.{◌%◌, ◌*◌, ◌+◌, ◌-◌, ◌/◌, ◌<◌, ◌≤◌, ◌^◌, suc, ℕ}
use Rattle.std.proofs.Math.Nat.{pow-le-pow_right, pow-suc}
use native.Mathlib.Decide.{ℕ_discrete}
use native.Mathlib.Omega.{arith}
use lib.Dec.{leb}
use lib.ListN.{get_or, length}
use borrow.Author.Tests.{eq-eqb, leb-true}
use Rattle.text.proofs.DecimalLaws.{all_digits_append, decimal_big, decimal_small, digit_high, digit_low, value_after_snoc}
use Rattle.text.proofs.Induction.{snoc_induction}
use Rattle.text.specs.Decimal.{all_digits, decimal, digits_after, found, is_digit, is_number, leads_well, missing, number, value, value_after}
use Rattle.theory.proofs.TestLaws.{and_left, and_right}

-- ---- read, then written

pub value_after_ge : (l : List ℕ) (n : ℕ) → n ≤ value_after n l
value_after_ge [] n = omega arith
value_after_ge (x ∷ l) n = omega (arith, value_after_ge l (n * 10 + (x - 48)))

-- digits that do not begin with 0 make a number above 0
value_above : (l : List ℕ) → 1 ≤ length l → all_digits l ≡ true → (get_or l 0 0 ≡ 48 → ⊥) → 1 ≤ value l
value_above [] h a z = absurd (omega arith)
value_above (x ∷ l) h a z =
    let low : 48 ≤ x = digit_low x (and_left (is_digit x) (all_digits l) a) in
    let other : x ≡ 48 → ⊥ = z in
    go (ℕ_discrete x 48) low
  where
    go : Dec (x ≡ 48) → 48 ≤ x → 1 ≤ value (x ∷ l)
    go (yes e) low = absurd (z e)
    go (no e) low = omega (arith, value_after_ge l (0 * 10 + (x - 48)))

decimal_of_value : (l : List ℕ) → 1 ≤ length l → all_digits l ≡ true → (get_or l 0 0 ≡ 48 → ⊥) → decimal (value l) ≡ l
decimal_of_value = snoc_induction P (λ h. absurd (omega arith)) step
  where
    P : List ℕ → Type 0
    P l = 1 ≤ length l → all_digits l ≡ true → (get_or l 0 0 ≡ 48 → ⊥) → decimal (value l) ≡ l

    step : (xs : List ℕ) (x : ℕ) → P xs → P (xs ++ (x ∷ []))
    step [] x ih h a z =
        let d : is_digit x ≡ true = and_left (is_digit x) true a in
        let low : 48 ≤ x = digit_low x d in
        let high : x ≤ 57 = digit_high x d in
        let q : 48 + (0 * 10 + (x - 48)) ≡ x = omega arith in
        decimal_small (0 * 10 + (x - 48)) (omega arith) ∙ ap (λ (b : ℕ). b ∷ []) q
    step (y ∷ ys) x ih h a z =
        let split : (all_digits (y ∷ ys) && all_digits (x ∷ [])) ≡ true = sym (all_digits_append (y ∷ ys) (x ∷ [])) ∙ a in
        let front : all_digits (y ∷ ys) ≡ true = and_left (all_digits (y ∷ ys)) (all_digits (x ∷ [])) split in
        let d : is_digit x ≡ true = and_left (is_digit x) true
        (and_right (all_digits (y ∷ ys)) (all_digits (x ∷ [])) split) in
        let low : 48 ≤ x = digit_low x d in
        let high : x ≤ 57 = digit_high x d in
        let m : ℕ = value (y ∷ ys) in
        let above : 1 ≤ m = value_above (y ∷ ys) (omega arith) front z in
        let v : value (y ∷ ys ++ (x ∷ [])) ≡ m * 10 + (x - 48) = value_after_snoc (y ∷ ys) 0 x in
        let q : (m * 10 + (x - 48)) / 10 ≡ m = omega arith in
        let r : 48 + (m * 10 + (x - 48)) % 10 ≡ x = omega arith in
        ap decimal v ∙ decimal_big (m * 10 + (x - 48)) (omega arith)
        ∙ ap (λ (k : ℕ). decimal k ++ ((48 + (m * 10 + (x - 48)) % 10) ∷ [])) q
        ∙ ap (λ (b : ℕ). decimal m ++ (b ∷ [])) r
        ∙ ap (λ (l : List ℕ). l ++ (x ∷ [])) (ih (omega arith) front z)

zero_value : 0 * 10 + (48 - 48) ≡ 0
zero_value = omega arith

pub number_good : (l : List ℕ) → is_number l ≡ true → decimal (value l) ≡ l
unfolding is_number
number_good l e = go l some leads digits (ℕ_discrete (get_or l 0 0) 48)
  where
    some : 1 ≤ length l
    some = leb-true 1 (length l) (and_left (leb 1 (length l)) _ e)

    tail : (leads_well l && all_digits l) ≡ true
    tail = and_right (leb (length l) 7) _ (and_right (leb 1 (length l)) _ e)

    leads : leads_well l ≡ true
    leads = and_left (leads_well l) (all_digits l) tail

    digits : all_digits l ≡ true
    digits = and_right (leads_well l) (all_digits l) tail

    go : (l : List ℕ) → 1 ≤ length l → leads_well l ≡ true → all_digits l ≡ true → Dec (get_or l 0 0 ≡ 48)
        → decimal (value l) ≡ l
    go l s q d (no z) = decimal_of_value l s d z
    go [] s q d (yes z) = absurd (omega arith)
    go (x ∷ []) s q d (yes z) = rw z (ap decimal zero_value ∙ decimal_small 0 (omega arith))
    go (x ∷ y ∷ l) s q d (yes z) =
        absurd (omega (
          arith,
          leb-true (length (x ∷ y ∷ l)) 1
              (sym (ap (λ (b : Bool). cond b (leb (length (x ∷ y ∷ l)) 1) true) (eq-eqb x 48 z)) ∙ q),
        ))

-- ---- how large

pub value_bound : (l : List ℕ) (i k n : ℕ) → all_digits l ≡ true → n < 10 ^ i → k ≡ i + length l
    → value_after n l < 10 ^ k
value_bound [] i k n a h e =
    let q : k ≡ i = omega arith in
    rw q h
value_bound (x ∷ l) i k n a h e =
    let d : is_digit x ≡ true = and_left (is_digit x) (all_digits l) a in
    let low : 48 ≤ x = digit_low x d in
    let high : x ≤ 57 = digit_high x d in
    let p = pow-suc 10 i in
    value_bound l (suc i) k (n * 10 + (x - 48)) (and_right (is_digit x) (all_digits l) a) (omega arith) (omega arith)

pub number_small : (l : List ℕ) → is_number l ≡ true → value l < 10000000
unfolding is_number
number_small l e =
    let seven : length l ≤ 7 = leb-true (length l) 7
    (and_left (leb (length l) 7) _ (and_right (leb 1 (length l)) _ e)) in
    let digits : all_digits l ≡ true = and_right (leads_well l) (all_digits l)
    (and_right (leb (length l) 7) _ (and_right (leb 1 (length l)) _ e)) in
    omega (arith, value_bound l 0 (length l) 0 digits (omega arith) (omega arith), pow-le-pow_right {n = 10} (omega arith) seven)

-- ---- what the reader answers

pub good_test : (l : List ℕ) (t : Bool) → (number l).good ≡ t → is_number l ≡ t
unfolding number
good_test l t e = go (is_number l) e
  where
    go : (b : Bool) → (cond b (found (value l)) missing).good ≡ t → b ≡ t
    go true e = e
    go false e = e

pub good_value : (l : List ℕ) → (number l).good ≡ true → (number l).value ≡ value l
unfolding number
good_value l e = rw (good_test l true e)

pub number_text : (l : List ℕ) → (number l).good ≡ true → decimal (number l).value ≡ l
number_text l e = ap decimal (good_value l e) ∙ number_good l (good_test l true e)

-- the reader's tests, and then the digits
pub number_tested : (l : List ℕ)
    → number l ≡ cond (leb 1 (length l) && (leb (length l) 7 && leads_well l)) (digits_after 0 l) missing
unfolding number is_number digits_after
number_tested l = go (leb 1 (length l)) (leb (length l) 7) (leads_well l)
  where
    go : (p q r : Bool) → cond (p && (q && (r && all_digits l))) (found (value l)) missing
        ≡ cond (p && (q && r)) (cond (all_digits l) (found (value_after 0 l)) missing) missing
    go true true true = refl
    go true true false = refl
    go true false r = refl
    go false q r = refl
