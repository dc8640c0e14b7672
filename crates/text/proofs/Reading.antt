-- The loop that reads digits.
--
--   Reading s n i   the first i bytes of s are digits that make n
use mathlib.Core.Bool.{false, true}
use mathlib.Core.List.{List, ◌∷◌}
use mathlib.Core.Path.{◌∙◌, ◌≡◌, ap, sym}
use Prim.Native.Nat.{◌*◌, ◌+◌, ◌-◌, ◌<◌, ◌≤◌, ◌^◌, suc, ℕ}
use Rattle.std.proofs.Math.Nat.{pow-le-pow_right, pow-suc}
use native.Mathlib.Numerals.{add-one}
use native.Mathlib.Omega.{arith}
use lib.ListN.{drop, drop_of_length-le, get_or, length}
use lib.Seq.{drop-cons}
use Rattle.std.specs.Prelude.{None, Some}
use Rattle.text.proofs.DecimalLaws.{digit_high, digit_low}
use Rattle.text.specs.Decimal.{digits_after, is_digit, some_number}

pub record Reading (s : List ℕ) (n i : ℕ) : Type 0 where
  pub inside : i ≤ length s
  pub small : n < 10 ^ i
  pub answer : digits_after 0 s ≡ digits_after n (drop i s)

module _ (s : List ℕ) (n i : ℕ) (reading : Reading s n i) where
  -- the byte at i, in front of those that are left
  ahead : i < length s → digits_after 0 s ≡ digits_after n (get_or s i 0 ∷ drop (suc i) s)
  ahead h = reading.answer ∙ ap (digits_after n) (drop-cons s i 0 h)

  pub reading_bad : i < length s → is_digit (get_or s i 0) ≡ false → None ≡ some_number (digits_after 0 s)
  unfolding digits_after
  reading_bad h k = sym (ap some_number (ahead h) ∙ rw k)

  pub reading_next : i < length s → is_digit (get_or s i 0) ≡ true → Reading s (n * 10 + (get_or s i 0 - 48)) (i + 1)
  unfolding digits_after
  reading_next h k =
      let low = digit_low (get_or s i 0) k in
      let high = digit_high (get_or s i 0) k in
      let p = pow-suc 10 i in record {
        inside = omega arith;
        small = rw (add-one i) (omega (arith, reading.small));
        answer = rw (add-one i) (ahead h ∙ rw k);
      }

  pub reading_room : i < length s → length s ≤ 7 → n < 1000000
  reading_room h k =
      let p : 10 ^ i ≤ 10 ^ 6 = pow-le-pow_right {n = 10} (omega arith) {i = i} {j = 6} (omega arith) in
      omega (arith, reading.small)

  pub reading_end : length s ≤ i → Some n ≡ some_number (digits_after 0 s)
  unfolding digits_after
  reading_end h = sym (ap some_number reading.answer ∙ rw (drop_of_length-le s {i = i} h))

-- what the loop needs, but for its step
pub ruleset reading = (reading_bad, reading_room, reading_end)
