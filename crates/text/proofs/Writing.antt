-- The loop that writes a number, its last digit first: the digits of m are left to write below the place i, and from i
-- on stand those that follow them.
use mathlib.Core.List.{List, [], ◌++◌, ◌∷◌, append_assoc, append-nil}
use mathlib.Core.Path.{◌∙◌, ◌≡◌, ap, subst, sym}
use Prim.Native.Nat.{◌%◌, ◌+◌, ◌-◌, ◌/◌, ◌<◌, ◌≤◌, ℕ}
use native.Mathlib.Decide.{dec_lt}
use native.Mathlib.Omega.{arith}
use lib.ListN.{drop, drop_of_length-le, length, length-set, set, take}
use lib.Seq.{take_all}
use Rattle.std.proofs.lemmas.List.{drop-set}
use Rattle.text.proofs.DecimalLaws.{decimal_big, decimal_more, decimal_one, decimal_small}
use Rattle.text.specs.Decimal.{decimal}

pub record Writing (n : ℕ) (part : List ℕ) (i m : ℕ) : Type 0 where
  pub inside : i ≤ length part
  pub left : 0 < i → i ≡ length (decimal m)
  pub made : decimal n ≡ take i (decimal m) ++ drop i part

pub writing_start : (n : ℕ) (part : List ℕ) → length part ≡ length (decimal n) → Writing n part (length part) n
writing_start n part e = record {
  inside = omega arith;
  left = λ _. e;
  made =
      sym
      (rw (take_all (length part) (decimal n) (omega arith), drop_of_length-le part {i = length part} (omega arith))
      (append-nil (decimal n)));
}

module _ (n : ℕ) (part : List ℕ) (i m : ℕ) (w : Writing n part (i + 1) m) where
  -- the digit that is stored, the part with it, and the digits behind it
  abbrev digit : ℕ
  digit = 48 + m % 10

  abbrev stored : List ℕ
  stored = set part i digit

  abbrev behind : List ℕ
  behind = drop (i + 1) part

  ends : drop i stored ≡ digit ∷ behind
  ends = drop-set part i digit (omega (arith, w.inside))

  whole : decimal n ≡ decimal m ++ behind
  whole = w.made ∙ ap (λ l. l ++ behind) (take_all (i + 1) (decimal m) (omega (arith, w.left (omega arith))))

  first_digit : m < 10 → Writing n stored i (m / 10)
  first_digit h =
      let z : i ≡ 0 = omega (arith, w.left (omega arith), decimal_one m h) in
      let d : 48 + m ≡ digit = omega arith in record {
        inside = omega arith;
        left = λ p. absurd (omega arith);
        made =
            whole
            ∙ ap (λ l. l ++ behind) (decimal_small m h)
            ∙ ap (λ x. x ∷ behind) d
            ∙ sym ends
            ∙ sym (ap (λ k. take k (decimal (m / 10)) ++ drop i stored) z);
      }

  next_digit : 10 ≤ m → Writing n stored i (m / 10)
  next_digit h =
      let k : i ≡ length (decimal (m / 10)) = omega (arith, w.left (omega arith), decimal_more m h) in record {
        inside = omega (arith, w.inside, length-set part i digit);
        left = λ _. k;
        made =
            whole
            ∙ ap (λ l. l ++ behind) (decimal_big m h)
            ∙ append_assoc (decimal (m / 10)) (digit ∷ []) behind
            ∙ ap (λ l. decimal (m / 10) ++ l) (sym ends)
            ∙ ap (λ l. l ++ drop i stored) (sym (take_all i (decimal (m / 10)) (omega (arith, k))));
      }

  writing_next : Writing n stored i (m / 10)
  writing_next = go (dec_lt m 10)
    where
      go : Dec (m < 10) → Writing n stored i (m / 10)
      go (yes h) = first_digit h
      go (no h) = next_digit (omega arith)

pub writing_turn : (n : ℕ) (part : List ℕ) (i m : ℕ) → 0 < i → Writing n part i m
    → Writing n (set part (i - 1) (48 + m % 10)) (i - 1) (m / 10)
writing_turn n part i m h w =
    let e : i ≡ i - 1 + 1 = omega arith in
    writing_next n part (i - 1) m (subst (λ k. Writing n part k m) e w)

pub writing_end : (n : ℕ) (part : List ℕ) (i m : ℕ) → i ≡ 0 → Writing n part i m → part ≡ decimal n
writing_end n part i m z w = sym (w.made ∙ ap (λ k. take k (decimal m) ++ drop k part) z)
