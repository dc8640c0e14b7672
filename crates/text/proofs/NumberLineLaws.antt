-- Laws of key=number lines.
--
--   number_line_made            read from what was written
--   number_line_split good-*    an accepted line is its key, the decimal of its number, and its end
--   line_none line_bad line_good   what the code answers, from the part that it lends; lines: all that it asks
use mathlib.Core.Bool.{Bool, ◌&&◌, cond, false, true}
use mathlib.Core.List.{List, ◌++◌, ◌∷◌}
use mathlib.Core.Path.{◌∙◌, ◌≡◌, ap, refl, sym}
use Prim.Native.Nat.{◌+◌, ◌-◌, ◌<◌, ◌≤◌, suc, ℕ}
use native.Mathlib.Omega.{arith}
use lib.ListN.{drop, length, take}
use Rattle.text.proofs.DecimalLaws.{decimal_digits, decimal_value, is_number_decimal}
use Rattle.text.proofs.KeyedLaws.{keyed_ended, keyed_fits, keyed_made, keyed_split, keyed_up, size_keyed, size_none, size_some, value_of_made}
use Rattle.text.proofs.LineLaws.{lacks_digits}
use Rattle.text.proofs.NumberLaws.{good_test, good_value, number_good, number_small}
use Rattle.std.specs.Prelude.{None, Option, Some}
use Rattle.text.proofs.Answered.{none_number, none_size, the_number, the_size}
use Rattle.text.proofs.Parts.{drop_take}
use Rattle.text.specs.Decimal.{decimal, is_number, number, some_number, value}
use Rattle.text.specs.Line.{NumberLine, after, bad_line, is_keyed, keyed_size, lacks, line_end, number_line, some_line, some_size, up_to, value_of}
use Rattle.theory.proofs.TestLaws.{and_left, and_right}

-- ---- lines with numbers

pub number_line_made : (key r : List ℕ) (n : ℕ) → lacks line_end key ≡ true → n < 10000000
    → number_line key (key ++ (decimal n ++ line_end ∷ r)) ≡ record
    { good = true; value = n; size = suc (length key + length (decimal n)) }
unfolding number_line
number_line_made key r n hk h =
    let hv : lacks line_end (decimal n) ≡ true = lacks_digits (decimal n) (decimal_digits n) in
    rw (
      keyed_made key (decimal n) r hk hv,
      value_of_made key (decimal n) r hk hv,
      is_number_decimal n h,
      decimal_value n,
      keyed_up key (decimal n) r hk hv,
    )

-- an accepted line is its key, the decimal of its number, and its end
pub record GoodLine (key l : List ℕ) : Type 0 where
  pub keyed : is_keyed key l ≡ true
  pub numeric : is_number (value_of key l) ≡ true

pub number_line_split : (key l : List ℕ) → (number_line key l).good ≡ true → GoodLine key l
unfolding number_line
number_line_split key l e = go ((is_keyed key l && is_number (value_of key l))) refl e
  where
    go : (t : Bool) → (is_keyed key l && is_number (value_of key l)) ≡ t
        → (cond t (record { good = true; value = value (value_of key l); size = suc (up_to line_end l) }) bad_line).good
        ≡ true → GoodLine key l
    go true q e = record {
      keyed = and_left (is_keyed key l) (is_number (value_of key l)) q;
      numeric = and_right
          (is_keyed key l) (is_number (value_of key l)) q;
    }
    go false q e = cc

module _ (key l : List ℕ) (good : GoodLine key l) where
  pub good_answer : number_line key l ≡ record
      { good = true; value = value (value_of key l); size = suc (up_to line_end l) }
  unfolding number_line
  good_answer = rw (good.keyed, good.numeric)

  pub good_text : l ≡ key ++ (decimal (number_line key l).value ++ line_end ∷ after l)
  good_text =
      keyed_split key l good.keyed
      ∙ ap (λ (d : List ℕ). key ++ (d ++ line_end ∷ after l)) (sym (number_good (value_of key l) good.numeric))
      ∙ ap (λ (a : NumberLine). key ++ (decimal a.value ++ line_end ∷ after l)) (sym good_answer)

  pub good_small : (number_line key l).value < 10000000
  good_small = rw good_answer (number_small (value_of key l) good.numeric)

  pub good_after : drop (number_line key l).size l ≡ after l
  good_after = rw good_answer

  pub good_inside : (number_line key l).size ≤ length l
  good_inside = rw good_answer (omega (arith, keyed_ended key l good.keyed))

-- ---- the number of a keyed line, from the part that the code lends

-- a size is that of a keyed line
pub is_keyed_lem : (key l : List ℕ) (n : ℕ) → n ≡ keyed_size key l → (n ≡ 0 → ⊥) → is_keyed key l ≡ true
is_keyed_lem key l n e some = size_some key l (λ z. some (e ∙ z))

module _ (key l : List ℕ) where
  pub line_none : None ≡ some_size (keyed_size key l) → None ≡ some_line (number_line key l)
  unfolding number_line
  line_none e = rw (size_none key l (none_size (keyed_size key l) e))

  module _ (n : ℕ) (e : Some n ≡ some_size (keyed_size key l)) where
    here : (n ≡ keyed_size key l) × (keyed_size key l ≡ 0 → ⊥)
    here = the_size (keyed_size key l) n e

    found_keyed : is_keyed key l ≡ true
    found_keyed = size_some key l here.1

    line_size : n ≡ suc (up_to line_end l)
    line_size = here.0 ∙ size_keyed key l found_keyed

    pub line_start : length key ≤ n - 1
    line_start = omega (arith, line_size, keyed_fits key l found_keyed)

    pub line_stop : n ≤ length l
    line_stop = omega (arith, line_size, keyed_ended key l found_keyed)

    module _ (r : Option ℕ) (q : r ≡ some_number (number (take (n - 1 - length key) (drop (length key) l)))) where
      value_read : r ≡ some_number (number (value_of key l))
      value_read =
          let k : n - 1 ≡ up_to line_end l = omega (arith, line_size) in
          let part : List ℕ → Option ℕ = λ m. some_number (number m) in
          q ∙ ap part (sym (drop_take (length key) (n - 1) l) ∙ ap (λ (m : ℕ). drop (length key) (take m l)) k)

      pub line_bad : r ≡ None → None ≡ some_line (number_line key l)
      unfolding number_line
      line_bad g =
          let bad = none_number (number (value_of key l)) (sym g ∙ value_read) in
          rw (found_keyed, good_test (value_of key l) false bad)

      pub line_good : (v : ℕ) → r ≡ Some v → Some (record { value = v; size = n }) ≡ some_line (number_line key l)
      unfolding number_line
      line_good v g =
          let good = the_number (number (value_of key l)) v (sym g ∙ value_read) in
          let read : v ≡ value (value_of key l) = good.1 ∙ good_value (value_of key l) good.0 in
          rw (found_keyed, good_test (value_of key l) true good.0, line_size, read)

-- what the code asks of them
pub ruleset lines = (line_none, line_start, line_stop, line_bad, line_good)
