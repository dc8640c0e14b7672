-- Numbers in texts (document 01, "The last record"): decimal, no leading zero except 0 itself; read with 1 to 7 digits.
--
--   decimal n     the digits of n, the most significant first
--   value l       the number that the digits l make
--   is_number l    l is 1 to 7 digits, with no leading zero except 0 itself
--   number l      what a reader answers: the number, or that l is none
--   some_number a the number of such an answer, or none
use Rattle.std.specs.Prelude.{Bool, ◌&&◌, cond, false, true, List, [], ◌++◌, ◌∷◌, ◌%◌, ◌*◌, ◌+◌, ◌-◌, ◌/◌, suc, zero, ℕ, eqb, leb, ltb, get_or, length, Option, Some, None}

-- ---- writing

-- the digits of n, at most f of them before the last
unfoldable pub decimal_in : ℕ → ℕ → List ℕ
decimal_in zero n = (48 + n) ∷ []
decimal_in (suc f) n = cond (ltb n 10) ((48 + n) ∷ []) (decimal_in f (n / 10) ++ ((48 + n % 10) ∷ []))

unfoldable pub decimal : ℕ → List ℕ
decimal n = decimal_in n n

-- ---- reading

pub record Number : Type 0 where
  pub good : Bool
  pub value : ℕ

abbrev pub some_number : Number → Option ℕ
some_number a = cond a.good (Some a.value) None

abbrev pub is_digit : ℕ → Bool
is_digit b = leb 48 b && leb b 57

abbrev pub all_digits : List ℕ → Bool
all_digits [] = true
all_digits (b ∷ l) = is_digit b && all_digits l

-- the number that the digits l make behind those of n
abbrev pub value_after : ℕ → List ℕ → ℕ
value_after n [] = n
value_after n (b ∷ l) = value_after (n * 10 + (b - 48)) l

abbrev pub value : List ℕ → ℕ
value l = value_after 0 l

-- no leading zero except 0 itself
abbrev pub leads_well : List ℕ → Bool
leads_well l = cond (eqb (get_or l 0 0) 48) (leb (length l) 1) true

unfoldable pub is_number : List ℕ → Bool
is_number l = leb 1 (length l) && (leb (length l) 7 && (leads_well l && all_digits l))

abbrev pub found : ℕ → Number
found n = record { good = true; value = n }

abbrev pub missing : Number
missing = record { good = false; value = 0 }

unfoldable pub number : List ℕ → Number
number l = cond (is_number l) (found (value l)) missing

-- the number of digits read behind those of n
unfoldable pub digits_after : ℕ → List ℕ → Number
digits_after n l = cond (all_digits l) (found (value_after n l)) missing
