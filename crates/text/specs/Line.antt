-- Lines (document 01, "The last record"): key=value, each ended by byte 10.
--
--   up_to b l             the number of bytes of l before the first b, all of them where there is none
--   lacks b l            l has no byte b
--   line l, after l      the first line of l without its end; what follows that end
--   is_keyed key l        the first line of l is ended and begins with key
--   value_of key l        what stands behind the key in the first line
--   number_line key l     the first line is key and a number: the number and the line's size with its end
--   some_size n, some_line a   the same as the code answers them, or none
use Rattle.std.specs.Prelude.{Bool, ◌&&◌, cond, false, not, true, List, [], ◌∷◌, suc, zero, ℕ, eqb, ltb, drop, length, take, Option, Some, None}
use Rattle.text.specs.Decimal.{is_number, value}
use Rattle.text.specs.declared.KeyedNumber.{KeyedNumber}

abbrev pub up_to : ℕ → List ℕ → ℕ
up_to b [] = 0
up_to b (x ∷ l) = cond (eqb x b) 0 (suc (up_to b l))

abbrev pub lacks : ℕ → List ℕ → Bool
lacks b [] = true
lacks b (x ∷ l) = not (eqb x b) && lacks b l

-- the byte that ends a line
abbrev pub line_end : ℕ
line_end = 10

abbrev pub line : List ℕ → List ℕ
line l = take (up_to line_end l) l

abbrev pub after : List ℕ → List ℕ
after l = drop (suc (up_to line_end l)) l

abbrev pub starts : List ℕ → List ℕ → Bool
starts [] l = true
starts (k ∷ ks) [] = false
starts (k ∷ ks) (x ∷ l) = eqb x k && starts ks l

unfoldable pub is_keyed : List ℕ → List ℕ → Bool
is_keyed key l = ltb (up_to line_end l) (length l) && starts key (line l)

-- the size of a keyed line with its end, 0 where there is none
unfoldable pub keyed_size : List ℕ → List ℕ → ℕ
keyed_size key l = cond (is_keyed key l) (suc (up_to line_end l)) 0

abbrev pub some_size : ℕ → Option ℕ
some_size zero = None
some_size (suc n) = Some (suc n)

abbrev pub value_of : List ℕ → List ℕ → List ℕ
value_of key l = drop (length key) (line l)

pub record NumberLine : Type 0 where
  pub good : Bool
  pub value : ℕ
  pub size : ℕ

abbrev pub some_line : NumberLine → Option KeyedNumber
some_line a = cond a.good (Some (record { value = a.value; size = a.size })) None

abbrev pub bad_line : NumberLine
bad_line = record { good = false; value = 0; size = 0 }

unfoldable pub number_line : List ℕ → List ℕ → NumberLine
number_line key l =
    cond (is_keyed key l && is_number (value_of key l))
    (record { good = true; value = value (value_of key l); size = suc (up_to line_end l) })
    bad_line
