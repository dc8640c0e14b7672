-- The last record as a text (document 01, "The last record"): four lines, this order, each ended by byte 10, nothing
-- after.
--
--   record_text t gate s    form=1
--                          tri=t
--                          gate=gate
--                          sym=s
use Rattle.std.specs.Prelude.{List, [], ◌++◌, ◌∷◌, ℕ}
use Rattle.text.specs.Decimal.{decimal}
use Rattle.text.specs.Line.{line_end}

-- "form="
abbrev pub form_key : List ℕ
form_key = 102 ∷ 111 ∷ 114 ∷ 109 ∷ 61 ∷ []

-- "tri="
abbrev pub tri_key : List ℕ
tri_key = 116 ∷ 114 ∷ 105 ∷ 61 ∷ []

-- "gate="
abbrev pub gate_key : List ℕ
gate_key = 103 ∷ 97 ∷ 116 ∷ 101 ∷ 61 ∷ []

-- "sym="
abbrev pub sym_key : List ℕ
sym_key = 115 ∷ 121 ∷ 109 ∷ 61 ∷ []

-- a key, its value and the line's end, before a text
abbrev pub keyed : List ℕ → List ℕ → List ℕ → List ℕ
keyed key value rest = key ++ (value ++ line_end ∷ rest)

-- a record of any form, before a text
unfoldable pub record_of : ℕ → ℕ → ℕ → List ℕ → List ℕ → List ℕ
record_of form t gate s rest =
    keyed form_key (decimal form) (keyed tri_key (decimal t) (keyed gate_key (decimal gate) (keyed sym_key s rest)))

unfoldable pub record_text : ℕ → ℕ → List ℕ → List ℕ
record_text t gate s = record_of 1 t gate s []
