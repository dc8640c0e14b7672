-- The lines that the document prints.
use mathlib.Core.List.{[], ◌∷◌}
use mathlib.Core.Path.{◌≡◌, refl}
use Rattle.print.specs.Printed.{counts_line, numbered, refusal_line, three, triangle_line}
use Rattle.text.specs.Decimal.{decimal, decimal_in}

counts : counts_line 4 4 7 ≡ 116 ∷ 114 ∷ 105 ∷ 61 ∷ 52 ∷ 32 ∷ 118 ∷ 101 ∷ 114 ∷ 61 ∷ 52 ∷ 32 ∷ 103 ∷ 97 ∷ 116 ∷ 101 ∷ 61 ∷ 55 ∷ 10 ∷ []
unfolding counts_line triangle_line refusal_line three numbered decimal decimal_in
counts = refl

triangle_0 : triangle_line (2 ∷ 0 ∷ 1 ∷ 3 ∷ 2 ∷ 1 ∷ 0 ∷ 3 ∷ 1 ∷ 2 ∷ 3 ∷ 0 ∷ [])
    (7 ∷ 3 ∷ 10 ∷ 1 ∷ 6 ∷ 11 ∷ 4 ∷ 0 ∷ 9 ∷ 8 ∷ 2 ∷ 5 ∷ []) 0
    ≡ 107 ∷ 61 ∷ 48 ∷ 32 ∷ 118 ∷ 61 ∷ 50 ∷ 44 ∷ 48 ∷ 44 ∷ 49 ∷ 32 ∷ 111 ∷ 61 ∷ 55 ∷ 44 ∷ 51 ∷ 44 ∷ 49 ∷ 48 ∷ 10 ∷ []
unfolding counts_line triangle_line refusal_line three numbered decimal decimal_in
triangle_0 = refl

triangle_3 : triangle_line (2 ∷ 0 ∷ 1 ∷ 3 ∷ 2 ∷ 1 ∷ 0 ∷ 3 ∷ 1 ∷ 2 ∷ 3 ∷ 0 ∷ [])
    (7 ∷ 3 ∷ 10 ∷ 1 ∷ 6 ∷ 11 ∷ 4 ∷ 0 ∷ 9 ∷ 8 ∷ 2 ∷ 5 ∷ []) 3
    ≡ 107 ∷ 61 ∷ 51 ∷ 32 ∷ 118 ∷ 61 ∷ 50 ∷ 44 ∷ 51 ∷ 44 ∷ 48 ∷ 32 ∷ 111 ∷ 61 ∷ 56 ∷ 44 ∷ 50 ∷ 44 ∷ 53 ∷ 10 ∷ []
unfolding counts_line triangle_line refusal_line three numbered decimal decimal_in
triangle_3 = refl

refusal : refusal_line 6 1 ≡ 114 ∷ 101 ∷ 102 ∷ 117 ∷ 115 ∷ 101 ∷ 100 ∷ 61 ∷ 54 ∷ 32 ∷ 112 ∷ 108 ∷ 97 ∷ 99 ∷ 101 ∷ 61 ∷ 49 ∷ 10 ∷ []
unfolding counts_line triangle_line refusal_line three numbered decimal decimal_in
refusal = refl
