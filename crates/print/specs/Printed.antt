-- Printed lines (document 01, "Program and worked examples").
--
--   counts_line t v gate      tri=4 ver=4 gate=7
--   triangle_line vs os k     k=0 v=2,0,1 o=7,3,10
--   triangle_lines vs os k    the lines of the first k triangles
--   refusal_line no place     refused=6 place=1
use Rattle.std.specs.Prelude.{List, [], ◌++◌, ◌∷◌, ◌*◌, ◌+◌, suc, zero, ℕ, get_or}
use Rattle.text.specs.Decimal.{decimal}
use Rattle.text.specs.Line.{line_end}

-- a key and a number
unfoldable pub numbered : List ℕ → ℕ → List ℕ
numbered key n = key ++ decimal n

abbrev pub comma : List ℕ
comma = 44 ∷ []

-- a key and three numbers with commas between them
unfoldable pub three : List ℕ → ℕ → ℕ → ℕ → List ℕ
three key a b c = numbered key a ++ numbered comma b ++ numbered comma c

-- the pieces of the lines, each with its key
abbrev pub tri_piece : ℕ → List ℕ
tri_piece t = numbered (116 ∷ 114 ∷ 105 ∷ 61 ∷ []) t

abbrev pub ver_piece : ℕ → List ℕ
ver_piece v = numbered (32 ∷ 118 ∷ 101 ∷ 114 ∷ 61 ∷ []) v

abbrev pub gate_piece : ℕ → List ℕ
gate_piece gate = numbered (32 ∷ 103 ∷ 97 ∷ 116 ∷ 101 ∷ 61 ∷ []) gate

abbrev pub refused_piece : ℕ → List ℕ
refused_piece number = numbered (114 ∷ 101 ∷ 102 ∷ 117 ∷ 115 ∷ 101 ∷ 100 ∷ 61 ∷ []) number

abbrev pub place_piece : ℕ → List ℕ
place_piece place = numbered (32 ∷ 112 ∷ 108 ∷ 97 ∷ 99 ∷ 101 ∷ 61 ∷ []) place

abbrev pub k_piece : ℕ → List ℕ
k_piece k = numbered (107 ∷ 61 ∷ []) k

abbrev pub v_piece : List ℕ → ℕ → List ℕ
v_piece vs i = three (32 ∷ 118 ∷ 61 ∷ []) (get_or vs i 0) (get_or vs (i + 1) 0) (get_or vs (i + 2) 0)

abbrev pub o_piece : List ℕ → ℕ → List ℕ
o_piece os i = three (32 ∷ 111 ∷ 61 ∷ []) (get_or os i 0) (get_or os (i + 1) 0) (get_or os (i + 2) 0)

abbrev pub ended : List ℕ
ended = line_end ∷ []

-- the lines
unfoldable pub counts_line : ℕ → ℕ → ℕ → List ℕ
counts_line t v gate = tri_piece t ++ ver_piece v ++ gate_piece gate ++ ended

unfoldable pub triangle_line : List ℕ → List ℕ → ℕ → List ℕ
triangle_line vs os k = k_piece k ++ v_piece vs (3 * k) ++ o_piece os (3 * k) ++ ended

unfoldable pub refusal_line : ℕ → ℕ → List ℕ
refusal_line number place = refused_piece number ++ place_piece place ++ ended

unfoldable pub triangle_lines : List ℕ → List ℕ → ℕ → List ℕ
triangle_lines vs os zero = []
triangle_lines vs os (suc k) = triangle_lines vs os k ++ triangle_line vs os k
