-- Corners and the stepping rules (document 01, "Mesh tables").
--
--          c               corner c is in triangle c / 3; seen with the edge opposite c at the bottom,
--         / \              n(c) is the left end and p(c) the right end
--     n(c)---p(c)
--
--   next previous triangle   n(c), p(c), c / 3
--   vertex vs c              the vertex number that table V has at c
--   opposite os c            the corner that table O has at c; beyond the table c itself, so that laws need no bounds
--   left right swing         O[p(c)], O[n(c)], n(O[n(c)]), for opposites as a function
--   inside os f c            f c for a corner of the table; a corner beyond it stays where it is
use Rattle.std.specs.Prelude.{cond, List, ℕ, ◌+◌, ◌*◌, ◌/◌, ◌%◌, ltb, length, get_or}

-- 3k, 3k+1, 3k+2 and back to 3k
unfoldable pub next : ℕ → ℕ
next c = 3 * (c / 3) + (c + 1) % 3

unfoldable pub previous : ℕ → ℕ
previous c = 3 * (c / 3) + (c + 2) % 3

abbrev pub triangle : ℕ → ℕ
triangle c = c / 3

abbrev pub vertex : List ℕ → ℕ → ℕ
vertex vs c = get_or vs c 0

abbrev pub opposite : List ℕ → ℕ → ℕ
opposite os c = get_or os c c

abbrev pub right : (ℕ → ℕ) → ℕ → ℕ
right opp c = opp (next c)

abbrev pub left : (ℕ → ℕ) → ℕ → ℕ
left opp c = opp (previous c)

abbrev pub swing : (ℕ → ℕ) → ℕ → ℕ
swing opp c = next (opp (next c))

unfoldable pub inside : List ℕ → (ℕ → ℕ) → ℕ → ℕ
inside os f c = cond (ltb (triangle c) (length os / 3)) (f c) c
