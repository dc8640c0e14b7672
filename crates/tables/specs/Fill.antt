-- The second pass, as a machine on lists: the vertices of all triangles from their neighbours, first to last letter.
--
--   after_facing before_facing   the vertex at the corner after, and before, the one that faces c
--   row k x l r vs             the three vertices of triangle k are stored
--   left right new             the ends of the next triangle, and the next new vertex
--   fill_in                     the machine
--   fill_step a k ns os z       the letter a of triangle k; ns has the records of the S triangles
--   fill_run s k ns os z        the letters of s, from triangle k on
use Rattle.std.specs.Prelude.{List, [], ◌∷◌, ◌*◌, ◌+◌, ℕ, get_or, set}
use Rattle.theory.specs.Corner.{next, previous, vertex}
use Rattle.theory.specs.Letter.{letter}
use Rattle.tables.specs.declared.labels.Sides.{Sides}
use Rattle.theory.specs.declared.Letter.{Letter}
use Rattle.theory.specs.declared.Letter.TheVariants.{C, E, L, R, S}

unfoldable pub after_facing : List ℕ → List ℕ → ℕ → ℕ
after_facing os vs c = vertex vs (next (get_or os c 0))

unfoldable pub before_facing : List ℕ → List ℕ → ℕ → ℕ
before_facing os vs c = vertex vs (previous (get_or os c 0))

unfoldable pub row : ℕ → ℕ → ℕ → ℕ → List ℕ → List ℕ
row k x l r vs = set (set (set vs (3 * k) x) (3 * k + 1) l) (3 * k + 2) r

pub record Fill : Type 0 where
  pub vs : List ℕ
  pub left : ℕ
  pub right : ℕ
  pub new : ℕ

abbrev pub fill_in : List ℕ → Sides → Fill
fill_in vs sides = record { vs = vs; left = sides.left; right = sides.right; new = sides.new }

-- triangle k has the tip x
abbrev pub stored : ℕ → ℕ → Fill → List ℕ
stored k x z = row k x z.left z.right z.vs

-- continue at right, at left
unfoldable pub at_right : ℕ → ℕ → ℕ → Fill → Fill
at_right k x new z = record { vs = stored k x z; left = x; right = z.right; new = new }

unfoldable pub at_left : ℕ → ℕ → Fill → Fill
at_left k x z = record { vs = stored k x z; left = z.left; right = x; new = z.new }

-- a word is done: the next triangle stands where an S waits
unfoldable pub resumed : ℕ → List ℕ → List ℕ → ℕ → Fill
resumed j os vs new =
    record { vs = vs; left = before_facing os vs (3 * j); right = after_facing os vs (3 * j); new = new }

-- the tip of an S stands behind the last open side of its right branch
unfoldable pub fill_step : Letter → ℕ → List ℕ → List ℕ → Fill → Fill
fill_step C k ns os z = at_right k z.new (z.new + 1) z
fill_step L k ns os z = at_right k (before_facing os z.vs (3 * k + 2)) z.new z
fill_step E k ns os z = resumed (k + 1) os (stored k (after_facing os z.vs (3 * k + 1)) z) z.new
fill_step R k ns os z = at_left k (after_facing os z.vs (3 * k + 1)) z
fill_step S k ns os z = at_right k (after_facing os z.vs (get_or ns k 0)) z.new z

unfoldable pub fill_run : List ℕ → ℕ → List ℕ → List ℕ → Fill → Fill
fill_run [] k ns os z = z
fill_run (b ∷ s) k ns os z = fill_run s (k + 1) ns os (fill_step (letter b) k ns os z)

-- the first triangle has the ends 0 and 1
unfoldable pub fill_v : List ℕ → List ℕ → List ℕ → List ℕ → List ℕ
fill_v s ns os vs = (fill_run s 0 ns os (record { vs = vs; left = 0; right = 1; new = 2 })).vs
