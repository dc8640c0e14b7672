-- Tables from a string (document 01, "Tables from a string").
--
-- Triangle k has tip corner 3k, left end 3k+1, right end 3k+2. A loop is a list us of vertices from the right end of
-- the current edge round to its left end; rs are the corners remembered on its edges, u0–u1 first.
--
--   vertices nv w us   the vertices of the triangles of w on the loop us, three each; nv is the next new vertex
--   a ⇌ b              a join: the corners a and b face each other
--   links k w          the joins of continuing at right and at left; k is the first triangle of w
--   zips k w rs        the joins with remembered corners
--   joined js os       table O after the joins js
--   table_v table_o      the tables of a word
use Rattle.std.specs.Prelude.{List, [], ◌∷◌, ◌++◌, ℕ, ◌+◌, ◌*◌, ◌-◌, get_or, set, take, drop, replicate}
use Rattle.theory.specs.Lists.{head, tail, front, back}
use Rattle.theory.specs.Word.{Word, w_e, w_c, w_l, w_r, w_s, size, news, width}

unfoldable pub vertices : ℕ → Word → List ℕ → List ℕ
vertices nv w_e us = get_or us 1 0 ∷ (back us ∷ (head us ∷ []))
vertices nv (w_c w) us = nv ∷ (back us ∷ (head us ∷ vertices (nv + 1) w (us ++ (nv ∷ []))))
vertices nv (w_l w) us = back (front us) ∷ (back us ∷ (head us ∷ vertices nv w (front us)))
vertices nv (w_r w) us = get_or us 1 0 ∷ (back us ∷ (head us ∷ vertices nv w (tail us)))
vertices nv (w_s a b) us =
    get_or us (width a - 1) 0
    ∷ (back us ∷ (head us ∷ (vertices nv a (take (width a) us) ++ vertices (nv + news a) b (drop (width a - 1) us))))

pub data Pair : Type 0 where
  ◌⇌◌ : ℕ → ℕ → Pair

infixl 40 ◌⇌◌
unfoldable pub links : ℕ → Word → List Pair
links k w_e = []
links k (w_c w) = ((3 * k + 1) ⇌ (3 * (k + 1))) ∷ links (k + 1) w
links k (w_l w) = ((3 * k + 1) ⇌ (3 * (k + 1))) ∷ links (k + 1) w
links k (w_r w) = ((3 * k + 2) ⇌ (3 * (k + 1))) ∷ links (k + 1) w
links k (w_s a b) =
    ((3 * k + 1) ⇌ (3 * (k + 1)))
    ∷ (((3 * k + 2) ⇌ (3 * (k + 1 + size a))) ∷ (links (k + 1) a ++ links (k + 1 + size a) b))

unfoldable pub zips : ℕ → Word → List ℕ → List Pair
zips k w_e rs = ((3 * k + 1) ⇌ head rs) ∷ (((3 * k + 2) ⇌ head (tail rs)) ∷ [])
zips k (w_c w) rs = zips (k + 1) w (rs ++ ((3 * k + 2) ∷ []))
zips k (w_l w) rs = ((3 * k + 2) ⇌ back rs) ∷ zips (k + 1) w (front rs)
zips k (w_r w) rs = ((3 * k + 1) ⇌ head rs) ∷ zips (k + 1) w (tail rs)
zips k (w_s a b) rs = zips (k + 1) a (take (width a - 1) rs) ++ zips (k + 1 + size a) b (drop (width a - 1) rs)

unfoldable pub join_at : ℕ → ℕ → List ℕ → List ℕ
join_at a b os = set (set os a b) b a

unfoldable pub joined : List Pair → List ℕ → List ℕ
joined [] os = os
joined ((a ⇌ b) ∷ js) os = joined js (join_at a b os)

-- corner 0 is remembered on the first edge
unfoldable pub joins : Word → List Pair
joins w = links 0 w ++ zips 0 w (0 ∷ [])

-- u0 = 1 and u1 = 0; C makes the next vertex, 2 onward
unfoldable pub table_v : Word → List ℕ
table_v w = vertices 2 w (1 ∷ (0 ∷ []))

unfoldable pub table_o : Word → List ℕ
table_o w = joined (joins w) (replicate (3 * size w) 0)
