-- The open sides of a word, bottom up: which sides it leaves to be joined, and which it joins itself.
--
--   opens k w     its open sides from the right end round to the left end, k its first triangle
--   mates k w     the joins of the left side of each C with the last open side behind it
--   ends js       the corners that some joins join
--   length_opens  one less than the width
--   cover         links, mates, open sides and the bottom corner are the corners of the word's triangles, each once
--   opens_low     the open sides stand in the word's triangles (`Within`)
use mathlib.Core.List.{List, [], ◌++◌, ◌∷◌}
use mathlib.Core.Path.{◌∙◌, ◌≡◌, ap}
use Prim.Native.Nat.{◌*◌, ◌+◌, ◌<◌, ◌≤◌, suc, ℕ}
use native.Mathlib.Omega.{arith}
use lib.Dec.{eqb}
use lib.ListN.{length, length-append}
use Rattle.theory.proofs.Counting.{bit, count, count_append, tris, tris_append}
use Rattle.theory.proofs.Each.{EachN, each_n_append, each_n_left, each_n_map}
use Rattle.theory.proofs.ListLaws.{length_front, snoc_view}
use Rattle.theory.proofs.WordLaws.{width_two}
use Rattle.theory.specs.Lists.{back, front}
use Rattle.theory.specs.Tables.{Pair, ◌⇌◌, links}
use Rattle.theory.specs.Word.{Sound, Word, size, w_c, w_e, w_l, w_r, w_s, width}

unfoldable pub opens : ℕ → Word → List ℕ
opens k w_e = (3 * k + 1) ∷ ((3 * k + 2) ∷ [])
opens k (w_c w) = front (opens (k + 1) w)
opens k (w_l w) = opens (k + 1) w ++ ((3 * k + 2) ∷ [])
opens k (w_r w) = (3 * k + 1) ∷ opens (k + 1) w
opens k (w_s a b) = opens (k + 1) a ++ opens (k + 1 + size a) b

-- D1
pub length_opens : (k : ℕ) (w : Word) → Sound w → length (opens k w) + 1 ≡ width w
unfolding opens width
length_opens k w_e h = omega arith
length_opens k (w_c w) h = let i = length_opens (k + 1) w h.0 in rw length_front (omega arith)
length_opens k (w_l w) h = let i = length_opens (k + 1) w h in rw length-append (omega arith)
length_opens k (w_r w) h = let i = length_opens (k + 1) w h in omega arith
length_opens k (w_s a b) h =
    let i = length_opens (k + 1) a h.0 in
    let j = length_opens (k + 1 + size a) b h.1 in
    let m = width_two b h.1 in
    rw length-append (omega arith)

unfoldable pub mates : ℕ → Word → List Pair
mates k w_e = []
mates k (w_c w) = (back (opens (k + 1) w) ⇌ (3 * k + 2)) ∷ mates (k + 1) w
mates k (w_l w) = mates (k + 1) w
mates k (w_r w) = mates (k + 1) w
mates k (w_s a b) = mates (k + 1) a ++ mates (k + 1 + size a) b

-- the ends of a list of joins
unfoldable pub ends : List Pair → List ℕ
ends [] = []
ends ((a ⇌ b) ∷ js) = a ∷ (b ∷ ends js)

pub count_ends : (x : ℕ) (a b : List Pair) → count x (ends (a ++ b)) ≡ count x (ends a) + count x (ends b)
unfolding ends count
count_ends x [] b = omega arith
count_ends x ((y ⇌ z) ∷ a) b = let i = count_ends x a b in omega arith

-- D3
pub cover : (x k : ℕ) (w : Word) → Sound w
    → count x (ends (links k w)) + count x (ends (mates k w)) + count x (opens k w) + bit (eqb x (3 * k))
    ≡ count x (tris k (size w))
unfolding opens links mates ends tris count size
cover x k w_e h = omega arith
cover x k (w_c w) h =
    let i = cover x (k + 1) w h.0 in
    let n = length_opens (k + 1) w h.0 in
    let v = snoc_view (opens (k + 1) w) (omega arith) in
    let o = ap (count x) v ∙ count_append x (front (opens (k + 1) w)) (back (opens (k + 1) w) ∷ []) in
    omega arith
cover x k (w_l w) h = let i = cover x (k + 1) w h in rw count_append (omega arith)
cover x k (w_r w) h = let i = cover x (k + 1) w h in omega arith
cover x k (w_s a b) h =
    let i = cover x (k + 1) a h.0 in
    let j = cover x (k + 1 + size a) b h.1 in
    let l = count_ends x (links (k + 1) a) (links (k + 1 + size a) b) in
    let m = count_ends x (mates (k + 1) a) (mates (k + 1 + size a) b) in
    let o = count_append x (opens (k + 1) a) (opens (k + 1 + size a) b) in
    let t = tris_append x (size a) (size b) (k + 1) in
    omega arith

-- the corners behind 3k of the triangles below m
abbrev pub Within : ℕ → ℕ → ℕ → Type 0
Within k m b = (3 * k < b) × (b < 3 * m)

within_more : (k j m n : ℕ) (bs : List ℕ) → k ≤ j → m ≤ n → EachN (Within j m) bs → EachN (Within k n) bs
within_more k j m n bs p q = each_n_map (Within j m) (Within k n) (λ x h. let l = h.1 in (omega arith, omega arith)) bs

-- the open sides of a word stand in its triangles
pub opens_low : (k : ℕ) (w : Word) → Sound w → EachN (Within k (k + size w)) (opens k w)
unfolding opens size
opens_low k w_e h = ((omega arith, omega arith), ((omega arith, omega arith), tt))
opens_low k (w_c w) h =
    let n = length_opens (k + 1) w h.0 in
    let m = k + suc (size w) in
    let bs = opens (k + 1) w in
    let i = within_more k (k + 1) (k + 1 + size w) m bs (omega arith) (omega arith) (opens_low (k + 1) w h.0) in
    each_n_left (Within k m) (front bs) (back bs ∷ []) (rw (snoc_view bs (omega arith)) at i)
opens_low k (w_l w) h =
    let m = k + suc (size w) in
    let bs = opens (k + 1) w in
    let i = within_more k (k + 1) (k + 1 + size w) m bs (omega arith) (omega arith) (opens_low (k + 1) w h) in
    each_n_append (Within k m) bs ((3 * k + 2) ∷ []) i ((omega arith, omega arith), tt)
opens_low k (w_r w) h =
    let m = k + suc (size w) in
    let bs = opens (k + 1) w in
    let i = within_more k (k + 1) (k + 1 + size w) m bs (omega arith) (omega arith) (opens_low (k + 1) w h) in
    ((omega arith, omega arith), i)
opens_low k (w_s a b) h =
    let j = k + 1 + size a in
    let m = k + suc (size a + size b) in
    let cs = opens (k + 1) a in
    let bs = opens j b in
    let i = within_more k (k + 1) j m cs (omega arith) (omega arith) (opens_low (k + 1) a h.0) in
    let n = within_more k j (j + size b) m bs (omega arith) (omega arith) (opens_low j b h.1) in
    each_n_append (Within k m) cs bs i n
