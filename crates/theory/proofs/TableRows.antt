-- N1 (`rows_of`): a table that holds document 01's vertices of a word from corner 3k on has the rows of that word.
--
--   at_head at_part    the head of the rest of a list, and what is past a part of it
use mathlib.Core.List.{List, [], ◌++◌, ◌∷◌, append_assoc}
use mathlib.Core.Path.{◌∙◌, ◌≡◌, ap, sym}
use Prim.Native.Nat.{◌*◌, ◌+◌, ◌-◌, ℕ}
use native.Mathlib.Omega.{arith}
use lib.ListN.{drop, get_or, length, length-append, take}
use lib.Seq.{drop-append_seam, drop-drop}
use Rattle.theory.proofs.ListLaws.{head_drop}
use Rattle.theory.proofs.Rows.{Rows}
use Rattle.theory.specs.Corner.{vertex}
use Rattle.theory.specs.Lists.{back, front, head, tail}
use Rattle.theory.specs.Tables.{vertices}
use Rattle.theory.specs.Word.{Word, news, size, w_c, w_e, w_l, w_r, w_s, width}

pub length_vertices : (nv : ℕ) (w : Word) (us : List ℕ) → length (vertices nv w us) ≡ 3 * size w
unfolding vertices size
length_vertices nv w_e us = omega arith
length_vertices nv (w_c w) us = let i = length_vertices (nv + 1) w (us ++ (nv ∷ [])) in omega arith
length_vertices nv (w_l w) us = let i = length_vertices nv w (front us) in omega arith
length_vertices nv (w_r w) us = let i = length_vertices nv w (tail us) in omega arith
length_vertices nv (w_s a b) us =
    let i = length_vertices nv a (take (width a) us) in
    let j = length_vertices (nv + news a) b (drop (width a - 1) us) in
    let p = length-append (vertices nv a (take (width a) us)) (vertices (nv + news a) b (drop (width a - 1) us)) in
    omega arith

-- the head and the tail of the rest of a list
pub at_head : (xs : List ℕ) (n y : ℕ) (rest : List ℕ) → drop n xs ≡ y ∷ rest
    → (get_or xs n 0 ≡ y) × (drop (n + 1) xs ≡ rest)
unfolding head
at_head xs n y rest h = (sym (head_drop n xs) ∙ ap head h, sym (drop-drop 1 n xs) ∙ ap (drop 1) h)

-- past a part of the rest
pub at_part : (xs : List ℕ) (n m : ℕ) (part rest : List ℕ) → length part ≡ m → drop n xs ≡ part ++ rest
    → drop (n + m) xs ≡ rest
at_part xs n m part rest q h = sym (drop-drop m n xs) ∙ ap (drop m) h ∙ rw (← q) (drop-append_seam part rest)

abbrev pub Three : List ℕ → ℕ → ℕ → ℕ → ℕ → List ℕ → Type 0
Three vt k x y z rest =
    ((vertex vt (3 * k) ≡ x) × (vertex vt (3 * k + 1) ≡ y) × (vertex vt (3 * k + 2) ≡ z))
    × (drop (3 * (k + 1)) vt ≡ rest)

three_heads : (vt : List ℕ) (k x y z : ℕ) (rest : List ℕ) → drop (3 * k) vt ≡ x ∷ (y ∷ (z ∷ rest))
    → Three vt k x y z rest
three_heads vt k x y z rest h =
    let a = at_head vt (3 * k) x (y ∷ (z ∷ rest)) h in
    let b = at_head vt (3 * k + 1) y (z ∷ rest) a.1 in
    let two : 3 * k + 2 ≡ 3 * k + 1 + 1 = omega arith in
    let d = at_head vt (3 * k + 2) z rest (ap (λ (n : ℕ). drop n vt) two ∙ b.1) in
    let next : 3 * (k + 1) ≡ 3 * k + 2 + 1 = omega arith in
    ((a.0, b.0, d.0), ap (λ (n : ℕ). drop n vt) next ∙ d.1)

-- N1
pub rows_of : (vt : List ℕ) (k nv : ℕ) (w : Word) (us rest : List ℕ) → drop (3 * k) vt ≡ vertices nv w us ++ rest
    → Rows (vertex vt) k nv w us
unfolding vertices
rows_of vt k nv w_e us rest h = (three_heads vt k (get_or us 1 0) (back us) (head us) rest h).0
rows_of vt k nv (w_c w) us rest h =
    let i = three_heads vt k nv (back us) (head us) (vertices (nv + 1) w (us ++ (nv ∷ [])) ++ rest) h in
    (i.0, rows_of vt (k + 1) (nv + 1) w (us ++ (nv ∷ [])) rest i.1)
rows_of vt k nv (w_l w) us rest h =
    let i = three_heads vt k (back (front us)) (back us) (head us) (vertices nv w (front us) ++ rest) h in
    (i.0, rows_of vt (k + 1) nv w (front us) rest i.1)
rows_of vt k nv (w_r w) us rest h =
    let i = three_heads vt k (get_or us 1 0) (back us) (head us) (vertices nv w (tail us) ++ rest) h in
    (i.0, rows_of vt (k + 1) nv w (tail us) rest i.1)
rows_of vt k nv (w_s a b) us rest h =
    let va = vertices nv a (take (width a) us) in
    let vb = vertices (nv + news a) b (drop (width a - 1) us) in
    let i = three_heads vt k (get_or us (width a - 1) 0) (back us) (head us) ((va ++ vb) ++ rest) h in
    let j : drop (3 * (k + 1)) vt ≡ va ++ (vb ++ rest) = i.1 ∙ append_assoc va vb rest in
    let past : 3 * (k + 1 + size a) ≡ 3 * (k + 1) + 3 * size a = omega arith in
    let n = at_part vt (3 * (k + 1)) (3 * size a) va (vb ++ rest) (length_vertices nv a (take (width a) us)) j in (
      i.0,
      rows_of vt (k + 1) nv a (take (width a) us) (vb ++ rest) j,
      rows_of vt (k + 1 + size a) (nv + news a) b (drop (width a - 1) us) rest (ap (λ (m : ℕ). drop m vt) past ∙ n),
    )
