-- The steps of a word say its letters, at the first corners of its triangles in turn.
--
--   tips_from k n     3k, 3(k + 1), .., of n entries
--   tip_corners n     the walk table of tables read from a string: 0, 3, 6, .., of n entries
use mathlib.Core.List.{List, [], ◌++◌, ◌∷◌}
use mathlib.Core.Path.{◌≡◌, ap, refl}
use Prim.Native.Nat.{◌*◌, ◌+◌, ◌<◌, suc, zero, ℕ}
use native.Mathlib.Nat.{add-zero, suc-add, zero-add}
use native.Mathlib.Omega.{arith}
use lib.ListN.{get_or, length}
use Rattle.theory.proofs.WalkBack.{word_steps}
use Rattle.theory.specs.Letter.{byte}
use Rattle.theory.specs.Walk.{Step, ◌＠◌, corners_of, letters_of}
use Rattle.theory.specs.Word.{Word, size, spell, w_c, w_e, w_l, w_r, w_s}

unfoldable pub tips_from : ℕ → ℕ → List ℕ
tips_from k zero = []
tips_from k (suc n) = (3 * k) ∷ tips_from (k + 1) n

abbrev pub tip_corners : ℕ → List ℕ
tip_corners n = tips_from 0 n

pub length_tips : (k n : ℕ) → length (tips_from k n) ≡ n
unfolding tips_from
length_tips k zero = refl
length_tips k (suc n) = ap suc (length_tips (k + 1) n)

pub tips_at : (n k i d : ℕ) → i < n → get_or (tips_from k n) i d ≡ 3 * (k + i)
unfolding tips_from
tips_at zero k i d h = absurd (omega arith)
tips_at (suc n) k zero d h = omega arith
tips_at (suc n) k (suc i) d h = let e = tips_at n (k + 1) i d (omega arith) in omega arith

tips_add : (k m n : ℕ) → tips_from k (m + n) ≡ tips_from k m ++ tips_from (k + m) n
unfolding tips_from
tips_add k zero n = rw (zero-add, add-zero) refl
tips_add k (suc m) n =
    let q : k + 1 + m ≡ k + suc m = omega arith in
    rw (suc-add, ← q) (ap (λ (p : List ℕ). (3 * k) ∷ p) (tips_add (k + 1) m n))

pub letters_append : (a b : List Step) → letters_of (a ++ b) ≡ letters_of a ++ letters_of b
unfolding letters_of
letters_append [] b = refl
letters_append ((x ＠ d) ∷ a) b = ap (λ (q : List ℕ). byte x ∷ q) (letters_append a b)

pub corners_append : (a b : List Step) → corners_of (a ++ b) ≡ corners_of a ++ corners_of b
unfolding corners_of
corners_append [] b = refl
corners_append ((x ＠ d) ∷ a) b = ap (λ (q : List ℕ). d ∷ q) (corners_append a b)

pub letters_steps : (k : ℕ) (w : Word) → letters_of (word_steps k w) ≡ spell w
unfolding letters_of word_steps spell
letters_steps k w_e = refl
letters_steps k (w_c w) = rw (letters_steps (k + 1) w)
letters_steps k (w_l w) = rw (letters_steps (k + 1) w)
letters_steps k (w_r w) = rw (letters_steps (k + 1) w)
letters_steps k (w_s a b) =
    let e = letters_append (word_steps (k + 1) a) (word_steps (k + 1 + size a) b) in
    rw (e, letters_steps (k + 1) a, letters_steps (k + 1 + size a) b)

pub corners_steps : (k : ℕ) (w : Word) → corners_of (word_steps k w) ≡ tips_from k (size w)
unfolding corners_of word_steps tips_from size
corners_steps k w_e = refl
corners_steps k (w_c w) = rw (corners_steps (k + 1) w)
corners_steps k (w_l w) = rw (corners_steps (k + 1) w)
corners_steps k (w_r w) = rw (corners_steps (k + 1) w)
corners_steps k (w_s a b) =
    let e = corners_append (word_steps (k + 1) a) (word_steps (k + 1 + size a) b) in
    rw (e, corners_steps (k + 1) a, corners_steps (k + 1 + size a) b, tips_add (k + 1) (size a) (size b))
