-- Every letter of a word's string has the words that it needs behind it, and width 2 is one open side.
--
--   Enough a ws    the letter a has the words that it needs behind it
--   Full s         so has every letter of s; the letters of a word are so (`full_word`)
--   one_open       a sound word has width 2 exactly where its first open side is its last
use mathlib.Core.List.{List, [], ◌++◌, ◌∷◌, append_assoc, append-nil}
use mathlib.Core.Path.{◌∙◌, ◌≡◌, refl, subst, sym}
use Prim.Native.Nat.{◌<◌, ◌≤◌, suc, zero, ℕ}
use native.Mathlib.Decide.{ℕ_discrete}
use native.Mathlib.Omega.{arith}
use lib.Dec.{eqb}
use lib.ListN.{drop, get_or, length}
use lib.Seq.{drop-cons}
use borrow.Author.Tests.{eq-eqb, ne_eqb}
use Rattle.tables.proofs.Corners.{last_in, opens_once, rest_not_first}
use Rattle.theory.proofs.Counting.{count}
use Rattle.theory.proofs.Opens.{length_opens, opens}
use Rattle.theory.proofs.WordLaws.{width_two, words_spell}
use Rattle.theory.specs.Letter.{letter}
use Rattle.theory.specs.Lists.{back, head, tail}
use Rattle.theory.specs.Word.{Sound, Word, before, spell, w_c, w_e, w_l, w_r, w_s, width, words}
use Rattle.theory.specs.declared.Letter.{Letter}
use Rattle.theory.specs.declared.Letter.TheVariants.{C, E, L, R, S}

abbrev pub Enough : Letter → List Word → Type 0
Enough C ws = 1 ≤ length ws
Enough L ws = 1 ≤ length ws
Enough E ws = Unit {0}
Enough R ws = 1 ≤ length ws
Enough S ws = 2 ≤ length ws

abbrev pub Full : List ℕ → Type 0
Full [] = Unit {0}
Full (b ∷ s) = Enough (letter b) (words s) × Full s

full_spell : (w : Word) (s : List ℕ) → Full s → Full (spell w ++ s)
unfolding spell letter
full_spell w_e s h = (tt, h)
full_spell (w_c w) s h = (rw (words_spell w s) (omega arith), full_spell w s h)
full_spell (w_l w) s h = (rw (words_spell w s) (omega arith), full_spell w s h)
full_spell (w_r w) s h = (rw (words_spell w s) (omega arith), full_spell w s h)
full_spell (w_s a b) s h =
    rw (append_assoc (spell a) (spell b) s)
    (rw (words_spell a (spell b ++ s), words_spell b s) (omega arith), full_spell a (spell b ++ s) (full_spell b s h))

full_drop : (i : ℕ) (s : List ℕ) → Full s → Full (drop i s)
full_drop zero s h = h
full_drop (suc i) [] h = tt
full_drop (suc i) (b ∷ s) h = full_drop i s h.1

pub full_at : (s : List ℕ) (i : ℕ) → Full s → i < length s → Enough (letter (get_or s i 0)) (words (drop (suc i) s))
full_at s i h l = (subst Full (drop-cons s i 0 l) (full_drop i s h)).0

pub full_cons : (s : List ℕ) (i : ℕ) → i < length s → Full (drop (suc i) s)
    → Enough (letter (get_or s i 0)) (words (drop (suc i) s)) → Full (drop i s)
full_cons s i l h e = subst Full (sym (drop-cons s i 0 l)) (e, h)

pub full_word : (w : Word) (s : List ℕ) → spell w ≡ s → Full s
full_word w s e = subst Full (append-nil (spell w) ∙ e) (full_spell w [] tt)

-- ---- one open side is width 2

alone_ends : (bs : List ℕ) → length bs ≡ 1 → head bs ≡ back bs
unfolding head back
alone_ends [] h = absurd (omega arith)
alone_ends (x ∷ []) h = refl
alone_ends (x ∷ (y ∷ bs)) h = absurd (omega arith)

last_rest : (bs : List ℕ) → 2 ≤ length bs → 1 ≤ count (back bs) (tail bs)
unfolding back tail
last_rest [] h = absurd (omega arith)
last_rest (x ∷ []) h = absurd (omega arith)
last_rest (x ∷ (y ∷ bs)) h = last_in (y ∷ bs) (omega arith)

pub one_open : (k : ℕ) (w : Word) → Sound w → eqb (head (opens k w)) (back (opens k w)) ≡ eqb (width w) 2
one_open k w o = go (ℕ_discrete (width w) 2)
  where
    bs : List ℕ
    bs = opens k w

    go : Dec (width w ≡ 2) → eqb (head bs) (back bs) ≡ eqb (width w) 2
    go (yes q) =
        let n = length_opens k w o in
        eq-eqb (head bs) (back bs) (alone_ends bs (omega arith)) ∙ sym (eq-eqb (width w) 2 q)
    go (no q) =
        let n = length_opens k w o in
        let m = width_two w o in
        let differ = rest_not_first bs (opens_once k w o) (back bs) (last_rest bs (omega arith)) in
        ne_eqb (head bs) (back bs) (λ e. differ (sym e)) ∙ sym (ne_eqb (width w) 2 q)

-- the words behind a letter and the letter
pub words_cons : (s : List ℕ) (i : ℕ) → i < length s
    → words (drop i s) ≡ before (letter (get_or s i 0)) (words (drop (suc i) s))
unfolding words
words_cons s i h = rw (drop-cons s i 0 h) refl
