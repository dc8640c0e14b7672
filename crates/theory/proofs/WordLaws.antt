-- Laws of words: a string has at most one word at its start (`words_spell`), widths are at least 2, and Euler's count.
--
--   words_spell words_one     the words of a string that begins with a word
--   spell_injective           a word is settled by its letters
--   length_spell              as many letters as its size
--   width_two size_one        every sound word has width 2 or more, every word a letter
--   width_news                width + 2 Cs = size + 2
--   root                      a sound word of width 2 begins with a C
use mathlib.Core.List.{List, [], ◌++◌, ◌∷◌, append_assoc, append-nil, head-eq_of_cons-eq}
use mathlib.Core.Path.{◌∙◌, ◌≡◌, ap, refl, sym}
use Prim.Native.Nat.{◌*◌, ◌+◌, ◌≤◌, suc, ℕ}
use native.Mathlib.Omega.{arith}
use lib.ListN.{length, length-append}
use Rattle.theory.specs.Letter.{letter}
use Rattle.theory.specs.Word.{Sound, Word, before, first_word, news, size, spell, w_c, w_e, w_l, w_r, w_s, width, word_of, words}
use Rattle.theory.specs.declared.Letter.TheVariants.{S}

-- W1
pub words_spell : (w : Word) (s : List ℕ) → words (spell w ++ s) ≡ w ∷ words s
unfolding words spell before letter
words_spell w_e s = refl
words_spell (w_c w) s = rw (words_spell w s)
words_spell (w_l w) s = rw (words_spell w s)
words_spell (w_r w) s = rw (words_spell w s)
words_spell (w_s a b) s =
    let e = ap words (append_assoc (spell a) (spell b) s) ∙ words_spell a (spell b ++ s) in
    ap (before S) (e ∙ ap (λ (ws : List Word). a ∷ ws) (words_spell b s))

pub words_one : (w : Word) → words (spell w) ≡ w ∷ []
unfolding words
words_one w = ap words (sym (append-nil (spell w))) ∙ words_spell w []

pub word_of_spell : (w : Word) → word_of (spell w) ≡ w
unfolding first_word
word_of_spell w = ap first_word (words_one w)

pub spell_injective : (a b : Word) (s t : List ℕ) → spell a ++ s ≡ spell b ++ t → a ≡ b
spell_injective a b s t e =
    let p : a ∷ words s ≡ b ∷ words t = sym (words_spell a s) ∙ ap words e ∙ words_spell b t in
    head-eq_of_cons-eq p

pub length_spell : (w : Word) → length (spell w) ≡ size w
unfolding spell size
length_spell w_e = refl
length_spell (w_c w) = ap suc (length_spell w)
length_spell (w_l w) = ap suc (length_spell w)
length_spell (w_r w) = ap suc (length_spell w)
length_spell (w_s a b) = ap suc (length-append (spell a) (spell b) ∙ rw (length_spell a, length_spell b))

-- W5
pub width_two : (w : Word) → Sound w → 2 ≤ width w
unfolding width
width_two w_e h = omega arith
width_two (w_c w) h = omega arith
width_two (w_l w) h = let i = width_two w h in omega arith
width_two (w_r w) h = let i = width_two w h in omega arith
width_two (w_s a b) h = let i = width_two a h.0 in let j = width_two b h.1 in omega arith

pub size_one : (w : Word) → 1 ≤ size w
unfolding size
size_one w_e = omega arith
size_one (w_c w) = omega arith
size_one (w_l w) = omega arith
size_one (w_r w) = omega arith
size_one (w_s a b) = omega arith

-- W4
pub width_news : (w : Word) → Sound w → width w + 2 * news w ≡ size w + 2
unfolding width news size
width_news w_e h = omega arith
width_news (w_c w) h = let i = width_news w h.0 in let g = h.1 in omega arith
width_news (w_l w) h = let i = width_news w h in omega arith
width_news (w_r w) h = let i = width_news w h in omega arith
width_news (w_s a b) h =
    let i = width_news a h.0 in
    let j = width_news b h.1 in
    let m = width_two a h.0 in
    let n = width_two b h.1 in
    omega arith

-- W6
pub root : (w : Word) → Sound w → width w ≡ 2 → (x : Word) × (w ≡ w_c x)
unfolding width
root w_e h q = absurd (omega arith)
root (w_c w) h q = (w, refl)
root (w_l w) h q = let i = width_two w h in absurd (omega arith)
root (w_r w) h q = let i = width_two w h in absurd (omega arith)
root (w_s a b) h q = let i = width_two a h.0 in let j = width_two b h.1 in absurd (omega arith)
