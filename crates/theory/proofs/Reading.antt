-- Where words end: a string of letters in which the wanted words end begins with a word.
--
--   Letters s          every byte of s is a letter
--   end_spell          the first word ends where its letters end
--   letters_spell      its bytes are letters
--   Read n s, read     a word at the start of s, and n words that end in what follows it
use mathlib.Core.Bool.{true}
use mathlib.Core.List.{List, [], ◌++◌, ◌∷◌, append_assoc, append-nil}
use mathlib.Core.Path.{◌∙◌, ◌≡◌, ap, refl, sym}
use Prim.Native.Nat.{◌+◌, ◌≤◌, one, suc, zero, ℕ}
use native.Mathlib.Omega.{arith}
use lib.ListN.{get_or, length, length-append}
use Rattle.theory.proofs.LeastLaws.{Before}
use Rattle.theory.proofs.LetterLaws.{byte_is_letter, byte_letter}
use Rattle.theory.specs.Judge.{wanted, words_end}
use Rattle.theory.specs.Letter.{byte, is_letter, letter}
use Rattle.theory.specs.Word.{Word, spell, w_c, w_e, w_l, w_r, w_s}
use Rattle.theory.specs.declared.Letter.{Letter}
use Rattle.theory.specs.declared.Letter.TheVariants.{C, E, L, R, S}

abbrev pub Letters : List ℕ → Type 0
Letters s = Before (λ i. is_letter (get_or s i 0)) (length s)

letters_cons : (b : ℕ) (s : List ℕ) → is_letter b ≡ true → Letters s → Letters (b ∷ s)
letters_cons b s e h zero l = e
letters_cons b s e h (suc i) l = h i (omega arith)

pub letters_tail : (b : ℕ) (s : List ℕ) → Letters (b ∷ s) → Letters s
letters_tail b s h i l = h (suc i) (omega arith)

letters_append : (s t : List ℕ) → Letters s → Letters t → Letters (s ++ t)
letters_append [] t h k = k
letters_append (b ∷ s) t h k = letters_cons b (s ++ t) (h 0 (omega arith)) (letters_append s t (letters_tail b s h) k)

pub letters_spell : (w : Word) → Letters (spell w)
unfolding spell
letters_spell w_e = letters_cons (byte E) [] (byte_is_letter E) (λ i l. absurd (omega arith))
letters_spell (w_c w) = letters_cons (byte C) (spell w) (byte_is_letter C) (letters_spell w)
letters_spell (w_l w) = letters_cons (byte L) (spell w) (byte_is_letter L) (letters_spell w)
letters_spell (w_r w) = letters_cons (byte R) (spell w) (byte_is_letter R) (letters_spell w)
letters_spell (w_s v w) =
    let both = letters_append (spell v) (spell w) (letters_spell v) (letters_spell w) in
    letters_cons (byte S) (spell v ++ spell w) (byte_is_letter S) both

pub end_none : (s : List ℕ) → words_end s 0 ≡ 0
unfolding words_end
end_none [] = refl
end_none (b ∷ s) = refl

pub end_spell : (w : Word) (s : List ℕ) (n : ℕ) → words_end (spell w ++ s) (suc n) ≡ length (spell w) + words_end s n
unfolding spell words_end wanted letter
end_spell w_e s n = omega arith
end_spell (w_c w) s n = omega (arith, end_spell w s n)
end_spell (w_l w) s n = omega (arith, end_spell w s n)
end_spell (w_r w) s n = omega (arith, end_spell w s n)
end_spell (w_s v w) s n =
    rw (append_assoc (spell v) (spell w) s)
    (omega (arith, end_spell v (spell w ++ s) (suc n), end_spell w s n, length-append (spell v) (spell w)))

-- the first word of s ends behind its letters
pub end_first : (w : Word) (s : List ℕ) → words_end (spell w ++ s) 1 ≡ length (spell w)
end_first w s = end_spell w s 0 ∙ omega (arith, end_none s)

pub end_whole : (w : Word) → words_end (spell w) 1 ≡ length (spell w)
end_whole w = ap (λ (t : List ℕ). words_end t 1) (sym (append-nil (spell w))) ∙ end_first w []

pub record Read (n : ℕ) (s : List ℕ) : Type 0 where
  pub word : Word
  pub rest : List ℕ
  pub spelt : s ≡ spell word ++ rest
  pub letters : Letters rest
  pub ends : words_end rest n ≤ length rest

-- a letter before a word
one_more : (n b : ℕ) (s : List ℕ) (f : Word → Word) → ((w : Word) → spell (f w) ≡ b ∷ spell w)
    → Read n s → Read n (b ∷ s)
one_more n b s f e r =
    record {
      word = f r.word;
      rest = r.rest;
      spelt = ap (λ (t : List ℕ). b ∷ t) r.spelt ∙ ap (λ (t : List ℕ). t ++ r.rest) (sym (e r.word));
      letters = r.letters;
      ends = r.ends;
    }

-- an S before two words
two_more : (n : ℕ) (s : List ℕ) (v : Read (suc n) s) → Read n v.rest → Read n (byte S ∷ s)
unfolding spell
two_more n s v w =
    let grouped = sym (append_assoc (spell v.word) (spell w.word) w.rest) in
    let both = v.spelt ∙ ap (λ (t : List ℕ). spell v.word ++ t) w.spelt ∙ grouped in
    record {
      word = w_s v.word w.word;
      rest = w.rest;
      spelt = ap (λ (t : List ℕ). byte S ∷ t) both;
      letters = w.letters;
      ends = w.ends;
    }

shorter : (n k : ℕ) (s : List ℕ) (v : Read n s) → length s ≤ k → length v.rest ≤ k
shorter n k s v h = omega (arith, ap length v.spelt, length-append (spell v.word) v.rest)

-- k bounds the length
read_within : (k n : ℕ) (s : List ℕ) → length s ≤ k → Letters s → words_end s (suc n) ≤ length s → Read n s
unfolding words_end wanted spell
read_within zero n [] h g e = absurd (omega arith)
read_within zero n (b ∷ s) h g e = absurd (omega arith)
read_within (suc k) n [] h g e = absurd (omega arith)
read_within (suc k) n (b ∷ s) h g e =
    let known = byte_letter b (g 0 (omega arith)) in
    go (letter b) known (omega (arith, e)) (λ m. read_within k m s (omega arith) (letters_tail b s g)) (read_within k n)
  where
    go : (a : Letter) → byte a ≡ b → words_end s (wanted a n) ≤ length s
        → ((m : ℕ) → words_end s (suc m) ≤ length s → Read m s)
        → ((t : List ℕ) → length t ≤ k → Letters t → words_end t (suc n) ≤ length t → Read n t) → Read n (b ∷ s)
    go C p f one two = rw (← p) (one_more n (byte C) s w_c (λ w. refl) (one n f))
    go L p f one two = rw (← p) (one_more n (byte L) s w_l (λ w. refl) (one n f))
    go R p f one two = rw (← p) (one_more n (byte R) s w_r (λ w. refl) (one n f))
    go E p f one two = rw (← p) record { word = w_e; rest = s; spelt = refl; letters = letters_tail b s g; ends = f }
    go S p f one two =
        let v = one (suc n) f in
        rw (← p) (two_more n s v (two v.rest (shorter (suc n) k s v (omega arith)) v.letters v.ends))

pub read : (s : List ℕ) → Letters s → words_end s 1 ≤ length s → Read 0 s
read s g e = read_within (length s) 0 s (omega arith) g e
