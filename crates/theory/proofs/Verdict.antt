-- T1. Each number of the checks 3 to 7 is given exactly when document 01 says, at its place.
--
--   Verdict s a     what the document says of the letters s: a constructor for each number, its condition the premises
--   verdict_only    an answer that the document gives is the answer of the definition
--   verdict         and the answer of the definition is one that the document gives
use mathlib.Core.Bool.{Bool, false, not, true}
use mathlib.Core.List.{List, [], ◌++◌, ◌∷◌, append-nil}
use mathlib.Core.Logic.{◌≢◌, ◌⊎◌, inl, inr}
use mathlib.Core.Path.{◌∙◌, ◌≡◌, ap, refl, subst, sym}
use Prim.Native.Nat.{◌<◌, ◌≤◌, suc, ℕ}
use native.Mathlib.Decide.{dec_le, dec_lt, ℕ_discrete}
use native.Mathlib.Omega.{arith}
use lib.ListN.{drop, get_or, length, length-append}
use borrow.Author.Tests.{eq-eqb, ne_eqb}
use Rattle.theory.proofs.GreatestLaws.{Above, greatest_at, greatest_none, last_failure}
use Rattle.theory.proofs.JudgeLaws.{breaks_five, breaks_four, breaks_seven, breaks_six, breaks_three, none_breaks, seven_passed}
use Rattle.theory.proofs.LeastLaws.{Before, least_all, least_at, least_below, least_fails}
use Rattle.theory.proofs.Pinches.{Free, Pinch, free_sound, pinch_found, pinch_test, sound_free}
use Rattle.theory.proofs.Reading.{Letters, Read, end_first, end_whole, letters_spell, read}
use Rattle.std.proofs.lemmas.Bool.{not-false, not-true}
use Rattle.theory.proofs.TestLaws.{not_both}
use Rattle.theory.proofs.WordLaws.{word_of_spell}
use Rattle.theory.specs.Answer.{first_broken, refused}
use Rattle.theory.specs.Judge.{letter_answer, letter_rungs, pinched_at, string_done, words_end}
use Rattle.theory.specs.Letter.{is_letter}
use Rattle.theory.specs.Lists.{greatest, least}
use Rattle.theory.specs.Word.{Closes, Sound, Word, spell, width, word_of}
use Rattle.theory.specs.Answer.{Answer}

pub data Verdict (s : List ℕ) : Answer → Type 0 where
  -- 3: the first byte that is no letter stands at p
  foreign : (p : ℕ) → p < length s → Before (λ i. is_letter (get_or s i 0)) p → is_letter (get_or s p 0) ≡ false
      → Verdict s (refused 3 p)
  -- 4: no word begins the string, so it ends inside one
  unfinished : Letters s → ((w : Word) (rest : List ℕ) → s ≡ spell w ++ rest → ⊥) → Verdict s (refused 4 (length s))
  -- 5: letters follow the first word
  follows : Letters s → (w : Word) (b : ℕ) (rest : List ℕ) → s ≡ spell w ++ (b ∷ rest)
      → Verdict s (refused 5 (length (spell w)))
  -- 6: one word, and p is the largest position of a C before a word of width 2
  pinched : (w : Word) → s ≡ spell w → (p : ℕ) → Pinch s p → ((q : ℕ) → Pinch s q → q ≤ p) → Verdict s (refused 6 p)
  -- 7: one sound word, whose width is not 2
  wide : (w : Word) → s ≡ spell w → Sound w → width w ≢ 2 → Verdict s (refused 7 0)
  -- 0
  closed : Closes s → Verdict s (string_done s)

-- ---- an answer that the document gives is the one

module _ (s : List ℕ) where
  all_letters : Letters s → length s ≡ least (λ i. is_letter (get_or s i 0)) (length s)
  all_letters h = sym (least_all (λ i. is_letter (get_or s i 0)) (length s) h)

  -- in the letters of a word the checks 3 to 5 pass
  one_word : (w : Word) → s ≡ spell w → first_broken (drop 3 (letter_rungs s)) (string_done s) ≡ letter_answer s
  one_word w e =
      let h : Letters s = rw e (letters_spell w) in
      let end : length s ≡ words_end s 1 = rw e (sym (end_whole w)) in
      none_breaks s (length s) (all_letters h) (omega arith) (length s) end (omega arith) (omega arith)

  width_same : (w : Word) → s ≡ spell w → width (word_of s) ≡ width w
  width_same w e = ap (λ (t : List ℕ). width (word_of t)) e ∙ ap width (word_of_spell w)

  none_pinched : (w : Word) → s ≡ spell w → Sound w → greatest (λ p. not (pinched_at s p)) (length s) ≡ length s
  none_pinched w e h =
      let free = sound_free w [] h in
      let t = spell w ++ [] in
      let same : t ≡ s = append-nil (spell w) ∙ sym e in
      greatest_none (λ p. not (pinched_at s p)) (length s)
      (λ p a b. ap not (ap (λ (r : List ℕ). pinched_at r p) (sym same) ∙ free p (omega (arith, ap length e))))

  is_seven : (w : Word) → s ≡ spell w → Sound w → width w ≢ 2 → refused 7 0 ≡ letter_answer s
  is_seven w e h n =
      breaks_seven s (none_pinched w e h) (rw (width_same w e) (ne_eqb (width w) 2 n)) ∙ one_word w e

  is_done : (w : Word) → s ≡ spell w → Sound w → width w ≡ 2 → string_done s ≡ letter_answer s
  is_done w e h n =
      seven_passed s (none_pinched w e h) (rw (width_same w e) (eq-eqb (width w) 2 n)) ∙ one_word w e

  is_six : (w : Word) → s ≡ spell w → (p : ℕ) → Pinch s p → ((q : ℕ) → Pinch s q → q ≤ p) → refused 6 p ≡ letter_answer s
  is_six w e p h most =
      let test = pinch_test s p h in
      let ok : ℕ → Bool = λ q. not (pinched_at s q) in
      let upper : Above ok (length s) (suc p) = λ q a b. calm q a b (pinched_at s q) refl in
      breaks_six s p test.0 (greatest_at ok (length s) p test.0 upper (ap not test.1)) ∙ one_word w e
    where
      -- a pinch further on would be larger
      calm : (q : ℕ) → suc p ≤ q → q < length s → (b : Bool) → pinched_at s q ≡ b → not (pinched_at s q) ≡ true
      calm q a b true f =
          let test = ap (λ (r : List ℕ). pinched_at r q) (sym e) ∙ f in
          let found : Pinch s q = rw e (pinch_found w q (omega (arith, b, ap length e)) test) in
          absurd (omega (arith, a, most q found))
      calm q a b false f = ap not f

  is_five : Letters s → (w : Word) (b : ℕ) (rest : List ℕ) → s ≡ spell w ++ (b ∷ rest)
      → refused 5 (length (spell w)) ≡ letter_answer s
  is_five h w b rest e =
      let end : length (spell w) ≡ words_end s 1 = rw e (sym (end_first w (b ∷ rest))) in
      let n = ap length e ∙ length-append (spell w) (b ∷ rest) in
      let k : length (spell w) < length s = omega (arith, n) in
      breaks_five s (length s) (all_letters h) (omega arith) (length (spell w)) end (omega arith) k

  is_four : Letters s → ((w : Word) (rest : List ℕ) → s ≡ spell w ++ rest → ⊥) → refused 4 (length s) ≡ letter_answer s
  is_four h no_word = go (dec_le (words_end s 1) (length s))
    where
      go : Dec (words_end s 1 ≤ length s) → refused 4 (length s) ≡ letter_answer s
      go (yes l) = let r = read s h l in absurd (no_word r.word r.rest r.spelt)
      go (no l) = breaks_four s (length s) (all_letters h) (omega arith) (words_end s 1) refl (omega arith)

  is_three : (p : ℕ) → p < length s → Before (λ i. is_letter (get_or s i 0)) p → is_letter (get_or s p 0) ≡ false
      → refused 3 p ≡ letter_answer s
  is_three p h lower bad = breaks_three s p (least_at (λ i. is_letter (get_or s i 0)) (length s) p h lower bad) h

pub verdict_only : (s : List ℕ) (a : Answer) → Verdict s a → a ≡ letter_answer s
verdict_only s a (foreign p h lower bad) = is_three s p h lower bad
verdict_only s a (unfinished h no_word) = is_four s h no_word
verdict_only s a (follows h w b rest e) = is_five s h w b rest e
verdict_only s a (pinched w e p h most) = is_six s w e p h most
verdict_only s a (wide w e h n) = is_seven s w e h n
verdict_only s a (closed c) = is_done s c.word (sym c.spelt) c.sound c.two

-- ---- and there is one

module _ (s : List ℕ) where
  -- one word
  of_word : (w : Word) → s ≡ spell w → (a : Answer) × Verdict s a
  of_word w e = go (last_failure ok (length s))
    where
      ok : ℕ → Bool
      ok p = not (pinched_at s p)

      largest : (p : ℕ) → Above ok (length s) (suc p) → (q : ℕ) → Pinch s q → q ≤ p
      largest p upper q h = at (dec_le q p)
        where
          at : Dec (q ≤ p) → q ≤ p
          at (yes l) = l
          at (no l) =
              let test = pinch_test s q h in
              let calm = not-true (pinched_at s q) (upper q (omega arith) test.0) in
              absurd (not_both (pinched_at s q) test.1 calm)

      last : Sound w → Dec (width w ≡ 2) → (a : Answer) × Verdict s a
      last h (yes n) = (string_done s, closed record { word = w; spelt = sym e; sound = h; two = n })
      last h (no n) = (refused 7 0, wide w e h n)

      go : Above ok (length s) 0 ⊎ ((p : ℕ) × (p < length s) × Above ok (length s) (suc p) × (ok p ≡ false))
          → (a : Answer) × Verdict s a
      go (inl free) =
          let t = spell w ++ [] in
          let same : t ≡ s = append-nil (spell w) ∙ sym e in
          let calm : Free w [] =
          λ p l. ap (λ (r : List ℕ). pinched_at r p) same
          ∙ not-true (pinched_at s p) (free p (omega arith) (omega (arith, ap length e))) in
          last (free_sound w [] calm) (ℕ_discrete (width w) 2)
      go (inr (p, l, upper, bad)) =
          let test = ap (λ (r : List ℕ). pinched_at r p) (sym e) ∙ not-false (pinched_at s p) bad in
          let found : Pinch s p = rw e (pinch_found w p (omega (arith, l, ap length e)) test) in
          (refused 6 p, pinched w e p found (largest p upper))

  of_read : Letters s → Read 0 s → (a : Answer) × Verdict s a
  of_read h r = go r.rest r.spelt
    where
      go : (rest : List ℕ) → s ≡ spell r.word ++ rest → (a : Answer) × Verdict s a
      go [] e = of_word r.word (e ∙ append-nil (spell r.word))
      go (b ∷ rest) e = (refused 5 (length (spell r.word)), follows h r.word b rest e)

  within : (w : Word) (rest : List ℕ) → s ≡ spell w ++ rest → words_end s 1 ≤ length s
  within w rest e =
      let end = ap (λ (t : List ℕ). words_end t 1) e ∙ end_first w rest in
      omega (arith, end, ap length e ∙ length-append (spell w) rest)

  of_letters : Letters s → (a : Answer) × Verdict s a
  of_letters h = go (dec_le (words_end s 1) (length s))
    where
      go : Dec (words_end s 1 ≤ length s) → (a : Answer) × Verdict s a
      go (yes l) = of_read h (read s h l)
      go (no l) =
          (refused 4 (length s), unfinished h (λ w rest e. l (within w rest e)))

  judged : (a : Answer) × Verdict s a
  judged = go (dec_lt (least ok (length s)) (length s))
    where
      ok : ℕ → Bool
      ok i = is_letter (get_or s i 0)

      go : Dec (least ok (length s) < length s) → (a : Answer) × Verdict s a
      go (yes l) =
          let p = least ok (length s) in
          (refused 3 p, foreign p l (least_below ok (length s)) (least_fails ok (length s) l))
      go (no l) = of_letters (λ i h. least_below ok (length s) i (omega arith))

pub verdict : (s : List ℕ) → Verdict s (letter_answer s)
verdict s = let j = judged s in subst (Verdict s) (verdict_only s j.0 j.1) j.1
