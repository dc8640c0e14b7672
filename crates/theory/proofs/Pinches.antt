-- Pinches: a C before a word of width 2, as a test at a place, as a place in the letters, as what a sound word has not.
--
--   Pinch s p                 a C stands at p of s before a word of width 2
--   pinch_test pinch_found    it is what the test says, in the letters of a word
--   sound_free free_sound     a word is sound where no place of its letters is pinched
use mathlib.Core.Bool.{false, true}
use mathlib.Core.List.{List, [], ◌++◌, ◌∷◌, append_assoc, append-nil}
use mathlib.Core.Path.{◌∙◌, ◌≡◌, ap, refl, subst, sym}
use Prim.Native.Nat.{◌+◌, ◌-◌, ◌<◌, one, suc, zero, ℕ}
use native.Mathlib.Decide.{dec_lt}
use native.Mathlib.Omega.{arith}
use lib.Dec.{eqb}
use lib.ListN.{length, length-append}
use borrow.Author.Tests.{eq-eqb, eqb-false, eqb-true, ne_eqb}
use Rattle.theory.proofs.TestLaws.{not_both}
use Rattle.theory.proofs.WordLaws.{width_two, words_spell}
use Rattle.theory.specs.Judge.{pinched_at}
use Rattle.theory.specs.Letter.{byte}
use Rattle.theory.specs.Word.{Sound, Word, first_word, spell, w_c, w_e, w_l, w_r, w_s, width}
use Rattle.theory.specs.declared.Letter.TheVariants.{C, L, R, S}

pub record Pinch (s : List ℕ) (p : ℕ) : Type 0 where
  pub front : List ℕ
  pub word : Word
  pub rest : List ℕ
  pub stands : s ≡ front ++ (byte C ∷ (spell word ++ rest))
  pub place : length front ≡ p
  pub two : width word ≡ 2

pinched_next : (b : ℕ) (s : List ℕ) (p : ℕ) → pinched_at (b ∷ s) (suc p) ≡ pinched_at s p
unfolding pinched_at
pinched_next b s p = refl

pinched_behind : (s t : List ℕ) (p : ℕ) → pinched_at (s ++ t) (length s + p) ≡ pinched_at t p
unfolding pinched_at
pinched_behind [] t p = let q : 0 + p ≡ p = omega arith in rw q
pinched_behind (b ∷ s) t p =
    let q : suc (length s) + p ≡ suc (length s + p) = omega arith in
    rw q (pinched_behind s t p)

-- a C before a word
pinched_new : (w : Word) (s : List ℕ) → pinched_at (byte C ∷ (spell w ++ s)) 0 ≡ eqb (width w) 2
unfolding pinched_at first_word
pinched_new w s = rw (words_spell w s)

pub pinch_test : (s : List ℕ) (p : ℕ) → Pinch s p → (p < length s) × (pinched_at s p ≡ true)
pinch_test s p h =
    let t = byte C ∷ (spell h.word ++ h.rest) in
    let q : length h.front + 0 ≡ p = omega (arith, h.place) in
    let test = pinched_behind h.front t 0 ∙ pinched_new h.word h.rest ∙ eq-eqb (width h.word) 2 h.two in
    let found = rw q at test in
    (omega (arith, ap length h.stands, length-append h.front t, h.place), rw h.stands found)

-- the word that begins at a place of the letters of a word
pub record Part (s : List ℕ) (p : ℕ) : Type 0 where
  pub front : List ℕ
  pub word : Word
  pub rest : List ℕ
  pub stands : s ≡ front ++ (spell word ++ rest)
  pub place : length front ≡ p

part_behind : (t s : List ℕ) (p : ℕ) → Part s p → Part (t ++ s) (length t + p)
part_behind t s p h =
    record {
      front = t ++ h.front;
      word = h.word;
      rest = h.rest;
      stands = ap (λ (r : List ℕ). t ++ r) h.stands ∙ sym (append_assoc t h.front (spell h.word ++ h.rest));
      place = omega (arith, length-append t h.front, h.place);
    }

part_whole : (w : Word) (s : List ℕ) → Part (spell w ++ s) 0
part_whole w s = record { front = []; word = w; rest = s; stands = refl; place = refl }

part_next : (b : ℕ) (s : List ℕ) (p : ℕ) → Part s p → Part (b ∷ s) (suc p)
part_next b s p h = let q : suc p ≡ 1 + p = omega arith in rw q (part_behind (b ∷ []) s p h)

part_at : (w : Word) (s : List ℕ) (p : ℕ) → p < length (spell w) → Part (spell w ++ s) p
unfolding spell
part_at w_e s zero h = part_whole w_e s
part_at w_e s (suc p) h = absurd (omega arith)
part_at (w_c w) s zero h = part_whole (w_c w) s
part_at (w_c w) s (suc p) h = part_next (byte C) (spell w ++ s) p (part_at w s p (omega arith))
part_at (w_l w) s zero h = part_whole (w_l w) s
part_at (w_l w) s (suc p) h = part_next (byte L) (spell w ++ s) p (part_at w s p (omega arith))
part_at (w_r w) s zero h = part_whole (w_r w) s
part_at (w_r w) s (suc p) h = part_next (byte R) (spell w ++ s) p (part_at w s p (omega arith))
part_at (w_s v w) s zero h = part_whole (w_s v w) s
part_at (w_s v w) s (suc p) h =
    rw (append_assoc (spell v) (spell w) s)
    (part_next (byte S) (spell v ++ (spell w ++ s)) p
    (go (dec_lt p (length (spell v))) (part_at v (spell w ++ s) p) (part_at w s (p - length (spell v)))))
  where
    go : Dec (p < length (spell v)) → (p < length (spell v) → Part (spell v ++ (spell w ++ s)) p)
        → (p - length (spell v) < length (spell w) → Part (spell w ++ s) (p - length (spell v)))
        → Part (spell v ++ (spell w ++ s)) p
    go (yes l) one two = one l
    go (no l) one two =
        let q : p ≡ length (spell v) + (p - length (spell v)) = omega arith in
        let second = two (omega (arith, length-append (spell v) (spell w))) in
        rw q (part_behind (spell v) (spell w ++ s) (p - length (spell v)) second)

new_only : (x : Word) (s : List ℕ) → pinched_at (spell x ++ s) 0 ≡ true → (y : Word) × (x ≡ w_c y) × (width y ≡ 2)
unfolding pinched_at spell
new_only w_e s e = absurd (not_both false e refl)
new_only (w_c y) s e = (y, refl, eqb-true (width y) 2 (sym (pinched_new y s) ∙ e))
new_only (w_l y) s e = absurd (not_both false e refl)
new_only (w_r y) s e = absurd (not_both false e refl)
new_only (w_s y z) s e = absurd (not_both false e refl)

pub pinch_found : (w : Word) (p : ℕ) → p < length (spell w) → pinched_at (spell w) p ≡ true → Pinch (spell w) p
unfolding spell
pinch_found w p h e =
    let part = subst (λ (t : List ℕ). Part t p) (append-nil (spell w)) (part_at w [] p h) in
    let t = spell part.word ++ part.rest in
    let q : length part.front + 0 ≡ p = omega (arith, part.place) in
    let moved = ap (λ (r : List ℕ). pinched_at r p) (sym part.stands) in
    let test = ap (λ (k : ℕ). pinched_at (part.front ++ t) k) q ∙ moved ∙ e in
    let new = new_only part.word part.rest (sym (pinched_behind part.front t 0) ∙ test) in
    record {
      front = part.front;
      word = new.0;
      rest = part.rest;
      stands = part.stands ∙ ap (λ (x : Word). part.front ++ (spell x ++ part.rest)) new.1;
      place = part.place;
      two = new.2;
    }

-- ---- sound words

-- no place of the letters of w is pinched, s behind them
abbrev pub Free : Word → List ℕ → Type 0
Free w s = (p : ℕ) → p < length (spell w) → pinched_at (spell w ++ s) p ≡ false

free_cons : (b : ℕ) (w : Word) (s : List ℕ) → Free w s → pinched_at (b ∷ (spell w ++ s)) 0 ≡ false
    → (p : ℕ) → p < suc (length (spell w)) → pinched_at (b ∷ (spell w ++ s)) p ≡ false
free_cons b w s h e zero l = e
free_cons b w s h e (suc p) l = pinched_next b (spell w ++ s) p ∙ h p (omega arith)

free_append : (v w : Word) (s : List ℕ) → Free v (spell w ++ s) → Free w s
    → (p : ℕ) → p < length (spell v) + length (spell w) → pinched_at (spell v ++ (spell w ++ s)) p ≡ false
free_append v w s h k p l = go (dec_lt p (length (spell v)))
  where
    go : Dec (p < length (spell v)) → pinched_at (spell v ++ (spell w ++ s)) p ≡ false
    go (yes a) = h p a
    go (no a) =
        let q : p ≡ length (spell v) + (p - length (spell v)) = omega arith in
        rw q (pinched_behind (spell v) (spell w ++ s) (p - length (spell v)) ∙ k (p - length (spell v)) (omega arith))

pub sound_free : (w : Word) (s : List ℕ) → Sound w → Free w s
unfolding spell pinched_at
sound_free w_e s h zero l = refl
sound_free w_e s h (suc p) l = absurd (omega arith)
sound_free (w_c w) s h p l =
    let calm = pinched_new w s ∙ ne_eqb (width w) 2 (λ e. absurd (omega (arith, h.1, e))) in
    free_cons (byte C) w s (sound_free w s h.0) calm p l
sound_free (w_l w) s h p l = free_cons (byte L) w s (sound_free w s h) refl p l
sound_free (w_r w) s h p l = free_cons (byte R) w s (sound_free w s h) refl p l
sound_free (w_s v w) s h zero l = refl
sound_free (w_s v w) s h (suc p) l =
    let n : p < length (spell v) + length (spell w) = omega (arith, length-append (spell v) (spell w)) in
    rw (append_assoc (spell v) (spell w) s)
    (free_append v w s (sound_free v (spell w ++ s) h.0) (sound_free w s h.1) p n)

-- the letters behind an S
free_behind : (t u s : List ℕ) → t ++ s ≡ u → ((p : ℕ) → p < suc (length t) → pinched_at (byte S ∷ (t ++ s)) p ≡ false)
    → (p : ℕ) → p < length t → pinched_at u p ≡ false
free_behind t u s e h p l = rw (← e) (sym (pinched_next (byte S) (t ++ s) p) ∙ h (suc p) (omega arith))

pub free_sound : (w : Word) (s : List ℕ) → Free w s → Sound w
unfolding spell
free_sound w_e s h = tt
free_sound (w_c w) s h =
    let sound = free_sound w s (λ p l. sym (pinched_next (byte C) (spell w ++ s) p) ∙ h (suc p) (omega arith)) in
    let e = eqb-false (width w) 2 (sym (pinched_new w s) ∙ h 0 (omega arith)) in
    (sound, omega (arith, width_two w sound, e))
free_sound (w_l w) s h = free_sound w s (λ p l. sym (pinched_next (byte L) (spell w ++ s) p) ∙ h (suc p) (omega arith))
free_sound (w_r w) s h = free_sound w s (λ p l. sym (pinched_next (byte R) (spell w ++ s) p) ∙ h (suc p) (omega arith))
free_sound (w_s v w) s h =
    let n : length (spell v ++ spell w) ≡ length (spell v) + length (spell w) = length-append (spell v) (spell w) in
    let both : (p : ℕ) → p < length (spell v ++ spell w) → pinched_at (spell v ++ (spell w ++ s)) p ≡ false =
    λ p l. free_behind (spell v ++ spell w) (spell v ++ (spell w ++ s)) s (append_assoc (spell v) (spell w) s) h p l in
    let first = free_sound v (spell w ++ s) (λ p l. both p (omega (arith, n))) in
    let behind : Free w s =
    λ p l. sym (pinched_behind (spell v) (spell w ++ s) p) ∙ both (length (spell v) + p) (omega (arith, n)) in
    (first, free_sound w s behind)
