-- The loop of the first pass: its invariant, how it begins, a turn of it, and where it stops.
--
--   Folding        the letters from i on are read, each with the words that it needs: these stand in the work space
--   stepped        one letter more, by the laws of the five letters
--   closing        what each letter of a string that closes has behind it
--   begins folding_turn folding_stop    before the loop, a turn, and where it stops
use mathlib.Core.Bool.{false, true}
use mathlib.Core.List.{List, [], ◌++◌, ◌∷◌, append-nil}
use mathlib.Core.Path.{◌∙◌, ◌≡◌, ap, refl, subst, sym}
use Prim.Native.Nat.{◌*◌, ◌+◌, ◌-◌, ◌<◌, ◌≤◌, suc, zero, ℕ}
use native.Mathlib.Omega.{arith}
use lib.Dec.{eqb}
use lib.ListN.{drop, get_or, length}
use lib.Seq.{drop-length}
use borrow.Author.Tests.{eqb-false}
use Rattle.tables.proofs.Enough.{Enough, Full, full_at, full_cons, full_word, one_open, words_cons}
use Rattle.tables.proofs.Folds.{standing_c, standing_l, standing_r}
use Rattle.tables.proofs.Held.{Standing, standing_low}
use Rattle.tables.proofs.Pushes.{standing_e}
use Rattle.tables.proofs.Splices.{standing_s}
use Rattle.tables.proofs.Stopping.{Going, goes, never_stops}
use Rattle.tables.specs.declared.Ends.{Ends}
use Rattle.tables.specs.Fold.{Fold, Foldable, fold_c, fold_e, fold_in, fold_l, fold_r, fold_s, fold_step, halts, spliced}
use Rattle.theory.proofs.GreatestLaws.{Above, down_turn}
use Rattle.theory.proofs.LetterLaws.{letter_new}
use Rattle.theory.proofs.Pinches.{sound_free}
use Rattle.theory.proofs.Reading.{Letters, letters_spell}
use Rattle.theory.proofs.TestLaws.{and_rest}
use Rattle.theory.proofs.WordLaws.{width_two}
use Rattle.theory.specs.Judge.{pinched_at}
use Rattle.theory.specs.Letter.{byte, is_letter, letter}
use Rattle.theory.specs.Word.{Closes, Word, before, first_word, spell, width, words}
use Rattle.theory.specs.declared.Letter.{Letter}
use Rattle.theory.specs.declared.Letter.TheVariants.{C, E, L, R, S}

-- the ends of the first word say whether its width is 2
pub first_same : (t : ℕ) (z : Fold) (ws : List Word) (k : ℕ) → 1 ≤ length ws → Standing t z ws k
    → eqb z.first z.last ≡ eqb (width (first_word ws)) 2
unfolding first_word
first_same t z [] k n h = absurd (omega arith)
first_same t z (w ∷ ws) k n h = rw (h.1, h.2) (one_open k w h.0.sound)

-- ---- one letter

module _ (t k : ℕ) (z : Fold) (at : k < t) (fits : 4 * t ≤ length z.work) (high : 4 * t + 3 ≤ z.top)
    (within : z.top ≤ length z.work) where
  pub stepped : (a : Letter) (ws : List Word) → Enough a ws → (a ≡ C → eqb z.first z.last ≡ false)
      → Standing t z ws (k + 1) → Standing t (fold_step a t k z) (before a ws) k
  unfolding fold_step before first_word
  stepped C [] n calm h = absurd (omega arith)
  stepped C (w ∷ ws) n calm h =
      let two = width_two w h.0.sound in
      let test = sym (first_same t z (w ∷ ws) (k + 1) (omega arith) h) ∙ calm refl in
      let ne = eqb-false (width w) 2 test in
      standing_c t k z w ws fits (omega arith) (omega (arith, ne)) h
  stepped L [] n calm h = absurd (omega arith)
  stepped L (w ∷ ws) n calm h = standing_l t k z w ws fits (omega arith) h
  stepped E ws n calm h = standing_e t k z ws within high at h
  stepped R [] n calm h = absurd (omega arith)
  stepped R (w ∷ ws) n calm h = standing_r t k z w ws fits (omega arith) h
  stepped S [] n calm h = absurd (omega arith)
  stepped S (a ∷ []) n calm h = absurd (omega arith)
  stepped S (a ∷ (b ∷ ws)) n calm h = standing_s t k z a b ws fits (omega arith) h

  -- where the stack stands then
  pub tops : (a : Letter) (ws : List Word) → Enough a ws → Standing t z ws (k + 1)
      → (z.top ≤ (fold_step a t k z).top + 3) × ((fold_step a t k z).top ≤ length z.work)
  unfolding fold_step fold_c fold_l fold_e fold_r fold_s spliced
  tops C ws n h = (omega arith, omega arith)
  tops L ws n h = (omega arith, omega arith)
  tops E ws n h = (omega arith, omega arith)
  tops R ws n h = (omega arith, omega arith)
  tops S [] n h = absurd (omega arith)
  tops S (a ∷ []) n h = absurd (omega arith)
  tops S (a ∷ (b ∷ ws)) n h = let room = h.3.0 in (omega arith, omega arith)

some_before : (a : Letter) (ws : List Word) → Enough a ws → 1 ≤ length (before a ws)
unfolding before
some_before C [] n = absurd (omega arith)
some_before C (w ∷ ws) n = omega arith
some_before L [] n = absurd (omega arith)
some_before L (w ∷ ws) n = omega arith
some_before E ws n = omega arith
some_before R [] n = absurd (omega arith)
some_before R (w ∷ ws) n = omega arith
some_before S [] n = absurd (omega arith)
some_before S (a ∷ []) n = absurd (omega arith)
some_before S (a ∷ (b ∷ ws)) n = omega arith

-- three numbers more or less stand on the stack
deeper : (t k : ℕ) (z : Fold) (a : Letter) (ws : List Word) → Enough a ws
    → length z.work - z.top ≡ 3 * length ws → (3 ≤ z.top) × (z.top ≤ length z.work)
    → length z.work - (fold_step a t k z).top ≡ 3 * length (before a ws)
unfolding fold_step fold_c fold_l fold_e fold_r fold_s spliced before
deeper t k z C [] n d h = absurd (omega arith)
deeper t k z C (w ∷ ws) n d h = d
deeper t k z L [] n d h = absurd (omega arith)
deeper t k z L (w ∷ ws) n d h = d
deeper t k z E ws n d h = omega (arith, h.0, h.1)
deeper t k z R [] n d h = absurd (omega arith)
deeper t k z R (w ∷ ws) n d h = d
deeper t k z S [] n d h = absurd (omega arith)
deeper t k z S (a ∷ []) n d h = absurd (omega arith)
deeper t k z S (a ∷ (b ∷ ws)) n d h = omega (arith, h.0, h.1)

-- in a string that closes each letter has its words, and no C stands before a word of width 2
closing : (s : List ℕ) (z : Fold) (i : ℕ) → 0 < i → i ≤ length s → Closes s
    → Standing (length s) z (words (drop i s)) i → Going (get_or s (i - 1) 0) z.first z.last (words (drop i s))
unfolding pinched_at
closing s z zero m n c h = absurd (omega arith)
closing s z (suc j) m n c h =
    let q : suc j - 1 ≡ j = omega arith in
    let w = c.word in
    let ws = words (drop (suc j) s) in
    let enough = full_at s j (full_word w s c.spelt) (omega arith) in
    let letters : Letters s = rw (← c.spelt) (letters_spell w) in
    let same : spell w ++ [] ≡ s = append-nil (spell w) ∙ c.spelt in
    let free = sound_free w [] c.sound j (omega (arith, ap length c.spelt)) in
    let calm : pinched_at s j ≡ false = ap (λ (r : List ℕ). pinched_at r j) (sym same) ∙ free in
    rw q (record {
      enough = enough;
      calm = λ l.
          let b = letter_new (get_or s j 0) l in
          let one : 1 ≤ length ws = subst (λ (a : Letter). Enough a ws) l enough in
          first_same (length s) z ws (suc j) one h
          ∙ and_rest (eqb (get_or s j 0) (byte C)) (eqb (width (first_word ws)) 2) b calm;
      known = letters j (omega arith);
    })

-- ---- the loop

pub record Folding (s work₀ work : List ℕ) (ends : Ends) (i : ℕ) : Type 0 where
  pub at : i ≤ length s
  pub same : length work ≡ length work₀
  pub known : Above (λ q. is_letter (get_or s q 0)) (length s) i
  pub full : Full (drop i s)
  pub within : ends.top ≤ length work
  pub deep : length work - ends.top ≡ 3 * length (words (drop i s))
  pub high : length work ≤ ends.top + 3 * (length s - i)
  pub first_low : ends.first < 3 * length s
  pub last_low : ends.last < 3 * length s
  pub stands : Standing (length s) (fold_in work ends) (words (drop i s)) i

pub begins : {s work : List ℕ} → Foldable s work
    → Folding s work work (record { first = 0; last = 0; top = length work }) (length s)
unfolding words
begins {s} {work} h =
    let n = h.some in
    let none : words (drop (length s) s) ≡ [] = rw (drop-length s) in
    record {
      at = omega arith;
      same = refl;
      known = λ y a b. absurd (omega arith);
      full = rw (drop-length s) tt;
      within = omega arith;
      deep = omega (arith, ap (λ (ws : List Word). length ws) none);
      high = omega arith;
      first_low = omega arith;
      last_low = omega arith;
      stands = rw (drop-length s) tt;
    }

module _ {s work₀ work : List ℕ} {ends : Ends} {i : ℕ} (can : Foldable s work₀) (inv : Folding s work₀ work ends i)
    (more : 0 < i) where
  -- the letter at the place before i
  abbrev b : ℕ
  b = get_or s (i - 1) 0

  pub folding_turn : {a : Letter} {work' : List ℕ} {ends' : Ends}
      → (halts b ends (length work - ends.top) ≡ false) × (a ≡ letter b) → length work' ≡ length work
      → fold_in work' ends' ≡ fold_step a (length s) (i - 1) (fold_in work ends) → Folding s work₀ work' ends' (i - 1)
  folding_turn {a} {work'} {ends'} (on, is) same e₀ =
      let t = length s in
      let k = i - 1 in
      let z = fold_in work ends in
      let ws = words (drop i s) in
      let sp = can.space in
      let sm = inv.same in
      let hi = inv.high in
      let at = inv.at in
      let wi = inv.within in
      let e : fold_in work' ends' ≡ fold_step (letter b) t k z = rw (← is) e₀ in
      let lower : k + 1 ≡ i = omega arith in
      let sk : suc k ≡ i = omega arith in
      let go = goes ends (length work - ends.top) ws inv.deep b on in
      let enough = go.enough in
      let before-is : words (drop k s) ≡ before (letter b) ws =
      words_cons s k (omega arith) ∙ ap (λ (j : ℕ). before (letter b) (words (drop j s))) sk in
      let now : Standing t z ws (k + 1) = subst (λ (j : ℕ). Standing t z ws j) (sym lower) inv.stands in
      let new = stepped t k z (omega arith) (omega arith) (omega arith) wi (letter b) ws enough go.calm now in
      let t' = tops t k z (omega arith) (omega arith) (omega arith) wi (letter b) ws enough now in
      let stands : Standing t (fold_in work' ends') (words (drop k s)) k =
      subst (λ (y : Fold). Standing t y (words (drop k s)) k) (sym e)
      (subst (λ (v : List Word). Standing t (fold_step (letter b) t k z) v k) (sym before-is) new) in
      let low = standing_low t (fold_in work' ends') (words (drop k s)) k
      (rw before-is (some_before (letter b) ws enough)) stands in
      let te = ap (λ (y : Fold). y.top) e in
      let de = deeper t k z (letter b) ws enough inv.deep (omega arith) in
      let dw = ap (λ (v : List Word). length v) before-is in
      record {
        at = omega arith;
        same = same ∙ sm;
        known = down_turn (λ q. is_letter (get_or s q 0)) t i inv.known go.known;
        full = full_cons s k (omega arith) (subst (λ (j : ℕ). Full (drop j s)) (sym sk) inv.full)
            (subst (λ (j : ℕ). Enough (letter b) (words (drop j s))) (sym sk) enough);
        within = omega (arith, t'.1, te, same);
        deep = omega (arith, de, te, same, dw);
        high = omega (arith, t'.0, te, same);
        first_low = low.0;
        last_low = low.1;
        stands = stands;
      }

  -- in a string that closes a letter stands there, and the pass goes on
  pub going : Closes s → Going b ends.first ends.last (words (drop i s))
  going c = closing s (fold_in work ends) i more inv.at c inv.stands

  pub folding_stop : halts b ends (length work - ends.top) ≡ true → Closes s → ⊥
  folding_stop e c = never_stops ends (length work - ends.top) (words (drop i s)) inv.deep b (going c) e
