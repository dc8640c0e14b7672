-- Where the first pass stops: exactly at a letter that keeps the string from closing.
--
--   spells         the letters of some words, one word after the other
--   spelt_words    letters that each have the words they need spell the words that the definition finds
--   Going          what a letter that does not stop the pass says
--   goes           such a letter
--   never_stops    in a string that closes no byte halts it
--   stops_s tests_s    what the pass tests of a byte that is read as S, which may be no letter
--   halting        what halts the pass: a byte that is no letter, by these two, and a letter that stops it
use mathlib.Core.Bool.{Bool, false, not, true}
use mathlib.Core.List.{List, [], ◌++◌, ◌∷◌, append_assoc}
use mathlib.Core.Logic.{◌⊎◌, inl, inr}
use mathlib.Core.Path.{◌∙◌, ◌≡◌, ap, refl, sym}
use Prim.Native.Nat.{◌*◌, ◌<◌, ◌≤◌, ℕ}
use native.Mathlib.Omega.{arith}
use lib.Dec.{eqb, ltb}
use lib.ListN.{length}
use borrow.Author.Tests.{eq-eqb, eqb-true, le-ltb, lt-ltb, ltb-false, ltb-true, ne_eqb}
use Rattle.tables.proofs.Enough.{Enough, Full}
use Rattle.tables.specs.Fold.{halts, stops}
use Rattle.tables.specs.declared.Ends.{Ends}
use Rattle.theory.proofs.LetterLaws.{byte_is_letter, byte_letter, letter_else}
use Rattle.theory.proofs.Reading.{Letters, letters_tail}
use Rattle.std.proofs.lemmas.Bool.{cases_lt, or_cases, or_parts, or_right}
use Rattle.std.proofs.Math.Bool.{or-false}
use Rattle.theory.proofs.TestLaws.{not_both, same_test}
use Rattle.theory.specs.Letter.{byte, is_letter, letter}
use Rattle.theory.specs.Word.{Word, before, spell, words}
use Rattle.theory.specs.declared.Letter.{Letter}
use Rattle.theory.specs.declared.Letter.TheVariants.{C, E, L, R, S}

abbrev pub spells : List Word → List ℕ
spells [] = []
spells (w ∷ ws) = spell w ++ spells ws

spells_before : (a : Letter) (ws : List Word) → Enough a ws → spells (before a ws) ≡ byte a ∷ spells ws
unfolding before spell
spells_before C [] n = absurd (omega arith)
spells_before C (w ∷ ws) n = refl
spells_before L [] n = absurd (omega arith)
spells_before L (w ∷ ws) n = refl
spells_before E ws n = refl
spells_before R [] n = absurd (omega arith)
spells_before R (w ∷ ws) n = refl
spells_before S [] n = absurd (omega arith)
spells_before S (a ∷ []) n = absurd (omega arith)
spells_before S (a ∷ (b ∷ ws)) n = ap (λ (y : List ℕ). byte S ∷ y) (append_assoc (spell a) (spell b) (spells ws))

pub spelt_words : (s : List ℕ) → Letters s → Full s → spells (words s) ≡ s
unfolding words
spelt_words [] l f = refl
spelt_words (b ∷ s) l f =
    let e = spelt_words s (letters_tail b s l) f.1 in
    spells_before (letter b) (words s) f.0
    ∙ ap (λ (y : ℕ). y ∷ spells (words s)) (byte_letter b (l 0 (omega arith)))
    ∙ ap (λ (y : List ℕ). b ∷ y) e

pub record Going (b first last : ℕ) (ws : List Word) : Type 0 where
  pub enough : Enough (letter b) ws
  pub calm : letter b ≡ C → eqb first last ≡ false
  pub known : is_letter b ≡ true

module _ (ends : Ends) (deep : ℕ) (ws : List Word) (is-deep : deep ≡ 3 * length ws) where
  some : ltb deep 3 ≡ false → 1 ≤ length ws
  some e = let h = ltb-false deep 3 e in omega arith

  enough_of : (a : Letter) → stops a ends deep ≡ false → Enough a ws
  unfolding stops
  enough_of C e = some (or_parts (ltb deep 3) (eqb ends.first ends.last) e).0
  enough_of L e = some e
  enough_of E e = tt
  enough_of R e = some e
  enough_of S e = let h = ltb-false deep 6 e in omega arith

  pub goes : (b : ℕ) → halts b ends deep ≡ false → Going b ends.first ends.last ws
  unfolding halts stops
  goes b h = record { enough = enough_of (letter b) e; calm = calm; known = known (is_letter b) both.0 }
    where
      both : (not (is_letter b) ≡ false) × (stops (letter b) ends deep ≡ false)
      both = or_parts (not (is_letter b)) (stops (letter b) ends deep) h

      e : stops (letter b) ends deep ≡ false
      e = both.1

      known : (x : Bool) → not x ≡ false → x ≡ true
      known true q = refl
      known false q = absurd (not_both true refl q)

      calm : letter b ≡ C → eqb ends.first ends.last ≡ false
      calm c = (or_parts (ltb deep 3) (eqb ends.first ends.last) (sym (ap (λ (a : Letter). stops a ends deep) c) ∙ e)).1

  deep_some : 1 ≤ length ws → ltb deep 3 ≡ true → ⊥
  deep_some n e = let h = ltb-true deep 3 e in omega arith

  never : (a : Letter) → Enough a ws → (a ≡ C → eqb ends.first ends.last ≡ false) → stops a ends deep ≡ true → ⊥
  unfolding stops
  never C n f e = go (or_cases (ltb deep 3) (eqb ends.first ends.last) e)
    where
      go : (ltb deep 3 ≡ true) ⊎ (eqb ends.first ends.last ≡ true) → ⊥
      go (inl q) = deep_some n q
      go (inr q) = not_both (eqb ends.first ends.last) q (f refl)
  never L n f e = deep_some n e
  never E n f e = not_both false e refl
  never R n f e = deep_some n e
  never S n f e = let h = ltb-true deep 6 e in omega arith

  pub never_stops : (b : ℕ) → Going b ends.first ends.last ws → halts b ends deep ≡ true → ⊥
  unfolding halts
  never_stops b h e = go (or_cases (not (is_letter b)) (stops (letter b) ends deep) e)
    where
      go : (not (is_letter b) ≡ true) ⊎ (stops (letter b) ends deep ≡ true) → ⊥
      go (inl q) = not_both (not (is_letter b)) q (ap not h.known)
      go (inr q) = never (letter b) h.enough h.calm q

module _ (b : ℕ) (ends : Ends) (deep : ℕ) where
  pub stops_s : S ≡ letter b → deep < 6 → true ≡ halts b ends deep
  unfolding halts stops
  stops_s l h = rw (← l, lt-ltb deep 6 h) (sym (or_right (not (is_letter b)) true refl))

  pub tests_s : S ≡ letter b → 6 ≤ deep → not (eqb b 83) ≡ halts b ends deep
  unfolding halts stops is_letter
  tests_s l h =
      let e : eqb b 83 ≡ eqb 83 b =
      same_test (eqb b 83) (eqb 83 b) (λ q. eq-eqb 83 b (sym (eqb-true b 83 q))) (λ q. eq-eqb b 83 (sym (eqb-true 83 b q))) in
      rw (← l, le-ltb deep 6 h) (ap not e ∙ sym (or-false (not (eqb 83 b))))

  -- a byte that is no letter is read as S, and is not the byte of S
  pub foreign_halts : is_letter b ≡ false → halts b ends deep ≡ true
  foreign_halts n = go (cases_lt deep 6)
    where
      is-s : S ≡ letter b
      is-s = sym (letter_else b n)

      no-s : not (eqb b 83) ≡ true
      no-s = ap not (ne_eqb b 83 (λ q. not_both (is_letter b) (ap is_letter q ∙ byte_is_letter S) n))

      go : (deep < 6) ⊎ (6 ≤ deep) → halts b ends deep ≡ true
      go (inl h) = sym (stops_s is-s h)
      go (inr h) = sym (tests_s is-s h) ∙ no-s

  -- a letter halts the pass where it stops it
  pub letter_halts : {a : Letter} {r : Bool} → (is_letter b ≡ true) × (a ≡ letter b) → r ≡ stops a ends deep
      → halts b ends deep ≡ r
  unfolding halts
  letter_halts (known, is) e = rw (known, ← is) (sym e)

pub ruleset halting = (foreign_halts, letter_halts)
