-- Laws of letters and bytes: `letter` undoes `byte`, and `byte` undoes `letter` on the five letters.
--
--   letters_differ    letters with different bytes differ
--   is_c              a letter is C or not
--   letter_new        a byte read as C is C
--   View b, view b    what a byte is: one of the five codes, or no letter
--   letter_else       a byte that is no letter is read as S
--   letter_read       what a byte reads as, S where it is no letter
use mathlib.Core.Bool.{Bool, cond, false, true}
use mathlib.Core.Logic.{◌≢◌}
use mathlib.Core.Path.{◌∙◌, ◌≡◌, ap, refl, sym}
use Prim.Native.Nat.{ℕ}
use native.Mathlib.Omega.{arith}
use lib.Dec.{eqb}
use borrow.Author.Tests.{eq-eqb, eqb-false, eqb-true}
use Rattle.std.specs.Prelude.{Result, Ok, Err}
use Rattle.std.specs.Result.{result_unwrap_or}
use Rattle.theory.proofs.TestLaws.{not_both}
use Rattle.theory.specs.Letter.{Decodes, byte, is_letter, letter}
use Rattle.theory.specs.declared.Foreign.{Foreign}
use Rattle.theory.specs.declared.Letter.{Letter}
use Rattle.theory.specs.declared.Letter.TheVariants.{C, E, L, R, S}

pub letter_byte : (a : Letter) → letter (byte a) ≡ a
unfolding letter
letter_byte C = refl
letter_byte L = refl
letter_byte E = refl
letter_byte R = refl
letter_byte S = refl

pub byte_letter : (b : ℕ) → is_letter b ≡ true → byte (letter b) ≡ b
unfolding is_letter
byte_letter b h = eqb-true (byte (letter b)) b h

pub byte_is_letter : (a : Letter) → is_letter (byte a) ≡ true
unfolding is_letter
byte_is_letter a = eq-eqb (byte (letter (byte a))) (byte a) (ap byte (letter_byte a))

pub byte_injective : (a b : Letter) → byte a ≡ byte b → a ≡ b
byte_injective a b e = sym (letter_byte a) ∙ ap letter e ∙ letter_byte b

pub letters_differ : (a b : Letter) → eqb (byte a) (byte b) ≡ false → a ≢ b
letters_differ a b h e = eqb-false (byte a) (byte b) h (ap byte e)

pub is_c : (a : Letter) → Dec (a ≡ C)
is_c C = yes refl
is_c L = no (letters_differ L C refl)
is_c E = no (letters_differ E C refl)
is_c R = no (letters_differ R C refl)
is_c S = no (letters_differ S C refl)

pub letter_new : (b : ℕ) → letter b ≡ C → eqb b (byte C) ≡ true
unfolding letter
letter_new b e = go (eqb b 67) (eqb b 76) (eqb b 69) (eqb b 82) e
  where
    go : (p q r t : Bool) → cond p C (cond q L (cond r E (cond t R S))) ≡ C → p ≡ true
    go true q r t e = refl
    go false true r t e = absurd (let z : ◌≡◌ {A = ℕ} 0 1 = cc in omega arith)
    go false false true t e = absurd (let z : ◌≡◌ {A = ℕ} 0 1 = cc in omega arith)
    go false false false true e = absurd (let z : ◌≡◌ {A = ℕ} 0 1 = cc in omega arith)
    go false false false false e = absurd (let z : ◌≡◌ {A = ℕ} 0 1 = cc in omega arith)

pub data View (b : ℕ) : Type 0 where
  is : (a : Letter) → b ≡ byte a → letter b ≡ a → View b
  none : is_letter b ≡ false → View b

pub view : (b : ℕ) → View b
unfolding is_letter
view b = go (is_letter b) refl
  where
    go : (x : Bool) → eqb (byte (letter b)) b ≡ x → View b
    go true h = is (letter b) (sym (eqb-true (byte (letter b)) b h)) refl
    go false h = none h

pub letter_else : (b : ℕ) → is_letter b ≡ false → letter b ≡ S
unfolding letter
letter_else b e = go (eqb b 67) (eqb b 76) (eqb b 69) (eqb b 82) refl refl refl refl
  where
    no : (a : Letter) → eqb b (byte a) ≡ true → {X : Type 0} → X
    no a q =
        let n : b ≡ byte a = eqb-true b (byte a) q in
        absurd (not_both (is_letter b) (ap is_letter n ∙ byte_is_letter a) e)

    go : (p q r t : Bool) → eqb b 67 ≡ p → eqb b 76 ≡ q → eqb b 69 ≡ r → eqb b 82 ≡ t
        → cond p C (cond q L (cond r E (cond t R S))) ≡ S
    go true q r t e1 e2 e3 e4 = no C e1
    go false true r t e1 e2 e3 e4 = no L e2
    go false false true t e1 e2 e3 e4 = no E e3
    go false false false true e1 e2 e3 e4 = no R e4
    go false false false false e1 e2 e3 e4 = refl

pub letter_read : (b : ℕ) (r : Result Letter Foreign) → Decodes b r → result_unwrap_or r S ≡ letter b
letter_read b (Ok a) h = h.1
letter_read b (Err e) h = sym (letter_else b h.0)
