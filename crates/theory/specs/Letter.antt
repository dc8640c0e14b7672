-- The five letters and their bytes.
--
--   byte a       the byte of a letter
--   letter b     the letter of a byte; a byte that is no letter is read as S, and check 3 refuses it first
--   is_letter b   b is one of C, L, E, R, S
--   Decodes b r  r is the letter of b, or that b is none
use Rattle.std.specs.Prelude.{◌≡◌, Bool, true, false, cond, ℕ, eqb, Result, MatchResult}
use Rattle.theory.specs.declared.Foreign.{Foreign}
use Rattle.theory.specs.declared.Letter.{Letter}
use Rattle.theory.specs.declared.Letter.TheVariants.{C, L, E, R, S}

abbrev pub byte : Letter → ℕ
byte C = 67
byte L = 76
byte E = 69
byte R = 82
byte S = 83

unfoldable pub letter : ℕ → Letter
letter b = cond (eqb b 67) C (cond (eqb b 76) L (cond (eqb b 69) E (cond (eqb b 82) R S)))

unfoldable pub is_letter : ℕ → Bool
is_letter b = eqb (byte (letter b)) b

abbrev pub Decodes : ℕ → Result Letter Foreign → Type 0
Decodes b r = MatchResult r (λ a. (is_letter b ≡ true) × (a ≡ letter b)) (λ e. (is_letter b ≡ false) × (e.0 ≡ b))
