-- Answers: what a test that was taken or left says.
--
--   says_same         the answer to P is one to Q, where each follows from the other
--   said_yes said_no  an answer that is true, and one that is false
--   yes no            the same where the answer is the literal
use mathlib.Core.Bool.{Bool, false, true}
use mathlib.Core.Path.{◌≡◌, refl}
use Rattle.sweep.specs.Sound.{Says, fails, holds}
use Rattle.theory.proofs.TestLaws.{not_both}

pub says_same : {P Q : Type 0} {r : Bool} → (P → Q) → (Q → P) → Says P r → Says Q r
says_same f h (holds p) = holds (f p)
says_same f h (fails n) = fails (λ q. n (h q))

pub said_yes : {P : Type 0} {r : Bool} → Says P r → r ≡ true → P
said_yes (holds p) e = p
said_yes (fails n) e = absurd (not_both false e refl)

pub said_no : {P : Type 0} {r : Bool} → Says P r → r ≡ false → P → ⊥
said_no (holds p) e = absurd (not_both true refl e)
said_no (fails n) e = n

pub yes : {P : Type 0} → Says P true → P
yes (holds p) = p

pub no : {P : Type 0} → Says P false → P → ⊥
no (fails n) = n
