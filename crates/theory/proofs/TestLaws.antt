-- Laws of tests: a test is not both true and false, and what a conjunction or a disjunction of three says.
use mathlib.Core.Bool.{Bool, ◌&&◌, ◌||◌, cond, false, true}
use mathlib.Core.Path.{◌∙◌, ◌≡◌, ap, refl, sym}
use Prim.Native.Nat.{ℕ}
use native.Mathlib.Omega.{arith}
use lib.Dec.{eqb}
use borrow.Author.Tests.{eq-eqb}

pub not_both : (b : Bool) → b ≡ true → b ≡ false → ⊥
not_both b p q =
    let e : true ≡ false = sym p ∙ q in
    let z : ◌≡◌ {A = ℕ} 1 0 = ap (λ (x : Bool). cond x 1 0) e in
    omega arith

-- two tests with one meaning are one
pub same_test : (a b : Bool) → (a ≡ true → b ≡ true) → (b ≡ true → a ≡ true) → a ≡ b
same_test true b f g = sym (f refl)
same_test false true f g = g refl
same_test false false f g = refl

pub and_left : (a b : Bool) → (a && b) ≡ true → a ≡ true
and_left true b e = refl
and_left false b e = e

pub and_right : (a b : Bool) → (a && b) ≡ true → b ≡ true
and_right true b e = e
and_right false b e = absurd (not_both false e refl)

pub and_rest : (a b : Bool) → a ≡ true → (a && b) ≡ false → b ≡ false
and_rest true b p e = e
and_rest false b p e = absurd (not_both false p refl)

pub or_three : (a b d f : Bool) → (a || (b || f)) ≡ true → (a || (b || (d || f))) ≡ true
or_three true b d f h = refl
or_three false true d f h = refl
or_three false false true f h = refl
or_three false false false f h = h

pub eqb_same : (x : ℕ) → eqb x x ≡ true
eqb_same x = eq-eqb x x refl
