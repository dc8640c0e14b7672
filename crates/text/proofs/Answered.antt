-- What the code answers, and the answer of a definition that it stands for: `some_number`, `some_size`, `some_line`.
--
--   none_number the_number   of `some_number`, from None and from Some
--   none_size the_size, none_line the_line   the same of `some_size` and `some_line`
use mathlib.Core.Bool.{Bool, cond, false, true}
use mathlib.Core.Path.{◌≡◌, ap, refl}
use Prim.Native.Nat.{suc, zero, ℕ}
use native.Mathlib.Omega.{arith}
use Rattle.std.specs.Prelude.{None, Some}
use Rattle.text.specs.Decimal.{Number, some_number}
use Rattle.text.specs.Line.{NumberLine, some_line, some_size}
use Rattle.text.specs.declared.KeyedNumber.{KeyedNumber}

module _ (a : Number) where
  pub none_number : None ≡ some_number a → a.good ≡ false
  none_number e = go a.good refl e
    where
      go : (b : Bool) → a.good ≡ b → None ≡ cond b (Some a.value) None → a.good ≡ false
      go true q e = cc
      go false q e = q

  pub the_number : (n : ℕ) → Some n ≡ some_number a → (a.good ≡ true) × (n ≡ a.value)
  the_number n e = go a.good refl e
    where
      go : (b : Bool) → a.good ≡ b → Some n ≡ cond b (Some a.value) None → (a.good ≡ true) × (n ≡ a.value)
      go true q e = (q, (cc))
      go false q e = cc

pub none_size : (n : ℕ) → None ≡ some_size n → n ≡ 0
none_size zero e = refl
none_size (suc n) e = cc

pub the_size : (n m : ℕ) → Some m ≡ some_size n → (m ≡ n) × (n ≡ 0 → ⊥)
the_size zero m e = cc
the_size (suc n) m e = ((cc), λ z. omega arith)

module _ (a : NumberLine) where
  abbrev the : KeyedNumber
  the = record { value = a.value; size = a.size }

  pub none_line : None ≡ some_line a → a.good ≡ false
  none_line e = go a.good refl e
    where
      go : (b : Bool) → a.good ≡ b → None ≡ cond b (Some the) None → a.good ≡ false
      go true q e = cc
      go false q e = q

  pub the_line : (k : KeyedNumber) → Some k ≡ some_line a → (a.good ≡ true) × (k.value ≡ a.value) × (k.size ≡ a.size)
  the_line k e = go a.good refl e
    where
      go : (b : Bool) → a.good ≡ b → Some k ≡ cond b (Some the) None
          → (a.good ≡ true) × (k.value ≡ a.value) × (k.size ≡ a.size)
      go true q e = let p : k ≡ the = cc in (q, ap (λ (x : KeyedNumber). x.value) p, ap (λ (x : KeyedNumber). x.size) p)
      go false q e = cc
