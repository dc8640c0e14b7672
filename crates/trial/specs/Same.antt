-- What a comparison of two lists tells (`Tells`): true where they are equal, false where they are not.
use Rattle.std.specs.Prelude.{Bool, true, false, List, ◌≡◌, ℕ}

pub record Tells (a b : List ℕ) (r : Bool) : Type 0 where
  pub one : r ≡ true → a ≡ b
  pub other : r ≡ false → a ≡ b → ⊥
