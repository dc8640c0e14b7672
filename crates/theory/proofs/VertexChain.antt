-- D8 for vertices: where joined edges have the same ends, the open sides of a word are a path from its right end to its
-- left end.
--
--   M x            the vertex at corner x
--   SameEnds a b   the edges opposite a and b have the same ends
--   Path x bs y    the sides bs lead from the vertex of x to that of y
use mathlib.Core.List.{List, [], ◌++◌, ◌∷◌}
use mathlib.Core.Path.{◌∙◌, ◌≡◌, refl}
use Prim.Native.Nat.{◌*◌, ◌+◌, ℕ}
use Rattle.theory.proofs.Chain.{Chain, Each, Glue, chain, chain_last}
use Rattle.theory.proofs.Opens.{mates, opens}
use Rattle.theory.specs.Corner.{next, previous}
use Rattle.theory.specs.Tables.{links}
use Rattle.theory.specs.Word.{Sound, Word}

module _ (M : ℕ → ℕ) where
  abbrev Same : ℕ → ℕ → Type 0
  Same x y = M x ≡ M y

  abbrev pub SameEnds : ℕ → ℕ → Type 0
  SameEnds = Glue Same (λ x. refl) (λ x y z p q. p ∙ q)

  abbrev pub Path : ℕ → List ℕ → ℕ → Type 0
  Path = Chain Same (λ x. refl) (λ x y z p q. p ∙ q)

  pub open_path : (k : ℕ) (w : Word) → Sound w → Each SameEnds (links k w) → Each SameEnds (mates k w)
      → Path (3 * k + 2) (opens k w) (3 * k + 1)
  open_path = chain Same (λ x. refl) (λ x y z p q. p ∙ q)

  pub path_last : (x : ℕ) (bs : List ℕ) (b z : ℕ) → Path x (bs ++ (b ∷ [])) z → Path x bs (next b) × Same z (previous b)
  path_last = chain_last Same (λ x. refl) (λ x y z p q. p ∙ q)
