-- Induction from the right end of a list, and on all smaller numbers.
use mathlib.Core.List.{List, [], ◌++◌, ◌∷◌, append_assoc, append-nil}
use mathlib.Core.Path.{subst}
use mathlib.Core.WellFounded.{recursion}
use Prim.Native.Nat.{◌<◌, ℕ}
use lib.WfN.{lt-wf_rel}
use Rattle.theory.specs.Answer.{done}
use Rattle.theory.specs.Corner.{left}

pub snoc_induction : {A : Type 0} (P : List A → Type 0) → P [] → ((xs : List A) (x : A) → P xs → P (xs ++ (x ∷ [])))
    → (l : List A) → P l
snoc_induction {A} P nil step l = go [] l nil
  where
    go : (done : List A) (left : List A) → P done → P (done ++ left)
    go done [] p = rw (append-nil done) p
    go done (x ∷ left) p = subst P (append_assoc done (x ∷ []) left) (go (done ++ (x ∷ [])) left (step done x p))

pub strong : (P : ℕ → Type 0) → ((n : ℕ) → ((m : ℕ) → m < n → P m) → P n) → (n : ℕ) → P n
strong P step n = recursion lt-wf_rel.wf {C = P} n step
