-- A fact about every number of a list (`EachN`), handed on to the list's parts.
use mathlib.Core.List.{List, [], ◌++◌, ◌∷◌}
use Prim.Native.Nat.{◌<◌, ◌≤◌, suc, zero, ℕ}
use native.Mathlib.Omega.{arith}
use lib.ListN.{drop, get_or, length, take}
use Rattle.theory.specs.Lists.{back, front, head, tail}

-- every number of a list
abbrev pub EachN : (ℕ → Type 0) → List ℕ → Type 0
EachN P [] = Unit {0}
EachN P (b ∷ bs) = P b × EachN P bs

pub each_n_append : (P : ℕ → Type 0) (a b : List ℕ) → EachN P a → EachN P b → EachN P (a ++ b)
each_n_append P [] b h i = i
each_n_append P (x ∷ a) b h i = (h.0, each_n_append P a b h.1 i)

pub each_n_left : (P : ℕ → Type 0) (a b : List ℕ) → EachN P (a ++ b) → EachN P a
each_n_left P [] b h = tt
each_n_left P (x ∷ a) b h = (h.0, each_n_left P a b h.1)

pub each_n_last : (P : ℕ → Type 0) (a : List ℕ) (b : ℕ) → EachN P (a ++ (b ∷ [])) → P b
each_n_last P [] b h = h.0
each_n_last P (x ∷ a) b h = each_n_last P a b h.1

pub each_n_map : (P Q : ℕ → Type 0) (f : (x : ℕ) → P x → Q x) (a : List ℕ) → EachN P a → EachN Q a
each_n_map P Q f [] h = tt
each_n_map P Q f (x ∷ a) h = (f x h.0, each_n_map P Q f a h.1)

pub each_n_both : (P Q M : ℕ → Type 0) (f : (x : ℕ) → P x → Q x → M x) (a : List ℕ) → EachN P a → EachN Q a → EachN M a
each_n_both P Q M f [] h i = tt
each_n_both P Q M f (x ∷ a) h i = (f x h.0 i.0, each_n_both P Q M f a h.1 i.1)

module _ (P : ℕ → Type 0) where
  pub each_front : (rs : List ℕ) → EachN P rs → EachN P (front rs)
  unfolding front
  each_front [] h = tt
  each_front (x ∷ []) h = tt
  each_front (x ∷ (y ∷ rs)) h = (h.0, each_front (y ∷ rs) h.1)

  pub each_tl : (rs : List ℕ) → EachN P rs → EachN P (tail rs)
  unfolding tail
  each_tl [] h = tt
  each_tl (x ∷ rs) h = h.1

  pub each_take : (n : ℕ) (rs : List ℕ) → EachN P rs → EachN P (take n rs)
  each_take zero rs h = tt
  each_take (suc n) [] h = tt
  each_take (suc n) (x ∷ rs) h = (h.0, each_take n rs h.1)

  pub each_drop : (n : ℕ) (rs : List ℕ) → EachN P rs → EachN P (drop n rs)
  each_drop zero rs h = h
  each_drop (suc n) [] h = tt
  each_drop (suc n) (x ∷ rs) h = each_drop n rs h.1

  pub each_first : (rs : List ℕ) → 1 ≤ length rs → EachN P rs → P (head rs)
  unfolding head
  each_first [] q h = absurd (omega arith)
  each_first (x ∷ rs) q h = h.0

  pub each_second : (rs : List ℕ) → 2 ≤ length rs → EachN P rs → P (head (tail rs))
  unfolding head tail
  each_second [] q h = absurd (omega arith)
  each_second (x ∷ []) q h = absurd (omega arith)
  each_second (x ∷ (y ∷ rs)) q h = h.1.0

  pub each_back : (rs : List ℕ) → 1 ≤ length rs → EachN P rs → P (back rs)
  unfolding back
  each_back [] q h = absurd (omega arith)
  each_back (x ∷ []) q h = h.0
  each_back (x ∷ (y ∷ rs)) q h = each_back (y ∷ rs) (omega arith) h.1

  pub each_get_d : (rs : List ℕ) (i : ℕ) → i < length rs → EachN P rs → P (get_or rs i 0)
  each_get_d [] i q h = absurd (omega arith)
  each_get_d (x ∷ rs) zero q h = h.0
  each_get_d (x ∷ rs) (suc i) q h = each_get_d rs i (omega arith) h.1
