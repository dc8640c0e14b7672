-- Corners that are linked through a table: the entry of each but the first is the one before it.
--
--   Behind b bs    the entry of the first of bs is b, of each other the one before it
--   Chained bs     bs are linked so
--   chained-..     one more at the front or the end, two lists in one, all but the last, and a table that has not
--                  changed
use mathlib.Core.List.{List, [], ◌++◌, ◌∷◌}
use mathlib.Core.Path.{◌∙◌, ◌≡◌}
use Prim.Native.Nat.{◌≤◌, ℕ}
use native.Mathlib.Omega.{arith}
use lib.ListN.{get_or, length}
use Rattle.theory.proofs.Counting.{bit_refl, count}
use Rattle.theory.specs.Lists.{back, front, head, tail}

module _ (work : List ℕ) where
  abbrev pub Behind : ℕ → List ℕ → Type 0
  Behind b [] = Unit {0}
  Behind b (x ∷ xs) = (get_or work x 0 ≡ b) × Behind x xs

  abbrev pub Chained : List ℕ → Type 0
  Chained [] = Unit {0}
  Chained (b ∷ bs) = Behind b bs

  pub chained_cons : (b : ℕ) (bs : List ℕ) → get_or work (head bs) 0 ≡ b → Chained bs → Chained (b ∷ bs)
  unfolding head
  chained_cons b [] e h = tt
  chained_cons b (x ∷ bs) e h = (e, h)

  behind_append : (b : ℕ) (bs cs : List ℕ) → Behind b bs → Chained cs → get_or work (head cs) 0 ≡ back (b ∷ bs)
      → Behind b (bs ++ cs)
  unfolding head back
  behind_append b [] [] h i e = tt
  behind_append b [] (x ∷ cs) h i e = (e, i)
  behind_append b (y ∷ bs) cs h i e = (h.0, behind_append y bs cs h.1 i e)

  pub chained_append : (bs cs : List ℕ) → 1 ≤ length bs → Chained bs → Chained cs → get_or work (head cs) 0 ≡ back bs
      → Chained (bs ++ cs)
  chained_append [] cs n h i e = absurd (omega arith)
  chained_append (b ∷ bs) cs n h i e = behind_append b bs cs h i e

  behind_front : (b : ℕ) (bs : List ℕ) → Behind b bs → Behind b (front bs)
  unfolding front
  behind_front b [] h = tt
  behind_front b (x ∷ []) h = tt
  behind_front b (x ∷ (y ∷ bs)) h = (h.0, behind_front x (y ∷ bs) h.1)

  pub chained_front : (bs : List ℕ) → Chained bs → Chained (front bs)
  unfolding front
  chained_front [] h = tt
  chained_front (x ∷ []) h = tt
  chained_front (x ∷ (y ∷ bs)) h = behind_front x (y ∷ bs) h

  before_last : (b x : ℕ) (bs : List ℕ) → Behind b (x ∷ bs)
      → get_or work (back (x ∷ bs)) 0 ≡ back (front (b ∷ (x ∷ bs)))
  unfolding front back
  before_last b x [] h = h.0
  before_last b x (y ∷ bs) h = before_last x y bs h.1

  -- the entry of the last is the last but one
  pub chained_last : (bs : List ℕ) → 2 ≤ length bs → Chained bs → get_or work (back bs) 0 ≡ back (front bs)
  unfolding back
  chained_last [] n h = absurd (omega arith)
  chained_last (x ∷ []) n h = absurd (omega arith)
  chained_last (x ∷ (y ∷ bs)) n h = before_last x y bs h

module _ (work work' : List ℕ) where
  behind_same : (b : ℕ) (bs : List ℕ) → ((x : ℕ) → 1 ≤ count x bs → get_or work' x 0 ≡ get_or work x 0)
      → Behind work b bs → Behind work' b bs
  unfolding count
  behind_same b [] f h = tt
  behind_same b (x ∷ bs) f h =
      let r = bit_refl x in
      (f x (omega arith) ∙ h.0, behind_same x bs (λ y m. f y (omega arith)) h.1)

  pub chained_same : (bs : List ℕ) → ((x : ℕ) → 1 ≤ count x (tail bs) → get_or work' x 0 ≡ get_or work x 0)
      → Chained work bs → Chained work' bs
  unfolding tail
  chained_same [] f h = tt
  chained_same (b ∷ bs) f h = behind_same b bs f h
