-- E2 (`begun`): on an accepted mesh the walk that skips waiting lefts seen meanwhile ends, within t steps.
--
-- Every step is at a new triangle, so there are at most t of them (`bound`); while the state holds, the walk can go on.
use mathlib.Core.Bool.{Bool, false, true}
use mathlib.Core.List.{List, [], ◌∷◌}
use mathlib.Core.Logic.{◌⊎◌, inl, inr}
use mathlib.Core.Path.{◌≡◌, ap, refl}
use Prim.Native.Nat.{◌+◌, ◌≤◌, suc, zero, ℕ}
use native.Mathlib.Decide.{ℕ_discrete}
use native.Mathlib.Omega.{arith}
use lib.Dec.{eqb}
use lib.ListN.{length}
use Rattle.theory.proofs.CornerLaws.{triangle_low}
use Rattle.theory.proofs.Counting.{bit, bit_off, bit_refl, count, pigeon}
use Rattle.theory.proofs.Injections.{length_vals, vals, vals_in}
use Rattle.theory.proofs.Runs.{Drop, Run, end, left_done, new, resume, right_done, skip, split, stay}
use Rattle.std.proofs.lemmas.Bool.{or_parts}
use Rattle.theory.proofs.WalkState.{New, Says, State, kept_c, kept_e, kept_l, kept_r, kept_s, look, started}
use Rattle.theory.specs.Corner.{left, right, triangle}
use Rattle.theory.specs.Mesh.{Sphere}
use Rattle.theory.specs.Walk.{Step, ◌＠◌, letter_at, seen}
use Rattle.theory.specs.declared.Letter.{Letter}
use Rattle.theory.specs.declared.Letter.TheVariants.{C, E, L, R, S}

module _ {lab opp : ℕ → ℕ} {t v g : ℕ} (mesh : Sphere lab opp t v g) where
  -- the triangles of some steps
  unfoldable places : List Step → List ℕ
  places [] = []
  places ((a ＠ d) ∷ pre) = triangle d ∷ places pre

  length_places : (pre : List Step) → length (places pre) ≡ length pre
  unfolding places
  length_places [] = refl
  length_places ((a ＠ d) ∷ pre) = ap suc (length_places pre)

  absent : (pre : List Step) (d : ℕ) → seen pre d ≡ false → count (triangle d) (places pre) ≡ 0
  unfolding places count seen bit
  absent [] d h = refl
  absent ((a ＠ y) ∷ pre) d h =
      let q = or_parts (eqb (triangle d) (triangle y)) (seen pre d) h in
      let i = absent pre d q.1 in
      rw q.0 (omega arith)

  once : (pre : List Step) (k : ℕ) → New mesh pre → count k (places pre) ≤ count k (vals (λ i. i) t)
  unfolding places count
  once [] k h = omega arith
  once ((a ＠ d) ∷ pre) k h = go (ℕ_discrete k (triangle d)) (once pre k h.2)
    where
      go : Dec (k ≡ triangle d) → count k (places pre) ≤ count k (vals (λ i. i) t)
          → bit (eqb k (triangle d)) + count k (places pre) ≤ count k (vals (λ i. i) t)
      go (yes q) z =
          let n : count k (places pre) ≡ 0 = rw q (absent pre d h.0) in
          let b : bit (eqb k (triangle d)) ≡ 1 = rw (← q) (bit_refl k) in
          let m = vals_in k t (rw q (triangle_low t d h.1)) in
          omega arith
      go (no q) z = let b = bit_off k (triangle d) q in omega arith

  bound : (pre : List Step) → New mesh pre → length pre ≤ t
  bound pre h =
      let a = pigeon (places pre) (vals (λ i. i) t) (λ k. once pre k h) in
      let b = length_places pre in
      let d = length_vals (λ i. i) t in
      omega arith

  -- a waiting left that is not seen comes next, or none is left
  abbrev Next : List Step → List ℕ → Type 0
  Next pre st = Drop pre st [] ⊎ ((d : ℕ) × (rest : List ℕ) × Drop pre st (d ∷ rest) × (seen pre d ≡ false))

  pop : (pre : List Step) (st : List ℕ) → Next pre st
  pop pre [] = inl stay
  pop pre (d ∷ st) = go (seen pre d) refl (pop pre st)
    where
      go : (b : Bool) → seen pre d ≡ b → Next pre st → Next pre (d ∷ st)
      go true q (inl z) = inl (skip q z)
      go true q (inr (y, rest, z, u)) = inr (y, rest, skip q z, u)
      go false q z = inr (d, st, stay, q)

  -- a run from x within n steps
  abbrev pub Ended : ℕ → List Step → List ℕ → ℕ → Type 0
  Ended n pre st x = (q : List Step) × Run lab opp g pre st x q × (length q ≤ n)

  abbrev Lives : ℕ → Type 0
  Lives n = (pre : List Step) (st : List ℕ) (x : ℕ) → length pre + n ≡ t → State mesh pre st x → Ended n pre st x

  advance : (n : ℕ) → Lives n → (pre : List Step) (st : List ℕ) (x : ℕ) → length pre + suc n ≡ t → State mesh pre st x
      → (a : Letter) → letter_at lab opp g pre x ≡ a → Says mesh pre x a → Ended (suc n) pre st x
  advance n rec pre st x k i C h w =
      let j = rec ((C ＠ x) ∷ pre) st (right opp x) (omega arith) (kept_c mesh i w) in
      ((C ＠ x) ∷ j.0, new h j.1, omega arith)
  advance n rec pre st x k i L h w =
      let j = rec ((L ＠ x) ∷ pre) st (right opp x) (omega arith) (kept_l mesh i w) in
      ((L ＠ x) ∷ j.0, left_done h j.1, omega arith)
  advance n rec pre st x k i R h w =
      let j = rec ((R ＠ x) ∷ pre) st (left opp x) (omega arith) (kept_r mesh i w) in
      ((R ＠ x) ∷ j.0, right_done h j.1, omega arith)
  advance n rec pre st x k i S h w =
      let j = rec ((S ＠ x) ∷ pre) (left opp x ∷ st) (right opp x) (omega arith) (kept_s mesh i w) in
      ((S ＠ x) ∷ j.0, split h j.1, omega arith)
  advance n rec pre st x k i E h w = go (pop ((E ＠ x) ∷ pre) st)
    where
      go : Next ((E ＠ x) ∷ pre) st → Ended (suc n) pre st x
      go (inl z) = ((E ＠ x) ∷ [], end h z, omega arith)
      go (inr (d, rest, z, u)) =
          let j = rec ((E ＠ x) ∷ pre) rest d (omega arith) (kept_e mesh i w z u) in
          ((E ＠ x) ∷ j.0, resume h z u j.1, omega arith)

  live : (n : ℕ) → Lives n
  live zero pre st x k i = let b = bound ((E ＠ x) ∷ pre) (i.unseen, i.ends.2, i.news) in absurd (omega arith)
  live (suc n) pre st x k i =
      advance n (live n) pre st x k i (look mesh pre x).0 (look mesh pre x).1 (look mesh pre x).2

  pub begun : Ended t [] [] g
  begun = live t [] [] g (omega arith) (started mesh)
