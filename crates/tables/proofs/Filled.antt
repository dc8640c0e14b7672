-- A table of vertices filled from its front: up to corner i the vertices of vt, from there on what stood in vs₀.
--
--   mix i          that table
--   after_mix ..   a read through a facing corner that is filled already
--   here k nv      the machine before triangle k: the table up to there, and the ends of triangle k
--   stored_mix ..  a triangle with the right tip; the machine continues at right, at left
--   resumed_here   it resumes where a tip corner is joined to an earlier triangle
use mathlib.Core.List.{List, ◌++◌, append-nil}
use mathlib.Core.Path.{◌∙◌, ◌≡◌, ap, refl, sym}
use Prim.Native.Nat.{◌*◌, ◌+◌, ◌<◌, ◌≤◌, suc, ℕ}
use native.Mathlib.Numerals.{add-one}
use native.Mathlib.Omega.{arith}
use lib.ListN.{get_or-append, drop, drop_of_length-le, get_or, length, set, take}
use lib.Seq.{append_snoc, drop-cons, get_or-take, length-take-le, set_at, take-length, take-suc}
use Rattle.tables.specs.Fill.{Fill, after_facing, at_left, at_right, before_facing, resumed, row, stored}
use Rattle.theory.proofs.CornerLaws.{next_left, next_low, next_right, next_tip, previous_left, previous_low, previous_right, previous_tip}
use Rattle.theory.proofs.JoinLaws.{Join}
use Rattle.theory.proofs.JoinedTables.{join_entry}
use Rattle.theory.proofs.Rows.{Agree}
use Rattle.theory.specs.Corner.{next, opposite, previous, vertex}

abbrev pub filled : List ℕ → ℕ → ℕ → ℕ → Fill
filled us l r n = record { vs = us; left = l; right = r; new = n }

module _ (vt vs₀ ot : List ℕ) (same : length vs₀ ≡ length vt) where
  unfoldable pub mix : ℕ → List ℕ
  mix i = take i vt ++ drop i vs₀

  mix_low : (n i : ℕ) → i < n → n ≤ length vt → get_or (mix n) i 0 ≡ get_or vt i 0
  unfolding mix
  mix_low n i h m =
      get_or-append (take n vt) (drop n vs₀) 0 i (rw (length-take-le n vt m) h) ∙ get_or-take n vt i 0 h

  mix_set : (n : ℕ) → n < length vt → set (mix n) n (get_or vt n 0) ≡ mix (n + 1)
  unfolding mix
  mix_set n h =
      ap (λ (y : List ℕ). set (take n vt ++ y) n (get_or vt n 0)) (drop-cons vs₀ n 0 (omega arith))
      ∙ set_at (take n vt) (get_or vs₀ n 0) (drop (suc n) vs₀) (get_or vt n 0) n (length-take-le n vt (omega arith))
      ∙ sym (rw (add-one n, take-suc vt n 0 h) (append_snoc (take n vt) (get_or vt n 0) (drop (suc n) vs₀)))

  pub mix_none : mix 0 ≡ vs₀
  unfolding mix
  mix_none = refl

  pub mix_all : (n : ℕ) → n ≡ length vt → mix n ≡ vt
  unfolding mix
  mix_all n q = rw (q, take-length vt, drop_of_length-le vs₀ {i = length vt} (omega arith)) (append-nil vt)

  row_mix : (k : ℕ) → 3 * (k + 1) ≤ length vt
      → row k (vertex vt (3 * k)) (vertex vt (3 * k + 1)) (vertex vt (3 * k + 2)) (mix (3 * k)) ≡ mix (3 * (k + 1))
  unfolding row
  row_mix k h =
      let a : 3 * k + 1 + 1 ≡ 3 * k + 2 = omega arith in
      let b : 3 * k + 2 + 1 ≡ 3 * (k + 1) = omega arith in
      let l = vertex vt (3 * k + 1) in
      let r = vertex vt (3 * k + 2) in
      ap (λ (y : List ℕ). set (set y (3 * k + 1) l) (3 * k + 2) r) (mix_set (3 * k) (omega arith))
      ∙ ap (λ (y : List ℕ). set y (3 * k + 2) r) (mix_set (3 * k + 1) (omega arith) ∙ ap mix a)
      ∙ mix_set (3 * k + 2) (omega arith) ∙ ap mix b

  module _ (k x y : ℕ) (j : Join (opposite ot) x y) (h : y < 3 * k) (m : 3 * k ≤ length vt) where
    pub after_mix : after_facing ot (mix (3 * k)) x ≡ vertex vt (next y)
    unfolding after_facing
    after_mix = rw (join_entry ot x y j) (mix_low (3 * k) (next y) (next_low k y h) m)

    pub before_mix : before_facing ot (mix (3 * k)) x ≡ vertex vt (previous y)
    unfolding before_facing
    before_mix = rw (join_entry ot x y j) (mix_low (3 * k) (previous y) (previous_low k y h) m)

  -- the machine before triangle k
  abbrev pub here : ℕ → ℕ → Fill
  here k nv = filled (mix (3 * k)) (vertex vt (3 * k + 1)) (vertex vt (3 * k + 2)) nv

  fill_same : (us us' : List ℕ) (l l' r r' n : ℕ) → us ≡ us' → l ≡ l' → r ≡ r' → filled us l r n ≡ filled us' l' r' n
  fill_same us us' l l' r r' n p q e = rw (p, q, e) refl

  module _ (k nv x : ℕ) (is : x ≡ vertex vt (3 * k)) (m : 3 * (k + 1) ≤ length vt) where
    pub stored_mix : stored k x (here k nv) ≡ mix (3 * (k + 1))
    stored_mix = rw is (row_mix k m)

    pub at_right_lem : (n : ℕ) → Agree (vertex vt) (3 * k + 1) (3 * (k + 1))
        → at_right k x n (here k nv) ≡ here (k + 1) n
    unfolding at_right
    at_right_lem n g =
        fill_same (stored k x (here k nv)) (mix (3 * (k + 1))) x (vertex vt (3 * (k + 1) + 1)) (vertex vt (3 * k + 2))
        (vertex vt (3 * (k + 1) + 2)) n stored_mix (is ∙ rw (previous_left, next_tip) at g.1)
        (rw (next_left, previous_tip) at g.0)

    pub at_left_lem : Agree (vertex vt) (3 * k + 2) (3 * (k + 1)) → at_left k x (here k nv) ≡ here (k + 1) nv
    unfolding at_left
    at_left_lem g =
        fill_same (stored k x (here k nv)) (mix (3 * (k + 1))) (vertex vt (3 * k + 1)) (vertex vt (3 * (k + 1) + 1)) x
        (vertex vt (3 * (k + 1) + 2)) nv stored_mix (rw (previous_right, next_tip) at g.1)
        (is ∙ rw (next_right, previous_tip) at g.0)

  pub resumed_here : (a j n : ℕ) → a < 3 * j → 3 * j ≤ length vt → Join (opposite ot) a (3 * j)
      → Agree (vertex vt) a (3 * j) → resumed j ot (mix (3 * j)) n ≡ here j n
  unfolding resumed
  resumed_here a j n h m o g =
      let round : Join (opposite ot) (3 * j) a = (o.1, o.0, λ q. o.2 (sym q)) in
      let us = mix (3 * j) in
      fill_same us us (before_facing ot us (3 * j)) (vertex vt (3 * j + 1)) (after_facing ot us (3 * j))
      (vertex vt (3 * j + 2)) n refl (before_mix j (3 * j) a round h m ∙ rw next_tip at g.1)
      (after_mix j (3 * j) a round h m ∙ rw previous_tip at g.0)
