-- From the walk's numbers to the mesh's: corner 3k + i of the walk is the corner of step k, turned i times (`carry`).
--
--   carry_tip -left -right   at 3k, 3k + 1, 3k + 2
--   by_walk_lem                  for a walk table it is `by_walk`
--   time_inj                 different steps are at different triangles
--   uncarry                  the inverse: carry is one to one and onto, on all numbers and on those below 3t
--   mate                     the opposite corner, in the walk's numbers
use mathlib.Core.List.{List}
use mathlib.Core.Logic.{◌⊎◌, inl, inr}
use mathlib.Core.Path.{◌∙◌, ◌≡◌, ap, refl, sym}
use Prim.Native.Nat.{◌%◌, ◌*◌, ◌+◌, ◌/◌, ◌<◌, ◌≤◌, ℕ}
use native.Mathlib.Decide.{dec_lt}
use native.Mathlib.Omega.{arith}
use lib.ListN.{get_or}
use Rattle.theory.proofs.CornerLaws.{by_place, next_left, next_moves, next_next, next_previous, next_right, next_tip, previous_moves, previous_next, three, triangle_high, triangle_left, triangle_low, triangle_next, triangle_previous, triangle_right, triangle_tip}
use Rattle.theory.proofs.WholeRun.{Walked}
use Rattle.theory.specs.Corner.{next, previous, triangle}
use Rattle.theory.specs.Mesh.{Sphere}
use Rattle.theory.specs.Renumber.{by_walk, turned}
use Rattle.theory.specs.declared.Letter.{Letter}

unfoldable pub carry : (ℕ → ℕ) → ℕ → ℕ
carry co x = turned (x % 3) (co (x / 3))

module _ (co : ℕ → ℕ) where
  carry_by : (x i k : ℕ) → x % 3 ≡ i → x / 3 ≡ k → carry co x ≡ turned i (co k)
  unfolding carry
  carry_by x i k a b = rw (a, b)

  pub carry_tip : (k : ℕ) → carry co (3 * k) ≡ co k
  unfolding turned
  carry_tip k = carry_by (3 * k) 0 k (omega arith) (omega arith)

  pub carry_left : (k : ℕ) → carry co (3 * k + 1) ≡ next (co k)
  unfolding turned
  carry_left k = carry_by (3 * k + 1) 1 k (omega arith) (omega arith)

  pub carry_right : (k : ℕ) → carry co (3 * k + 2) ≡ previous (co k)
  unfolding turned
  carry_right k = carry_by (3 * k + 2) 2 k (omega arith) (omega arith)

  pub carry_next : (x : ℕ) → carry co (next x) ≡ next (carry co x)
  carry_next = by_place (λ x. carry co (next x) ≡ next (carry co x))
      (λ k. ap (carry co) (next_tip k) ∙ carry_left k ∙ ap next (sym (carry_tip k)))
      (λ k. ap (carry co) (next_left k) ∙ carry_right k ∙ sym (next_next (co k)) ∙ ap next (sym (carry_left k)))
      (λ k. ap (carry co) (next_right k) ∙ carry_tip k ∙ sym (next_previous (co k)) ∙ ap next (sym (carry_right k)))

  pub carry_previous : (x : ℕ) → carry co (previous x) ≡ previous (carry co x)
  carry_previous x =
      sym (previous_next (carry co (previous x)))
      ∙ ap previous (sym (carry_next (previous x)) ∙ ap (carry co) (next_previous x))

  pub carry_triangle : (x : ℕ) → triangle (carry co x) ≡ triangle (co (triangle x))
  carry_triangle = by_place (λ x. triangle (carry co x) ≡ triangle (co (triangle x)))
      (λ k. ap triangle (carry_tip k) ∙ step k (3 * k) (triangle_tip k))
      (λ k. ap triangle (carry_left k) ∙ triangle_next (co k) ∙ step k (3 * k + 1) (triangle_left k))
      (λ k. ap triangle (carry_right k) ∙ triangle_previous (co k) ∙ step k (3 * k + 2) (triangle_right k))
    where
      step : (k x : ℕ) → triangle x ≡ k → triangle (co k) ≡ triangle (co (triangle x))
      step k x e = ap (λ (i : ℕ). triangle (co i)) (sym e)

pub by_walk_lem : (cs : List ℕ) (x : ℕ) → by_walk cs x ≡ carry (λ k. get_or cs k (3 * k)) x
unfolding by_walk carry
by_walk_lem cs x = refl

pub by_walk_next : (cs : List ℕ) (x : ℕ) → by_walk cs (next x) ≡ next (by_walk cs x)
by_walk_next cs x = by_walk_lem cs (next x) ∙ carry_next (λ k. get_or cs k (3 * k)) x ∙ ap next (sym (by_walk_lem cs x))

pub by_walk_tip : (cs : List ℕ) (k : ℕ) → by_walk cs (3 * k) ≡ get_or cs k (3 * k)
by_walk_tip cs k = by_walk_lem cs (3 * k) ∙ carry_tip (λ i. get_or cs i (3 * i)) k

module _ {lab opp : ℕ → ℕ} {t v g : ℕ} {mesh : Sphere lab opp t v g} {sp : ℕ → Letter} {co : ℕ → ℕ}
    (w : Walked mesh sp co) where
  triangle_end : (k : ℕ) → t ≤ k → triangle (co k) ≡ k
  triangle_end k h = ap triangle (w.co_end k h) ∙ triangle_tip k

  pub time_inj : (i j : ℕ) → triangle (co i) ≡ triangle (co j) → i ≡ j
  time_inj i j q = go (dec_lt i t) (dec_lt j t) (dec_lt i j) (dec_lt j i)
    where
      go : Dec (i < t) → Dec (j < t) → Dec (i < j) → Dec (j < i) → i ≡ j
      go (yes a) (yes b) (yes l) d = absurd ((w.facts j b).unmet (i, l, sym q))
      go (yes a) (yes b) (no l) (yes d) = absurd ((w.facts i a).unmet (j, d, q))
      go (yes a) (yes b) (no l) (no d) = omega arith
      go (yes a) (no b) l d =
          let x = triangle_low t (co i) (w.facts i a).low in
          let y = triangle_end j (omega arith) in
          absurd (omega arith)
      go (no a) (yes b) l d =
          let x = triangle_low t (co j) (w.facts j b).low in
          let y = triangle_end i (omega arith) in
          absurd (omega arith)
      go (no a) (no b) l d = let x = triangle_end i (omega arith) in let y = triangle_end j (omega arith) in omega arith

  pub carry_inj : (x y : ℕ) → carry co x ≡ carry co y → x ≡ y
  carry_inj x y q =
      go
      (three x y (time_inj (triangle x) (triangle y) (sym (carry_triangle co x) ∙ ap triangle q ∙ carry_triangle co y)))
    where
      go : (x ≡ y) ⊎ ((x ≡ next y) ⊎ (x ≡ previous y)) → x ≡ y
      go (inl e) = e
      go (inr (inl e)) = absurd (next_moves (carry co y) (sym (carry_next co y) ∙ ap (carry co) (sym e) ∙ q))
      go (inr (inr e)) = absurd (previous_moves (carry co y) (sym (carry_previous co y) ∙ ap (carry co) (sym e) ∙ q))

  -- the step at a triangle
  time : (c : ℕ) → (j : ℕ) × (triangle c ≡ triangle (co j))
  time c = go (dec_lt (triangle c) t)
    where
      go : Dec (triangle c < t) → (j : ℕ) × (triangle c ≡ triangle (co j))
      go (yes h) = let s = w.seen_all c (triangle_high t c h) in (s.0, s.2)
      go (no h) = (triangle c, sym (triangle_end (triangle c) (omega arith)))

  carry_onto : (c : ℕ) → (x : ℕ) × (carry co x ≡ c)
  carry_onto c = go (time c)
    where
      go : (j : ℕ) × (triangle c ≡ triangle (co j)) → (x : ℕ) × (carry co x ≡ c)
      go (j, q) = turn (three c (co j) q)
        where
          turn : (c ≡ co j) ⊎ ((c ≡ next (co j)) ⊎ (c ≡ previous (co j))) → (x : ℕ) × (carry co x ≡ c)
          turn (inl e) = (3 * j, carry_tip co j ∙ sym e)
          turn (inr (inl e)) = (3 * j + 1, carry_left co j ∙ sym e)
          turn (inr (inr e)) = (3 * j + 2, carry_right co j ∙ sym e)

  pub carry_low : (x : ℕ) → x < 3 * t → carry co x < 3 * t
  carry_low x h =
      let a = triangle_low t (co (triangle x)) (w.facts (triangle x) (triangle_low t x h)).low in
      triangle_high t (carry co x) (rw (carry_triangle co x) a)

  carry_back : (x : ℕ) → carry co x < 3 * t → x < 3 * t
  carry_back x h = go (dec_lt (triangle x) t)
    where
      go : Dec (triangle x < t) → x < 3 * t
      go (yes l) = triangle_high t x l
      go (no l) =
          let a = triangle_low t (carry co x) h in
          let b = carry_triangle co x ∙ triangle_end (triangle x) (omega arith) in
          absurd (omega arith)

  pub uncarry : ℕ → ℕ
  uncarry c = (carry_onto c).0

  pub carry_uncarry : (c : ℕ) → carry co (uncarry c) ≡ c
  unfolding uncarry
  carry_uncarry c = (carry_onto c).1

  pub uncarry_carry : (x : ℕ) → uncarry (carry co x) ≡ x
  uncarry_carry x = carry_inj (uncarry (carry co x)) x (carry_uncarry (carry co x))

  pub uncarry_low : (c : ℕ) → c < 3 * t → uncarry c < 3 * t
  uncarry_low c h = carry_back (uncarry c) (rw (carry_uncarry c) h)

  unfoldable pub mate : ℕ → ℕ
  mate x = uncarry (opp (carry co x))

  pub carry_mate : (x : ℕ) → carry co (mate x) ≡ opp (carry co x)
  unfolding mate
  carry_mate x = carry_uncarry (opp (carry co x))

  pub mate_mate : (x : ℕ) → mate (mate x) ≡ x
  mate_mate x = carry_inj (mate (mate x)) x (carry_mate (mate x) ∙ ap opp (carry_mate x) ∙ mesh.paired (carry co x))

  pub mate_low : (x : ℕ) → x < 3 * t → mate x < 3 * t
  unfolding mate
  mate_low x h = uncarry_low (opp (carry co x)) (mesh.inside (carry co x) (carry_low x h))

  pub mate_at : (x y : ℕ) → opp (carry co x) ≡ carry co y → mate x ≡ y
  mate_at x y h = carry_inj (mate x) y (carry_mate x ∙ h)
