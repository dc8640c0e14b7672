-- D12, one step: the letter that the walk finds at corner 3k, and what it has visited and marked behind it.
--
--   Visited k nv pre        the steps pre visited the triangles below k and marked the vertices below nv
--   visit_new visit_old     it is kept by a step at 3k, with a new tip and with an old one
--   letter_c letter_sides   the letter at 3k, by the tip's number and by the opposites of the two sides
--   third_first             the third of three tests, put first
--   near late               a side that leads back, and one that leads on
use mathlib.Core.Bool.{Bool, ◌||◌, false, true}
use mathlib.Core.List.{List, ◌∷◌}
use mathlib.Core.Path.{◌∙◌, ◌≡◌, ap, refl}
use Prim.Native.Nat.{◌*◌, ◌+◌, ◌<◌, ◌≤◌, ℕ}
use native.Mathlib.Decide.{dec_lt, ℕ_discrete}
use native.Mathlib.Omega.{arith}
use lib.Dec.{eqb, ltb}
use borrow.Author.Tests.{eq-eqb, le-ltb, lt-ltb, ne_eqb}
use Rattle.theory.proofs.CornerLaws.{next_tip, previous_tip, triangle_tip}
use Rattle.theory.specs.Corner.{next, previous, triangle}
use Rattle.theory.specs.Lists.{mem}
use Rattle.theory.specs.Walk.{Step, ◌＠◌, by_sides, letter_at, marks, seen, tips}
use Rattle.theory.specs.declared.Letter.{Letter}
use Rattle.theory.specs.declared.Letter.TheVariants.{C, E}

or_ltb : (y n : ℕ) → (eqb y n || ltb y n) ≡ ltb y (n + 1)
or_ltb y n = go (ℕ_discrete y n) (dec_lt y n)
  where
    go : Dec (y ≡ n) → Dec (y < n) → (eqb y n || ltb y n) ≡ ltb y (n + 1)
    go (yes p) q = rw (eq-eqb y n p, lt-ltb y (n + 1) (omega arith))
    go (no p) (yes q) = rw (ne_eqb y n p, lt-ltb y n q, lt-ltb y (n + 1) (omega arith))
    go (no p) (no q) = rw (ne_eqb y n p, le-ltb y n (omega arith), le-ltb y (n + 1) (omega arith))

pub third_first : (x y z u : Bool) → (x || (y || (z || u))) ≡ (z || (x || (y || u)))
third_first true y true u = refl
third_first true y false u = refl
third_first false true true u = refl
third_first false true false u = refl
third_first false false true u = refl
third_first false false false u = refl

module _ (lab : ℕ → ℕ) (g : ℕ) where
  abbrev pub Visited : ℕ → ℕ → List Step → Type 0
  Visited k nv pre = ((x : ℕ) → seen pre x ≡ ltb (triangle x) k) × ((y : ℕ) → mem y (marks lab g pre) ≡ ltb y nv)

  seen_more : (k nv : ℕ) (pre : List Step) (a : Letter) → Visited k nv pre → (x : ℕ)
      → seen ((a ＠ (3 * k)) ∷ pre) x ≡ ltb (triangle x) (k + 1)
  unfolding seen
  seen_more k nv pre a h x = rw (triangle_tip k, h.0 x) (or_ltb (triangle x) k)

  pub visit_new : (k nv : ℕ) (pre : List Step) → lab (3 * k) ≡ nv → Visited k nv pre
      → Visited (k + 1) (nv + 1) ((C ＠ (3 * k)) ∷ pre)
  unfolding mem marks tips
  visit_new k nv pre q h = (
    seen_more k nv pre C h,
    λ y. third_first (eqb y (lab (next g))) (eqb y (lab (previous g))) (eqb y (lab (3 * k))) (mem y (tips lab pre))
        ∙ ap (λ (b : Bool). eqb y (lab (3 * k)) || b) (h.1 y)
        ∙ ap (λ (m : ℕ). eqb y m || ltb y nv) q
        ∙ or_ltb y nv,
  )

  -- a letter that marks nothing
  pub visit_old : (a : Letter) (k nv : ℕ) (pre : List Step) → tips lab ((a ＠ (3 * k)) ∷ pre) ≡ tips lab pre
      → Visited k nv pre → Visited (k + 1) nv ((a ＠ (3 * k)) ∷ pre)
  unfolding marks
  visit_old a k nv pre e h = (seen_more k nv pre a h, λ y. rw e (h.1 y))

  module _ (opp : ℕ → ℕ) where
    pub letter_c : (k nv : ℕ) (pre : List Step) → Visited k nv pre → lab (3 * k) ≡ nv
        → letter_at lab opp g pre (3 * k) ≡ C
    unfolding letter_at
    letter_c k nv pre h q = rw (h.1 (lab (3 * k)), le-ltb (lab (3 * k)) nv (omega arith))

    -- an old tip: by the opposites of the left and of the right side
    pub letter_sides : (k nv y z : ℕ) (pre : List Step) → Visited k nv pre → lab (3 * k) < nv → opp (3 * k + 2) ≡ y
        → opp (3 * k + 1) ≡ z
        → letter_at lab opp g pre (3 * k) ≡ by_sides (ltb (triangle y) (k + 1)) (ltb (triangle z) (k + 1))
    unfolding letter_at
    letter_sides k nv y z pre h q i j =
        let old = h.1 (lab (3 * k)) ∙ lt-ltb (lab (3 * k)) nv q in
        let l = seen_more k nv pre E h (opp (previous (3 * k))) in
        let r = seen_more k nv pre E h (opp (next (3 * k))) in
        rw (old, l, r, previous_tip k, i, next_tip k, j)

-- a corner up to this triangle's tip; the tip of a later one
pub near : (x k : ℕ) → x ≤ 3 * k → ltb (triangle x) (k + 1) ≡ true
near x k h = lt-ltb (triangle x) (k + 1) (omega arith)

pub late : (m k : ℕ) → k + 1 ≤ m → ltb (triangle (3 * m)) (k + 1) ≡ false
late m k h = rw triangle_tip (le-ltb m (k + 1) h)
