-- Laws of the work table: what a store does to what it says of the steps.
--
--   on_set on_other      a store turns its own entry on and leaves the others
--   off_is on_is         the test of an entry, from what was read
--   visit                the triangle of a further step is visited
--   visited_past         a store past the triangles leaves the visited ones
--   marked_past mark     a store outside the vertices leaves the marks; one at the tip of a C makes the mark
--   cleared_off          what is cleared is off
--   no_visits gate       a table that is off, with the gate's two ends marked, stands for no steps
--   kept_low kept_high kept_more    what is kept from 3t on: stores below and above leave it, one at its end is one
--                                   more
use mathlib.Core.Bool.{Bool, ◌||◌, false, true}
use mathlib.Core.List.{List, [], ◌++◌, ◌∷◌}
use mathlib.Core.Logic.{◌≢◌, ◌⊎◌, inl, inr}
use mathlib.Core.Path.{◌∙◌, ◌≡◌, ap, refl, sym}
use Prim.Native.Nat.{◌*◌, ◌+◌, ◌<◌, ◌≤◌, suc, ℕ}
use native.Mathlib.Decide.{ℕ_discrete}
use native.Mathlib.Omega.{arith}
use lib.Dec.{eqb}
use lib.ListN.{get_or-append, drop, get_or, get_or-replicate, length, length-replicate, length-set, replicate, set, take}
use lib.Seq.{drop-append-le, drop-set-lt, get_or-set_other, get_or-set_same, length-take-le, take-set-le, take-set-lt, take-suc-set}
use borrow.Author.Tests.{eq-eqb, ne_eqb}
use Rattle.theory.proofs.WalkLetters.{third_first}
use Rattle.theory.specs.Corner.{next, previous, triangle, vertex}
use Rattle.theory.specs.Lists.{mem}
use Rattle.theory.specs.Walk.{Step, ◌＠◌, marks, seen, tips}
use Rattle.theory.specs.declared.Letter.{Letter}
use Rattle.theory.specs.declared.Letter.TheVariants.{C}
use Rattle.walk.specs.Table.{MarkedIn, SeenIn, gate_in, kept_to, on}

module _ (work : List ℕ) (i : ℕ) where
  pub on_other : (j x : ℕ) → j ≢ i → on (set work i x) j ≡ on work j
  on_other j x h = rw (get_or-set_other work i j x 0 h)

  pub off_is : get_or work i 0 ≡ 0 → on work i ≡ false
  off_is h = rw h

  pub on_is : get_or work i 0 ≢ 0 → on work i ≡ true
  on_is h = rw (ne_eqb (get_or work i 0) 0 h)

  pub on_set : (j : ℕ) → i < length work → on (set work i 1) j ≡ (eqb j i || on work j)
  on_set j h = go (ℕ_discrete j i)
    where
      go : Dec (j ≡ i) → on (set work i 1) j ≡ (eqb j i || on work j)
      go (yes e) = rw (e, get_or-set_same work i 1 0 h, eq-eqb i i refl)
      go (no e) = rw (ne_eqb j i e) (on_other j 1 e)

-- what is cleared is off
pub cleared_off : (n : ℕ) (work : List ℕ) (i : ℕ) → i < n → on (replicate n 0 ++ drop n work) i ≡ false
cleared_off n work i h =
    let z : List ℕ = replicate n 0 in
    let long : length z ≡ n = length-replicate {A = ℕ} n 0 in
    off_is (z ++ drop n work) i (get_or-append z (drop n work) 0 i (omega arith) ∙ get_or-replicate n i 0 0 h)

eqb_add : (t u a : ℕ) → eqb (t + u) (t + a) ≡ eqb u a
eqb_add t u a = go (ℕ_discrete u a)
  where
    go : Dec (u ≡ a) → eqb (t + u) (t + a) ≡ eqb u a
    go (yes e) = eq-eqb (t + u) (t + a) (omega arith) ∙ sym (eq-eqb u a e)
    go (no e) = ne_eqb (t + u) (t + a) (λ q. e (omega arith)) ∙ sym (ne_eqb u a e)

module _ (t : ℕ) (steps : List Step) (work : List ℕ) (m : SeenIn t steps work) where
  pub visit : (a : Letter) (c : ℕ) → c < 3 * t → t ≤ length work → SeenIn t ((a ＠ c) ∷ steps) (set work (triangle c) 1)
  unfolding seen
  visit a c h room d b =
      on_set work (triangle c) (triangle d) (omega arith)
      ∙ ap (λ (y : Bool). eqb (triangle d) (triangle c) || y) (m d b)

  pub visited_past : (i x : ℕ) → t ≤ i → SeenIn t steps (set work i x)
  visited_past i x h d b = on_other work i (triangle d) x (λ e. omega arith) ∙ m d b

module _ (vs : List ℕ) (t v g : ℕ) (steps : List Step) (work : List ℕ) (m : MarkedIn vs t v g steps work) where
  pub marked_past : (i x : ℕ) → (i < t) ⊎ (t + v ≤ i) → MarkedIn vs t v g steps (set work i x)
  marked_past i x h u b = on_other work i (t + u) x (away h) ∙ m u b
    where
      away : (i < t) ⊎ (t + v ≤ i) → t + u ≢ i
      away (inl k) e = omega arith
      away (inr k) e = omega arith

  pub mark : (c : ℕ) → vertex vs c < v → t + v ≤ length work
      → MarkedIn vs t v g ((C ＠ c) ∷ steps) (set work (t + vertex vs c) 1)
  unfolding marks tips mem
  mark c h room u b =
      rw (on_set work (t + vertex vs c) (t + u) (omega arith), eqb_add t u (vertex vs c), m u b)
      (sym (third_first (eqb u (vertex vs (next g))) (eqb u (vertex vs (previous g))) (eqb u (vertex vs c))
      (mem u (tips (vertex vs) steps))))

-- ---- no step is made

swap : (a b : Bool) → (b || (a || false)) ≡ (a || (b || false))
swap true true = refl
swap true false = refl
swap false true = refl
swap false false = refl

module _
    (vs : List ℕ)
    (t v g : ℕ)
    (work : List ℕ)
    (off : (i : ℕ) → i < t + v → on work i ≡ false)
    (room : t + v ≤ length work)
    (a : vertex vs (next g) < v)
    (b : vertex vs (previous g) < v) where
  -- after the first store
  abbrev half : List ℕ
  half = set work (t + vertex vs (next g)) 1

  longer : length half ≡ length work
  longer = length-set work (t + vertex vs (next g)) 1

  pub no_visits : SeenIn t [] (gate_in vs t g work)
  unfolding seen
  no_visits =
      visited_past t [] half
      (visited_past t [] work (λ d h. off (triangle d) (omega arith)) (t + vertex vs (next g)) 1 (omega arith))
      (t + vertex vs (previous g)) 1 (omega arith)

  pub gate : MarkedIn vs t v g [] (gate_in vs t g work)
  unfolding marks tips mem
  gate u h =
      rw (
        on_set half (t + vertex vs (previous g)) (t + u) (omega (arith, longer)),
        on_set work (t + vertex vs (next g)) (t + u) (omega arith),
        eqb_add t u (vertex vs (previous g)),
        eqb_add t u (vertex vs (next g)),
        off (t + u) (omega arith),
      )
      (swap (eqb u (vertex vs (next g))) (eqb u (vertex vs (previous g))))

-- ---- what is kept from 3t on

module _ (t k : ℕ) (work : List ℕ) (i x : ℕ) where
  pub kept_low : i < 3 * t → kept_to t k (set work i x) ≡ kept_to t k work
  kept_low h =
      ap (λ (y : List ℕ). drop (3 * t) y) (take-set-lt (3 * t + k) work i x (omega arith))
      ∙ drop-set-lt (3 * t) (take (3 * t + k) work) i x h

  pub kept_high : 3 * t + k ≤ i → kept_to t k (set work i x) ≡ kept_to t k work
  kept_high h = ap (λ (y : List ℕ). drop (3 * t) y) (take-set-le (3 * t + k) work i x h)

pub kept_more : (t k : ℕ) (work : List ℕ) (x : ℕ) → 3 * t + k < length work
    → kept_to t (k + 1) (set work (3 * t + k) x) ≡ kept_to t k work ++ (x ∷ [])
kept_more t k work x h =
    let m = 3 * t in
    let e : m + (k + 1) ≡ suc (m + k) = omega arith in
    let l = length-take-le (m + k) work (omega arith) in
    rw e
    (ap (λ (y : List ℕ). drop m y) (take-suc-set work (m + k) x h)
    ∙ drop-append-le m (take (m + k) work) (x ∷ []) (omega arith))
