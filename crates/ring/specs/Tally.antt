-- The work space while corners are counted: at u how many corners vertex u has, and n places further on the first of
-- them, n being the number of corners. A vertex number of n or more has no place; such a vertex is one too many (rule
-- 13).
--
--   tallied vs c work     the table after corner c is counted
--   First vs c u d        d is the first corner of u from c on
--   Tallied vs c work     corners c and later are counted
--   Zeros n work          the first n numbers are 0
use Rattle.std.specs.Prelude.{cond, List, ◌≢◌, ◌≡◌, ◌+◌, ◌<◌, ◌≤◌, ℕ, ltb, drop, get_or, length, set}
use Rattle.theory.proofs.Counting.{count}
use Rattle.theory.specs.Corner.{vertex}

unfoldable pub tallied : List ℕ → ℕ → List ℕ → List ℕ
tallied vs c work =
    cond (ltb (vertex vs c) (length vs))
    (set (set work (vertex vs c) (get_or work (vertex vs c) 0 + 1)) (length vs + vertex vs c) c) work

pub record First (vs : List ℕ) (c u d : ℕ) : Type 0 where
  pub later : c ≤ d
  pub low : d < length vs
  pub is : vertex vs d ≡ u
  pub before : (e : ℕ) → c ≤ e → e < d → vertex vs e ≢ u

pub record Tallied (vs : List ℕ) (c : ℕ) (work : List ℕ) : Type 0 where
  pub counts : (u : ℕ) → u < length vs → get_or work u 0 ≡ count u (drop c vs)
  pub firsts : (u : ℕ) → u < length vs → 1 ≤ count u (drop c vs) → First vs c u (get_or work (length vs + u) 0)

abbrev pub Zeros : ℕ → List ℕ → Type 0
Zeros n work = (u : ℕ) → u < n → get_or work u 0 ≡ 0
