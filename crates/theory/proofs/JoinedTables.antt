-- Tables whose every corner is in one join: settled by the joins, in whatever order they are made, over any contents.
--
--   joined_append     joins after joins
--   join_entry        an end of a join has its partner as its entry
--   ends_low          the ends of such joins are corners of the table
--   joined_all        such a table holds all its joins
--   settled           two tables that hold the same joins have the same entry at each of their ends
use mathlib.Core.List.{List, [], ◌++◌, ◌∷◌}
use mathlib.Core.Path.{◌∙◌, ◌≡◌, refl, sym}
use Prim.Native.Nat.{◌*◌, ◌<◌, ◌≤◌, ℕ}
use native.Mathlib.Decide.{dec_lt, ℕ_discrete}
use native.Mathlib.Omega.{arith}
use lib.ListN.{get_or-eq_default, get_or, length}
use Rattle.theory.proofs.Chain.{Each}
use Rattle.theory.proofs.Counting.{bit_off, count, tris, tris_off, tris_once}
use Rattle.theory.proofs.JoinLaws.{Join, joined_at}
use Rattle.std.proofs.lemmas.List.{get_or_default}
use Rattle.theory.proofs.Opens.{ends}
use Rattle.theory.specs.Corner.{opposite}
use Rattle.theory.specs.Tables.{Pair, ◌⇌◌, join_at, joined}

pub joined_append : (i j : List Pair) (os : List ℕ) → joined (i ++ j) os ≡ joined j (joined i os)
unfolding joined
joined_append [] j os = refl
joined_append ((a ⇌ b) ∷ i) j os = joined_append i j (join_at a b os)

pub join_entry : (os : List ℕ) (a b : ℕ) → Join (opposite os) a b → get_or os a 0 ≡ b
join_entry os a b h = go (dec_lt a (length os))
  where
    go : Dec (a < length os) → get_or os a 0 ≡ b
    go (yes l) = get_or_default os a 0 a l ∙ h.0
    go (no l) = absurd (h.2 (sym (get_or-eq_default os a (omega arith)) ∙ h.0))

module _ (n : ℕ) (js : List Pair) (ends-are : (x : ℕ) → count x (ends js) ≡ count x (tris 0 n)) where
  pub ends_low : (x : ℕ) → 1 ≤ count x (ends js) → x < 3 * n
  ends_low x m = go (dec_lt x (3 * n))
    where
      go : Dec (x < 3 * n) → x < 3 * n
      go (yes d) = d
      go (no d) = let a = ends-are x in let z = tris_off x n 0 (omega arith) in absurd (omega arith)

  pub joined_all : (os : List ℕ) → length os ≡ 3 * n → Each (Join (opposite (joined js os))) js
  joined_all os h =
      let once : (x : ℕ) → count x (ends js) ≤ 1 = λ x. let a = ends-are x in let b = tris_once x n 0 in omega arith in
      joined_at js os once (λ x m. let l = ends_low x m in omega arith)

pub settled : (js : List Pair) (os os' : List ℕ) (x : ℕ) → Each (Join (opposite os)) js → Each (Join (opposite os')) js
    → 1 ≤ count x (ends js) → opposite os x ≡ opposite os' x
unfolding ends count
settled [] os os' x h i m = absurd (omega arith)
settled ((a ⇌ b) ∷ js) os os' x h i m = go (ℕ_discrete x a) (ℕ_discrete x b) (settled js os os' x h.1 i.1)
  where
    go : Dec (x ≡ a) → Dec (x ≡ b) → (1 ≤ count x (ends js) → opposite os x ≡ opposite os' x)
        → opposite os x ≡ opposite os' x
    go (yes q) d f = rw q (h.0.0 ∙ sym i.0.0)
    go (no n) (yes q) f = rw q (h.0.1 ∙ sym i.0.1)
    go (no n) (no n') f = let u = bit_off x a n in let u' = bit_off x b n' in f (omega arith)
