-- The search in a work space: what a store does to it, and the loop.
--
--   met_new met_old              meeting a triangle
--   Searching, begun again fewer waiting finished         the loop
--   agrees                       a table that is exact gives rule 14's answer
use mathlib.Core.Bool.{not, true}
use mathlib.Core.List.{List, [], ◌∷◌}
use mathlib.Core.Path.{◌∙◌, ◌≡◌, ap, subst, sym}
use Prim.Native.Nat.{◌*◌, ◌+◌, ◌-◌, ◌/◌, ◌<◌, ◌≤◌, ℕ}
use native.Mathlib.Numerals.{add-one}
use native.Mathlib.Omega.{arith}
use lib.Dec.{eqb}
use lib.ListN.{drop, drop_of_length-le, get_or, length, replicate, set}
use lib.Seq.{drop-cons}
use borrow.Author.Tests.{eqb-false, ne_eqb}
use Rattle.lent.proofs.Stacks.{push_set}
use Rattle.mesh.proofs.Searching.{Good, ended, falls, started, top_in, turned}
use Rattle.mesh.proofs.Touching.{owed, touch_new, touch_old}
use Rattle.mesh.specs.Search.{Closed, Exact, Search, marked, search_at, spread, touch}
use Rattle.theory.proofs.ReachLaws.{reached_sound, reached_whole}
use Rattle.theory.proofs.SwingLaws.{Pairing}
use Rattle.std.proofs.lemmas.Bool.{not-true}
use Rattle.theory.proofs.TestLaws.{same_test}
use Rattle.theory.specs.Corner.{triangle}
use Rattle.theory.specs.Lists.{mem}
use Rattle.theory.specs.Mesh.{reached, reached_at}
use Rattle.theory.specs.Word.{size}

module _ (seen stack : List ℕ) (p x : ℕ) where
  pub met_new : get_or seen x 0 ≡ 0 → 0 < p → p ≤ length stack
      → search_at (set seen x 1) (set stack (p - 1) x) (p - 1) ≡ touch x (search_at seen stack p)
  met_new e low high =
      ap (λ (l : List ℕ). record { seen = set seen x 1; stack = l }) (push_set stack p x low high)
      ∙ sym (touch_new x (search_at seen stack p) e)

  pub met_old : (get_or seen x 0 ≡ 0 → ⊥) → search_at seen stack p ≡ touch x (search_at seen stack p)
  met_old n = sym (touch_old x (search_at seen stack p) n)

pub ruleset meeting = (met_new, met_old)

-- ---- the loop

pub record Searching (t : ℕ) (os : List ℕ) (a : ℕ) (seen stack : List ℕ) (p : ℕ) : Type 0 where
  pub closed : Closed t os
  pub within : p ≤ length stack
  pub good : Good t os a (search_at seen stack p)

module _ (t : ℕ) (os : List ℕ) (a : ℕ) (seen stack : List ℕ) (p : ℕ) (v : Searching t os a seen stack p) where
  module _ (more : p < length stack) where
    top_first : drop p stack ≡ get_or stack p 0 ∷ drop (p + 1) stack
    top_first = rw (add-one p) (drop-cons stack p 0 more)

    at_top : Good t os a (record { seen = seen; stack = get_or stack p 0 ∷ drop (p + 1) stack })
    at_top = subst (λ (l : List ℕ). Good t os a (record { seen = seen; stack = l })) top_first v.good

    pub waiting : get_or stack p 0 < t
    waiting = top_in t os a v.closed seen (drop (p + 1) stack) (get_or stack p 0) at_top

    module _ (seen' stack' : List ℕ) (r : ℕ)
        (e : search_at seen' stack' r ≡ spread os (get_or stack p 0) (search_at seen stack (p + 1))) where
      pub again : r ≤ length stack' → Searching t os a seen' stack' r
      again within =
          record {
            closed = v.closed;
            within = within;
            good =
                subst (Good t os a) (sym e)
                (turned t os a v.closed seen (drop (p + 1) stack) (get_or stack p 0) at_top);
          }

      pub fewer : owed (search_at seen' stack' r) < owed (search_at seen stack p)
      fewer =
          subst (λ (y : Search). owed y < owed (search_at seen stack p)) (sym e)
          (subst (λ (l : List ℕ). owed (spread os (get_or stack p 0) (search_at seen stack (p + 1))) < owed
          (record { seen = seen; stack = l })) (sym top_first)
          (falls t os a v.closed seen (drop (p + 1) stack) (get_or stack p 0) at_top))

  pub finished : length stack ≤ p → Exact os a seen
  finished h = ended t os a seen (drop p stack) (drop_of_length-le stack h) v.good

pub begun : (t : ℕ) (os : List ℕ) (a : ℕ) (seen stack seen' stack' : List ℕ) (p r : ℕ) → Pairing os
    → t ≡ length os / 3 → a < t → seen ≡ replicate t 0 → length stack ≤ p → r ≤ length stack'
    → search_at seen' stack' r ≡ touch a (search_at seen stack p) → Searching t os a seen' stack' r
begun t os a seen stack seen' stack' p r pair size h z ep l e =
    let d : drop p stack ≡ [] = drop_of_length-le stack {i = p} ep in
    record {
      closed = record { corners = omega (arith, pair.thirds); inside = pair.inside };
      within = l;
      good =
          subst (Good t os a) (sym (e ∙ ap (λ (y : List ℕ). touch a (record { seen = seen; stack = y })) d))
          (started t os a seen h z);
    }

-- ---- rule 14 from the marks

pub agrees : (t : ℕ) (os : List ℕ) (g : ℕ) (seen : List ℕ) → Pairing os → length os ≡ 3 * t → g < length os
    → Exact os (triangle g) seen → (k : ℕ) → k < t → marked seen k ≡ reached_at os t g k
unfolding reached_at
agrees t os g seen pair size h exact k l = same_test (marked seen k) (mem k (reached os t t (triangle g))) whole sound
  where
    whole : marked seen k ≡ true → mem k (reached os t t (triangle g)) ≡ true
    whole m =
        reached_whole os t (triangle g) pair.paired (λ c q. omega (arith, pair.inside c (omega arith))) size
        (omega arith) (exact.sound k (eqb-false (get_or seen k 0) 0 (not-true (eqb (get_or seen k 0) 0) m)))

    sound : mem k (reached os t t (triangle g)) ≡ true → marked seen k ≡ true
    sound m = ap not (ne_eqb (get_or seen k 0) 0 (exact.whole k (reached_sound os t (triangle g) pair.paired t k m)))
