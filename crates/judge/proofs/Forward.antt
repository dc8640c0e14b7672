-- The two passes forward, for the checks 3 to 5: where the first byte stands that is no letter, and where the first
-- word ends.
--
--   first_place                        what `position` says of a test
--   want_turn want_stop want_end       counting the wanted words: a turn and the ends; wanted_le bounds the count
--   end_some end_none                  what the end of the first word says
use mathlib.Core.Bool.{Bool, false, true}
use mathlib.Core.List.{List, [], ◌∷◌}
use mathlib.Core.Path.{◌≡◌, refl}
use Prim.Native.Nat.{◌+◌, ◌-◌, ◌<◌, ◌≤◌, suc, zero, ℕ}
use native.Mathlib.Numerals.{add-one}
use native.Mathlib.Omega.{arith}
use lib.Dec.{eqb}
use lib.ListN.{drop, drop_of_length-le, get_or, length}
use lib.Seq.{drop-cons}
use Rattle.std.proofs.lemmas.Grind.{common_steps}
use Rattle.std.proofs.lemmas.Bool.Decides.{nat_tests}
use Rattle.std.specs.Bool.{then_some}
use Rattle.std.specs.List.{AllWithin, HoldsAt}
use Rattle.std.specs.Prelude.{Option, Some, None, MatchOption}
use Rattle.judge.specs.Ends.{word_end}
use Rattle.theory.proofs.LowestLaws.{lowest_at, lowest_none}
use Rattle.theory.specs.Judge.{wanted, words_end}
use Rattle.theory.specs.Letter.{letter}
use Rattle.theory.specs.Lists.{lowest}
use Rattle.theory.specs.declared.Letter.{Letter}
use Rattle.theory.specs.declared.Letter.TheVariants.{C, E, L, R, S}

pub first_place : (ok : ℕ → Bool) (s : List ℕ) (r : Option ℕ)
    → MatchOption r (AllWithin (λ b. ok b ≡ true) s 0 (length s))
    (λ i. (i < length s) × HoldsAt (λ b. ok b ≡ false) s i × AllWithin (λ b. ok b ≡ true) s 0 i)
    → r ≡ lowest (λ i. ok (get_or s i 0)) (length s)
first_place ok s None h = lowest_none (λ i. ok (get_or s i 0)) (length s) (λ k l. h k 0 (omega arith) l)
first_place ok s (Some i) h =
    lowest_at (λ i. ok (get_or s i 0)) (length s) i h.0 (λ k l. h.2 k 0 (omega arith) l) (h.1 0)

-- n words are wanted from i on
module _ (s : List ℕ) (i : ℕ) where
  pub want_turn : (n : ℕ) → i < length s → 0 < n → words_end s 1 ≡ i + words_end (drop i s) n
      → words_end s 1 ≡ i + 1 + words_end (drop (i + 1) s) (wanted (letter (get_or s i 0)) (n - 1))
  unfolding words_end
  want_turn zero h k e = absurd (omega arith)
  want_turn (suc n) h k e =
      let q : suc n - 1 ≡ n = omega arith in
      rw (add-one i, q) (omega (arith, rw (drop-cons s i 0) at e))

  pub want_stop : (n : ℕ) → n ≡ 0 → i ≤ length s → words_end s 1 ≡ i + words_end (drop i s) n → Some i ≡ word_end s
  unfolding words_end word_end
  want_stop n z h e =
      let q : words_end s 1 ≡ i = omega (arith, go (drop i s), rw z at e) in
      grind (arith, nat_tests, common_steps)
    where
      go : (t : List ℕ) → words_end t 0 ≡ 0
      go [] = refl
      go (x ∷ t) = refl

  pub want_end : (n : ℕ) → i ≤ length s → length s ≤ i → words_end s 1 ≡ i + words_end (drop i s) n
      → then_some (eqb n 0) (length s) ≡ word_end s
  unfolding words_end word_end
  want_end n h k e = go n (rw (drop_of_length-le s k) at e)
    where
      go : (n : ℕ) → words_end s 1 ≡ i + words_end [] n → then_some (eqb n 0) (length s) ≡ word_end s
      go zero e = let q : words_end s 1 ≡ length s = omega arith in grind (arith, nat_tests, common_steps)
      go (suc n) e = let q : words_end s 1 ≡ length s + 1 = omega arith in grind (arith, nat_tests, common_steps)

pub wanted_le : (a : Letter) (n : ℕ) → wanted a n ≤ n + 2
unfolding wanted
wanted_le C n = omega arith
wanted_le L n = omega arith
wanted_le E n = omega arith
wanted_le R n = omega arith
wanted_le S n = omega arith

pub end_some : (s : List ℕ) (e : ℕ) → Some e ≡ word_end s → (e ≡ words_end s 1) × (e ≤ length s)
unfolding word_end
end_some s e h = grind (arith, nat_tests, common_steps)

pub end_none : (s : List ℕ) → None ≡ word_end s → length s < words_end s 1
unfolding word_end
end_none s h = grind (arith, nat_tests, common_steps)
