-- The answer, check by check, as the code finds it: a check that is broken is the answer, and one that is passed leaves
-- it to the later ones, which ask what it has shown of every place.
--
--   each_some each_none                a check at each place, by the first that breaks it or by none
--   place_few                          such a place fits 32 bits
--   pairing_found surface_found        what 10 and 11 leave to the later checks
--   judging                            all of these, with the laws of `first_broken`
use mathlib.Core.Bool.{Bool, true}
use mathlib.Core.List.{List, ◌∷◌}
use mathlib.Core.Path.{◌∙◌, ◌≡◌, ap, sym}
use Prim.Native.Nat.{◌<◌, ◌≤◌, ℕ}
use native.Mathlib.Omega.{arith}
use lib.ListN.{length}
use Rattle.std.specs.Prelude.{MatchOption, None, Option, Some}
use Rattle.theory.proofs.AnswerLaws.{each_passed, each_stops, none_broken, whole_passed, whole_stops}
use Rattle.theory.proofs.LeastLaws.{least_below}
use Rattle.theory.proofs.LowestLaws.{lowest_all, lowest_some}
use Rattle.theory.proofs.MeshLaws.{Shape, shape_of, opposite_low, opposite_twice, surface_of}
use Rattle.theory.proofs.SwingLaws.{Pairing, Surface}
use Rattle.theory.specs.Answer.{Rung, each, first_broken, refused}
use Rattle.theory.specs.Lists.{lowest}
use Rattle.theory.specs.Mesh.{glued_at, paired_at}
use Rattle.theory.specs.Answer.{Answer}

module _ (n : ℕ) (ok : ℕ → Bool) (k : ℕ) (rs : List Rung) (a : Answer) where
  pub each_some : (x : ℕ) → Some x ≡ lowest ok k → first_broken (each n ok k ∷ rs) a ≡ refused n x
  each_some x e =
      let h = lowest_some ok k x (sym e) in
      each_stops n ok k rs a (omega arith) ∙ ap (refused n) (sym h.0)

  pub each_none : None ≡ lowest ok k → first_broken (each n ok k ∷ rs) a ≡ first_broken rs a
  each_none e = each_passed n ok k rs a (lowest_all ok k (sym e))

  pub place_few : (r : Option ℕ) → r ≡ lowest ok k → k ≤ 4294967296 → MatchOption r (Unit {0}) (λ i. i < 4294967296)
  place_few (Some x) e h = omega (arith, lowest_some ok k x (sym e))
  place_few None e h = tt

passed : (ok : ℕ → Bool) (k : ℕ) → None ≡ lowest ok k → (i : ℕ) → i < k → ok i ≡ true
passed ok k e i h = least_below ok k i (omega (arith, lowest_all ok k (sym e)))

module _ (vs os : List ℕ) (s : Shape vs os) (p : None ≡ lowest (paired_at os) (length os)) where
  pairs : (c : ℕ) → c < length vs → paired_at os c ≡ true
  pairs c h = passed (paired_at os) (length os) p c (omega arith)

  pub pairing_found : Pairing os
  pairing_found =
      record {
        thirds = rw (← s.same) s.thirds;
        inside = opposite_low vs os s pairs;
        paired = opposite_twice vs os s pairs;
      }

  pub surface_found : None ≡ lowest (glued_at vs os) (length vs) → Surface vs os
  surface_found q = surface_of vs os s pairs (passed (glued_at vs os) (length vs) q)

pub ruleset judging = (
  each_some,
  each_none,
  whole_passed,
  whole_stops,
  none_broken,
  place_few,
  shape_of,
  pairing_found,
  surface_found,
)
