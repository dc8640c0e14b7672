-- Lists of checks of which none is broken: then, and only then, the answer is the one for done.
--
--   Passed rs, Named rs        no rung is broken; no rung has the number of done
--   passed_done done_passed    the answer of such a list, and back from its number
--   each_passes passes_each whole_passes passes_whole    one rung
use mathlib.Core.Bool.{Bool, false, true}
use mathlib.Core.List.{List, [], ◌∷◌}
use mathlib.Core.Logic.{◌⊎◌, inl, inr}
use mathlib.Core.Path.{◌∙◌, ◌≡◌, ap, sym}
use Prim.Native.Nat.{◌<◌, ◌≤◌, ℕ}
use native.Mathlib.Decide.{dec_lt}
use native.Mathlib.Omega.{arith}
use Rattle.theory.proofs.AnswerLaws.{none_broken, rung_passed, rung_stops}
use Rattle.theory.proofs.LeastLaws.{least_all, least_below}
use Rattle.std.proofs.lemmas.Bool.{cases_Bool}
use Rattle.theory.specs.Answer.{Rung, each, first_broken, whole}
use Rattle.theory.specs.Answer.{Answer}

abbrev pub Passed : List Rung → Type 0
Passed [] = Unit {0}
Passed (r ∷ rs) = (r.limit ≤ r.place) × Passed rs

abbrev pub Named : List Rung → Type 0
Named [] = Unit {0}
Named (r ∷ rs) = (0 < r.number) × Named rs

pub passed_done : (rs : List Rung) (a : Answer) → Passed rs → first_broken rs a ≡ a
passed_done [] a p = none_broken a
passed_done (r ∷ rs) a p = rung_passed r rs a p.0 ∙ passed_done rs a p.1

pub done_passed : (rs : List Rung) (a : Answer) → Named rs → (first_broken rs a).number ≡ 0 → Passed rs
done_passed [] a n e = tt
done_passed (r ∷ rs) a n e = go (dec_lt r.place r.limit) (done_passed rs a n.1)
  where
    number_of : Answer → ℕ
    number_of b = b.number

    go : Dec (r.place < r.limit) → ((first_broken rs a).number ≡ 0 → Passed rs) → Passed (r ∷ rs)
    go (yes h) f = absurd (omega (arith, n.0, ap number_of (rung_stops r rs a h), e))
    go (no h) f = (omega arith, f (ap number_of (sym (rung_passed r rs a (omega arith))) ∙ e))

-- ---- one rung

module _ (n : ℕ) (ok : ℕ → Bool) (k : ℕ) where
  pub each_passes : ((i : ℕ) → i < k → ok i ≡ true) → (each n ok k).limit ≤ (each n ok k).place
  each_passes f = omega (arith, least_all ok k f)

  pub passes_each : (each n ok k).limit ≤ (each n ok k).place → (i : ℕ) → i < k → ok i ≡ true
  passes_each h i l = least_below ok k i (omega arith)

module _ (n : ℕ) (ok : Bool) where
  pub whole_passes : ok ≡ true → (whole n ok).limit ≤ (whole n ok).place
  whole_passes e = rw e (omega arith)

  pub passes_whole : (whole n ok).limit ≤ (whole n ok).place → ok ≡ true
  passes_whole h = go (cases_Bool ok)
    where
      go : (ok ≡ true) ⊎ (ok ≡ false) → ok ≡ true
      go (inl e) = e
      go (inr e) = absurd (let z = rw e at h in omega arith)
