-- The answers of `walks` and of `judge`.
--
--   refused_walk kept_walk    no walk, and a walk that turned all on or not
--   judged_done judged_closer    done by the walk, and the rules one by one where it failed
use mathlib.Core.Bool.{Bool, false, true}
use mathlib.Core.List.{List}
use mathlib.Core.Path.{◌∙◌, ◌≡◌, ap, refl, sym}
use Prim.Native.Nat.{◌+◌, ◌/◌, ℕ}
use lib.ListN.{length}
use Rattle.sweep.proofs.Saying.{said_no, said_yes, says_same}
use Rattle.sweep.proofs.Spheres.{Swept, swept_accepted}
use Rattle.sweep.specs.Judged.{Judges, Keeps, Walks}
use Rattle.sweep.specs.Sound.{Says, fails}
use Rattle.theory.proofs.MeshMeaning.{judged_accepted, judged_accepts}
use Rattle.theory.proofs.MeshStrings.{letters_length}
use Rattle.theory.proofs.TestLaws.{not_both}
use Rattle.theory.proofs.WholeRun.{length_letters}
use Rattle.theory.specs.Answer.{done, first_broken}
use Rattle.theory.specs.Mesh.{Accepted, mesh_rungs, shape_ok}
use Rattle.theory.specs.Walk.{mesh_walk}
use Rattle.theory.specs.Answer.{Answer}
use Rattle.walk.specs.Calls.{Traced}
use Rattle.walk.specs.Table.{AllOn, kept_to}

module _ {vs os : List ℕ} {v g : ℕ} {work : List ℕ} where
  pub refused_walk : (Accepted vs os v g → ⊥) → Walks false vs os v g work
  refused_walk n = record { says = fails n; keeps = λ e. absurd (not_both false e refl) }

  -- of an accepted mesh all t steps are kept
  all_kept : Traced vs os v g work → Accepted vs os v g → Keeps vs os g work
  all_kept w a =
      let n : length (mesh_walk vs os g) ≡ length vs / 3 =
      sym (length_letters (mesh_walk vs os g)) ∙ letters_length a in
      ap (λ (k : ℕ). kept_to (length vs / 3) k work) (sym n) ∙ w.kept

  pub kept_walk : {r : Bool} (t : ℕ) → t ≡ length vs / 3 → Swept vs os v g → Traced vs os v g work
      → Says (AllOn (t + v) work) r → Walks r vs os v g work
  kept_walk {r} t e h w s' =
      let s : Says (AllOn (length vs / 3 + v) work) r = rw e at s' in
      let says = says_same (swept_accepted h w) (λ a. w.whole a.sphere) s in
      record { says = says; keeps = λ e. all_kept w (said_yes says e) }

  pub judged_done : {r : Bool} → Walks r vs os v g work → r ≡ true → (a : Answer) → a ≡ done (length vs / 3) v
      → Judges vs os v g a work
  judged_done w e a q =
      record { answer = q ∙ sym (judged_accepts vs os v g (said_yes w.says e)); keeps = λ z. w.keeps e }

  pub judged_closer : {work₁ : List ℕ} {r : Bool} → Walks r vs os v g work₁ → r ≡ false → shape_ok vs os ≡ true
      → (a : Answer) → a ≡ first_broken (mesh_rungs vs os v g) (done (length vs / 3) v) → Judges vs os v g a work
  judged_closer w e shape a q =
      record {
        answer = q;
        keeps = λ z.
            absurd (said_no w.says e (judged_accepted vs os v g shape (sym (ap (λ (b : Answer). b.number) q) ∙ z)));
      }
