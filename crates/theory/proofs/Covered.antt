-- At the end of the walk of an accepted mesh every triangle is visited and every vertex is marked (`walk_covers`).
--
--   Covers    what the steps made, the latest first, have visited and marked
use mathlib.Core.Bool.{true}
use mathlib.Core.List.{List}
use mathlib.Core.Path.{◌∙◌, ◌≡◌, subst, sym}
use Prim.Native.Nat.{◌*◌, ◌<◌, ℕ}
use lib.ListN.{length}
use Rattle.theory.proofs.Balanced.{covered, literal}
use Rattle.theory.proofs.ByTime.{Earlier, Holds, Mark, before_seen, mark_in}
use Rattle.theory.proofs.WholeRun.{corner_of, letter_of, steps, steps_length, walked}
use Rattle.theory.specs.Lists.{mem}
use Rattle.theory.specs.Mesh.{Sphere}
use Rattle.theory.specs.Walk.{Step, marks, seen, walk_from}

pub record Covers (lab : ℕ → ℕ) (t v g : ℕ) (pre : List Step) : Type 0 where
  pub visited : (d : ℕ) → d < 3 * t → seen pre d ≡ true
  pub marked : (u : ℕ) → u < v → mem u (marks lab g pre) ≡ true

module _ {lab opp : ℕ → ℕ} {t v g : ℕ} (mesh : Sphere lab opp t v g) where
  -- all steps of the walk q are made
  abbrev AllMade : List Step → Type 0
  AllMade q = (pre : List Step) → Holds (letter_of q) (corner_of q) pre → length pre ≡ length q → Covers lab t v g pre

  by_steps : AllMade (steps mesh)
  by_steps pre h n =
      let sp = letter_of (steps mesh) in
      let co = corner_of (steps mesh) in
      let m : length pre ≡ t = n ∙ steps_length mesh in
      let w = walked mesh in
      record {
        visited = λ d l.
            before_seen lab g sp co pre h d (subst (λ (k : ℕ). Earlier co k d) (sym m) (w.seen_all d l));
        marked = λ u l.
            mark_in lab g sp co pre h u (subst (λ (k : ℕ). Mark lab g sp co k u) (sym m) (covered w u l));
      }

  pub walk_covers : AllMade (walk_from lab opp t g)
  unfolding walk_from
  walk_covers = subst AllMade (sym (literal mesh)) by_steps
