-- Demand 3, from the promise of write_string alone.
--
--   not_compared    nothing is promised where a mesh is refused
--   told            what comparing two strings answered tells
--   second_answer   the answer of the second call
--   compared        two meshes written, and their strings compared
use mathlib.Core.Bool.{Bool, true}
use Rattle.std.specs.Prelude.{nat_eq}
use Rattle.std.specs.Cmp.Lexicographic.{pointwise, same_text}
use Rattle.std.proofs.lemmas.Cmp.{nat_list_eq_equiv}
use mathlib.Core.List.{List}
use mathlib.Core.Path.{◌∙◌, ◌≡◌, ap, sym}
use Prim.Native.Nat.{◌/◌, ◌<◌, ℕ}
use native.Mathlib.Omega.{arith}
use lib.ListN.{length, take}
use Rattle.promises.proofs.ReadsBack.{lengths_of, write_was_done, written_string, written_table}
use Rattle.promises.specs.Demands.{Compared}
use Rattle.theory.proofs.MeshStrings.{corners_by_walk, mesh_corners, mesh_vertices, renumber_corners, renumber_strings, renumber_vertices, strings_renumber, strings_sizes}
use Rattle.theory.specs.Calls.{Writes, write_answer}
use Rattle.theory.specs.Corner.{opposite, vertex}
use Rattle.theory.specs.Renumber.{Renumbering, by_walk}
use Rattle.theory.specs.Walk.{corners_of, letters_of, mesh_walk}
use Rattle.theory.specs.Answer.{Answer}

-- a test of two lists for being equal
abbrev pub Tells : Bool → List ℕ → List ℕ → Type 0
Tells r s s' = (r ≡ true → s ≡ s') × (s ≡ s' → r ≡ true)

pub told : {s s' : List ℕ} {r : Bool} → r ≡ pointwise nat_eq s s' → Tells r s s'
told {s} {s'} e = ((λ q. same_text s s' (sym q ∙ e)), λ q. e ∙ ap (pointwise nat_eq s) (sym q) ∙ nat_list_eq_equiv.refl s)

module _ {vs os vs' os' walk walk' : List ℕ} {v g v' g' : ℕ} {a b : Answer} {same : Bool} where
  pub not_compared : (a.number ≡ 0 → b.number ≡ 0 → ⊥) → Compared vs os v g vs' os' v' g' a b same walk walk'
  not_compared never =
      record {
        shown = λ p q e. absurd (never p q);
        found = λ p q n h m r. absurd (never p q);
        only = λ p q n h m k l r t. absurd (never p q);
      }

module _ {vs os letters walk work letters' walk' work' : List ℕ} {v g : ℕ} {a : Answer}
    (w : Writes vs os v g letters walk work a letters' walk' work')
    {vs₂ os₂ letters₂ walk₂ work₂ letters₂' walk₂' work₂' : List ℕ} {v₂ g₂ : ℕ} {b : Answer}
    (x : Writes vs₂ os₂ v₂ g₂ letters₂ walk₂ work₂ b letters₂' walk₂' work₂') where
  pub compared :
      {same : Bool} → Tells same (take (length vs / 3) letters') (take (length vs₂ / 3) letters₂')
      → Compared vs os v g vs₂ os₂ v₂ g₂ a b same walk' walk₂'
  compared {same} tells = record { shown = shown_by; found = found_by; only = only_by }
    where
      strings : a.number ≡ 0 → b.number ≡ 0
          → Tells same (letters_of (mesh_walk vs os g)) (letters_of (mesh_walk vs₂ os₂ g₂))
      strings p q = rw (written_string w p, written_string x q) at tells

      shown_by : a.number ≡ 0 → b.number ≡ 0 → same ≡ true
          → (length vs ≡ length vs₂) × (v ≡ v₂) × ((h : ℕ → ℕ) × (n : ℕ → ℕ)
          × Renumbering (vertex vs) (opposite os) (vertex vs₂) (opposite os₂) (length vs / 3) v g g₂ h n
          × ((y : ℕ) → y < length vs → h (by_walk (take (length vs / 3) walk') y) ≡ by_walk (take (length vs / 3) walk₂')
          y))
      shown_by p q e =
          let m = (write_was_done w p).mesh in
          let m₂ = (write_was_done x q).mesh in
          let s = (strings p q).0 e in
          let n = strings_sizes m m₂ s in
          let t : length vs / 3 ≡ length vs₂ / 3 = ap (λ (i : ℕ). i / 3) n.0 in
          let second : take (length vs / 3) walk₂' ≡ corners_of (mesh_walk vs₂ os₂ g₂) = rw t (written_table x q) in (
            n.0,
            n.1,
            (
              mesh_corners m m₂,
              mesh_vertices m m₂,
              strings_renumber m m₂ s,
              λ y l. rw (written_table w p, second) (corners_by_walk m m₂ y),
            ),
          )

      found_by : a.number ≡ 0 → b.number ≡ 0 → length vs ≡ length vs₂ → (h n : ℕ → ℕ)
          → Renumbering (vertex vs) (opposite os) (vertex vs₂) (opposite os₂) (length vs / 3) v g g₂ h n → same ≡ true
      found_by p q n h k r =
          (strings p q).1 (renumber_strings (write_was_done w p).mesh (write_was_done x q).mesh n r)

      only_by : a.number ≡ 0 → b.number ≡ 0 → length vs ≡ length vs₂ → (h n k l : ℕ → ℕ)
          → Renumbering (vertex vs) (opposite os) (vertex vs₂) (opposite os₂) (length vs / 3) v g g₂ h n
          → Renumbering (vertex vs) (opposite os) (vertex vs₂) (opposite os₂) (length vs / 3) v g g₂ k l
          → ((c : ℕ) → c < length vs → h c ≡ k c) × ((u : ℕ) → u < v → n u ≡ l u)
      only_by p q n h j k l r t =
          let m = (write_was_done w p).mesh in
          let m₂ = (write_was_done x q).mesh in
          let thirds = (lengths_of vs os m.shape).1 in (
            (λ c i. renumber_corners m m₂ n r c (omega arith) ∙ sym (renumber_corners m m₂ n t c (omega arith))),
            λ u i. renumber_vertices m m₂ n r u i ∙ sym (renumber_vertices m m₂ n t u i),
          )

-- the second of two calls, on a work space of the same length
pub second_answer :
    {vs os letters walk work letters' walk' work' : List ℕ} {v g : ℕ} {b : Answer} (n : ℕ)
    → Writes vs os v g letters walk work b letters' walk' work' → length work ≡ n
    → b ≡ write_answer vs os v g (length letters) (length walk) n
second_answer {vs} {os} {letters} {walk} {v = v} {g = g} n w e =
    w.answer ∙ ap (write_answer vs os v g (length letters) (length walk)) e
