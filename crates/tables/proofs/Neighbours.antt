-- A table that holds the links and the mates of a sound word of width 2, and its one open side joined to corner 0, is
-- table O of the word (`made_table`).
use mathlib.Core.List.{List, [], ◌∷◌}
use mathlib.Core.Path.{◌∙◌, ◌≡◌, refl, subst, sym}
use Prim.Native.Nat.{◌*◌, ℕ}
use native.Mathlib.Omega.{arith}
use lib.ListN.{length}
use lib.Seq.{ext_get_or}
use Rattle.theory.proofs.Chain.{Each, each_append}
use Rattle.theory.proofs.Counting.{tris_in}
use Rattle.theory.proofs.JoinLaws.{Both, Join, ends_root, up}
use Rattle.theory.proofs.JoinedTables.{settled}
use Rattle.std.proofs.lemmas.List.{get_or_default}
use Rattle.theory.proofs.Opens.{length_opens, mates, opens}
use Rattle.theory.proofs.WordTables.{held, length_o}
use Rattle.theory.specs.Corner.{opposite}
use Rattle.theory.specs.Lists.{back}
use Rattle.theory.specs.Tables.{joins, links, table_o, zips}
use Rattle.theory.specs.Word.{Sound, Word, size, width}

alone : (bs : List ℕ) → length bs ≡ 1 → bs ≡ back bs ∷ []
unfolding back
alone [] h = absurd (omega arith)
alone (x ∷ []) h = refl
alone (x ∷ (y ∷ bs)) h = absurd (omega arith)

module _ (w : Word) (sound : Sound w) (two : width w ≡ 2) where
  pub made_table : (made : List ℕ) → length made ≡ 3 * size w → Each (Join (opposite made)) (links 0 w)
      → Each (Join (opposite made)) (mates 0 w) → Join (opposite made) (back (opens 0 w)) 0 → made ≡ table_o w
  unfolding joins
  made_table made lm i m z =
      let J : ℕ → ℕ → Type 0 = Join (opposite made) in
      let lo = length_opens 0 w sound in
      let b = subst (λ (bs : List ℕ). Both J bs (0 ∷ [])) (sym (alone (opens 0 w) (omega arith))) (z, tt) in
      let u = up J 0 w (0 ∷ []) sound (omega arith) m b in
      let here : Each J (joins w) = each_append J (links 0 w) (zips 0 w (0 ∷ [])) i u in
      let there = held w sound two in
      let lt = length_o w in
      ext_get_or 0 made (table_o w) (lm ∙ sym lt) (λ x n.
      let a = ends_root x w sound two in
      let e = tris_in x (size w) 0 (omega arith) (omega arith) in
      let same = settled (joins w) made (table_o w) x here there (omega arith) in
      get_or_default made x 0 x n ∙ same ∙ get_or_default (table_o w) x x 0 (omega arith))
