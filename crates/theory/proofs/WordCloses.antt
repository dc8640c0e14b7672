-- E11: the word of a walk closes, and the walk carries the opposites read back to the mesh's.
--
--   word_sound word_two   it is sound and has width 2: its only open side faces the gate (`root_open`)
--   carry_opposite        opp (carry y) = carry (the entry of table O at y)
use mathlib.Core.List.{List, [], ◌∷◌}
use mathlib.Core.Path.{◌∙◌, ◌≡◌, ap, refl, sym}
use Prim.Native.Nat.{◌*◌, ◌<◌, ◌≤◌, ℕ}
use native.Mathlib.Omega.{arith}
use lib.Dec.{eqb}
use lib.ListN.{length}
use Rattle.theory.proofs.Carry.{carry, carry_inj}
use Rattle.theory.proofs.Chain.{Each, each_append}
use Rattle.theory.proofs.Counting.{bit, bit_refl, count, tris_once}
use Rattle.theory.proofs.Each.{EachN}
use Rattle.theory.proofs.JoinLaws.{Both, up}
use Rattle.theory.proofs.Linked.{Faces, Worded, faces_turn}
use Rattle.theory.proofs.Matched.{Matched, match}
use Rattle.theory.proofs.Opens.{cover, length_opens, mates, opens}
use Rattle.theory.proofs.Outward.{Outward, SplitLeft, split_left}
use Rattle.theory.proofs.WordLaws.{width_two}
use Rattle.theory.proofs.WordTables.{at_joins}
use Rattle.theory.specs.Corner.{opposite}
use Rattle.theory.specs.Mesh.{Sphere}
use Rattle.theory.specs.Tables.{joins, links, table_o, zips}
use Rattle.theory.specs.Word.{Sound, size, width}
use Rattle.theory.specs.declared.Letter.{Letter}

module _ {lab opp : ℕ → ℕ} {t v g : ℕ} {mesh : Sphere lab opp t v g} {sp : ℕ → Letter} {co : ℕ → ℕ}
    (walk : Worded mesh sp co) where
  abbrev Meet : ℕ → ℕ → Type 0
  Meet = Faces opp co

  lefts : SplitLeft opp sp co 0 t
  lefts j p q u = split_left opp sp co walk.word 0 walk.spells walk.links_face j p (rw walk.sized q) u

  matched : Matched walk.run lefts 0 walk.word
  matched = match walk.run lefts 0 walk.word walk.spells walk.links_face

  pub word_sound : Sound walk.word
  word_sound = matched.sound

  pub mates_hold : Each Meet (mates 0 walk.word)
  mates_hold = matched.mates_face

  at_gate : (b : ℕ) → Outward opp sp co 0 b → Meet b 0
  at_gate b (y, q, u, z) = let e : y ≡ 0 = omega arith in q ∙ ap (carry co) e

  -- two sides that face the gate are one
  lone : (os : List ℕ) → 1 ≤ length os → EachN (Outward opp sp co 0) os → ((b : ℕ) → count b os ≤ 1)
      → (length os ≡ 1) × Both Meet os (0 ∷ [])
  unfolding count
  lone [] h o d = absurd (omega arith)
  lone (b ∷ []) h o d = (refl, (at_gate b o.0, tt))
  lone (b ∷ (a ∷ os)) h o d =
      let turn = faces_turn mesh co in
      let same = carry_inj walk.run b a (sym (turn b 0 (at_gate b o.0)) ∙ turn a 0 (at_gate a o.1.0)) in
      let p = bit_refl b in
      let q : bit (eqb b a) ≡ 1 = rw (← same) (bit_refl b) in
      let r = d b in
      absurd (omega arith)

  pub root_open : (length (opens 0 walk.word) ≡ 1) × Both Meet (opens 0 walk.word) (0 ∷ [])
  root_open =
      let x = walk.word in
      let m = length_opens 0 x word_sound in
      let two = width_two x word_sound in
      lone (opens 0 x) (omega arith) matched.opens_out
      (λ b. let a = cover b 0 x word_sound in let d = tris_once b (size x) 0 in omega arith)

  pub word_two : width walk.word ≡ 2
  word_two = let m = length_opens 0 walk.word word_sound in let r = root_open.0 in omega arith

  joins_hold : Each Meet (joins walk.word)
  unfolding joins
  joins_hold =
      let x = walk.word in
      let two = word_two in
      each_append Meet (links 0 x) (zips 0 x (0 ∷ [])) walk.links_face
      (up Meet 0 x (0 ∷ []) word_sound (omega arith) mates_hold root_open.1)

  pub carry_opposite : (y : ℕ) → y < 3 * t → opp (carry co y) ≡ carry co (opposite (table_o walk.word) y)
  carry_opposite y h =
      let n = walk.sized in
      (at_joins walk.word word_sound word_two Meet (faces_turn mesh co) joins_hold y (omega arith)).0
