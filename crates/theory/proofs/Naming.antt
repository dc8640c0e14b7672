-- E12: the walk carries the vertices read back to the mesh's, along a bijection of 0, .., v - 1 (`naming`).
--
--   naming u         the mesh's vertex for the vertex u read back: an end of the gate corner's edge, or the tip of a C
--   carry_vertex     lab (carry y) = naming (the entry of table V at y)
--   unnaming         its inverse: a vertex of the mesh is at some corner, and is read back there
use mathlib.Core.List.{List, [], ◌∷◌}
use mathlib.Core.Path.{◌∙◌, ◌≡◌, ap, sym}
use Prim.Native.Nat.{◌*◌, ◌+◌, ◌<◌, suc, ℕ}
use native.Mathlib.Decide.{dec_lt}
use native.Mathlib.Omega.{arith}
use lib.ListN.{get_or}
use Rattle.theory.proofs.Balanced.{vertex_count}
use Rattle.theory.proofs.Carry.{carry, carry_uncarry, uncarry, uncarry_low}
use Rattle.theory.proofs.Chain.{each_map}
use Rattle.theory.proofs.CornerLaws.{next_tip, previous_tip}
use Rattle.theory.proofs.Injections.{onto}
use Rattle.theory.proofs.JoinLaws.{Both}
use Rattle.theory.proofs.Linked.{Faces, Worded, faces_ends}
use Rattle.theory.proofs.LoopFits.{Fit, Fitted, vertex_named}
use Rattle.theory.proofs.NewVertices.{names_of, tips_of}
use Rattle.theory.proofs.Opens.{mates, opens}
use Rattle.theory.proofs.VertexChain.{SameEnds}
use Rattle.theory.proofs.WordCloses.{mates_hold, root_open, word_sound, word_two}
use Rattle.theory.proofs.WordTables.{below_all, rows}
use Rattle.theory.specs.Corner.{next, previous, vertex}
use Rattle.theory.specs.Mesh.{Sphere}
use Rattle.theory.specs.Tables.{links, table_v}
use Rattle.theory.specs.Word.{news}
use Rattle.theory.specs.declared.Letter.{Letter}

module _ {lab opp : ℕ → ℕ} {t v g : ℕ} {mesh : Sphere lab opp t v g} {sp : ℕ → Letter} {co : ℕ → ℕ}
    (walk : Worded mesh sp co) where
  abbrev M : ℕ → ℕ
  M y = lab (carry co y)

  abbrev read_back : ℕ → ℕ
  read_back = vertex (table_v walk.word)

  pub naming : ℕ → ℕ
  naming u = get_or (M 1 ∷ (M 2 ∷ tips_of M 0 walk.word)) u 0

  fit_root : (os : List ℕ) → Both (Faces opp co) os (0 ∷ []) → Fit M naming (1 ∷ (0 ∷ [])) os
  unfolding naming
  fit_root [] h = absurd h
  fit_root (b ∷ []) h =
      let k = faces_ends mesh co b 0 h.0 in
      let p : previous 0 ≡ 2 = previous_tip 0 in
      let q : next 0 ≡ 1 = next_tip 0 in
      (sym k.1 ∙ ap M p, k.0 ∙ ap M q, tt)
  fit_root (b ∷ (d ∷ os)) h = absurd h.1

  fitted : Fitted M naming read_back walk.word 0 2 (1 ∷ (0 ∷ []))
  unfolding naming
  fitted =
      let x = walk.word in
      let across = each_map (Faces opp co) (SameEnds M) (faces_ends mesh co) in
      record {
        sound = word_sound walk;
        links_same = across (links 0 x) walk.links_face;
        mates_same = across (mates 0 x) (mates_hold walk);
        names = names_of M naming x 0 2 (λ i b. let u : 2 + i ≡ suc (suc i) = omega arith in rw u);
        fit = fit_root (opens 0 x) (root_open walk).1;
        rows = rows x;
      }

  pub carry_vertex : (y : ℕ) → y < 3 * t → lab (carry co y) ≡ naming (read_back y)
  carry_vertex y b =
      let n = walk.sized in
      vertex_named M naming read_back walk.word 0 2 (1 ∷ (0 ∷ [])) fitted y (omega arith) (omega arith)

  pub news_count : 2 + news walk.word ≡ v
  news_count = vertex_count mesh walk.word (word_sound walk) (word_two walk) walk.sized

  pub read_back_low : (y : ℕ) → y < 3 * t → read_back y < v
  read_back_low y b =
      let n = walk.sized in
      let a = below_all walk.word (word_sound walk) (word_two walk) y (omega arith) in
      let d = news_count in
      omega arith

  unnaming_by : (u : ℕ) → Dec (u < v) → ℕ
  unnaming_by u (yes h) = read_back (uncarry walk.run (mesh.present u h).0)
  unnaming_by u (no h) = u

  pub unnaming : ℕ → ℕ
  unnaming u = unnaming_by u (dec_lt u v)

  pub unnaming_low : (u : ℕ) → u < v → unnaming u < v
  unfolding unnaming unnaming_by
  unnaming_low u h = go (dec_lt u v)
    where
      go : (d : Dec (u < v)) → unnaming_by u d < v
      go (yes k) =
          let p = mesh.present u k in
          read_back_low (uncarry walk.run p.0) (uncarry_low walk.run p.0 p.1)
      go (no k) = absurd (k h)

  pub naming_unnaming : (u : ℕ) → u < v → naming (unnaming u) ≡ u
  unfolding unnaming unnaming_by
  naming_unnaming u h = go (dec_lt u v)
    where
      go : (d : Dec (u < v)) → naming (unnaming_by u d) ≡ u
      go (yes k) =
          let p = mesh.present u k in
          let r = walk.run in
          sym (carry_vertex (uncarry r p.0) (uncarry_low r p.0 p.1)) ∙ ap lab (carry_uncarry r p.0) ∙ p.2
      go (no k) = absurd (k h)

  -- unnaming is one to one on 0, .., v - 1, so it meets every number there
  named_by : (u : ℕ) → u < v → (z : ℕ) × (z < v) × (unnaming z ≡ u)
  named_by u h =
      onto unnaming v unnaming_low (λ i j p q e. sym (naming_unnaming i p) ∙ ap naming e ∙ naming_unnaming j q) u h

  naming_is : (u : ℕ) (h : u < v) → naming u ≡ (named_by u h).0
  naming_is u h = let r = named_by u h in ap naming (sym r.2) ∙ naming_unnaming r.0 r.1

  pub naming_low : (u : ℕ) → u < v → naming u < v
  naming_low u h = rw (naming_is u h) (named_by u h).1

  pub unnaming_naming : (u : ℕ) → u < v → unnaming (naming u) ≡ u
  unnaming_naming u h = ap unnaming (naming_is u h) ∙ (named_by u h).2
