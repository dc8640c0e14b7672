-- E8: where the steps of a walk follow a word, the letters stand at their places and the word's links face each other
-- in the mesh.
--
--   follows_letters follows_length   the letters of the steps are the word's, as many as its size
--   Spells sp k x       the letters of the word x stand at the times k, k + 1, ..
--   Faces opp co a b    a and b, in the walk's numbers, face each other in the mesh
--   linked              E8
--   Worded              a walk whose steps follow a word
--   faces_turn faces_ends   facing is symmetric; edges that face each other have the same ends
use mathlib.Core.List.{List, [], ◌++◌, ◌∷◌}
use mathlib.Core.Path.{◌∙◌, ◌≡◌, ap, subst, sym}
use Prim.Native.Nat.{◌*◌, ◌+◌, suc, ℕ}
use native.Mathlib.Nat.{add-zero}
use native.Mathlib.Numerals.{add-one}
use native.Mathlib.Omega.{arith}
use lib.ListN.{length, length-append}
use Rattle.theory.proofs.ByTime.{Ahead}
use Rattle.theory.proofs.Carry.{carry, carry_left, carry_next, carry_previous, carry_right, carry_tip}
use Rattle.theory.proofs.Chain.{Each, each_append}
use Rattle.theory.proofs.Runs.{Follows}
use Rattle.theory.proofs.SphereLaws.{glued_left}
use Rattle.theory.proofs.VertexChain.{SameEnds}
use Rattle.theory.proofs.WholeRun.{Walked}
use Rattle.theory.proofs.WordSteps.{letters_append}
use Rattle.theory.specs.Corner.{left, next, previous, right}
use Rattle.theory.specs.Letter.{byte}
use Rattle.theory.specs.Mesh.{Sphere}
use Rattle.theory.specs.Tables.{links}
use Rattle.theory.specs.Walk.{Step, ◌＠◌, letters_of}
use Rattle.theory.specs.Word.{Word, size, spell, w_c, w_e, w_l, w_r, w_s}
use Rattle.theory.specs.declared.Letter.{Letter}
use Rattle.theory.specs.declared.Letter.TheVariants.{C, E, L, R, S}

module _ (opp : ℕ → ℕ) where
  pub follows_letters : (w : Word) (x : ℕ) (q : List Step) → Follows opp w x q → letters_of q ≡ spell w
  unfolding letters_of spell
  follows_letters w_e x q h = ap letters_of h
  follows_letters (w_c w) x q (q₁, h, k) =
      ap letters_of h ∙ ap (λ (y : List ℕ). byte C ∷ y) (follows_letters w (right opp x) q₁ k)
  follows_letters (w_l w) x q (q₁, h, k) =
      ap letters_of h ∙ ap (λ (y : List ℕ). byte L ∷ y) (follows_letters w (right opp x) q₁ k)
  follows_letters (w_r w) x q (q₁, h, k) =
      ap letters_of h ∙ ap (λ (y : List ℕ). byte R ∷ y) (follows_letters w (left opp x) q₁ k)
  follows_letters (w_s a b) x q (q₁, q₂, h, k, m) =
      let i = follows_letters a (right opp x) q₁ k in
      let j = follows_letters b (left opp x) q₂ m in
      ap letters_of h ∙ ap (λ (y : List ℕ). byte S ∷ y) (letters_append q₁ q₂ ∙ rw (i, j))

  pub follows_length : (w : Word) (x : ℕ) (q : List Step) → Follows opp w x q → length q ≡ size w
  unfolding size
  follows_length w_e x q h = ap length h
  follows_length (w_c w) x q (q₁, h, k) = ap length h ∙ ap suc (follows_length w (right opp x) q₁ k)
  follows_length (w_l w) x q (q₁, h, k) = ap length h ∙ ap suc (follows_length w (right opp x) q₁ k)
  follows_length (w_r w) x q (q₁, h, k) = ap length h ∙ ap suc (follows_length w (left opp x) q₁ k)
  follows_length (w_s a b) x q (q₁, q₂, h, k, m) =
      let i = follows_length a (right opp x) q₁ k in
      let j = follows_length b (left opp x) q₂ m in
      let n = length-append q₁ q₂ in
      ap length h ∙ ap suc (omega arith)

abbrev pub Spells : (ℕ → Letter) → ℕ → Word → Type 0
Spells sp k w_e = sp k ≡ E
Spells sp k (w_c x) = (sp k ≡ C) × Spells sp (k + 1) x
Spells sp k (w_l x) = (sp k ≡ L) × Spells sp (k + 1) x
Spells sp k (w_r x) = (sp k ≡ R) × Spells sp (k + 1) x
Spells sp k (w_s x y) = (sp k ≡ S) × Spells sp (k + 1) x × Spells sp (k + 1 + size x) y

abbrev pub Faces : (ℕ → ℕ) → (ℕ → ℕ) → ℕ → ℕ → Type 0
Faces opp co a b = opp (carry co a) ≡ carry co b

module _ (opp : ℕ → ℕ) (sp : ℕ → Letter) (co : ℕ → ℕ) where
  ahead_left : (k : ℕ) (a b : List Step) → Ahead sp co k (a ++ b) → Ahead sp co k a
  ahead_left k [] b h = tt
  ahead_left k ((x ＠ d) ∷ a) b h = (h.0, h.1, ahead_left (suc k) a b h.2)

  ahead_right : (k : ℕ) (a b : List Step) → Ahead sp co k (a ++ b) → Ahead sp co (k + length a) b
  ahead_right k [] b h = rw (add-zero k) h
  ahead_right k ((x ＠ d) ∷ a) b h =
      let e : suc k + length a ≡ k + suc (length a) = omega arith in
      rw e at (ahead_right (suc k) a b h.2)

  abbrev pub Linked : Word → ℕ → ℕ → Type 0
  Linked x d k = (co k ≡ d) × Spells sp k x × Each (Faces opp co) (links k x)

  join_right : (k j x : ℕ) → co k ≡ x → co j ≡ right opp x → Faces opp co (3 * k + 1) (3 * j)
  join_right k j x p q = rw (carry_left co k, carry_tip co j, p) (sym q)

  join_left : (k j x : ℕ) → co k ≡ x → co j ≡ left opp x → Faces opp co (3 * k + 2) (3 * j)
  join_left k j x p q = rw (carry_right co k, carry_tip co j, p) (sym q)

  pub linked : (x : Word) (d k : ℕ) (q : List Step) → Follows opp x d q → Ahead sp co k q → Linked x d k
  unfolding links
  linked w_e d k q h a = let z = rw h at a in (z.1, z.0, tt)
  linked (w_c x) d k q (q₁, h, m) a =
      let z = rw h at a in
      let i = rw (← add-one k) at (linked x (right opp d) (suc k) q₁ m z.2) in
      (z.1, (z.0, i.1), (join_right k (k + 1) d z.1 i.0, i.2))
  linked (w_l x) d k q (q₁, h, m) a =
      let z = rw h at a in
      let i = rw (← add-one k) at (linked x (right opp d) (suc k) q₁ m z.2) in
      (z.1, (z.0, i.1), (join_right k (k + 1) d z.1 i.0, i.2))
  linked (w_r x) d k q (q₁, h, m) a =
      let z = rw h at a in
      let i = rw (← add-one k) at (linked x (left opp d) (suc k) q₁ m z.2) in
      (z.1, (z.0, i.1), (join_left k (k + 1) d z.1 i.0, i.2))
  linked (w_s x y) d k q (q₁, q₂, h, m, n) a =
      let z = rw h at a in
      let len = follows_length opp x (right opp d) q₁ m in
      let past : suc k + length q₁ ≡ k + 1 + size x = omega arith in
      let one = linked x (right opp d) (suc k) q₁ m (ahead_left (suc k) q₁ q₂ z.2) in
      let two = linked y (left opp d) (suc k + length q₁) q₂ n (ahead_right (suc k) q₁ q₂ z.2) in
      let i = subst (Linked x (right opp d)) (sym (add-one k)) one in
      let j = subst (Linked y (left opp d)) past two in
      let both = each_append (Faces opp co) (links (k + 1) x) (links (k + 1 + size x) y) i.2 j.2 in
      let side = join_left k (k + 1 + size x) d z.1 j.0 in
      (z.1, (z.0, i.1, j.1), (join_right k (k + 1) d z.1 i.0, (side, both)))

pub record Worded {lab opp : ℕ → ℕ} {t v g : ℕ} (mesh : Sphere lab opp t v g) (sp : ℕ → Letter)
    (co : ℕ → ℕ) : Type 0 where
  pub run : Walked mesh sp co
  pub word : Word
  pub sized : size word ≡ t
  pub spells : Spells sp 0 word
  pub links_face : Each (Faces opp co) (links 0 word)

module _ {lab opp : ℕ → ℕ} {t v g : ℕ} (mesh : Sphere lab opp t v g) (co : ℕ → ℕ) where
  pub faces_turn : (a b : ℕ) → Faces opp co a b → Faces opp co b a
  faces_turn a b h = ap opp (sym h) ∙ mesh.paired (carry co a)

  pub faces_end : (a b : ℕ) → Faces opp co a b → lab (carry co (previous a)) ≡ lab (carry co (next b))
  faces_end a b h =
      ap lab (carry_previous co a) ∙ glued_left mesh (carry co a) ∙ ap (λ (x : ℕ). lab (next x)) h
      ∙ ap lab (sym (carry_next co b))

  pub faces_ends : (a b : ℕ) → Faces opp co a b → SameEnds (λ x. lab (carry co x)) a b
  faces_ends a b h = (faces_end a b h, faces_end b a (faces_turn a b h))
