-- D8 (`chain`): the open sides of a word form a chain from its right end to its left end, for any reflexive and
-- transitive relation that holds across joined edges. Read as "same vertex" and as "swings lead there".
--
--   Each P js    P holds of every join of a list
use mathlib.Core.List.{List, [], ◌++◌, ◌∷◌}
use Prim.Native.Nat.{◌*◌, ◌+◌, ℕ}
use native.Mathlib.Omega.{arith}
use Rattle.theory.proofs.CornerLaws.{next_left, next_right, next_tip, previous_left, previous_right, previous_tip}
use Rattle.theory.proofs.ListLaws.{snoc_view}
use Rattle.theory.proofs.Opens.{length_opens, mates, opens}
use Rattle.theory.specs.Corner.{next, previous}
use Rattle.theory.specs.Lists.{back, front}
use Rattle.theory.specs.Tables.{Pair, ◌⇌◌, links}
use Rattle.theory.specs.Word.{Sound, Word, size, w_c, w_e, w_l, w_r, w_s}

-- every join of a list
abbrev pub Each : (ℕ → ℕ → Type 0) → List Pair → Type 0
Each P [] = Unit {0}
Each P ((a ⇌ b) ∷ js) = P a b × Each P js

pub each_left : (P : ℕ → ℕ → Type 0) (a b : List Pair) → Each P (a ++ b) → Each P a
each_left P [] b h = tt
each_left P ((x ⇌ y) ∷ a) b h = (h.0, each_left P a b h.1)

pub each_right : (P : ℕ → ℕ → Type 0) (a b : List Pair) → Each P (a ++ b) → Each P b
each_right P [] b h = h
each_right P ((x ⇌ y) ∷ a) b h = each_right P a b h.1

pub each_split : (P : ℕ → ℕ → Type 0) (a b : List Pair) → Each P (a ++ b) → Each P a × Each P b
each_split P a b h = (each_left P a b h, each_right P a b h)

pub each_append : (P : ℕ → ℕ → Type 0) (a b : List Pair) → Each P a → Each P b → Each P (a ++ b)
each_append P [] b h i = i
each_append P ((x ⇌ y) ∷ a) b h i = (h.0, each_append P a b h.1 i)

pub each_map : (P Q : ℕ → ℕ → Type 0) (f : (x y : ℕ) → P x y → Q x y) (a : List Pair) → Each P a → Each Q a
each_map P Q f [] h = tt
each_map P Q f ((x ⇌ y) ∷ a) h = (f x y h.0, each_map P Q f a h.1)

pub each_both : (P Q M : ℕ → ℕ → Type 0) (f : (x y : ℕ) → P x y → Q x y → M x y) (a : List Pair)
    → Each P a → Each Q a → Each M a
each_both P Q M f [] h i = tt
each_both P Q M f ((x ⇌ y) ∷ a) h i = (f x y h.0 i.0, each_both P Q M f a h.1 i.1)

module _ (To : ℕ → ℕ → Type 0) (rfl : (x : ℕ) → To x x) (trs : (x y z : ℕ) → To x y → To y z → To x z) where
  abbrev pub Glue : ℕ → ℕ → Type 0
  Glue a b = To (previous a) (next b) × To (previous b) (next a)

  abbrev pub Chain : ℕ → List ℕ → ℕ → Type 0
  Chain x [] y = To y x
  Chain x (b ∷ bs) y = To (next b) x × Chain (previous b) bs y

  chain_join : (x : ℕ) (a b : List ℕ) (y z : ℕ) → Chain x a y → Chain y b z → Chain x (a ++ b) z
  chain_join x [] [] y z h i = trs z y x i h
  chain_join x [] (b ∷ bs) y z h i = (trs (next b) y x i.0 h, i.1)
  chain_join x (a ∷ rest) b y z h i = (h.0, chain_join (previous a) rest b y z h.1 i)

  pub chain_last : (x : ℕ) (a : List ℕ) (b z : ℕ) → Chain x (a ++ (b ∷ [])) z → Chain x a (next b) × To z (previous b)
  chain_last x [] b z h = (h.0, h.1)
  chain_last x (a ∷ rest) b z h = let q = chain_last (previous a) rest b z h.1 in ((h.0, q.0), q.1)

  chain_end : (x : ℕ) (a : List ℕ) (y z : ℕ) → Chain x a y → To z y → Chain x a z
  chain_end x [] y z h i = trs z y x i h
  chain_end x (a ∷ rest) y z h i = (h.0, chain_end (previous a) rest y z h.1 i)

  -- the chain of a child's sides, between its parent's corners
  child : (x y j : ℕ) (bs : List ℕ) → To (3 * j + 2) x → To y (3 * j + 1) → Chain (3 * j + 2) bs (3 * j + 1)
      → Chain x bs y
  child x y j bs p q h = chain_end x bs (3 * j + 1) y (chain_join x [] bs (3 * j + 2) (3 * j + 1) p h) q

  child_right : (k j : ℕ) (bs : List ℕ) → Glue (3 * k + 1) (3 * j) → Chain (3 * j + 2) bs (3 * j + 1)
      → Chain (3 * k + 2) bs (3 * k)
  child_right k j bs g =
      child (3 * k + 2) (3 * k) j bs (rw (previous_tip, next_left) at g.1) (rw (previous_left, next_tip) at g.0)

  child_left : (k j : ℕ) (bs : List ℕ) → Glue (3 * k + 2) (3 * j) → Chain (3 * j + 2) bs (3 * j + 1)
      → Chain (3 * k) bs (3 * k + 1)
  child_left k j bs g =
      child (3 * k) (3 * k + 1) j bs (rw (previous_tip, next_right) at g.1) (rw (previous_right, next_tip) at g.0)

  -- the side of a triangle alone
  side_right : (k : ℕ) → Chain (3 * k + 2) ((3 * k + 1) ∷ []) (3 * k)
  side_right k = (rw next_left (rfl (3 * k + 2)), rw previous_left (rfl (3 * k)))

  side_left : (k : ℕ) → Chain (3 * k) ((3 * k + 2) ∷ []) (3 * k + 1)
  side_left k = (rw next_right (rfl (3 * k)), rw previous_right (rfl (3 * k + 1)))

  -- D8
  pub chain : (k : ℕ) (w : Word) → Sound w → Each Glue (links k w) → Each Glue (mates k w)
      → Chain (3 * k + 2) (opens k w) (3 * k + 1)
  unfolding links mates opens
  chain k w_e h g m =
      chain_join (3 * k + 2) ((3 * k + 1) ∷ []) ((3 * k + 2) ∷ []) (3 * k) (3 * k + 1) (side_right k) (side_left k)
  chain k (w_c w) h g m =
      let n = length_opens (k + 1) w h.0 in
      let bs = opens (k + 1) w in
      let i = child_right k (k + 1) bs g.0 (chain (k + 1) w h.0 g.1 m.1) in
      let q = chain_last (3 * k + 2) (front bs) (back bs) (3 * k) (rw (snoc_view bs (omega arith)) at i) in
      chain_end (3 * k + 2) (front bs) (next (back bs)) (3 * k + 1) q.0 (rw previous_right at m.0.1)
  chain k (w_l w) h g m =
      let bs = opens (k + 1) w in
      let i = child_right k (k + 1) bs g.0 (chain (k + 1) w h g.1 m) in
      chain_join (3 * k + 2) bs ((3 * k + 2) ∷ []) (3 * k) (3 * k + 1) i (side_left k)
  chain k (w_r w) h g m =
      let bs = opens (k + 1) w in
      let i = child_left k (k + 1) bs g.0 (chain (k + 1) w h g.1 m) in
      chain_join (3 * k + 2) ((3 * k + 1) ∷ []) bs (3 * k) (3 * k + 1) (side_right k) i
  chain k (w_s a b) h g m =
      let j = k + 1 + size a in
      let l = each_split Glue (links (k + 1) a) (links j b) g.1.1 in
      let e = each_split Glue (mates (k + 1) a) (mates j b) m in
      let p = child_right k (k + 1) (opens (k + 1) a) g.0 (chain (k + 1) a h.0 l.0 e.0) in
      let q = child_left k j (opens j b) g.1.0 (chain j b h.1 l.1 e.1) in
      chain_join (3 * k + 2) (opens (k + 1) a) (opens j b) (3 * k) (3 * k + 1) p q
