-- E9: over a side that a step closes lies the gate or the left side of an earlier C (`out_r`, `out_l`, `out_e`).
--
--   LeftOfC sp y     y is corner 0, or the left side of a C
--   Outward k b      b faces such a side of a step before k
--   SplitLeft        over the left side of an S lies the bottom of a later step (`split_left`)
--   fresh_at apart_at_lem   the tip of a C stands at no corner before it, and its ends differ
use mathlib.Core.Logic.{◌≢◌, ◌⊎◌, inl, inr}
use mathlib.Core.Path.{◌∙◌, ◌≡◌, ap, refl, sym}
use Prim.Native.Nat.{◌*◌, ◌+◌, ◌<◌, ◌≤◌, suc, ℕ}
use native.Mathlib.Decide.{dec_lt, ℕ_discrete}
use native.Mathlib.Omega.{arith}
use Rattle.theory.proofs.Carry.{carry, carry_inj, carry_left, carry_low, carry_mate, carry_right, carry_tip, carry_triangle, mate, mate_at, mate_mate}
use Rattle.theory.proofs.Chain.{Each, each_split}
use Rattle.theory.proofs.CornerLaws.{Place, at_left, at_right, at_tip, next_low, next_next, place, triangle_high, triangle_left, triangle_low, triangle_right, triangle_tip}
use Rattle.theory.proofs.LetterLaws.{letters_differ}
use Rattle.theory.proofs.Linked.{Faces, Spells}
use Rattle.theory.proofs.Neighbours.{bottom, down_left, down_right, up_left, up_right}
use Rattle.theory.proofs.SphereLaws.{one_corner}
use Rattle.theory.proofs.UpSides.{UpL, UpR}
use Rattle.theory.proofs.Visited.{fresh}
use Rattle.theory.proofs.WholeRun.{Walked}
use Rattle.theory.specs.Corner.{next, triangle}
use Rattle.theory.specs.Mesh.{Sphere}
use Rattle.theory.specs.Tables.{links}
use Rattle.theory.specs.Word.{Word, size, w_c, w_e, w_l, w_r, w_s}
use Rattle.theory.specs.declared.Letter.{Letter}
use Rattle.theory.specs.declared.Letter.TheVariants.{C, E, L, R, S}

abbrev pub LeftOfC : (ℕ → Letter) → ℕ → Type 0
LeftOfC sp y = (y ≡ 0) ⊎ ((j : ℕ) × (y ≡ 3 * j + 2) × (sp j ≡ C))

abbrev pub Outward : (ℕ → ℕ) → (ℕ → Letter) → (ℕ → ℕ) → ℕ → ℕ → Type 0
Outward opp sp co k b = (y : ℕ) × Faces opp co b y × (y ≤ 3 * k) × LeftOfC sp y

module _ (opp : ℕ → ℕ) (sp : ℕ → Letter) (co : ℕ → ℕ) where
  abbrev pub SplitLeft : ℕ → ℕ → Type 0
  SplitLeft k n = (j : ℕ) → k ≤ j → j < k + n → sp j ≡ S → (b : ℕ) × Faces opp co (3 * j + 2) (3 * b)

  split_one : (k n : ℕ) (a : Letter) → sp k ≡ a → a ≢ S → SplitLeft (k + 1) n → SplitLeft k (suc n)
  split_one k n a q no-s f j p h u = go (ℕ_discrete j k)
    where
      go : Dec (j ≡ k) → (b : ℕ) × Faces opp co (3 * j + 2) (3 * b)
      go (yes z) = absurd (no-s (sym q ∙ ap sp (sym z) ∙ u))
      go (no z) = f j (omega arith) (omega arith) u

  pub split_left : (x : Word) (k : ℕ) → Spells sp k x → Each (Faces opp co) (links k x) → SplitLeft k (size x)
  unfolding links size
  split_left w_e k h m = split_one k 0 E h (letters_differ E S refl) (λ j p q u. absurd (omega arith))
  split_left (w_c x) k h m = split_one k (size x) C h.0 (letters_differ C S refl) (split_left x (k + 1) h.1 m.1)
  split_left (w_l x) k h m = split_one k (size x) L h.0 (letters_differ L S refl) (split_left x (k + 1) h.1 m.1)
  split_left (w_r x) k h m = split_one k (size x) R h.0 (letters_differ R S refl) (split_left x (k + 1) h.1 m.1)
  split_left (w_s x y) k h m =
      let parts = each_split (Faces opp co) (links (k + 1) x) (links (k + 1 + size x) y) m.1.1 in
      let ja = split_left x (k + 1) h.1 parts.0 in
      let jb = split_left y (k + 1 + size x) h.2 parts.1 in
      λ j p q u. go ja jb j p q u (ℕ_discrete j k) (dec_lt j (k + 1 + size x))
    where
      go : SplitLeft (k + 1) (size x) → SplitLeft (k + 1 + size x) (size y) → (j : ℕ) → k ≤ j
          → j < k + suc (size x + size y) → sp j ≡ S
          → Dec (j ≡ k) → Dec (j < k + 1 + size x) → (b : ℕ) × Faces opp co (3 * j + 2) (3 * b)
      go ja jb j p q u (yes z) d = (k + 1 + size x, rw z m.1.0)
      go ja jb j p q u (no z) (yes d) = ja j (omega arith) (omega arith) u
      go ja jb j p q u (no z) (no d) = jb j (omega arith) (omega arith) u

module _ {lab opp : ℕ → ℕ} {t v g : ℕ} {mesh : Sphere lab opp t v g} {sp : ℕ → Letter} {co : ℕ → ℕ}
    (w : Walked mesh sp co) where
  in_range : (k : ℕ) (a : Letter) → sp k ≡ a → a ≢ S → k < t
  in_range k a q n = go (dec_lt k t)
    where
      go : Dec (k < t) → k < t
      go (yes h) = h
      go (no h) = absurd (n (sym q ∙ w.sp_end k (omega arith)))

  module _ (lefts : SplitLeft opp sp co 0 t) where
    -- y, at an earlier step, whose opposite x is a side of step k
    module _ (k x y : ℕ) (h : k < t) (q : triangle x ≡ k) (n : x ≢ 3 * k) (m : mate w y ≡ x) (u : triangle y < k) where
      -- y's neighbour is not at an earlier step than y, and x is no bottom corner
      not_earlier : (z : ℕ) → y ≡ z → triangle (mate w z) < triangle y → ⊥
      not_earlier z e l =
          let a : triangle (mate w z) ≡ k = ap (λ (i : ℕ). triangle (mate w i)) (sym e) ∙ ap triangle m ∙ q in
          omega arith

      no_bottom : (z b : ℕ) → y ≡ z → mate w z ≡ 3 * b → ⊥
      no_bottom z b e f =
          let a : x ≡ 3 * b = sym m ∙ ap (mate w) e ∙ f in
          let d : triangle x ≡ b = ap triangle a ∙ triangle_tip b in
          n (omega arith)

      right_down : (a : Letter) → sp (triangle y) ≡ a → y ≡ 3 * triangle y + 1 → (UpR a → ⊥) → ⊥
      right_down a p f d = not_earlier (3 * triangle y + 1) f (down_right w (triangle y) (omega arith) (rw p d))

      right_up : (a : Letter) → sp (triangle y) ≡ a → y ≡ 3 * triangle y + 1 → UpR a → ⊥
      right_up a p f d =
          no_bottom (3 * triangle y + 1) (suc (triangle y)) f (up_right w (triangle y) (omega arith) (rw p d)).1

      left_down : (a : Letter) → sp (triangle y) ≡ a → y ≡ 3 * triangle y + 2 → (UpL a → ⊥) → ⊥
      left_down a p f d = not_earlier (3 * triangle y + 2) f (down_left w (triangle y) (omega arith) (rw p d))

      on_right : (a : Letter) → sp (triangle y) ≡ a → y ≡ 3 * triangle y + 1 → ⊥
      on_right C p f = right_up C p f tt
      on_right L p f = right_up L p f tt
      on_right E p f = right_down E p f (λ z. z)
      on_right R p f = right_down R p f (λ z. z)
      on_right S p f = right_up S p f tt

      on_left : (a : Letter) → sp (triangle y) ≡ a → y ≡ 3 * triangle y + 2 → LeftOfC sp y
      on_left C p f = inr (triangle y, f, p)
      on_left L p f = absurd (left_down L p f (λ z. z))
      on_left E p f = absurd (left_down E p f (λ z. z))
      on_left R p f =
          absurd (no_bottom (3 * triangle y + 2) (suc (triangle y)) f (up_left w (triangle y) (omega arith) p).1)
      on_left S p f =
          let z = lefts (triangle y) (omega arith) (omega arith) p in
          absurd (no_bottom (3 * triangle y + 2) z.0 f (mate_at w (3 * triangle y + 2) (3 * z.0) z.1))

      on_tip : y ≡ 3 * triangle y → Dec (triangle y ≡ 0) → LeftOfC sp y
      on_tip f (yes z) = inl (omega arith)
      on_tip f (no z) = absurd (not_earlier (3 * triangle y) f (bottom w (triangle y) (omega arith) (omega arith)))

      kind : LeftOfC sp y
      kind = go (place y)
        where
          go : Place y → LeftOfC sp y
          go (at_tip f) = on_tip f (ℕ_discrete (triangle y) 0)
          go (at_left f) = absurd (on_right (sp (triangle y)) refl f)
          go (at_right f) = on_left (sp (triangle y)) refl f

    out : (k x : ℕ) → k < t → triangle x ≡ k → x ≢ 3 * k → triangle (mate w x) < k → Outward opp sp co k x
    out k x h q n u =
        let a = triangle_high k (mate w x) u in
        (mate w x, sym (carry_mate w x), omega arith, kind k x (mate w x) h q n (mate_mate w x) u)

    out_right : (k : ℕ) (a : Letter) → sp k ≡ a → a ≢ S → (UpR a → ⊥) → Outward opp sp co k (3 * k + 1)
    out_right k a q n u =
        let h = in_range k a q n in
        out k (3 * k + 1) h (triangle_left k) (λ z. omega arith) (down_right w k h (rw q u))

    out_left : (k : ℕ) (a : Letter) → sp k ≡ a → a ≢ S → (UpL a → ⊥) → Outward opp sp co k (3 * k + 2)
    out_left k a q n u =
        let h = in_range k a q n in
        out k (3 * k + 2) h (triangle_right k) (λ z. omega arith) (down_left w k h (rw q u))

    pub out_r : (k : ℕ) → sp k ≡ R → Outward opp sp co k (3 * k + 1)
    out_r k q = out_right k R q (letters_differ R S refl) (λ z. z)

    pub out_l : (k : ℕ) → sp k ≡ L → Outward opp sp co k (3 * k + 2)
    out_l k q = out_left k L q (letters_differ L S refl) (λ z. z)

    pub out_e : (k : ℕ) → sp k ≡ E → Outward opp sp co k (3 * k + 1) × Outward opp sp co k (3 * k + 2)
    out_e k q = (out_right k E q (letters_differ E S refl) (λ z. z), out_left k E q (letters_differ E S refl) (λ z. z))

  pub fresh_at : (k : ℕ) → sp k ≡ C → (y : ℕ) → y < 3 * k + 3 → y ≢ 3 * k → lab (carry co y) ≢ lab (carry co (3 * k))
  fresh_at k q y h n u = go (in_range k C q (letters_differ C S refl)) (dec_lt (triangle y) k)
    where
      go : k < t → Dec (triangle y < k) → ⊥
      go l (yes z) =
          fresh mesh w.facts k (carry co y) l q (triangle y, z, carry_triangle co y) (u ∙ ap lab (carry_tip co k))
      go l (no z) =
          let a = triangle_low (suc k) y (omega arith) in
          let same : triangle y ≡ k = omega arith in
          let b = carry_triangle co y ∙ ap (λ (i : ℕ). triangle (co i)) same ∙ ap triangle (sym (carry_tip co k)) in
          let one = one_corner mesh (carry co y) (carry co (3 * k)) (carry_low w (3 * k) (omega arith)) b u in
          n (carry_inj w y (3 * k) one)

  pub apart_at_lem : (k : ℕ) → sp k ≡ C → lab (carry co (3 * k + 1)) ≢ lab (carry co (3 * k + 2))
  apart_at_lem k q u =
      let h = in_range k C q (letters_differ C S refl) in
      mesh.apart (next (co k)) (next_low t (co k) (w.facts k h).low)
      (ap lab (sym (carry_left co k)) ∙ u ∙ ap lab (carry_right co k ∙ sym (next_next (co k))))
