-- D10 (`reach`): in a table that holds a word's joins, every triangle of the word is reached from its first one.
use mathlib.Core.List.{List, [], ◌++◌, ◌∷◌}
use mathlib.Core.Path.{◌∙◌, ◌≡◌, ap, subst, sym}
use Prim.Native.Nat.{◌*◌, ◌+◌, ◌-◌, ℕ}
use native.Mathlib.Omega.{arith}
use lib.ListN.{drop, take}
use Rattle.theory.proofs.CornerLaws.{triangle_left, triangle_right, triangle_tip}
use Rattle.theory.proofs.HoldsWord.{HoldsWord, holds_c, holds_l, holds_r, holds_s}
use Rattle.theory.proofs.JoinLaws.{Join}
use Rattle.theory.proofs.Loops.{Up, up_more}
use Rattle.theory.specs.Corner.{triangle}
use Rattle.theory.specs.Lists.{front, tail}
use Rattle.theory.specs.Mesh.{Reach, over}
use Rattle.theory.specs.Word.{Word, size, w_c, w_e, w_l, w_r, w_s, width}

module _ (opp : ℕ → ℕ) (a0 : ℕ) where
  across : (k m x : ℕ) → triangle x ≡ k → Join opp x (3 * m) → Reach opp a0 k → Reach opp a0 m
  across k m x q j h =
      let t : triangle (opp x) ≡ m = ap (λ (y : ℕ). triangle y) j.0 ∙ triangle_tip m in
      subst (λ (y : ℕ). Reach opp a0 y) t (over x (subst (λ (y : ℕ). Reach opp a0 y) (sym q) h))

  pub reach : (k : ℕ) (w : Word) (rs : List ℕ) → HoldsWord opp k w rs → Reach opp a0 k → Up (Reach opp a0) k
      → Up (Reach opp a0) (k + size w)
  unfolding size
  reach k w_e rs h r u = up_more (Reach opp a0) k u r
  reach k (w_c w) rs h r u =
      let z = holds_c opp k w rs h in
      let i = reach (k + 1) w (rs ++ ((3 * k + 2) ∷ [])) z.1
      (across k (k + 1) (3 * k + 1) (triangle_left k) z.0 r) (up_more (Reach opp a0) k u r) in
      λ j p. i j (omega arith)
  reach k (w_l w) rs h r u =
      let z = holds_l opp k w rs h in
      let i = reach (k + 1) w (front rs) z.2 (across k (k + 1) (3 * k + 1) (triangle_left k) z.0 r)
      (up_more (Reach opp a0) k u r) in
      λ j p. i j (omega arith)
  reach k (w_r w) rs h r u =
      let z = holds_r opp k w rs h in
      let i = reach (k + 1) w (tail rs) z.2 (across k (k + 1) (3 * k + 2) (triangle_right k) z.0 r)
      (up_more (Reach opp a0) k u r) in
      λ j p. i j (omega arith)
  reach k (w_s a b) rs h r u =
      let m = k + 1 + size a in
      let z = holds_s opp k a b rs h in
      let i = reach (k + 1) a (take (width a - 1) rs) z.2 (across k (k + 1) (3 * k + 1) (triangle_left k) z.0 r)
      (up_more (Reach opp a0) k u r) in
      let n = reach m b (drop (width a - 1) rs) z.3 (across k m (3 * k + 2) (triangle_right k) z.1 r) i in
      λ j p. n j (omega arith)
