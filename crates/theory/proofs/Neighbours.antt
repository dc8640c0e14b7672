-- The neighbour over each side of a step, by time: an up side's comes later, a down side's earlier.
--
--   up_right up_left     the next step is there (right side of C, L, S; left side of R)
--   bottom down_right down_left   earlier
--   later                E5's hypothesis
use mathlib.Core.List.{◌∷◌}
use mathlib.Core.Logic.{inl, inr}
use mathlib.Core.Path.{◌∙◌, ◌≡◌, ap, refl, subst, sym}
use Prim.Native.Nat.{◌*◌, ◌+◌, ◌<◌, ◌≤◌, suc, ℕ}
use native.Mathlib.Decide.{dec_lt, ℕ_discrete}
use native.Mathlib.Omega.{arith}
use Rattle.theory.proofs.ByTime.{Earlier}
use Rattle.theory.proofs.Carry.{carry, carry_left, carry_mate, carry_right, carry_tip, carry_triangle, mate, mate_at, mate_low, time_inj}
use Rattle.theory.proofs.CornerLaws.{next_previous, previous_low, triangle_left, triangle_previous, triangle_right, triangle_tip}
use Rattle.theory.proofs.Counting.{bit_off, count, tris, tris_in}
use Rattle.theory.proofs.Facts.{Side}
use Rattle.theory.proofs.SphereLaws.{other_triangle}
use Rattle.theory.proofs.UpSides.{Lifts, UpL, UpR, up_at_lem, ups, ups_in}
use Rattle.theory.proofs.Visited.{fresh}
use Rattle.theory.proofs.WholeRun.{Walked}
use Rattle.theory.specs.Corner.{left, previous, right, triangle}
use Rattle.theory.specs.Mesh.{Sphere}
use Rattle.theory.specs.declared.Letter.{Letter}
use Rattle.theory.specs.declared.Letter.TheVariants.{C, E, L, R, S}

module _ {lab opp : ℕ → ℕ} {t v g : ℕ} {mesh : Sphere lab opp t v g} {sp : ℕ → Letter} {co : ℕ → ℕ}
    (w : Walked mesh sp co) where
  -- the step at the other side of x
  abbrev facing : ℕ → ℕ
  facing x = triangle (mate w x)

  earlier_mate : (n x : ℕ) → Earlier co n (opp (carry co x)) → facing x < n
  earlier_mate n x (j, h, q) =
      let a = time_inj w (facing x) j (sym (carry_triangle co (mate w x)) ∙ ap triangle (carry_mate w x) ∙ q) in
      omega arith

  later_mate : (n x : ℕ) → (Earlier co n (opp (carry co x)) → ⊥) → n ≤ facing x
  later_mate n x h = go (dec_lt (facing x) n)
    where
      go : Dec (facing x < n) → n ≤ facing x
      go (yes l) = absurd (h (facing x, l, ap triangle (sym (carry_mate w x)) ∙ carry_triangle co (mate w x)))
      go (no l) = omega arith

  side_at : (k : ℕ) (a : Letter) → k < t → sp k ≡ a → Side mesh sp co t k a
  side_at k a h q = subst (Side mesh sp co t k) q (w.facts k h).side

  pub up_right : (k : ℕ) → k < t → UpR (sp k) → (suc k < t) × (mate w (3 * k + 1) ≡ 3 * suc k)
  up_right k h u =
      let z = go (sp k) (w.facts k h).side u in
      (z.0, mate_at w (3 * k + 1) (3 * suc k) (ap opp (carry_left co k) ∙ sym z.1 ∙ sym (carry_tip co (suc k))))
    where
      go : (a : Letter) → Side mesh sp co t k a → UpR a → (suc k < t) × (co (suc k) ≡ right opp (co k))
      go C s u = (s.1, s.2)
      go L s u = (s.2, s.3)
      go E s u = absurd u
      go R s u = absurd u
      go S s u = (s.2, s.3)

  pub up_left : (k : ℕ) → k < t → sp k ≡ R → (suc k < t) × (mate w (3 * k + 2) ≡ 3 * suc k)
  up_left k h q =
      let z = side_at k R h q in
      (z.2, mate_at w (3 * k + 2) (3 * suc k) (ap opp (carry_right co k) ∙ sym z.3 ∙ sym (carry_tip co (suc k))))

  later_s : (k : ℕ) → k < t → sp k ≡ S → k < facing (3 * k + 2)
  later_s k h q =
      let a = later_mate (suc k) (3 * k + 2) (λ b. (side_at k S h q).1 (rw (carry_right co k) at b)) in
      omega arith

  -- the left neighbour of a C holds its tip
  later_c : (k : ℕ) → k < t → sp k ≡ C → k < facing (3 * k + 2)
  later_c k h q = let a = later_mate (suc k) (3 * k + 2) (λ b. bad (rw (carry_right co k) at b)) in omega arith
    where
      bad : Earlier co (suc k) (left opp (co k)) → ⊥
      bad (j, l, e) = go (dec_lt j k)
        where
          go : Dec (j < k) → ⊥
          go (yes z) =
              let d = left opp (co k) in
              fresh mesh w.facts k (previous d) h q (j, z, triangle_previous d ∙ e)
              (sym (mesh.glued (previous (co k))) ∙ ap lab (next_previous (co k)))
          go (no z) =
              let same : j ≡ k = omega arith in
              let d = previous (co k) in
              other_triangle mesh d (previous_low t (co k) (w.facts k h).low)
              (e ∙ ap (λ (i : ℕ). triangle (co i)) same ∙ sym (triangle_previous (co k)))

  later_0 : 0 < t → 0 < facing 0
  later_0 h = let a = later_mate 1 0 bad in omega arith
    where
      bad : Earlier co 1 (opp (carry co 0)) → ⊥
      bad (j, l, e) =
          let z : j ≡ 0 = omega arith in
          let d = ap (λ (i : ℕ). triangle (opp i)) (sym (carry_tip co 0)) ∙ e ∙ ap (λ (i : ℕ). triangle (co i)) z in
          other_triangle mesh (co 0) (w.facts 0 h).low d

  pub bottom : (k : ℕ) → 0 < k → k < t → facing (3 * k) < k
  bottom k p h = earlier_mate k (3 * k) (rw (carry_tip co k) ((w.facts k h).bottom p))

  pub down_right : (k : ℕ) → k < t → (UpR (sp k) → ⊥) → facing (3 * k + 1) < k
  down_right k h n = earlier_mate k (3 * k + 1) (rw (carry_left co k) (go (sp k) (w.facts k h).side n))
    where
      go : (a : Letter) → Side mesh sp co t k a → (UpR a → ⊥) → Earlier co k (right opp (co k))
      go C s n = absurd (n tt)
      go L s n = absurd (n tt)
      go E s n = s.2
      go R s n = s.1
      go S s n = absurd (n tt)

  pub down_left : (k : ℕ) → k < t → (UpL (sp k) → ⊥) → facing (3 * k + 2) < k
  down_left k h n = earlier_mate k (3 * k + 2) (rw (carry_right co k) (go (sp k) (w.facts k h).side n))
    where
      go : (a : Letter) → Side mesh sp co t k a → (UpL a → ⊥) → Earlier co k (left opp (co k))
      go C s n = absurd (n tt)
      go L s n = s.1
      go E s n = s.1
      go R s n = absurd (n tt)
      go S s n = absurd (n tt)

  later_left : (k : ℕ) (a : Letter) → k < t → sp k ≡ a → UpL a → k < facing (3 * k + 2)
  later_left k C h q u = later_c k h q
  later_left k L h q u = absurd u
  later_left k E h q u = absurd u
  later_left k R h q u = let z = up_left k h q in let y = ap triangle z.1 ∙ triangle_tip (suc k) in omega arith
  later_left k S h q u = later_s k h q

  later_up : (j x : ℕ) → j < t → Lifts (sp j) j x → triangle x < facing x
  later_up j x l (inl (q, u)) =
      let z = up_right j l u in
      let a = ap triangle q ∙ triangle_left j in
      let b = ap facing q ∙ ap triangle z.1 ∙ triangle_tip (suc j) in
      omega arith
  later_up j x l (inr (q, u)) =
      let z = later_left j (sp j) l refl u in
      let a = ap triangle q ∙ triangle_right j in
      let b = ap facing q in
      omega arith

  pub later : (m : ℕ) → t ≡ suc m → (x : ℕ) → 1 ≤ count x (0 ∷ ups sp 0 (suc m))
      → (triangle x < facing x) × (1 ≤ count (mate w x) (tris 0 (suc m)))
  unfolding count
  later m e x h = go (ℕ_discrete x 0)
    where
      mate_in : x < 3 * t → 1 ≤ count (mate w x) (tris 0 (suc m))
      mate_in l = let a = mate_low w x l in tris_in (mate w x) (suc m) 0 (omega arith) (omega arith)

      low : (j : ℕ) → j < t → Lifts (sp j) j x → x < 3 * t
      low j l (inl (q, u)) = omega arith
      low j l (inr (q, u)) = omega arith

      go : Dec (x ≡ 0) → (triangle x < facing x) × (1 ≤ count (mate w x) (tris 0 (suc m)))
      go (yes q) =
          let a = later_0 (omega arith) in
          let b = ap triangle q ∙ triangle_tip 0 in
          let d = ap facing q in
          (omega arith, mate_in (omega arith))
      go (no q) =
          let z = bit_off x 0 q in
          let r = ups_in sp x (suc m) 0 (omega arith) in
          let u = up_at_lem (sp r.0) x r.0 r.2 in
          let l : r.0 < t = omega arith in
          (later_up r.0 x l u, mate_in (low r.0 l u))
