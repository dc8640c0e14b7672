-- E4: a run visits every triangle of the mesh (`visited`), so it has at least t steps (`full`).
--
-- The left side of a C is visited in the end (`new_left`): swinging from its tip goes round over visited triangles
-- only, by recursion from the last C back. Likewise the gate's own neighbour (`gate_seen`), by swinging round an end of
-- its edge. So the visited triangles are closed under neighbours (`closed`), and the mesh is one piece.
use mathlib.Core.Logic.{◌≢◌, ◌⊎◌, inl, inr}
use mathlib.Core.Path.{◌∙◌, ◌≡◌, ap, refl, subst, sym}
use Prim.Native.Nat.{◌*◌, ◌+◌, ◌<◌, ◌≤◌, suc, zero, ℕ}
use native.Mathlib.Decide.{dec_lt, ℕ_discrete}
use native.Mathlib.Omega.{arith}
use Rattle.theory.proofs.ByTime.{Earlier, longer}
use Rattle.theory.proofs.CornerLaws.{next_low, next_next, previous_next, three, triangle_low, triangle_next}
use Rattle.theory.proofs.Counting.{count, pigeon}
use Rattle.theory.proofs.Facts.{Fact, Side}
use Rattle.theory.proofs.Injections.{length_vals, order, vals, vals_has, vals_off, vals_once}
use Rattle.theory.proofs.LetterLaws.{is_c}
use Rattle.theory.proofs.SphereLaws.{one_corner, swing_inj, swing_low, swings_vertex}
use Rattle.theory.specs.Corner.{left, next, previous, right, swing, triangle}
use Rattle.theory.specs.Lists.{iter}
use Rattle.theory.specs.Mesh.{Reach, Sphere, here, over}
use Rattle.theory.specs.declared.Letter.{Letter}
use Rattle.theory.specs.declared.Letter.TheVariants.{C, E, L, R, S}

module _ {lab opp : ℕ → ℕ} {t v g : ℕ} (mesh : Sphere lab opp t v g)
    {sp : ℕ → Letter} {co : ℕ → ℕ} {m : ℕ} (facts : (k : ℕ) → k < m → Fact mesh sp co m k) where
  -- visited in the end
  abbrev Seen : ℕ → Type 0
  Seen c = Earlier co m c

  seen_next : (c : ℕ) → Seen c → Seen (next c)
  seen_next c (j, h, q) = (j, h, triangle_next c ∙ q)

  -- where all corners on a's ring are visited, so is the last neighbour on it
  last_left : (a : ℕ) → a < 3 * t → ((i : ℕ) → Seen (iter (swing opp) i a)) → Seen (left opp a)
  unfolding iter
  last_left a h ring =
      let o = order (swing opp) (3 * t) (swing_low mesh) (swing_inj mesh) a h in
      let c = iter (swing opp) o.0 a in
      let b : right opp c ≡ previous a = sym (previous_next (right opp c)) ∙ ap previous o.1 in
      let d : next c ≡ left opp a = sym (mesh.paired (next c)) ∙ ap opp b in
      rw (← d) (seen_next c (ring o.0))

  right_seen_lem : (k : ℕ) → k < m → Seen (right opp (co k))
  right_seen_lem k h = go (sp k) (facts k h).side
    where
      go : (a : Letter) → Side mesh sp co m k a → Seen (right opp (co k))
      go C s = (suc k, s.1, ap triangle (sym s.2))
      go L s = (suc k, s.2, ap triangle (sym s.3))
      go E s = longer co k m (right opp (co k)) (omega arith) s.2
      go R s = longer co k m (right opp (co k)) (omega arith) s.1
      go S s = (suc k, s.2, ap triangle (sym s.3))

  old_left : (k : ℕ) → k < m → sp k ≢ C → Seen (left opp (co k))
  old_left k h = go (sp k) (facts k h).side
    where
      go : (a : Letter) → Side mesh sp co m k a → a ≢ C → Seen (left opp (co k))
      go C s n = absurd (n refl)
      go L s n = longer co k m (left opp (co k)) (omega arith) s.1
      go E s n = longer co k m (left opp (co k)) (omega arith) s.1
      go R s n = (suc k, s.2, ap triangle (sym s.3))
      go S s n = s.4

  bottom_seen : (k : ℕ) → 0 < k → k < m → Seen (opp (co k))
  bottom_seen k p h = longer co k m (opp (co k)) (omega arith) ((facts k h).bottom p)

  -- a C's tip is no vertex of an earlier triangle
  pub fresh : (k c : ℕ) → k < m → sp k ≡ C → Earlier co k c → lab c ≢ lab (co k)
  fresh k c h q b u =
      let s : Side mesh sp co m k C = subst (Side mesh sp co m k) q (facts k h).side in
      s.0 (rw (← u) ((facts k h).marked c b))

  -- the three neighbours of a step
  beside : (j c : ℕ) → Seen (opp (co j)) → Seen (left opp (co j)) → j < m → triangle c ≡ triangle (co j) → Seen (opp c)
  beside j c b l q u = go (three c (co j) u)
    where
      go : (c ≡ co j) ⊎ ((c ≡ next (co j)) ⊎ (c ≡ previous (co j))) → Seen (opp c)
      go (inl w) = rw w b
      go (inr (inl w)) = rw w (right_seen_lem j q)
      go (inr (inr w)) = rw w l

  left_by : (j : ℕ) → j < m → (sp j ≡ C → Seen (left opp (co j))) → Seen (left opp (co j))
  left_by j q f = go (is_c (sp j))
    where
      go : Dec (sp j ≡ C) → Seen (left opp (co j))
      go (yes w) = f w
      go (no w) = old_left j q w

  around : (j c : ℕ) → (sp j ≡ C → Seen (left opp (co j))) → 0 < j → j < m → triangle c ≡ triangle (co j) → Seen (opp c)
  around j c f p q u = beside j c (bottom_seen j p q) (left_by j q f) q u

  -- the ring round the tip of a C, if the left sides of all later Cs are visited
  ring : (k : ℕ) → k < m → sp k ≡ C → ((i : ℕ) → k < i → i < m → sp i ≡ C → Seen (left opp (co i))) → (i : ℕ)
      → Seen (iter (swing opp) i (co k))
  unfolding iter
  ring k h w f zero = (k, h, refl)
  ring k h w f (suc i) = turn (iter (swing opp) i (co k)) (swings_vertex mesh i (co k)) (ring k h w f i)
    where
      turn : (c : ℕ) → lab c ≡ lab (co k) → Seen c → Seen (swing opp c)
      turn c l (j, q, u) = seen_next (right opp c) (go (dec_lt j k) (dec_lt k j))
        where
          go : Dec (j < k) → Dec (k < j) → Seen (right opp c)
          go (yes z) d = absurd (fresh k c h w (j, z, u) l)
          go (no z) (yes d) = around j (next c) (f j d q) (omega arith) q (triangle_next c ∙ u)
          go (no z) (no d) =
              let e : j ≡ k = omega arith in
              let there = u ∙ ap (λ (y : ℕ). triangle (co y)) e in
              let same = one_corner mesh c (co k) (facts k h).low there l in
              rw same (right_seen_lem k h)

  -- by recursion on m - k
  new_left : (d k : ℕ) → k < m → m ≤ k + d → sp k ≡ C → Seen (left opp (co k))
  new_left zero k h q w = absurd (omega arith)
  new_left (suc d) k h q w = last_left (co k) (facts k h).low (ring k h w (λ i u z c. new_left d i z (omega arith) c))

  left_seen_lem : (k : ℕ) → k < m → Seen (left opp (co k))
  left_seen_lem k h = left_by k h (new_left m k h (omega arith))

  -- the ring round the left end of the gate's edge
  gate_ring : 0 < m → (i : ℕ) → Seen (iter (swing opp) i (next (co 0)))
  unfolding iter
  gate_ring h zero = (0, h, triangle_next (co 0))
  gate_ring h (suc i) = turn (iter (swing opp) i (next (co 0))) (swings_vertex mesh i (next (co 0))) (gate_ring h i)
    where
      turn : (c : ℕ) → lab c ≡ lab (next (co 0)) → Seen c → Seen (swing opp c)
      turn c l (j, q, u) = seen_next (right opp c) (go (dec_lt 0 j))
        where
          go : Dec (0 < j) → Seen (right opp c)
          go (yes w) = around j (next c) (λ z. left_seen_lem j q) w q (triangle_next c ∙ u)
          go (no w) =
              let e : j ≡ 0 = omega arith in
              let there = u ∙ ap (λ (y : ℕ). triangle (co y)) e ∙ sym (triangle_next (co 0)) in
              let same = one_corner mesh c (next (co 0)) (next_low t (co 0) (facts 0 h).low) there l in
              rw (same, next_next (co 0)) (left_seen_lem 0 h)

  gate_seen : 0 < m → Seen (opp (co 0))
  gate_seen h =
      let w = last_left (next (co 0)) (next_low t (co 0) (facts 0 h).low) (gate_ring h) in
      rw (previous_next (co 0)) at w

  closed : (c : ℕ) → Seen c → Seen (opp c)
  closed c (j, q, u) = go (ℕ_discrete j 0)
    where
      go : Dec (j ≡ 0) → Seen (opp c)
      go (yes z) = beside j c (rw z (gate_seen (omega arith))) (left_seen_lem j q) q u
      go (no z) = around j c (λ w. left_seen_lem j q) (omega arith) q u

  module _ (any : 0 < m) (start : co 0 ≡ g) where
    reach_seen : {k : ℕ} → Reach opp (triangle g) k → (j : ℕ) × (j < m) × (k ≡ triangle (co j))
    reach_seen here = (0, any, ap triangle (sym start))
    reach_seen (over c r) = closed c (reach_seen r)

    pub visited : (c : ℕ) → c < 3 * t → Seen c
    visited c q = reach_seen (mesh.reaches (triangle c) (triangle_low t c q))

    pub full : t ≤ m
    full =
        let p = pigeon (vals (λ i. i) t) (vals (λ j. triangle (co j)) m) at in
        let a = length_vals (λ i. i) t in
        let b = length_vals (λ j. triangle (co j)) m in
        omega arith
      where
        at : (k : ℕ) → count k (vals (λ i. i) t) ≤ count k (vals (λ j. triangle (co j)) m)
        at k = go (dec_lt k t)
          where
            go : Dec (k < t) → count k (vals (λ i. i) t) ≤ count k (vals (λ j. triangle (co j)) m)
            go (yes l) =
                let s = reach_seen (mesh.reaches k l) in
                let a = vals_once (λ i. i) k t (λ i j p q e. e) in
                let b = vals_has (λ j. triangle (co j)) m s.0 k s.1 s.2 in
                omega arith
            go (no l) = let a = vals_off (λ i. i) k t (λ i q e. omega arith) in omega arith
