-- E3 (`index`): what a run of m steps says at each step k, as facts about its letters sp and its corners co.
--
--   Fact m k     the corner of step k: a corner of the mesh at a new triangle, its bottom neighbour visited earlier,
--                its ends and the vertices of all earlier triangles marked; and what the letter says (`Side`)
--   Here m ..    the walk between two steps: those behind it and those ahead, m in all
--   index        every step from here on has its facts, and every waiting left is visited in the end
use mathlib.Core.Bool.{false, true}
use mathlib.Core.List.{List, ◌∷◌}
use mathlib.Core.Logic.{◌⊎◌, inl, inr}
use mathlib.Core.Path.{◌∙◌, ◌≡◌, ap, subst, sym}
use Prim.Native.Nat.{◌*◌, ◌+◌, ◌<◌, ◌≤◌, suc, ℕ}
use native.Mathlib.Decide.{ℕ_discrete}
use native.Mathlib.Omega.{arith}
use lib.Dec.{eqb}
use lib.ListN.{length}
use borrow.Author.Tests.{eqb-true}
use Rattle.theory.proofs.ByTime.{Ahead, Earlier, Holds, Mark, before_seen, in_mark, longer, mark_in, seen_before}
use Rattle.theory.proofs.CornerLaws.{next_low, previous_low, triangle_next, triangle_previous}
use Rattle.theory.proofs.Each.{EachN, each_n_map}
use Rattle.theory.proofs.Runs.{Drop, Run, end, left_done, new, resume, right_done, skip, split, stay}
use Rattle.theory.proofs.SphereLaws.{other_triangle}
use Rattle.std.proofs.lemmas.Bool.{or_cases}
use Rattle.theory.proofs.TestLaws.{not_both}
use Rattle.theory.proofs.WalkState.{In, Says, State, dropped_each, kept_c, kept_e, kept_l, kept_r, kept_s, says, says_c, says_e, says_l, says_r, says_s}
use Rattle.theory.specs.Corner.{left, next, previous, right, triangle}
use Rattle.theory.specs.Lists.{mem}
use Rattle.theory.specs.Mesh.{Sphere}
use Rattle.theory.specs.Walk.{Step, ◌＠◌, marks, seen}
use Rattle.theory.specs.declared.Letter.{Letter}
use Rattle.theory.specs.declared.Letter.TheVariants.{C, E, L, R, S}

module _ {lab opp : ℕ → ℕ} {t v g : ℕ} (mesh : Sphere lab opp t v g) (sp : ℕ → Letter) (co : ℕ → ℕ) where
  abbrev Marked : ℕ → ℕ → Type 0
  Marked = Mark lab g sp co

  -- S: the left neighbour is not visited yet, but in the end
  abbrev pub Side : ℕ → ℕ → Letter → Type 0
  Side m k C = (Marked k (lab (co k)) → ⊥) × (suc k < m) × (co (suc k) ≡ right opp (co k))
  Side m k L = Marked k (lab (co k)) × Earlier co k (left opp (co k)) × (suc k < m) × (co (suc k) ≡ right opp (co k))
  Side m k E = Marked k (lab (co k)) × Earlier co k (left opp (co k)) × Earlier co k (right opp (co k))
  Side m k R = Marked k (lab (co k)) × Earlier co k (right opp (co k)) × (suc k < m) × (co (suc k) ≡ left opp (co k))
  Side m k S =
      Marked k (lab (co k)) × (Earlier co (suc k) (left opp (co k)) → ⊥) × (suc k < m) × (co (suc k) ≡ right opp (co k))
      × Earlier co m (left opp (co k))

  pub record Fact (m k : ℕ) : Type 0 where
    pub low : co k < 3 * t
    pub unmet : Earlier co k (co k) → ⊥
    pub bottom : 0 < k → Earlier co k (opp (co k))
    pub marked : (x : ℕ) → Earlier co k x → Marked k (lab x)
    pub left_end : Marked k (lab (next (co k)))
    pub right_end : Marked k (lab (previous (co k)))
    pub side : Side m k (sp k)

  abbrev pub All : ℕ → ℕ → Type 0
  All m n = (k : ℕ) → n ≤ k → k < m → Fact m k

  first : (m n : ℕ) → Fact m n → All m (suc n) → All m n
  first m n h f k p q = go (ℕ_discrete n k)
    where
      go : Dec (n ≡ k) → Fact m k
      go (yes z) = subst (Fact m) z h
      go (no z) = f k (omega arith) q

  -- a run begins with its corner
  pub headed : {pre q : List Step} {st : List ℕ} {x : ℕ} → Run lab opp g pre st x q → (k : ℕ) → Ahead sp co k q
      → (co k ≡ x) × (1 ≤ length q)
  headed (new h z) k a = (a.1, omega arith)
  headed (left_done h z) k a = (a.1, omega arith)
  headed (right_done h z) k a = (a.1, omega arith)
  headed (split h z) k a = (a.1, omega arith)
  headed (resume h d u z) k a = (a.1, omega arith)
  headed (end h d) k a = (a.1, omega arith)

  -- the bottom neighbour of d is visited before step k
  abbrev Backed : ℕ → ℕ → Type 0
  Backed k d = Earlier co k (opp d)

  pub record Here (m : ℕ) (pre : List Step) (st : List ℕ) (x : ℕ) (q : List Step) : Type 0 where
    pub state : State mesh pre st x
    pub behind : Holds sp co pre
    pub ahead : Ahead sp co (length pre) q
    pub total : length pre + length q ≡ m
    pub backed : 0 < length pre → Backed (length pre) x
    pub waiting : EachN (Backed (length pre)) st

  module _ {m : ℕ} {pre : List Step} {st : List ℕ} {x : ℕ} {a : Letter} {q : List Step}
      (p : Here m pre st x ((a ＠ x) ∷ q)) where
    at : co (length pre) ≡ x
    at = p.ahead.1

    holds : Holds sp co ((a ＠ x) ∷ pre)
    holds = (p.ahead.0, at, p.behind)

    low_here : x < 3 * t
    low_here = p.state.ends.2

    -- the step at x, in front of the later ones
    more : Side m (length pre) a → All m (suc (length pre)) → All m (length pre)
    more s = first m (length pre) (record {
      low = rw at low_here;
      unmet = λ w. not_both (seen pre x) (before_seen lab g sp co pre p.behind x (rw at at w)) p.state.unseen;
      bottom = λ b. rw at (p.backed b);
      marked =
          λ d w. in_mark lab g sp co pre p.behind (lab d)
          (p.state.marked d (before_seen lab g sp co pre p.behind d w));
      left_end = rw at (in_mark lab g sp co pre p.behind (lab (next x)) p.state.ends.0);
      right_end = rw at (in_mark lab g sp co pre p.behind (lab (previous x)) p.state.ends.1);
      side = subst (Side m (length pre)) (sym p.ahead.0) s;
    })

    -- the state after it
    after : {rest : List ℕ} {y : ℕ} → State mesh ((a ＠ x) ∷ pre) rest y → Backed (suc (length pre)) y
        → EachN (Backed (suc (length pre))) rest → Here m ((a ＠ x) ∷ pre) rest y q
    after s b w = let n = p.total in
        record {
          state = s;
          behind = holds;
          ahead = p.ahead.2;
          total = omega arith;
          backed = λ z. b;
          waiting = w;
        }

    -- the neighbour of x over one of its sides y has its own bottom neighbour at x
    beside : (y : ℕ) → triangle y ≡ triangle x → Backed (suc (length pre)) (opp y)
    beside y h = (length pre, omega arith, ap triangle (mesh.paired y) ∙ h ∙ ap triangle (sym at))

    still : EachN (Backed (suc (length pre))) st
    still =
        let k = length pre in
        each_n_map (Backed k) (Backed (suc k)) (λ d z. longer co k (suc k) (opp d) (omega arith) z) st p.waiting

    tip : In mesh (lab x) pre → Marked (length pre) (lab (co (length pre)))
    tip w = rw at (in_mark lab g sp co pre p.behind (lab x) w)

    -- a neighbour that counts as visited was so before: no triangle is its own neighbour
    earlier : (y : ℕ) → y < 3 * t → triangle y ≡ triangle x → seen ((E ＠ x) ∷ pre) (opp y) ≡ true
        → Earlier co (length pre) (opp y)
    unfolding seen
    earlier y b e w = go (or_cases (eqb (triangle (opp y)) (triangle x)) (seen pre (opp y)) w)
      where
        go : (eqb (triangle (opp y)) (triangle x) ≡ true) ⊎ (seen pre (opp y) ≡ true) → Earlier co (length pre) (opp y)
        go (inl u) = absurd (other_triangle mesh y b (eqb-true (triangle (opp y)) (triangle x) u ∙ sym e))
        go (inr u) = seen_before lab g sp co pre p.behind (opp y) u

    left_earlier : seen ((E ＠ x) ∷ pre) (left opp x) ≡ true → Earlier co (length pre) (left opp (co (length pre)))
    left_earlier w = rw at (earlier (previous x) (previous_low t x low_here) (triangle_previous x) w)

    right_earlier : seen ((E ＠ x) ∷ pre) (right opp x) ≡ true → Earlier co (length pre) (right opp (co (length pre)))
    right_earlier w = rw at (earlier (next x) (next_low t x low_here) (triangle_next x) w)

    later : (y : ℕ) → seen ((E ＠ x) ∷ pre) y ≡ false → Earlier co (suc (length pre)) y → ⊥
    unfolding seen
    later y f w =
        let b = before_seen lab g sp co ((a ＠ x) ∷ pre) holds y w in
        not_both (seen ((a ＠ x) ∷ pre) y) b f

  -- dropped lefts are visited
  dropped : {pre : List Step} {st rest : List ℕ} (m : ℕ) → Drop pre st rest → Holds sp co pre → length pre ≤ m
      → EachN (Earlier co m) rest → EachN (Earlier co m) st
  dropped m stay h b e = e
  dropped {pre = pre} m (skip {d = d} q z) h b e =
      (longer co (length pre) m d b (seen_before lab g sp co pre h d q), dropped m z h b e)

  -- what each letter says, from its view
  module _ {m : ℕ} {pre : List Step} {st : List ℕ} {x : ℕ} {q : List Step} (n : suc (length pre) < m) where
    side_c : Here m pre st x ((C ＠ x) ∷ q) → Says mesh pre x C → co (suc (length pre)) ≡ right opp x
        → Side m (length pre) C
    side_c p (says_c w) e = (unmarked, n, rw (at p) e)
      where
        unmarked : Marked (length pre) (lab (co (length pre))) → ⊥
        unmarked y =
            let z = mark_in lab g sp co pre p.behind (lab x) (rw (at p) at y) in
            not_both (mem (lab x) (marks lab g pre)) z w

    side_l : Here m pre st x ((L ＠ x) ∷ q) → Says mesh pre x L → co (suc (length pre)) ≡ right opp x
        → Side m (length pre) L
    side_l p (says_l w l r) e = (tip p w, left_earlier p l, n, rw (at p) e)

    side_r : Here m pre st x ((R ＠ x) ∷ q) → Says mesh pre x R → co (suc (length pre)) ≡ left opp x
        → Side m (length pre) R
    side_r p (says_r w l r) e = (tip p w, right_earlier p r, n, rw (at p) e)

    side_s : Here m pre st x ((S ＠ x) ∷ q) → Says mesh pre x S
        → co (suc (length pre)) ≡ right opp x → Earlier co m (left opp x) → Side m (length pre) S
    side_s p (says_s w l r) e f = (tip p w, (λ y. later p (left opp x) l (rw (at p) at y)), n, rw (at p) e, rw (at p) f)

  side_e : {m : ℕ} {pre : List Step} {st : List ℕ} {x : ℕ} {q : List Step} → Here m pre st x ((E ＠ x) ∷ q)
      → Says mesh pre x E
      → Side m (length pre) E
  side_e p (says_e w l r) = (tip p w, left_earlier p l, right_earlier p r)

  pub index : {m : ℕ} {pre q : List Step} {st : List ℕ} {x : ℕ} → Run lab opp g pre st x q → Here m pre st x q
      → All m (length pre) × EachN (Earlier co m) st
  index (new {pre = pre} {x = x} h z) p =
      let w = says mesh pre x C h in
      let d = headed z (suc (length pre)) p.ahead.2 in
      let n = p.total in
      let r = index z (after p (kept_c mesh p.state w) (beside p (next x) (triangle_next x)) (still p)) in
      (more p (side_c (omega arith) p w d.0) r.0, r.1)
  index (left_done {pre = pre} {x = x} h z) p =
      let w = says mesh pre x L h in
      let d = headed z (suc (length pre)) p.ahead.2 in
      let n = p.total in
      let r = index z (after p (kept_l mesh p.state w) (beside p (next x) (triangle_next x)) (still p)) in
      (more p (side_l (omega arith) p w d.0) r.0, r.1)
  index (right_done {pre = pre} {x = x} h z) p =
      let w = says mesh pre x R h in
      let d = headed z (suc (length pre)) p.ahead.2 in
      let n = p.total in
      let r = index z (after p (kept_r mesh p.state w) (beside p (previous x) (triangle_previous x)) (still p)) in
      (more p (side_r (omega arith) p w d.0) r.0, r.1)
  index (split {pre = pre} {st = st} {x = x} h z) p =
      let w = says mesh pre x S h in
      let d = headed z (suc (length pre)) p.ahead.2 in
      let n = p.total in
      let side = beside p (previous x) (triangle_previous x) in
      let r = index z (after p (kept_s mesh p.state w) (beside p (next x) (triangle_next x)) (side, still p)) in
      (more p (side_s (omega arith) p w d.0 r.1.0) r.0, r.1.1)
  index {m = m} (resume {pre = pre} {x = x} {d = y} h dr un z) p =
      let w = says mesh pre x E h in
      let d = headed z (suc (length pre)) p.ahead.2 in
      let n = p.total in
      let backs = dropped_each mesh (Backed (suc (length pre))) dr (still p) in
      let r = index z (after p (kept_e mesh p.state w dr un) backs.0 backs.1) in
      let popped : Earlier co m y = (suc (length pre), omega arith, ap triangle (sym d.0)) in
      (more p (side_e p w) r.0, dropped m dr (holds p) (omega arith) (popped, r.1))
  index {m = m} (end {pre = pre} {x = x} h dr) p =
      let n = p.total in
      let s = side_e p (says mesh pre x E h) in
      (more p s (λ k b f. absurd (omega arith)), dropped m dr (holds p) (omega arith) tt)
