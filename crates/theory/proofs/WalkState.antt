-- E1: what holds between two steps of the walk on an accepted mesh, and that each letter keeps it.
--
--   In y pre          the vertex y is marked after the steps pre
--   Ends pre x        both ends of the edge opposite x are marked, and x is a corner of the mesh
--   State pre st x    all visited corners are marked, x and the waiting lefts st have marked ends, x is not visited,
--                     and every step was at an unvisited triangle
--   Says pre x a      what the letter a found at x says of the tip and of the two neighbours
--   kept_c .. kept_e  the state after a step with that letter
--   started           the state at the gate
use mathlib.Core.Bool.{Bool, false, true}
use mathlib.Core.List.{List, [], ◌∷◌}
use mathlib.Core.Logic.{◌⊎◌, inl, inr}
use mathlib.Core.Path.{◌∙◌, ◌≡◌, ap, refl, subst, sym}
use Prim.Native.Nat.{◌*◌, ◌<◌, ℕ}
use lib.Dec.{eqb}
use borrow.Author.Tests.{eqb-true}
use Rattle.theory.proofs.CornerLaws.{next_low, next_next, next_previous, previous_low, previous_next, previous_previous, three, triangle_next}
use Rattle.theory.proofs.Each.{EachN, each_n_map}
use Rattle.theory.proofs.Runs.{Drop, skip, stay}
use Rattle.theory.proofs.SphereLaws.{glued_left, other_triangle}
use Rattle.std.proofs.lemmas.Bool.{or_cases, or_right}
use Rattle.theory.proofs.TestLaws.{eqb_same, not_both, or_three}
use Rattle.theory.specs.Corner.{left, next, previous, right, triangle}
use Rattle.theory.specs.Lists.{mem}
use Rattle.theory.specs.Mesh.{Sphere}
use Rattle.theory.specs.Walk.{Step, ◌＠◌, by_sides, letter_at, marks, seen, tips}
use Rattle.theory.specs.declared.Letter.{Letter}
use Rattle.theory.specs.declared.Letter.TheVariants.{C, E, L, R, S}

module _ {lab opp : ℕ → ℕ} {t v g : ℕ} (mesh : Sphere lab opp t v g) where
  abbrev pub In : ℕ → List Step → Type 0
  In y pre = mem y (marks lab g pre) ≡ true

  -- marks stay
  mono : (a : Letter) (x y : ℕ) (pre : List Step) → In y pre → In y ((a ＠ x) ∷ pre)
  unfolding mem tips marks
  mono C x y pre h = or_three (eqb y (lab (next g))) (eqb y (lab (previous g))) (eqb y (lab x)) (mem y (tips lab pre)) h
  mono L x y pre h = h
  mono E x y pre h = h
  mono R x y pre h = h
  mono S x y pre h = h

  -- a C marks its tip
  own : (x : ℕ) (pre : List Step) → In (lab x) ((C ＠ x) ∷ pre)
  unfolding mem tips marks
  own x pre = or_right (eqb (lab x) (lab (next g))) _ (or_right (eqb (lab x) (lab (previous g))) _ (rw eqb_same))

  abbrev pub Ends : List Step → ℕ → Type 0
  Ends pre x = In (lab (next x)) pre × In (lab (previous x)) pre × (x < 3 * t)

  abbrev pub New : List Step → Type 0
  New [] = Unit {0}
  New ((a ＠ d) ∷ pre) = (seen pre d ≡ false) × (d < 3 * t) × New pre

  pub record State (pre : List Step) (st : List ℕ) (x : ℕ) : Type 0 where
    pub marked : (d : ℕ) → seen pre d ≡ true → In (lab d) pre
    pub ends : Ends pre x
    pub waiting : EachN (Ends pre) st
    pub unseen : seen pre x ≡ false
    pub news : New pre

  abbrev left_seen : List Step → ℕ → Bool
  left_seen pre x = seen ((E ＠ x) ∷ pre) (left opp x)

  abbrev right_seen : List Step → ℕ → Bool
  right_seen pre x = seen ((E ＠ x) ∷ pre) (right opp x)

  pub data Says (pre : List Step) (x : ℕ) : Letter → Type 0 where
    says_c : mem (lab x) (marks lab g pre) ≡ false → Says pre x C
    says_e : In (lab x) pre → left_seen pre x ≡ true → right_seen pre x ≡ true → Says pre x E
    says_l : In (lab x) pre → left_seen pre x ≡ true → right_seen pre x ≡ false → Says pre x L
    says_r : In (lab x) pre → left_seen pre x ≡ false → right_seen pre x ≡ true → Says pre x R
    says_s : In (lab x) pre → left_seen pre x ≡ false → right_seen pre x ≡ false → Says pre x S

  pub look : (pre : List Step) (x : ℕ) → (a : Letter) × (letter_at lab opp g pre x ≡ a) × Says pre x a
  unfolding letter_at by_sides
  look pre x = go (mem (lab x) (marks lab g pre)) (left_seen pre x) (right_seen pre x) refl refl refl
    where
      go : (m l r : Bool) → mem (lab x) (marks lab g pre) ≡ m → left_seen pre x ≡ l → right_seen pre x ≡ r
          → (a : Letter) × (letter_at lab opp g pre x ≡ a) × Says pre x a
      go false l r hm hl hr = (C, rw hm, says_c hm)
      go true true true hm hl hr = (E, rw (hm, hl, hr), says_e hm hl hr)
      go true true false hm hl hr = (L, rw (hm, hl, hr), says_l hm hl hr)
      go true false true hm hl hr = (R, rw (hm, hl, hr), says_r hm hl hr)
      go true false false hm hl hr = (S, rw (hm, hl, hr), says_s hm hl hr)

  pub says : (pre : List Step) (x : ℕ) (a : Letter) → letter_at lab opp g pre x ≡ a → Says pre x a
  says pre x a h = subst (Says pre x) (sym (look pre x).1 ∙ h) (look pre x).2

  seen_next : (pre : List Step) (d : ℕ) → seen pre (next d) ≡ seen pre d
  unfolding seen
  seen_next [] d = refl
  seen_next ((a ＠ y) ∷ pre) d = rw (triangle_next, seen_next pre d)

  pub dropped_each : {pre : List Step} {st rest : List ℕ} (P : ℕ → Type 0) → Drop pre st rest → EachN P st
      → EachN P rest
  dropped_each P stay h = h
  dropped_each P (skip q z) h = dropped_each P z h.1

  module _ {pre : List Step} {st : List ℕ} {x : ℕ} (i : State pre st x) where
    -- both neighbours have x's tip at an end of their edge
    right_tip : lab (next (right opp x)) ≡ lab x
    right_tip = sym (glued_left mesh (next x)) ∙ ap lab (previous_next x)

    left_tip : lab (previous (left opp x)) ≡ lab x
    left_tip = sym (mesh.glued (previous x)) ∙ ap lab (next_previous x)

    module _ (a : Letter) (tip : In (lab x) ((a ＠ x) ∷ pre)) where
      right_ends : Ends ((a ＠ x) ∷ pre) (right opp x)
      right_ends =
          let edge = sym (mesh.glued (next x)) ∙ ap lab (next_next x) in
          let low = mesh.inside (next x) (next_low t x i.ends.2) in
          (rw right_tip tip, rw edge (mono a x (lab (previous x)) pre i.ends.1), low)

      left_ends : Ends ((a ＠ x) ∷ pre) (left opp x)
      left_ends =
          let edge = sym (glued_left mesh (previous x)) ∙ ap lab (previous_previous x) in
          let low = mesh.inside (previous x) (previous_low t x i.ends.2) in
          (rw edge (mono a x (lab (next x)) pre i.ends.0), rw left_tip tip, low)

      waits : EachN (Ends ((a ＠ x) ∷ pre)) st
      waits =
          each_n_map (Ends pre) (Ends ((a ＠ x) ∷ pre))
          (λ d q. (mono a x (lab (next d)) pre q.0, mono a x (lab (previous d)) pre q.1, q.2)) st i.waiting

      -- the triangle of x joins the visited ones
      marks_kept : (d : ℕ) → seen ((a ＠ x) ∷ pre) d ≡ true → In (lab d) ((a ＠ x) ∷ pre)
      unfolding seen
      marks_kept d h = go (or_cases (eqb (triangle d) (triangle x)) (seen pre d) h)
        where
          corner : (d ≡ x) ⊎ ((d ≡ next x) ⊎ (d ≡ previous x)) → In (lab d) ((a ＠ x) ∷ pre)
          corner (inl q) = rw q tip
          corner (inr (inl q)) = rw q (mono a x (lab (next x)) pre i.ends.0)
          corner (inr (inr q)) = rw q (mono a x (lab (previous x)) pre i.ends.1)

          go : (eqb (triangle d) (triangle x) ≡ true) ⊎ (seen pre d ≡ true) → In (lab d) ((a ＠ x) ∷ pre)
          go (inl q) = corner (three d x (eqb-true (triangle d) (triangle x) q))
          go (inr q) = mono a x (lab d) pre (i.marked d q)

      kept : (rest : List ℕ) (y : ℕ) → Ends ((a ＠ x) ∷ pre) y → EachN (Ends ((a ＠ x) ∷ pre)) rest
          → seen ((a ＠ x) ∷ pre) y ≡ false
          → State ((a ＠ x) ∷ pre) rest y
      kept rest y e w u =
          record { marked = marks_kept; ends = e; waiting = w; unseen = u; news = (i.unseen, i.ends.2, i.news) }

    -- at a C the right neighbour is not visited, since it has the tip
    clear : mem (lab x) (marks lab g pre) ≡ false → seen ((C ＠ x) ∷ pre) (right opp x) ≡ false
    unfolding seen
    clear h = go (seen ((C ＠ x) ∷ pre) (right opp x)) refl
      where
        bad : (eqb (triangle (right opp x)) (triangle x) ≡ true) ⊎ (seen pre (right opp x) ≡ true) → ⊥
        bad (inl q) =
            other_triangle mesh (next x) (next_low t x i.ends.2)
            (eqb-true (triangle (right opp x)) (triangle x) q ∙ sym (triangle_next x))
        bad (inr q) =
            let m = i.marked (next (right opp x)) (seen_next pre (right opp x) ∙ q) in
            not_both (mem (lab x) (marks lab g pre)) (rw right_tip at m) h

        go : (b : Bool) → seen ((C ＠ x) ∷ pre) (right opp x) ≡ b → seen ((C ＠ x) ∷ pre) (right opp x) ≡ false
        go true q = absurd (bad (or_cases (eqb (triangle (right opp x)) (triangle x)) (seen pre (right opp x)) q))
        go false q = q

    pub kept_c : Says pre x C → State ((C ＠ x) ∷ pre) st (right opp x)
    kept_c (says_c m) = let tip = own x pre in kept C tip st (right opp x) (right_ends C tip) (waits C tip) (clear m)

    pub kept_l : Says pre x L → State ((L ＠ x) ∷ pre) st (right opp x)
    unfolding seen
    kept_l (says_l m y z) =
        let tip = mono L x (lab x) pre m in
        kept L tip st (right opp x) (right_ends L tip) (waits L tip) z

    pub kept_r : Says pre x R → State ((R ＠ x) ∷ pre) st (left opp x)
    unfolding seen
    kept_r (says_r m y z) =
        let tip = mono R x (lab x) pre m in
        kept R tip st (left opp x) (left_ends R tip) (waits R tip) y

    pub kept_s : Says pre x S → State ((S ＠ x) ∷ pre) (left opp x ∷ st) (right opp x)
    unfolding seen
    kept_s (says_s m y z) =
        let tip = mono S x (lab x) pre m in
        kept S tip (left opp x ∷ st) (right opp x) (right_ends S tip) (left_ends S tip, waits S tip) z

    pub kept_e : {rest : List ℕ} {d : ℕ} → Says pre x E → Drop ((E ＠ x) ∷ pre) st (d ∷ rest)
        → seen ((E ＠ x) ∷ pre) d ≡ false
        → State ((E ＠ x) ∷ pre) rest d
    kept_e {rest = rest} {d = d} (says_e m y u) z h =
        let tip = mono E x (lab x) pre m in
        let w = dropped_each (Ends ((E ＠ x) ∷ pre)) z (waits E tip) in
        kept E tip rest d w.0 w.1 h

  pub started : State [] [] g
  unfolding seen mem marks
  started = record {
    marked = λ d h. absurd (not_both false h refl);
    ends = (rw eqb_same, or_right (eqb (lab (previous g)) (lab (next g))) _ (rw eqb_same), mesh.gate);
    waiting = tt;
    unseen = refl;
    news = tt;
  }
