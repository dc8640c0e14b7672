-- D9 (`homes`): in a table that holds a word's joins, swings lead from every corner to the corner that made its vertex.
-- The ends of a triangle by its bottom edge, its tip by a side joined with an earlier corner, or by the chain lemma D8
-- read as "swings lead there".
--
--   left_swings    from the left end of a word's first triangle along its open sides
--   Home Homes     a corner, and all corners below 3k, are on the ring of their vertex's maker
use mathlib.Core.List.{List, [], ◌++◌, ◌∷◌}
use mathlib.Core.Path.{◌≡◌}
use Prim.Native.Nat.{◌*◌, ◌+◌, ◌-◌, ◌<◌, ◌≤◌, ℕ}
use native.Mathlib.Decide.{ℕ_discrete}
use native.Mathlib.Omega.{arith}
use lib.ListN.{drop, length, take}
use Rattle.theory.proofs.Chain.{Glue, chain, chain_last, each_map}
use Rattle.theory.proofs.CornerLaws.{next_low, next_tip, previous_left, previous_low, previous_tip}
use Rattle.theory.proofs.Each.{EachN, each_back, each_front, each_take}
use Rattle.theory.proofs.HoldsWord.{HoldsWord, Zipped, holds_c, holds_e, holds_l, holds_r, holds_s}
use Rattle.theory.proofs.JoinLaws.{Join, both_back, down}
use Rattle.theory.proofs.ListLaws.{snoc_view}
use Rattle.theory.proofs.Loops.{Tips}
use Rattle.theory.proofs.Makers.{Makers}
use Rattle.theory.proofs.Opens.{length_opens, mates, opens}
use Rattle.theory.proofs.Swings.{To, lab_to, to_one, to_refl, to_trans}
use Rattle.theory.proofs.WordLaws.{width_two}
use Rattle.theory.specs.Corner.{next, previous}
use Rattle.theory.specs.Lists.{back, front, head, tail}
use Rattle.theory.specs.Tables.{links}
use Rattle.theory.specs.Word.{Word, news, size, w_c, w_e, w_l, w_r, w_s, width}

module _ (opp : ℕ → ℕ) where
  -- the last open side of a word is joined with the last remembered corner
  pub left_swings : (k : ℕ) (w : Word) (rs : List ℕ) → HoldsWord opp k w rs
      → (opp (back (opens k w)) ≡ back rs) × To opp (3 * k + 1) (next (back rs))
  left_swings k w rs h =
      let m = down (Join opp) k w rs h.sound h.long h.zipped in
      let two = width_two w h.sound in
      let n = length_opens k w h.sound in
      let some_open : 1 ≤ length (opens k w) = omega arith in
      let b = both_back (Join opp) (opens k w) rs some_open m.1 in
      let G : ℕ → ℕ → Type 0 = Glue (To opp) (to_refl opp) (to_trans opp) in
      let glue : (x y : ℕ) → Join opp x y → G x y = λ x y j. (to_one opp x y j.0, to_one opp y x j.1) in
      let i = chain (To opp) (to_refl opp) (to_trans opp) k w h.sound
      (each_map (Join opp) G glue (links k w) h.linked) (each_map (Join opp) G glue (mates k w) m.0) in
      let u = chain_last (To opp) (to_refl opp) (to_trans opp) (3 * k + 2) (front (opens k w)) (back (opens k w))
      (3 * k + 1) (rw (snoc_view (opens k w) some_open) at i) in
      let across = to_one opp (back (opens k w)) (back rs) b.0 in
      (b.0, to_trans opp (3 * k + 1) (previous (back (opens k w))) (next (back rs)) u.1 across)

module _ (opp lab home : ℕ → ℕ) (turn-back : (a b : ℕ) → To opp a b → To opp b a)
    (glue : (x : ℕ) → lab (previous x) ≡ lab (next (opp x))) where
  abbrev pub Home : ℕ → Type 0
  Home d = To opp d (home (lab d))

  abbrev pub Homes : ℕ → Type 0
  Homes k = (d : ℕ) → d < 3 * k → Home d

  move : (d e : ℕ) → To opp d e → Home e → Home d
  move d e h i = rw (lab_to opp lab glue d e h) (to_trans opp d e (home (lab e)) h i)

  homes_more : (k : ℕ) → Homes k → Home (3 * k) → Home (3 * k + 1) → Home (3 * k + 2) → Homes (k + 1)
  homes_more k h x y z d q = go (ℕ_discrete d (3 * k)) (ℕ_discrete d (3 * k + 1)) (ℕ_discrete d (3 * k + 2))
    where
      go : Dec (d ≡ 3 * k) → Dec (d ≡ 3 * k + 1) → Dec (d ≡ 3 * k + 2) → Home d
      go (yes p) b1 b2 = rw p x
      go (no p) (yes b1) b2 = rw b1 y
      go (no p) (no b1) (yes b2) = rw b2 z
      go (no p) (no b1) (no b2) = h d (omega arith)

  -- the ends of a triangle whose bottom joins an earlier corner
  bottom : (k p : ℕ) → p < 3 * k → Join opp p (3 * k) → Homes k → Home (3 * k + 1) × Home (3 * k + 2)
  bottom k p q j h =
      let a : To opp (previous p) (3 * k + 1) = rw next_tip at (to_one opp p (3 * k) j.0) in
      let b : To opp (3 * k + 2) (next p) = rw previous_tip at (to_one opp (3 * k) p j.1) in (
        move (3 * k + 1) (previous p) (turn-back (previous p) (3 * k + 1) a) (h (previous p) (previous_low k p q)),
        move (3 * k + 2) (next p) b (h (next p) (next_low k p q)),
      )

  -- behind a corner up to 3k
  ahead : (k x : ℕ) → x ≤ 3 * k → Homes k → Home (3 * k + 1) → Home (next x)
  ahead k x q h l = go (ℕ_discrete x (3 * k))
    where
      go : Dec (x ≡ 3 * k) → Home (next x)
      go (yes p) = rw (p, next_tip) l
      go (no p) = h (next x) (next_low k x (omega arith))

  -- E and R: the right side is joined with a remembered corner
  tip_zipped : (k x : ℕ) → Zipped opp k (3 * k + 1) x → Homes k → Home (3 * k + 1) → Home (3 * k)
  tip_zipped k x z h l =
      let a : To opp (3 * k) (next x) = rw previous_left at (to_one opp (3 * k + 1) x z.0.0) in
      move (3 * k) (next x) a (ahead k x z.1 h l)

  -- L and S: along the open sides of the word at right
  tip_child : (k : ℕ) (a : Word) (rs : List ℕ) → Join opp (3 * k + 1) (3 * (k + 1)) → HoldsWord opp (k + 1) a rs
      → EachN (λ x. x ≤ 3 * k) rs → Homes k → Home (3 * k + 1) → Home (3 * k)
  tip_child k a rs j g lo h l =
      let two = width_two a g.sound in
      let n = g.long in
      let x = each_back (λ x. x ≤ 3 * k) rs (omega arith) lo in
      let m = 3 * (k + 1) in
      let p : To opp (3 * k) (m + 1) = rw (previous_left, next_tip) at (to_one opp (3 * k + 1) m j.0) in
      let e = to_trans opp (3 * k) (m + 1) (next (back rs)) p (left_swings opp (k + 1) a rs g).1 in
      move (3 * k) (next (back rs)) e (ahead k (back rs) x h l)

  tip_new : (k nv : ℕ) → home nv ≡ 3 * k → lab (3 * k) ≡ nv → Home (3 * k)
  tip_new k nv p q = rw (q, p) (to_refl opp (3 * k))

  -- D9
  pub homes : (k nv : ℕ) (w : Word) (rs : List ℕ) → HoldsWord opp k w rs → Makers home k nv w → Tips lab k nv w
      → Homes k → Home (3 * k + 1) → Home (3 * k + 2) → Homes (k + size w)
  unfolding size
  homes k nv w_e rs h n t u l r =
      let z = holds_e opp k rs h in
      homes_more k u (tip_zipped k (head rs) z.0 u l) l r
  homes k nv (w_c w) rs h n t u l r =
      let z = holds_c opp k w rs h in
      let v = homes_more k u (tip_new k nv n.0 t.0) l r in
      let b = bottom (k + 1) (3 * k + 1) (omega arith) z.0 v in
      let i = homes (k + 1) (nv + 1) w (rs ++ ((3 * k + 2) ∷ [])) z.1 n.1 t.1 v b.0 b.1 in
      λ d m. i d (omega arith)
  homes k nv (w_l w) rs h n t u l r =
      let z = holds_l opp k w rs h in
      let lo = each_front (λ x. x ≤ 3 * k) rs h.low in
      let v = homes_more k u (tip_child k w (front rs) z.0 z.2 lo u l) l r in
      let b = bottom (k + 1) (3 * k + 1) (omega arith) z.0 v in
      let i = homes (k + 1) nv w (front rs) z.2 n t.1 v b.0 b.1 in
      λ d m. i d (omega arith)
  homes k nv (w_r w) rs h n t u l r =
      let z = holds_r opp k w rs h in
      let v = homes_more k u (tip_zipped k (head rs) z.1 u l) l r in
      let b = bottom (k + 1) (3 * k + 2) (omega arith) z.0 v in
      let i = homes (k + 1) nv w (tail rs) z.2 n t.1 v b.0 b.1 in
      λ d m. i d (omega arith)
  homes k nv (w_s a b) rs h n t u l r =
      let z = holds_s opp k a b rs h in
      let ra = take (width a - 1) rs in
      let m = k + 1 + size a in
      let lo = each_take (λ x. x ≤ 3 * k) (width a - 1) rs h.low in
      let v = homes_more k u (tip_child k a ra z.0 z.2 lo u l) l r in
      let e = bottom (k + 1) (3 * k + 1) (omega arith) z.0 v in
      let i = homes (k + 1) nv a ra z.2 n.0 t.1 v e.0 e.1 in
      let f = bottom m (3 * k + 2) (omega arith) z.1 i in
      let y = homes m (nv + news a) b (drop (width a - 1) rs) z.3 n.1 t.2 i f.0 f.1 in
      λ d p. y d (omega arith)
