-- A letter before the words that stand in the work space: the word that it begins stands there then, and the others as
-- before. One law for each of C, L and R (`standing_c` ..); E and S are in Pushes and Splices.
use mathlib.Core.List.{List, [], ◌∷◌}
use mathlib.Core.Logic.{◌≢◌}
use mathlib.Core.Path.{◌∙◌, ◌≡◌, ap, refl, subst, sym}
use Prim.Native.Nat.{◌*◌, ◌+◌, ◌<◌, ◌≤◌, suc, ℕ}
use native.Mathlib.Omega.{arith}
use lib.ListN.{get_or, length, length-set, set}
use lib.Seq.{get_or-set_other, get_or-set_same}
use Rattle.tables.proofs.Chained.{chained_append, chained_cons, chained_front, chained_last, chained_same}
use Rattle.tables.proofs.Corners.{each_same, first_in, front_not_last, inner_in, inner_not_open, join_left, join_off, join_right, last_in, length_join, open_in, opens_once, rest_not_first, some_open}
use Rattle.tables.proofs.Held.{Held, Standing, Waits, recorded_same, waits_same}
use Rattle.tables.specs.Fold.{Fold, fold_c, fold_l, fold_r}
use Rattle.theory.proofs.Counting.{count_front, count_tail}
use Rattle.theory.proofs.ListLaws.{back_snoc, head_front, head_snoc}
use Rattle.theory.proofs.Opens.{length_opens, mates, opens}
use Rattle.theory.specs.Lists.{back, front, head}
use Rattle.theory.specs.Tables.{join_at, links}
use Rattle.theory.specs.Word.{Word, size, w_c, w_l, w_r, width}

pub back_cons : (x : ℕ) (bs : List ℕ) → 1 ≤ length bs → back (x ∷ bs) ≡ back bs
unfolding back
back_cons x [] h = absurd (omega arith)
back_cons x (y ∷ bs) h = refl

module _ (t k : ℕ) (work : List ℕ) (w : Word) (fits : 4 * t ≤ length work) (h : Held t work (k + 1) w) where
  last_low : (3 * (k + 1) < back (opens (k + 1) w)) × (back (opens (k + 1) w) < 3 * (k + 1 + size w))
  last_low = open_in (k + 1) w h.sound (back bs) (last_in bs (some_open (k + 1) w h.sound))
    where
      bs : List ℕ
      bs = opens (k + 1) w

  first_low : (3 * (k + 1) < head (opens (k + 1) w)) × (head (opens (k + 1) w) < 3 * (k + 1 + size w))
  first_low = open_in (k + 1) w h.sound (head bs) (first_in bs (some_open (k + 1) w h.sound))
    where
      bs : List ℕ
      bs = opens (k + 1) w

  -- ---- C

  abbrev on_c : List ℕ
  on_c = join_at (3 * k + 1) (3 * (k + 1)) (join_at (back (opens (k + 1) w)) (3 * k + 2) work)

  off_c : (x d : ℕ) → x ≢ back (opens (k + 1) w) → x ≢ 3 * k + 2 → x ≢ 3 * k + 1 → x ≢ 3 * (k + 1)
      → get_or on_c x d ≡ get_or work x d
  off_c x d p q r s =
      join_off (3 * k + 1) (3 * (k + 1)) (join_at (back (opens (k + 1) w)) (3 * k + 2) work) x d r s
      ∙ join_off (back (opens (k + 1) w)) (3 * k + 2) work x d p q

  held_c : 3 ≤ width w → Held t on_c k (w_c w)
  unfolding size links mates opens
  held_c wide =
      let o = h.sound in
      let m = h.within in
      let bs = opens (k + 1) w in
      let y = back bs in
      let some = some_open (k + 1) w o in
      let low = last_low in
      let l₀ = low.0 in
      let l₁ = low.1 in
      let one = join_at y (3 * k + 2) work in
      let n = length_join y (3 * k + 2) work in
      let ne : 3 * k + 1 ≢ 3 * (k + 1) = λ q. omega arith in
      let yk : y ≢ 3 * k + 2 = λ q. omega arith in
      let in-C : (x : ℕ) → 3 * (k + 1) < x → x ≢ y → get_or on_c x x ≡ get_or work x x =
      λ x a p. off_c x x p (λ q. omega arith) (λ q. omega arith) (λ q. omega arith) in
      record {
        sound = (o, wide);
        within = omega arith;
        linked = (
          (
            join_left (3 * k + 1) (3 * (k + 1)) one (3 * k + 1) (omega arith) ne,
            join_right (3 * k + 1) (3 * (k + 1)) one (3 * (k + 1)) (omega arith),
            ne,
          ),
          each_same work on_c (links (k + 1) w) (λ x i.
              in-C x (inner_in (k + 1) w o x (omega arith)).0
              (inner_not_open (k + 1) w o x y (omega arith) (last_in bs some))) h.linked,
        );
        mated = (
          (
            join_off (3 * k + 1) (3 * (k + 1)) one y y (λ q. omega arith) (λ q. omega arith)
                ∙ join_left y (3 * k + 2) work y (omega arith) yk,
            join_off (3 * k + 1) (3 * (k + 1)) one (3 * k + 2) (3 * k + 2) (λ q. omega arith) (λ q. omega arith)
                ∙ join_right y (3 * k + 2) work (3 * k + 2) (omega arith),
            yk,
          ),
          each_same work on_c (mates (k + 1) w) (λ x i.
              in-C x (inner_in (k + 1) w o x (omega arith)).0
              (inner_not_open (k + 1) w o x y (omega arith) (last_in bs some))) h.mated,
        );
        chain =
            chained_same work on_c (front bs) (λ x i.
            let a = count_tail x (front bs) in
            let b = count_front x bs in
            let d = open_in (k + 1) w o x (omega arith) in
            off_c x 0 (front_not_last bs some (opens_once (k + 1) w o) x (omega arith)) (λ q. omega (arith, d.0))
            (λ q. omega (arith, d.0)) (λ q. omega (arith, d.0))) (chained_front work bs h.chain);
        records =
            recorded_same t work on_c (k + 1) w (λ i a b.
            off_c (3 * t + i) 0 (λ q. omega arith) (λ q. omega arith) (λ q. omega arith) (λ q. omega arith))
            h.records;
      }

  waits_c : (ws : List Word) (p : ℕ) → 4 * t ≤ p → Waits t work ws (k + 1 + size w) p
      → Waits t on_c ws (k + suc (size w)) p
  waits_c ws p high v =
      let m = h.within in
      let low = last_low in
      let l₁ = low.1 in
      let n : length on_c ≡ length work =
      length_join (3 * k + 1) (3 * (k + 1)) (join_at (back (opens (k + 1) w)) (3 * k + 2) work)
      ∙ length_join (back (opens (k + 1) w)) (3 * k + 2) work in
      let e : k + 1 + size w ≡ k + suc (size w) = omega arith in
      subst (λ (j : ℕ). Waits t on_c ws j p) e
      (waits_same t work on_c n ws (k + 1 + size w) p
      (λ x d a b. off_c x d (λ q. omega arith) (λ q. omega arith) (λ q. omega arith) (λ q. omega arith))
      (λ i a b. off_c (3 * t + i) 0 (λ q. omega arith) (λ q. omega arith) (λ q. omega arith) (λ q. omega arith))
      (λ x a. off_c x 0 (λ q. omega arith) (λ q. omega arith) (λ q. omega arith) (λ q. omega arith)) v)

  -- ---- L

  abbrev on_l : List ℕ
  on_l = set (join_at (3 * k + 1) (3 * (k + 1)) work) (3 * k + 2) (back (opens (k + 1) w))

  off_l : (x d : ℕ) → x ≢ 3 * k + 2 → x ≢ 3 * k + 1 → x ≢ 3 * (k + 1) → get_or on_l x d ≡ get_or work x d
  off_l x d p q r =
      get_or-set_other (join_at (3 * k + 1) (3 * (k + 1)) work) (3 * k + 2) x (back (opens (k + 1) w)) d p
      ∙ join_off (3 * k + 1) (3 * (k + 1)) work x d q r

  held_l : Held t on_l k (w_l w)
  unfolding size links mates opens head back
  held_l =
      let o = h.sound in
      let m = h.within in
      let bs = opens (k + 1) w in
      let one = join_at (3 * k + 1) (3 * (k + 1)) work in
      let n = length_join (3 * k + 1) (3 * (k + 1)) work in
      let ne : 3 * k + 1 ≢ 3 * (k + 1) = λ q. omega arith in
      let in-L : (x d : ℕ) → 3 * (k + 1) < x → get_or on_l x d ≡ get_or work x d =
      λ x d a. off_l x d (λ q. omega arith) (λ q. omega arith) (λ q. omega arith) in
      record {
        sound = o;
        within = omega arith;
        linked = (
          (
            get_or-set_other one (3 * k + 2) (3 * k + 1) (back bs) (3 * k + 1) (λ q. omega arith)
                ∙ join_left (3 * k + 1) (3 * (k + 1)) work (3 * k + 1) (omega arith) ne,
            get_or-set_other one (3 * k + 2) (3 * (k + 1)) (back bs) (3 * (k + 1)) (λ q. omega arith)
                ∙ join_right (3 * k + 1) (3 * (k + 1)) work (3 * (k + 1)) (omega arith),
            ne,
          ),
          each_same work on_l (links (k + 1) w) (λ x i. in-L x x (inner_in (k + 1) w o x (omega arith)).0) h.linked,
        );
        mated =
            each_same work on_l (mates (k + 1) w) (λ x i. in-L x x (inner_in (k + 1) w o x (omega arith)).0) h.mated;
        chain =
            chained_append on_l bs ((3 * k + 2) ∷ []) (some_open (k + 1) w o)
            (chained_same work on_l bs (λ x i.
            let a = count_tail x bs in
            in-L x 0 (open_in (k + 1) w o x (omega arith)).0) h.chain) tt
            (get_or-set_same one (3 * k + 2) (back bs) 0 (omega arith));
        records =
            recorded_same t work on_l (k + 1) w (λ i a b. in-L (3 * t + i) 0 (omega arith)) h.records;
      }

  waits_l : (ws : List Word) (p : ℕ) → 4 * t ≤ p → Waits t work ws (k + 1 + size w) p
      → Waits t on_l ws (k + suc (size w)) p
  waits_l ws p high v =
      let m = h.within in
      let one = join_at (3 * k + 1) (3 * (k + 1)) work in
      let n : length on_l ≡ length work =
      length-set one (3 * k + 2) (back (opens (k + 1) w)) ∙ length_join (3 * k + 1) (3 * (k + 1)) work in
      let e : k + 1 + size w ≡ k + suc (size w) = omega arith in
      subst (λ (j : ℕ). Waits t on_l ws j p) e
      (waits_same t work on_l n ws (k + 1 + size w) p
      (λ x d a b. off_l x d (λ q. omega arith) (λ q. omega arith) (λ q. omega arith))
      (λ i a b. off_l (3 * t + i) 0 (λ q. omega arith) (λ q. omega arith) (λ q. omega arith))
      (λ x a. off_l x 0 (λ q. omega arith) (λ q. omega arith) (λ q. omega arith)) v)

  -- ---- R

  abbrev on_r : List ℕ
  on_r = join_at (3 * k + 2) (3 * (k + 1)) (set work (head (opens (k + 1) w)) (3 * k + 1))

  off_r : (x d : ℕ) → x ≢ head (opens (k + 1) w) → x ≢ 3 * k + 2 → x ≢ 3 * (k + 1) → get_or on_r x d ≡ get_or work x d
  off_r x d p q r =
      join_off (3 * k + 2) (3 * (k + 1)) (set work (head (opens (k + 1) w)) (3 * k + 1)) x d q r
      ∙ get_or-set_other work (head (opens (k + 1) w)) x (3 * k + 1) d p

  held_r : Held t on_r k (w_r w)
  unfolding size links mates opens
  held_r =
      let o = h.sound in
      let m = h.within in
      let bs = opens (k + 1) w in
      let y = head bs in
      let some = some_open (k + 1) w o in
      let low = first_low in
      let l₀ = low.0 in
      let l₁ = low.1 in
      let one = set work y (3 * k + 1) in
      let n = length-set work y (3 * k + 1) in
      let ne : 3 * k + 2 ≢ 3 * (k + 1) = λ q. omega arith in
      let in-R : (x d : ℕ) → 3 * (k + 1) < x → x ≢ y → get_or on_r x d ≡ get_or work x d =
      λ x d a p. off_r x d p (λ q. omega arith) (λ q. omega arith) in
      record {
        sound = o;
        within = omega arith;
        linked = (
          (
            join_left (3 * k + 2) (3 * (k + 1)) one (3 * k + 2) (omega arith) ne,
            join_right (3 * k + 2) (3 * (k + 1)) one (3 * (k + 1)) (omega arith),
            ne,
          ),
          each_same work on_r (links (k + 1) w) (λ x i.
              in-R x x (inner_in (k + 1) w o x (omega arith)).0
              (inner_not_open (k + 1) w o x y (omega arith) (first_in bs some))) h.linked,
        );
        mated =
            each_same work on_r (mates (k + 1) w) (λ x i.
            in-R x x (inner_in (k + 1) w o x (omega arith)).0
            (inner_not_open (k + 1) w o x y (omega arith) (first_in bs some))) h.mated;
        chain =
            chained_cons on_r (3 * k + 1) bs
            (join_off (3 * k + 2) (3 * (k + 1)) one y 0 (λ q. omega arith) (λ q. omega arith)
            ∙ get_or-set_same work y (3 * k + 1) 0 (omega arith))
            (chained_same work on_r bs (λ x i.
            let a = count_tail x bs in
            in-R x 0 (open_in (k + 1) w o x (omega arith)).0
            (rest_not_first bs (opens_once (k + 1) w o) x i)) h.chain);
        records =
            recorded_same t work on_r (k + 1) w (λ i a b. in-R (3 * t + i) 0 (omega arith) (λ q. omega arith))
            h.records;
      }

  waits_r : (ws : List Word) (p : ℕ) → 4 * t ≤ p → Waits t work ws (k + 1 + size w) p
      → Waits t on_r ws (k + suc (size w)) p
  waits_r ws p high v =
      let m = h.within in
      let low = first_low in
      let l₁ = low.1 in
      let one = set work (head (opens (k + 1) w)) (3 * k + 1) in
      let n : length on_r ≡ length work =
      length_join (3 * k + 2) (3 * (k + 1)) one ∙ length-set work (head (opens (k + 1) w)) (3 * k + 1) in
      let e : k + 1 + size w ≡ k + suc (size w) = omega arith in
      subst (λ (j : ℕ). Waits t on_r ws j p) e
      (waits_same t work on_r n ws (k + 1 + size w) p
      (λ x d a b. off_r x d (λ q. omega arith) (λ q. omega arith) (λ q. omega arith))
      (λ i a b. off_r (3 * t + i) 0 (λ q. omega arith) (λ q. omega arith) (λ q. omega arith))
      (λ x a. off_r x 0 (λ q. omega arith) (λ q. omega arith) (λ q. omega arith)) v)

pub standing_c : (t k : ℕ) (z : Fold) (w : Word) (ws : List Word) → 4 * t ≤ length z.work → 4 * t ≤ z.top
    → 3 ≤ width w → Standing t z (w ∷ ws) (k + 1) → Standing t (fold_c k z) (w_c w ∷ ws) k
unfolding fold_c size opens
standing_c t k z w ws fits high wide h =
    let bs = opens (k + 1) w in
    let n = length_opens (k + 1) w h.0.sound in
    let e = h.2 in (
      rw e (held_c t k z.work w fits h.0 wide),
      h.1 ∙ sym (head_front bs (omega arith)),
      ap (λ (x : ℕ). get_or z.work x 0) e ∙ chained_last z.work bs (omega arith) h.0.chain,
      rw e (waits_c t k z.work w fits h.0 ws z.top high h.3),
    )

pub standing_l : (t k : ℕ) (z : Fold) (w : Word) (ws : List Word) → 4 * t ≤ length z.work → 4 * t ≤ z.top
    → Standing t z (w ∷ ws) (k + 1) → Standing t (fold_l k z) (w_l w ∷ ws) k
unfolding fold_l size opens
standing_l t k z w ws fits high h =
    let bs = opens (k + 1) w in
    let e = h.2 in (
      rw e (held_l t k z.work w fits h.0),
      h.1 ∙ sym (head_snoc bs (3 * k + 2) (some_open (k + 1) w h.0.sound)),
      sym (back_snoc bs (3 * k + 2)),
      rw e (waits_l t k z.work w fits h.0 ws z.top high h.3),
    )

pub standing_r : (t k : ℕ) (z : Fold) (w : Word) (ws : List Word) → 4 * t ≤ length z.work → 4 * t ≤ z.top
    → Standing t z (w ∷ ws) (k + 1) → Standing t (fold_r k z) (w_r w ∷ ws) k
unfolding fold_r size opens head
standing_r t k z w ws fits high h =
    let bs = opens (k + 1) w in
    let e = h.1 in (
      rw e (held_r t k z.work w fits h.0),
      refl,
      h.2 ∙ sym (back_cons (3 * k + 1) bs (some_open (k + 1) w h.0.sound)),
      rw e (waits_r t k z.work w fits h.0 ws z.top high h.3),
    )
