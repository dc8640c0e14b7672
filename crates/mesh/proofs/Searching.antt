-- The search keeps its invariant: what is seen is reached, and is worked off or waits.
--
--   Open t os a k m s     while triangle k is worked on and its first m neighbours are met
--   Good t os a s         between two turns
--   turned falls          a turn keeps it, and the measure falls
--   started ended         at the start, and what is known at the end
use mathlib.Core.List.{List, [], ◌∷◌}
use mathlib.Core.Logic.{◌≢◌, ◌⊎◌, inl, inr}
use mathlib.Core.Path.{◌∙◌, ◌≡◌, refl, subst, sym}
use Prim.Native.Nat.{◌%◌, ◌*◌, ◌+◌, ◌<◌, ◌≤◌, suc, zero, ℕ}
use native.Mathlib.Decide.{ℕ_discrete}
use native.Mathlib.Omega.{arith}
use lib.ListN.{get_or, get_or-replicate, length, length-replicate, length-set, replicate}
use Rattle.mesh.proofs.Touching.{In, Seen, by_touch, count_set, fresh, fresh_keeps, fresh_only, fresh_seen, owed, touch_new, unseen}
use Rattle.mesh.specs.Search.{Closed, Exact, Search, across, spread, touch}
use Rattle.theory.proofs.Counting.{bit, count}
use Rattle.theory.specs.Corner.{opposite, triangle}
use Rattle.theory.specs.Mesh.{Reach, here, over}
use Rattle.theory.specs.Walk.{seen}

-- over corner j of a triangle that is reached
reach_over : (os : List ℕ) (a k j : ℕ) → j < 3 → Reach (opposite os) a k → Reach (opposite os) a (across os k j)
reach_over os a k j h r =
    let q : k ≡ triangle (3 * k + j) = omega arith in
    over (3 * k + j) (subst (Reach (opposite os) a) q r)

-- while triangle k is worked on and its first m neighbours are met

pub record Open (t : ℕ) (os : List ℕ) (a k m : ℕ) (s : Search) : Type 0 where
  pub size : length s.seen ≡ t
  pub start : Seen s a
  pub known : Seen s k
  pub inside : k < t
  pub sound : (i : ℕ) → Seen s i → Reach (opposite os) a i
  pub small : (i : ℕ) → In i s.stack → (i < t) × Seen s i
  pub shut : (i : ℕ) → Seen s i → (i ≡ k → ⊥) → In i s.stack ⊎ ((j : ℕ) → j < 3 → Seen s (across os i j))
  pub met : (j : ℕ) → j < m → Seen s (across os k j)

pub record Good (t : ℕ) (os : List ℕ) (a : ℕ) (s : Search) : Type 0 where
  pub size : length s.seen ≡ t
  pub start : Seen s a
  pub sound : (i : ℕ) → Seen s i → Reach (opposite os) a i
  pub small : (i : ℕ) → In i s.stack → (i < t) × Seen s i
  pub shut : (i : ℕ) → Seen s i → In i s.stack ⊎ ((j : ℕ) → j < 3 → Seen s (across os i j))
  pub room : unseen s + length s.stack ≤ t

pub meet_open : (t : ℕ) (os : List ℕ) (a k m : ℕ) (s : Search) → m < 3 → across os k m < t → Open t os a k m s
    → Open t os a k (suc m) (touch (across os k m) s)
meet_open t os a k m s h3 hx v = by_touch (Open t os a k (suc m)) (across os k m) s new old
  where
    x : ℕ
    x = across os k m

    h : x < length s.seen
    h = omega (arith, v.size)

    new : get_or s.seen x 0 ≡ 0 → Open t os a k (suc m) (fresh x s)
    new e =
        record {
          size = length-set s.seen x 1 ∙ v.size;
          start = fresh_keeps x s h a v.start;
          known = fresh_keeps x s h k v.known;
          inside = v.inside;
          sound = λ i p. reach_of i (fresh_only x s h i p);
          small = small;
          shut = λ i p n. shut i n (fresh_only x s h i p);
          met = λ j l. met j (ℕ_discrete j m) l;
        }
      where
        reach_of : (i : ℕ) → Seen s i ⊎ (i ≡ x) → Reach (opposite os) a i
        reach_of i (inl p) = v.sound i p
        reach_of i (inr q) = subst (Reach (opposite os) a) (sym q) (reach_over os a k m h3 (v.sound k v.known))

        small : (i : ℕ) → In i (x ∷ s.stack) → (i < t) × Seen (fresh x s) i
        small i (inl q) = subst (λ (y : ℕ). (y < t) × Seen (fresh x s) y) (sym q) (hx, fresh_seen x s h)
        small i (inr q) = ((v.small i q).0, fresh_keeps x s h i (v.small i q).1)

        wider : (i : ℕ) → In i s.stack ⊎ ((j : ℕ) → j < 3 → Seen s (across os i j))
            → In i (x ∷ s.stack) ⊎ ((j : ℕ) → j < 3 → Seen (fresh x s) (across os i j))
        wider i (inl q) = inl (inr q)
        wider i (inr q) = inr (λ j l. fresh_keeps x s h (across os i j) (q j l))

        shut : (i : ℕ) → (i ≡ k → ⊥) → Seen s i ⊎ (i ≡ x)
            → In i (x ∷ s.stack) ⊎ ((j : ℕ) → j < 3 → Seen (fresh x s) (across os i j))
        shut i n (inl p) = wider i (v.shut i p n)
        shut i n (inr q) = inl (inl q)

        met : (j : ℕ) → Dec (j ≡ m) → j < suc m → Seen (fresh x s) (across os k j)
        met j (yes e) l = subst (λ (y : ℕ). Seen (fresh x s) (across os k y)) (sym e) (fresh_seen x s h)
        met j (no e) l = fresh_keeps x s h (across os k j) (v.met j (omega arith))

    old : Seen s x → Open t os a k (suc m) s
    old p =
        record {
          size = v.size;
          start = v.start;
          known = v.known;
          inside = v.inside;
          sound = v.sound;
          small = v.small;
          shut = v.shut;
          met = λ j l. met j (ℕ_discrete j m) l;
        }
      where
        met : (j : ℕ) → Dec (j ≡ m) → j < suc m → Seen s (across os k j)
        met j (yes e) l = subst (λ (y : ℕ). Seen s (across os k y)) (sym e) p
        met j (no e) l = v.met j (omega arith)

-- meeting x spends at least what it adds
pub meet_left : (x : ℕ) (s : Search) → x < length s.seen
    → (owed (touch x s) ≤ owed s) × (unseen (touch x s) + length (touch x s).stack ≤ unseen s + length s.stack)
meet_left x s h =
    by_touch (λ (r : Search). (owed r ≤ owed s) × (unseen r + length r.stack ≤ unseen s + length s.stack)) x s
    (λ e. (omega (arith, count_set s.seen x h e), omega (arith, count_set s.seen x h e)))
    (λ p. (omega arith, omega arith))

meet_size : (x : ℕ) (s : Search) → length (touch x s).seen ≡ length s.seen
meet_size x s =
    by_touch (λ (r : Search). length r.seen ≡ length s.seen) x s (λ e. length-set s.seen x 1) (λ p. refl)

pub in_table : (t : ℕ) (os : List ℕ) (k j : ℕ) → Closed t os → k < t → j < 3 → across os k j < t
in_table t os k j tab h l = omega (arith, tab.corners, tab.inside (3 * k + j) (omega (arith, tab.corners)))

-- ---- a turn

module _ (t : ℕ) (os : List ℕ) (a : ℕ) (tab : Closed t os) (seen st : List ℕ) (k : ℕ)
    (v : Good t os a (record { seen = seen; stack = k ∷ st })) where
  abbrev under : Search
  under = record { seen = seen; stack = st }

  pub top_in : k < t
  top_in = (v.small k (inl refl)).0

  opened : Open t os a k 0 under
  opened =
      record {
        size = v.size;
        start = v.start;
        known = (v.small k (inl refl)).1;
        inside = top_in;
        sound = v.sound;
        small = λ i q. v.small i (inr q);
        shut = λ i q n. shut i n (v.shut i q);
        met = λ j l. absurd (omega arith);
      }
    where
      shut : (i : ℕ) → (i ≡ k → ⊥)
          → In i (k ∷ st) ⊎ ((j : ℕ) → j < 3 → Seen (record { seen = seen; stack = k ∷ st }) (across os i j))
          → In i st ⊎ ((j : ℕ) → j < 3 → Seen under (across os i j))
      shut i n (inl (inl e)) = absurd (n e)
      shut i n (inl (inr q)) = inl q
      shut i n (inr q) = inr q

  met_all : Open t os a k 3 (spread os k under)
  met_all =
      meet_open t os a k 2 (touch (across os k 1) (touch (across os k 0) under)) (omega arith)
      (in_table t os k 2 tab top_in (omega arith))
      (meet_open t os a k 1 (touch (across os k 0) under) (omega arith) (in_table t os k 1 tab top_in (omega arith))
      (meet_open t os a k 0 under (omega arith) (in_table t os k 0 tab top_in (omega arith)) opened))

  spent : (owed (spread os k under) ≤ owed under)
      × (unseen (spread os k under) + length (spread os k under).stack ≤ unseen under + length st)
  spent =
      let r0 = meet_left (across os k 0) under (omega (arith, v.size, in_table t os k 0 tab top_in (omega arith))) in
      let r1 = meet_left (across os k 1) (touch (across os k 0) under)
      (omega (arith, v.size, meet_size (across os k 0) under, in_table t os k 1 tab top_in (omega arith))) in
      let r2 = meet_left (across os k 2) (touch (across os k 1) (touch (across os k 0) under))
      (omega (
        arith,
        v.size,
        meet_size (across os k 0) under,
        meet_size (across os k 1) (touch (across os k 0) under),
        in_table t os k 2 tab top_in (omega arith),
      )) in
      (omega (arith, r0.0, r1.0, r2.0), omega (arith, r0.1, r1.1, r2.1))

  pub turned : Good t os a (spread os k under)
  turned =
      let w = met_all in
      record {
        size = w.size;
        start = w.start;
        sound = w.sound;
        small = w.small;
        shut = λ i p. shut i p (ℕ_discrete i k);
        room = omega (arith, v.room, spent.1);
      }
    where
      shut : (i : ℕ) → Seen (spread os k under) i → Dec (i ≡ k)
          → In i (spread os k under).stack ⊎ ((j : ℕ) → j < 3 → Seen (spread os k under) (across os i j))
      shut i p (yes e) =
          inr (λ j l. subst (λ (y : ℕ). Seen (spread os k under) (across os y j)) (sym e) (met_all.met j l))
      shut i p (no n) = met_all.shut i p n

  pub falls : owed (spread os k under) < owed (record { seen = seen; stack = k ∷ st })
  falls = omega (arith, spent.0)

-- ---- the start and the end

count_replicate : (t : ℕ) → count 0 (replicate t 0) ≡ t
unfolding count bit
count_replicate zero = refl
count_replicate (suc t) = omega (arith, count_replicate t)

pub started : (t : ℕ) (os : List ℕ) (a : ℕ) (seen : List ℕ) → a < t → seen ≡ replicate t 0
    → Good t os a (touch a (record { seen = seen; stack = [] }))
started t os a seen h e =
    subst (λ (l : List ℕ). Good t os a (touch a (record { seen = l; stack = [] }))) (sym e)
    (rw (touch_new a empty zero_at) good)
  where
    empty : Search
    empty = record { seen = replicate t 0; stack = [] }

    zero_at : get_or {A = ℕ} (replicate t 0) a 0 ≡ 0
    zero_at = get_or-replicate t a 0 0 h

    inside : a < length (replicate {A = ℕ} t 0)
    inside = rw (length-replicate {A = ℕ} t 0) h

    zeros : (i : ℕ) → get_or {A = ℕ} (replicate t 0) i 0 ≡ 0
    zeros i = go t i
      where
        go : (t i : ℕ) → get_or {A = ℕ} (replicate t 0) i 0 ≡ 0
        go zero i = refl
        go (suc t) zero = refl
        go (suc t) (suc i) = go t i

    alone : (i : ℕ) → Seen (fresh a empty) i → i ≡ a
    alone i p = pick_one (fresh_only a empty inside i p)
      where
        pick_one : Seen empty i ⊎ (i ≡ a) → i ≡ a
        pick_one (inl q) = absurd (q (zeros i))
        pick_one (inr q) = q

    good : Good t os a (fresh a empty)
    good =
        record {
          size = length-set (replicate t 0) a 1 ∙ length-replicate {A = ℕ} t 0;
          start = fresh_seen a empty inside;
          sound = λ i p. subst (Reach (opposite os) a) (sym (alone i p)) here;
          small = small;
          shut = λ i p. inl (inl (alone i p));
          room = omega (arith, count_set (replicate t 0) a inside zero_at, count_replicate t);
        }
      where
        small : (i : ℕ) → In i (a ∷ []) → (i < t) × Seen (fresh a empty) i
        small i (inl q) = subst (λ (y : ℕ). (y < t) × Seen (fresh a empty) y) (sym q) (h, fresh_seen a empty inside)
        small i (inr q) = absurd q

pub ended : (t : ℕ) (os : List ℕ) (a : ℕ) (seen st : List ℕ) → st ≡ []
    → Good t os a (record { seen = seen; stack = st }) → Exact os a seen
ended t os a seen st e v = record { sound = v.sound; whole = whole }
  where
    shut : (i : ℕ) → Seen (record { seen = seen; stack = st }) i → (j : ℕ) → j < 3
        → Seen (record { seen = seen; stack = st }) (across os i j)
    shut i p =
        go (subst (λ (l : List ℕ). In i l ⊎ ((j : ℕ) → j < 3 → Seen (record { seen = seen; stack = st })
        (across os i j))) e (v.shut i p))
      where
        go : ⊥ ⊎ ((j : ℕ) → j < 3 → Seen (record { seen = seen; stack = st }) (across os i j)) → (j : ℕ) → j < 3
            → Seen (record { seen = seen; stack = st }) (across os i j)
        go (inl q) = absurd q
        go (inr q) = q

    whole : (k : ℕ) → Reach (opposite os) a k → get_or seen k 0 ≡ 0 → ⊥
    whole k r = closed r
      where
        closed : {i : ℕ} → Reach (opposite os) a i → Seen (record { seen = seen; stack = st }) i
        closed here = v.start
        closed (over c r) =
            let q : 3 * triangle c + c % 3 ≡ c = omega arith in
            subst (λ (d : ℕ). get_or seen (triangle (opposite os d)) 0 ≢ 0) q
            (shut (triangle c) (closed r) (c % 3) (omega arith))
