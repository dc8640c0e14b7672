-- Laws of the counting loop: what a store keeps, and what the table says at the end.
--
--   tally_start tally_room tally_turn, together tallying    the loop from the last corner down
--   first_of                                                the first corner found is the first of all
use mathlib.Core.Bool.{cond}
use mathlib.Core.List.{List}
use mathlib.Core.Logic.{◌≢◌}
use mathlib.Core.Path.{◌∙◌, ◌≡◌, ap, refl, subst, sym}
use Prim.Native.Nat.{◌+◌, ◌<◌, ◌≤◌, suc, ℕ}
use native.Mathlib.Decide.{dec_lt, ℕ_discrete}
use native.Mathlib.Omega.{arith}
use lib.Dec.{eqb, ltb}
use lib.ListN.{drop, get_or, length, length-drop, length-set, set}
use lib.Seq.{drop-cons, drop-length, get_or-set_other, get_or-set_same}
use borrow.Author.Tests.{le-ltb, lt-ltb}
use Rattle.ring.specs.Tally.{First, Tallied, Zeros, tallied}
use Rattle.theory.proofs.Counting.{bit, bit_off, count}
use Rattle.theory.proofs.Places.{bit_on, count_short}
use Rattle.theory.proofs.RingTests.{first_at}
use Rattle.theory.specs.Corner.{vertex}
use Rattle.theory.specs.Mesh.{first_corner}

pub tally_start : (vs work : List ℕ) → Zeros (length vs) work → Tallied vs (length vs) work
unfolding count
tally_start vs work z =
    record { counts = λ u h. z u h ∙ sym (zero_count u); firsts = λ u h p. absurd (omega (arith, zero_count u)) }
  where
    zero_count : (u : ℕ) → count u (drop (length vs) vs) ≡ 0
    zero_count u = rw (drop-length vs) refl

-- a count stays below the number of corners while one is left
pub tally_room : (vs work : List ℕ) (c u : ℕ) → 0 < c → Tallied vs c work → u < length vs
    → get_or work u 0 < length vs
tally_room vs work c u h t l = omega (arith, t.counts u l, count_short u (drop c vs), length-drop c vs)

-- a later corner that is the first from c + 1 on is the first from c on, if c is of another vertex
first_back : (vs : List ℕ) (c u d : ℕ) → u ≢ vertex vs c → First vs (suc c) u d → First vs c u d
first_back vs c u d n f =
    record { later = omega (arith, f.later); low = f.low; is = f.is; before = λ e h l. go e h l (ℕ_discrete e c) }
  where
    go : (e : ℕ) → c ≤ e → e < d → Dec (e ≡ c) → vertex vs e ≢ u
    go e h l (yes q) = λ z. n (sym z ∙ ap (vertex vs) q)
    go e h l (no q) = f.before e (omega arith) l

first_here : (vs : List ℕ) (c : ℕ) → c < length vs → First vs c (vertex vs c) c
first_here vs c h = record { later = omega arith; low = h; is = refl; before = λ e a b. absurd (omega arith) }

module _ (vs work : List ℕ) (c : ℕ) (h : c < length vs) (room : length vs + length vs ≤ length work)
    (t : Tallied vs (suc c) work) where
  abbrev y : ℕ
  y = vertex vs c

  -- counted, and then kept
  abbrev half : List ℕ
  half = set work y (get_or work y 0 + 1)

  abbrev full : List ℕ
  full = set half (length vs + y) c

  more : (u : ℕ) → count u (drop c vs) ≡ bit (eqb u y) + count u (drop (suc c) vs)
  unfolding count
  more u = ap (count u) (drop-cons vs c 0 h)

  counts_in : y < length vs → (u : ℕ) → u < length vs → Dec (u ≡ y) → get_or full u 0 ≡ count u (drop c vs)
  counts_in l u k (yes e) =
      get_or-set_other half (length vs + y) u c 0 (λ q. omega arith)
      ∙ ap (λ (i : ℕ). get_or half i 0) e
      ∙ get_or-set_same work y (get_or work y 0 + 1) 0 (omega arith)
      ∙ omega (arith, more u, bit_on u y e, t.counts y l, ap (λ (i : ℕ). count i (drop (suc c) vs)) e)
  counts_in l u k (no e) =
      get_or-set_other half (length vs + y) u c 0 (λ q. omega arith)
      ∙ get_or-set_other work y u (get_or work y 0 + 1) 0 e
      ∙ omega (arith, more u, bit_off u y e, t.counts u k)

  firsts_in : y < length vs → (u : ℕ) → u < length vs → 1 ≤ count u (drop c vs) → Dec (u ≡ y)
      → First vs c u (get_or full (length vs + u) 0)
  firsts_in l u k p (yes e) =
      let q : get_or full (length vs + y) 0 ≡ c = get_or-set_same half (length vs + y) c 0
      (omega (arith, length-set work y (get_or work y 0 + 1))) in
      subst (λ (x : ℕ). First vs c x (get_or full (length vs + x) 0)) (sym e)
      (subst (First vs c y) (sym q) (first_here vs c h))
  firsts_in l u k p (no e) =
      let q : get_or full (length vs + u) 0 ≡ get_or work (length vs + u) 0
      = get_or-set_other half (length vs + y) (length vs + u) c 0 (λ q. e (omega arith))
      ∙ get_or-set_other work y (length vs + u) (get_or work y 0 + 1) 0 (λ q. omega arith) in
      subst (First vs c u) (sym q)
      (first_back vs c u (get_or work (length vs + u) 0) e (t.firsts u k (omega (arith, more u, bit_off u y e))))

  pub tally_turn : Tallied vs c (tallied vs c work)
  unfolding tallied
  tally_turn = go (dec_lt y (length vs))
    where
      go : Dec (y < length vs) → Tallied vs c (cond (ltb y (length vs)) full work)
      go (yes l) =
          rw (lt-ltb y (length vs) l) (record {
            counts = λ u k. counts_in l u k
                (ℕ_discrete u y);
            firsts = λ u k p. firsts_in l u k p (ℕ_discrete u y);
          })
      go (no l) =
          rw (le-ltb y (length vs) (omega arith)) (record {
            counts = λ u k. t.counts u k ∙ omega (arith, more u, bit_off u y (λ q. omega arith));
            firsts = λ u k p.
                first_back vs c u (get_or work (length vs + u) 0) (λ q. omega arith)
                (t.firsts u k (omega (arith, more u, bit_off u y (λ q. omega arith))));
          })

pub ruleset tallying = (tally_start, tally_room, tally_turn)

pub first_of : (vs : List ℕ) (u d : ℕ) → First vs 0 u d → d ≡ first_corner vs u
first_of vs u d f = first_at vs u d f.low f.is (λ e h. f.before e (omega arith) h)
