-- The corners of a word, each once (D3): which of them differ, and where they stand; and joins in a changed table.
--
--   in_word open_in open-first open-last   where the inner corners and the open sides of a word stand
--   inner_not_open                         an inner corner, an end of its links and mates, is none of its open sides
--   rest_not_first front_not_last          the open sides differ
--   join_off join_left join_right          the entries of a table after one join
--   each_same                              joins in a table that has not changed at their ends
use mathlib.Core.List.{List, [], ◌∷◌}
use mathlib.Core.Logic.{◌≢◌}
use mathlib.Core.Path.{◌∙◌, ◌≡◌, ap}
use Prim.Native.Nat.{◌*◌, ◌+◌, ◌<◌, ◌≤◌, ℕ}
use native.Mathlib.Decide.{dec_lt, ℕ_discrete}
use native.Mathlib.Omega.{arith}
use lib.Dec.{eqb}
use lib.ListN.{get_or, length, length-set, set}
use lib.Seq.{get_or-set_other, get_or-set_same}
use Rattle.theory.proofs.Chain.{Each}
use Rattle.theory.proofs.Counting.{bit, bit_refl, count, count_append, tris_low, tris_off, tris_once}
use Rattle.theory.proofs.JoinLaws.{Join}
use Rattle.theory.proofs.ListLaws.{snoc_view}
use Rattle.theory.proofs.Opens.{cover, ends, length_opens, mates, opens}
use Rattle.theory.proofs.WordLaws.{width_two}
use Rattle.theory.specs.Corner.{opposite}
use Rattle.theory.specs.Lists.{back, front, head, tail}
use Rattle.theory.specs.Tables.{Pair, ◌⇌◌, join_at, links}
use Rattle.theory.specs.Word.{Sound, Word, size}

-- the inner corners of a word
abbrev pub inner : ℕ → ℕ → Word → ℕ
inner x k w = count x (ends (links k w)) + count x (ends (mates k w))

module _ (k : ℕ) (w : Word) (sound : Sound w) where
  in_word : (x : ℕ) → 1 ≤ inner x k w + count x (opens k w) → (3 * k < x) × (x < 3 * (k + size w))
  in_word x h = (low (dec_lt (3 * k) x), high (dec_lt x (3 * (k + size w))))
    where
      low : Dec (3 * k < x) → 3 * k < x
      low (yes l) = l
      low (no l) = go (ℕ_discrete x (3 * k))
        where
          go : Dec (x ≡ 3 * k) → 3 * k < x
          go (yes e) =
              let c = cover x k w sound in
              let o = tris_once x (size w) k in
              let u : bit (eqb x (3 * k)) ≡ 1 = rw (← e) (bit_refl x) in
              absurd (omega arith)
          go (no e) = let c = cover x k w sound in let o = tris_low x (size w) k (omega arith) in absurd (omega arith)

      high : Dec (x < 3 * (k + size w)) → x < 3 * (k + size w)
      high (yes l) = l
      high (no l) = let c = cover x k w sound in let o = tris_off x (size w) k (omega arith) in absurd (omega arith)

  pub inner_in : (x : ℕ) → 1 ≤ inner x k w → (3 * k < x) × (x < 3 * (k + size w))
  inner_in x h = in_word x (omega arith)

  pub open_in : (x : ℕ) → 1 ≤ count x (opens k w) → (3 * k < x) × (x < 3 * (k + size w))
  open_in x h = in_word x (omega arith)

  pub inner_not_open : (x y : ℕ) → 1 ≤ inner x k w → 1 ≤ count y (opens k w) → x ≢ y
  inner_not_open x y h i e =
      let j : 1 ≤ count x (opens k w) = rw e i in
      let c = cover x k w sound in
      let o = tris_once x (size w) k in
      omega arith

  pub opens_once : (x : ℕ) → count x (opens k w) ≤ 1
  opens_once x = let c = cover x k w sound in let o = tris_once x (size w) k in omega arith

  pub some_open : 1 ≤ length (opens k w)
  some_open = let n = length_opens k w sound in let m = width_two w sound in omega arith

-- the first and the last of a list stand in it
pub first_in : (bs : List ℕ) → 1 ≤ length bs → 1 ≤ count (head bs) bs
unfolding head count
first_in [] h = absurd (omega arith)
first_in (x ∷ bs) h = let r = bit_refl x in omega arith

pub last_in : (bs : List ℕ) → 1 ≤ length bs → 1 ≤ count (back bs) bs
unfolding back count
last_in [] h = absurd (omega arith)
last_in (x ∷ []) h = let r = bit_refl x in omega arith
last_in (x ∷ (y ∷ bs)) h = let i = last_in (y ∷ bs) (omega arith) in omega arith

pub rest_not_first : (bs : List ℕ) → ((x : ℕ) → count x bs ≤ 1) → (x : ℕ) → 1 ≤ count x (tail bs) → x ≢ head bs
unfolding head tail count
rest_not_first [] once x h e = absurd (omega arith)
rest_not_first (b ∷ bs) once x h e =
    let r : bit (eqb x b) ≡ 1 = rw (← e) (bit_refl x) in
    let u = once x in
    omega arith

module _ (bs : List ℕ) (some : 1 ≤ length bs) (once : (x : ℕ) → count x bs ≤ 1) where
  pub front_not_last : (x : ℕ) → 1 ≤ count x (front bs) → x ≢ back bs
  unfolding count
  front_not_last x h e =
      let v = ap (count x) (snoc_view bs some) ∙ count_append x (front bs) (back bs ∷ []) in
      let r : bit (eqb x (back bs)) ≡ 1 = rw (← e) (bit_refl x) in
      let u = once x in
      omega arith

module _ (a b : ℕ) (l : List ℕ) where
  pub join_off : (x d : ℕ) → x ≢ a → x ≢ b → get_or (join_at a b l) x d ≡ get_or l x d
  unfolding join_at
  join_off x d p q = get_or-set_other (set l a b) b x a d q ∙ get_or-set_other l a x b d p

  pub join_left : (d : ℕ) → a < length l → a ≢ b → get_or (join_at a b l) a d ≡ b
  unfolding join_at
  join_left d h n = get_or-set_other (set l a b) b a a d n ∙ get_or-set_same l a b d h

  pub join_right : (d : ℕ) → b < length l → get_or (join_at a b l) b d ≡ a
  unfolding join_at
  join_right d h = get_or-set_same (set l a b) b a d (rw (length-set l a b) h)

  pub length_join : length (join_at a b l) ≡ length l
  unfolding join_at
  length_join = length-set (set l a b) b a ∙ length-set l a b

pub each_same : (work work' : List ℕ) (js : List Pair)
    → ((x : ℕ) → 1 ≤ count x (ends js) → opposite work' x ≡ opposite work x) → Each (Join (opposite work)) js
    → Each (Join (opposite work')) js
unfolding ends count
each_same work work' [] f h = tt
each_same work work' ((a ⇌ b) ∷ js) f h =
    let ra = bit_refl a in
    let rb = bit_refl b in (
      (f a (omega arith) ∙ h.0.0, f b (omega arith) ∙ h.0.1, h.0.2),
      each_same work work' js (λ x m. f x (omega arith)) h.1,
    )
