-- Laws of key=value lines.
--
--   keyed_split keyed_lacks     a keyed line is its key, its value and its end, and has no end before that
--   keyed_made value_of_made keyed_after keyed_up   the same from a key and a value
--   keyed_open keyed_ends               what the code answers, from where the line ends
--   size_none size_some size_keyed      what its size says of a line
use mathlib.Core.Bool.{Bool, cond, false, true}
use mathlib.Core.List.{List, [], ◌++◌, ◌∷◌, append_assoc}
use mathlib.Core.Path.{◌∙◌, ◌≡◌, ap, refl, subst, sym}
use Prim.Native.Nat.{◌+◌, ◌<◌, ◌≤◌, suc, ℕ}
use native.Mathlib.Omega.{arith}
use lib.Dec.{eqb, ltb}
use lib.ListN.{drop, length, take, length-append}
use lib.Seq.{drop-append_seam, length-take-le}
use borrow.Author.Tests.{eq-eqb, eqb-true, le-ltb, lt-ltb, ltb-true}
use Rattle.text.proofs.LineLaws.{after_made, ended_made, lacks_append, line_lacks, line_made, starts_key, up_le, up_made, up_split}
use Rattle.std.specs.Prelude.{None, Some}
use Rattle.std.specs.List.{starts_with}
use Rattle.text.specs.Line.{after, is_keyed, keyed_size, lacks, line, line_end, some_size, starts, up_to, value_of}
use Rattle.theory.proofs.TestLaws.{and_left, and_right}

-- ---- keys

pub starts_made : (key v : List ℕ) → starts key (key ++ v) ≡ true
starts_made [] v = refl
starts_made (k ∷ key) v = rw (eq-eqb k k refl) (starts_made key v)

pub starts_split : (key l : List ℕ) → starts key l ≡ true → l ≡ key ++ drop (length key) l
starts_split [] l e = refl
starts_split (k ∷ key) [] e = cc
starts_split (k ∷ key) (x ∷ l) e = cons (eqb-true x k (and_left (eqb x k) (starts key l) e))
    (starts_split key l (and_right (eqb x k) (starts key l) e))
  where
    cons : x ≡ k → l ≡ key ++ drop (length key) l → x ∷ l ≡ k ∷ (key ++ drop (length key) l)
    cons p q i = p i ∷ q i

-- a keyed line is its key, its value and its end
pub keyed_split : (key l : List ℕ) → is_keyed key l ≡ true → l ≡ key ++ (value_of key l ++ line_end ∷ after l)
unfolding is_keyed
keyed_split key l e =
    let ended : up_to line_end l < length l = ltb-true _ _
    (and_left (ltb (up_to line_end l) (length l)) (starts key (line l)) e) in
    let begins : starts key (line l) ≡ true = and_right (ltb (up_to line_end l) (length l)) (starts key (line l)) e in
    up_split line_end l ended ∙ ap (λ (m : List ℕ). m ++ line_end ∷ after l) (starts_split key (line l) begins)
    ∙ append_assoc key (value_of key l) (line_end ∷ after l)

-- and has no end before that
pub keyed_lacks : (key l : List ℕ) → is_keyed key l ≡ true → lacks line_end (value_of key l) ≡ true
unfolding is_keyed
keyed_lacks key l e =
    let begins : starts key (line l) ≡ true = and_right (ltb (up_to line_end l) (length l)) (starts key (line l)) e in
    let whole : lacks line_end (key ++ value_of key l) ≡ true = subst (λ (m : List ℕ). lacks line_end m ≡ true)
    (starts_split key (line l) begins) (line_lacks line_end l) in
    and_right (lacks line_end key) (lacks line_end (value_of key l))
    (sym (lacks_append line_end key (value_of key l)) ∙ whole)

pub keyed_ended : (key l : List ℕ) → is_keyed key l ≡ true → up_to line_end l < length l
unfolding is_keyed
keyed_ended key l e = ltb-true _ _ (and_left (ltb (up_to line_end l) (length l)) (starts key (line l)) e)

pub keyed_fits : (key l : List ℕ) → is_keyed key l ≡ true → length key ≤ up_to line_end l
unfolding is_keyed
keyed_fits key l e =
    let begins : starts key (line l) ≡ true = and_right (ltb (up_to line_end l) (length l)) (starts key (line l)) e in
    let q : length (line l) ≡ length key + length (value_of key l) = ap length (starts_split key (line l) begins)
    ∙ length-append key (value_of key l) in
    omega (arith, q, length-take-le (up_to line_end l) l (up_le line_end l))

module _ (key v r : List ℕ) (hk : lacks line_end key ≡ true) (hv : lacks line_end v ≡ true) where
  whole_lacks : lacks line_end (key ++ v) ≡ true
  whole_lacks = rw (lacks_append line_end key v, hk) hv

  together : key ++ (v ++ line_end ∷ r) ≡ key ++ v ++ line_end ∷ r
  together = sym (append_assoc key v (line_end ∷ r))

  pub keyed_made : is_keyed key (key ++ (v ++ line_end ∷ r)) ≡ true
  unfolding is_keyed
  keyed_made = rw (together, ended_made (key ++ v) r whole_lacks, line_made (key ++ v) r whole_lacks)
      (starts_made key v)

  pub value_of_made : value_of key (key ++ (v ++ line_end ∷ r)) ≡ v
  value_of_made = rw (together, line_made (key ++ v) r whole_lacks) (drop-append_seam key v)

  pub keyed_after : after (key ++ (v ++ line_end ∷ r)) ≡ r
  keyed_after = rw together (after_made (key ++ v) r whole_lacks)

  pub keyed_up : up_to line_end (key ++ (v ++ line_end ∷ r)) ≡ length key + length v
  keyed_up = rw together (up_made line_end (key ++ v) r whole_lacks ∙ length-append key v)

-- ---- sizes of keyed lines

module _ (key l : List ℕ) where
  -- the line is not ended, or ends at n
  pub keyed_open : up_to line_end l ≡ length l → None ≡ some_size (keyed_size key l)
  unfolding keyed_size is_keyed
  keyed_open e = rw (le-ltb (up_to line_end l) (length l) (omega arith))

  pub keyed_ends : (n : ℕ) → (n ≡ up_to line_end l) × (n < length l) → (t : Bool) → t ≡ starts_with eqb (take n l) key
      → cond t (Some (n + 1)) None ≡ some_size (keyed_size key l)
  unfolding keyed_size is_keyed
  keyed_ends n h t e =
      let q : t ≡ starts key (line l) = e ∙ starts_key key (take n l) ∙ ap (λ (k : ℕ). starts key (take k l)) h.0 in
      rw (lt-ltb (up_to line_end l) (length l) (omega arith), ← q) (go t)
    where
      go : (t : Bool) → cond t (Some (n + 1)) None ≡ some_size (cond t (suc (up_to line_end l)) 0)
      go true = ap Some (let k : n + 1 ≡ suc (up_to line_end l) = omega arith in k)
      go false = refl

  -- what its size says of a line
  pub size_none : keyed_size key l ≡ 0 → is_keyed key l ≡ false
  unfolding keyed_size
  size_none e = go (is_keyed key l) e
    where
      go : (t : Bool) → cond t (suc (up_to line_end l)) 0 ≡ 0 → t ≡ false
      go true e = absurd (omega arith)
      go false e = refl

  pub size_some : (keyed_size key l ≡ 0 → ⊥) → is_keyed key l ≡ true
  unfolding keyed_size
  size_some n = go (is_keyed key l) n
    where
      go : (t : Bool) → (cond t (suc (up_to line_end l)) 0 ≡ 0 → ⊥) → t ≡ true
      go true n = refl
      go false n = absurd (n refl)

  pub size_keyed : is_keyed key l ≡ true → keyed_size key l ≡ suc (up_to line_end l)
  unfolding keyed_size
  size_keyed e = rw e
