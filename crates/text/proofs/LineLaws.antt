-- Laws of lines.
--
--   up_position starts_key      `up_to` and `starts` in the words of std
--   Found found_up found_or     what a search for a byte says of `up_to`
--   lacks_append lacks_digits   where a byte is absent
--   line_made after_made ended_made   the first line of a line before a text
--   up_split line_lacks         a text is what stands before its first b, b, and what follows
use mathlib.Core.Bool.{Bool, ◌&&◌, cond, false, not, true}
use mathlib.Core.List.{List, [], ◌++◌, ◌∷◌, append_assoc}
use mathlib.Core.Path.{◌∙◌, ◌≡◌, ap, refl, sym}
use Prim.Native.Nat.{◌+◌, ◌<◌, ◌≤◌, suc, ℕ}
use native.Mathlib.Decide.{dec_lt, ℕ_discrete}
use native.Mathlib.Omega.{arith}
use lib.Dec.{eqb, ltb}
use lib.ListN.{drop, length, length-append, take}
use lib.Seq.{drop_at, take-append_seam}
use borrow.Author.Tests.{eq-eqb, eqb-true, le-ltb, lt-ltb, ne_eqb}
use Rattle.std.specs.Prelude.{MatchOption, None, Option, Some}
use Rattle.std.specs.List.{position, position_or_len, starts_with}
use Rattle.std.specs.Option.{unwrap_or}
use Rattle.std.proofs.lemmas.List.Recursion.{is_position_or_len}
use Rattle.text.proofs.DecimalLaws.{digit_low}
use Rattle.text.specs.Decimal.{all_digits, is_digit}
use Rattle.text.specs.Line.{after, lacks, line, line_end, starts, up_to}
use Rattle.theory.proofs.TestLaws.{and_left, and_right}

-- ---- the first of a byte, and a key

pub up_le : (b : ℕ) (l : List ℕ) → up_to b l ≤ length l
up_le b [] = omega arith
up_le b (x ∷ l) = go (eqb x b) (up_le b l)
  where
    go : (t : Bool) → up_to b l ≤ length l → cond t 0 (suc (up_to b l)) ≤ length (x ∷ l)
    go true ih = omega arith
    go false ih = omega arith

pub up_position : (b : ℕ) (l : List ℕ) → position_or_len (λ x. eqb x b) l ≡ up_to b l
up_position b l = sym (is_position_or_len (up_to b) (λ x. eqb x b) refl step l)
  where
    step : (x : ℕ) (xs : List ℕ) → up_to b (x ∷ xs) ≡ cond (eqb x b) 0 (1 + up_to b xs)
    step x xs = let q : 1 + up_to b xs ≡ suc (up_to b xs) = omega arith in rw q

-- a search for b that found it at n, or not at all
abbrev pub Found : ℕ → List ℕ → Option ℕ → Type 0
Found b l r = MatchOption r (up_to b l ≡ length l) (λ n. (n ≡ up_to b l) × (n < length l))

pub found_up : (b : ℕ) (l : List ℕ) (r : Option ℕ) → r ≡ position (λ x. eqb x b) l → Found b l r
found_up b l r e = rw (e, up_position b l) (go (dec_lt (up_to b l) (length l)))
  where
    go : Dec (up_to b l < length l) → Found b l (cond (ltb (up_to b l) (length l)) (Some (up_to b l)) None)
    go (yes h) = rw (lt-ltb (up_to b l) (length l) h) (refl, h)
    go (no h) = rw (le-ltb (up_to b l) (length l) (omega arith)) (omega (arith, up_le b l))

pub found_or : (b : ℕ) (l : List ℕ) (r : Option ℕ) → Found b l r → unwrap_or r (length l) ≡ up_to b l
found_or b l (Some n) h = h.0
found_or b l None h = sym h

eqb_turned : (x k : ℕ) → eqb k x ≡ eqb x k
eqb_turned x k = go (ℕ_discrete x k)
  where
    go : Dec (x ≡ k) → eqb k x ≡ eqb x k
    go (yes e) = rw e
    go (no n) = ne_eqb k x (λ e. n (sym e)) ∙ sym (ne_eqb x k n)

pub starts_key : (key l : List ℕ) → starts_with eqb l key ≡ starts key l
starts_key [] l = refl
starts_key (k ∷ key) [] = refl
starts_key (k ∷ key) (x ∷ l) = rw (eqb_turned x k, starts_key key l)

-- ---- lines

pub lacks_append : (b : ℕ) (l m : List ℕ) → lacks b (l ++ m) ≡ (lacks b l && lacks b m)
lacks_append b [] m = refl
lacks_append b (x ∷ l) m = go (not (eqb x b)) (lacks_append b l m)
  where
    go : (t : Bool) → lacks b (l ++ m) ≡ (lacks b l && lacks b m)
        → (t && lacks b (l ++ m)) ≡ (t && lacks b l && lacks b m)
    go true ih = ih
    go false ih = refl

pub lacks_digits : (l : List ℕ) → all_digits l ≡ true → lacks line_end l ≡ true
lacks_digits [] a = refl
lacks_digits (x ∷ l) a =
    let low : 48 ≤ x = digit_low x (and_left (is_digit x) (all_digits l) a) in
    rw (ne_eqb x line_end (λ e. omega arith)) (lacks_digits l (and_right (is_digit x) (all_digits l) a))

pub up_made : (b : ℕ) (v r : List ℕ) → lacks b v ≡ true → up_to b (v ++ b ∷ r) ≡ length v
up_made b [] r h = rw (eq-eqb b b refl)
up_made b (x ∷ v) r h = go (eqb x b) h (up_made b v r)
  where
    go : (t : Bool) → (not t && lacks b v) ≡ true → (lacks b v ≡ true → up_to b (v ++ b ∷ r) ≡ length v)
        → cond t 0 (suc (up_to b (v ++ b ∷ r))) ≡ suc (length v)
    go true e ih = cc
    go false e ih = ap suc (ih e)

pub line_lacks : (b : ℕ) (l : List ℕ) → lacks b (take (up_to b l) l) ≡ true
line_lacks b [] = refl
line_lacks b (x ∷ l) = go (eqb x b) refl (line_lacks b l)
  where
    go : (t : Bool) → eqb x b ≡ t → lacks b (take (up_to b l) l) ≡ true
        → lacks b (take (cond t 0 (suc (up_to b l))) (x ∷ l)) ≡ true
    go true e ih = refl
    go false e ih = rw e ih

pub up_split : (b : ℕ) (l : List ℕ) → up_to b l < length l → l ≡ take (up_to b l) l ++ b ∷ drop (suc (up_to b l)) l
up_split b [] h = absurd (omega arith)
up_split b (x ∷ l) h = go (eqb x b) refl h (up_split b l)
  where
    go : (t : Bool) → eqb x b ≡ t → cond t 0 (suc (up_to b l)) < length (x ∷ l)
        → (up_to b l < length l → l ≡ take (up_to b l) l ++ b ∷ drop (suc (up_to b l)) l)
        → x ∷ l ≡ take (cond t 0 (suc (up_to b l))) (x ∷ l) ++ b ∷ drop (suc (cond t 0 (suc (up_to b l)))) (x ∷ l)
    go true e k ih = ap (λ (y : ℕ). y ∷ l) (eqb-true x b e)
    go false e k ih = ap (λ (m : List ℕ). x ∷ m) (ih (omega arith))

module _ (v r : List ℕ) (h : lacks line_end v ≡ true) where
  pub line_made : line (v ++ line_end ∷ r) ≡ v
  line_made = rw (up_made line_end v r h) (take-append_seam v (line_end ∷ r))

  pub after_made : after (v ++ line_end ∷ r) ≡ r
  after_made =
      rw (up_made line_end v r h)
      (ap (drop (suc (length v))) (sym (append_assoc v (line_end ∷ []) r))
      ∙ drop_at (v ++ (line_end ∷ [])) r (suc (length v)) (omega (arith, length-append v (line_end ∷ []))))

  pub ended_made : ltb (up_to line_end (v ++ line_end ∷ r)) (length (v ++ line_end ∷ r)) ≡ true
  ended_made = lt-ltb (up_to line_end (v ++ line_end ∷ r)) (length (v ++ line_end ∷ r))
      (omega (arith, up_made line_end v r h, length-append v (line_end ∷ r)))
