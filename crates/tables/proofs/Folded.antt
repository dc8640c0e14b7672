-- The ends of the first pass: one word of width 2 is left or not, and table O and the records where it is.
use mathlib.Core.Bool.{Bool, ◌&&◌, false, true}
use mathlib.Core.List.{List, [], ◌∷◌, append-nil}
use mathlib.Core.Logic.{◌≢◌}
use mathlib.Core.Path.{◌∙◌, ◌≡◌, ap, refl, subst, sym}
use Prim.Native.Nat.{◌*◌, ◌+◌, ◌-◌, ◌<◌, ◌≤◌, ℕ}
use native.Mathlib.Omega.{arith}
use lib.Dec.{eqb}
use lib.ListN.{drop, get_or, length, take}
use lib.Seq.{get_or-take, length-take-le}
use borrow.Author.Tests.{eq-eqb, eqb-true}
use Rattle.tables.proofs.Corners.{each_same, inner, inner_in, inner_not_open, join_left, join_off, join_right, last_in, length_join, open_in, some_open}
use Rattle.tables.proofs.Enough.{Full}
use Rattle.tables.proofs.Folding.{Folding, first_same, folding_stop}
use Rattle.tables.specs.declared.Ends.{Ends}
use Rattle.tables.proofs.Held.{Held, Standing, recorded_same}
use Rattle.tables.proofs.Neighbours.{made_table}
use Rattle.tables.proofs.Stopping.{spells, spelt_words}
use Rattle.tables.specs.Fold.{Foldable, Folded, Joined, fold_in, halts}
use Rattle.theory.proofs.Opens.{mates, opens}
use Rattle.std.proofs.lemmas.Bool.{and_from}
use Rattle.theory.proofs.TestLaws.{and_left, and_right, not_both}
use Rattle.theory.proofs.WordLaws.{length_spell, words_one}
use Rattle.theory.specs.Corner.{opposite}
use Rattle.theory.specs.Lists.{back}
use Rattle.theory.specs.Tables.{join_at, links, table_o}
use Rattle.theory.specs.Word.{Closes, Word, first_word, size, spell, width, word_of, words}

-- the last open side of a word of width 2 joined to corner 0
module _ (t : ℕ) (work : List ℕ) (w : Word) (h : Held t work 0 w) (two : width w ≡ 2) (is : size w ≡ t)
    (fits : 4 * t ≤ length work) where
  abbrev y : ℕ
  y = back (opens 0 w)

  abbrev whole : List ℕ
  whole = join_at y 0 work

  open_low : (0 < y) × (y < 3 * t)
  open_low =
      let i = open_in 0 w h.sound y (last_in (opens 0 w) (some_open 0 w h.sound)) in
      let i₀ = i.0 in
      let i₁ = i.1 in
      (omega arith, omega arith)

  entry : (x : ℕ) → 1 ≤ inner x 0 w → opposite (take (3 * t) whole) x ≡ opposite work x
  entry x m =
      let o = h.sound in
      let i = inner_in 0 w o x m in
      let i₀ = i.0 in
      let i₁ = i.1 in
      get_or-take (3 * t) whole x x (omega arith)
      ∙ join_off y 0 work x x (inner_not_open 0 w o x y m (last_in (opens 0 w) (some_open 0 w o))) (λ q. omega arith)

  whole_table : take (3 * t) whole ≡ table_o w
  whole_table =
      let made = take (3 * t) whole in
      let low = open_low in
      let l₀ = low.0 in
      let l₁ = low.1 in
      let n = length_join y 0 work in
      let ne : y ≢ 0 = λ q. omega arith in
      made_table w h.sound two made (length-take-le (3 * t) whole (omega arith) ∙ ap (λ (m : ℕ). 3 * m) (sym is))
      (each_same work made (links 0 w) (λ x m. entry x (omega arith)) h.linked)
      (each_same work made (mates 0 w) (λ x m. entry x (omega arith)) h.mated) (
        get_or-take (3 * t) whole y y l₁ ∙ join_left y 0 work y (omega arith) ne,
        get_or-take (3 * t) whole 0 0 (omega arith) ∙ join_right y 0 work 0 (omega arith),
        ne,
      )

  whole_joined : (s : List ℕ) → length s ≡ t → word_of s ≡ w → Joined s whole
  whole_joined s n e =
      let low = open_low in
      let l₁ = low.1 in
      let off : (i : ℕ) → get_or whole (3 * t + i) 0 ≡ get_or work (3 * t + i) 0 =
      λ i. join_off y 0 work (3 * t + i) 0 (λ q. omega arith) (λ q. omega arith) in
      record {
        neighbours = rw (n, e) whole_table;
        records = rw (n, e) (recorded_same t work whole 0 w (λ i a b. off i) h.records);
      }

pub stopped : {s : List ℕ} (work' : List ℕ) → (Closes s → ⊥) → Folded s false work'
stopped {s} work' n =
    record {
      closes = λ z. absurd (not_both false z refl);
      refuses = λ z. n;
      made = λ z. absurd (not_both false z refl);
    }

-- a byte that is no letter, or a letter that cannot stand there
module _ {s work₀ work : List ℕ} {ends : Ends} {i : ℕ} (can : Foldable s work₀) (inv : Folding s work₀ work ends i)
    (more : 0 < i) where
  pub halted : halts (get_or s (i - 1) 0) ends (length work - ends.top) ≡ true → Folded s false work
  halted e = stopped work (folding_stop can inv more e)

-- the words at the end of the loop
module _ {s work₀ work : List ℕ} {ends : Ends} {i : ℕ} (can : Foldable s work₀) (inv : Folding s work₀ work ends i)
    (end : i ≤ 0) where
  at_start : i ≡ 0
  at_start = omega arith

  all_words : Standing (length s) (fold_in work ends) (words s) 0
  all_words = subst (λ (j : ℕ). Standing (length s) (fold_in work ends) (words (drop j s)) j) at_start inv.stands

  deep : length work - ends.top ≡ 3 * length (words s)
  deep = subst (λ (j : ℕ). length work - ends.top ≡ 3 * length (words (drop j s))) at_start inv.deep

  spelt : spells (words s) ≡ s
  spelt =
      spelt_words s (λ q l. inv.known q (omega arith) l)
      (subst (λ (j : ℕ). Full (drop j s)) at_start inv.full)

  -- in a string that closes there is one
  only : (c : Closes s) → words s ≡ c.word ∷ []
  only c = ap words (sym c.spelt) ∙ words_one c.word

  one_width : (w : Word) → words s ≡ w ∷ [] → eqb ends.first ends.last ≡ eqb (width w) 2
  unfolding first_word
  one_width w e =
      first_same (length s) (fold_in work ends) (w ∷ []) 0 (omega arith)
      (subst (λ (ws : List Word). Standing (length s) (fold_in work ends) ws 0) e all_words)

  -- the test of what is left
  abbrev closing : Bool
  closing = eqb (length work - ends.top) 3 && eqb ends.first ends.last

  pub folded_off : false ≡ closing → Folded s false work
  folded_off h = stopped work (λ c. not_both closing (closed c) (sym h))
    where
      closed : Closes s → closing ≡ true
      closed c =
          let d = deep in
          let o = ap (λ (ws : List Word). length ws) (only c) in
          and_from (eqb (length work - ends.top) 3) (eqb ends.first ends.last)
          (eq-eqb (length work - ends.top) 3 (omega arith))
          (one_width c.word (only c) ∙ eq-eqb (width c.word) 2 c.two)

  pub folded_done : {work' : List ℕ} → true ≡ closing → work' ≡ join_at ends.last 0 work → Folded s true work'
  unfolding first_word
  folded_done {work'} h f = go (words s) refl
    where
      made : (w : Word) → words s ≡ w ∷ [] → spell w ≡ s → width w ≡ 2
          → Standing (length s) (fold_in work ends) (w ∷ []) 0 → Folded s true work'
      made w e letters two st =
          let sp = can.space in
          let sm = inv.same in
          let n = sym (length_spell w) ∙ ap length letters in
          let joined = whole_joined (length s) work w st.0 two n (omega arith) s refl (ap first_word e) in
          record {
            closes = λ z. record { word = w; spelt = letters; sound = st.0.sound; two = two };
            refuses = λ z. absurd (not_both true refl z);
            made = λ z. rw (f, st.2) joined;
          }

      one : length work - ends.top ≡ 3
      one =
          eqb-true (length work - ends.top) 3
          (and_left (eqb (length work - ends.top) 3) (eqb ends.first ends.last) (sym h))

      go : (ws : List Word) → words s ≡ ws → Folded s true work'
      go [] e = absurd (let d = deep in let o = ap (λ (vs : List Word). length vs) e in omega (arith, one))
      go (w ∷ (v ∷ ws)) e =
          absurd (let d = deep in let o = ap (λ (vs : List Word). length vs) e in omega (arith, one))
      go (w ∷ []) e =
          let st = subst (λ (vs : List Word). Standing (length s) (fold_in work ends) vs 0) e all_words in
          let letters : spell w ≡ s = sym (append-nil (spell w)) ∙ sym (ap spells e) ∙ spelt in
          let same = and_right (eqb (length work - ends.top) 3) (eqb ends.first ends.last) (sym h) in
          let two = eqb-true (width w) 2 (sym (one_width w e) ∙ same) in
          made w e letters two st
