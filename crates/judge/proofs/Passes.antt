-- The loop of `judge_widths`: its invariant, how it begins, a turn, and its ends.
--
--   Passing s w₀ left top st     the letters behind left are read: top and st are the widths of their words, and no C
--                                among them stands before a word of width 2
--   passes_begin passes_turn     at the start, and after a letter more
--   stops ends_wide ends_done    the three answers
use mathlib.Core.Bool.{Bool, ◌&&◌, false, not, true}
use mathlib.Core.List.{List, [], ◌++◌, ◌∷◌, append_assoc, append-nil}
use mathlib.Core.Path.{◌∙◌, ◌≡◌, ap, refl, sym}
use Prim.Native.Nat.{◌+◌, ◌-◌, ℕ}
use native.Mathlib.Numerals.{add-one}
use native.Mathlib.Omega.{arith}
use lib.Dec.{eqb}
use lib.ListN.{drop, length, length-append}
use lib.Seq.{drop-append-add, get_or-append_seam}
use Rattle.std.proofs.lemmas.List.{nil_from_length}
use Rattle.std.specs.List.{push}
use Rattle.std.specs.Option.{option_eq}
use Rattle.std.specs.Prelude.{Option, Some, None}
use Rattle.judge.proofs.Standing.{Standing, stands_first, stands_turn}
use Rattle.judge.proofs.WidthLaws.{before_wide, two_first, widths, widths_before_lem}
use Rattle.judge.specs.Stack.{Turned, held, widths_of}
use Rattle.judge.specs.Widths.{Wide}
use Rattle.judge.specs.declared.stack.Stack.{Stack}
use Rattle.theory.proofs.LetterLaws.{letter_new}
use Rattle.theory.proofs.GreatestLaws.{Above, down_end, down_stop, down_turn}
use Rattle.theory.proofs.JudgeLaws.{breaks_seven, breaks_six, seven_passed}
use Rattle.theory.proofs.TestLaws.{and_rest}
use Rattle.theory.specs.Answer.{first_broken, refused}
use Rattle.theory.specs.Judge.{letter_rungs, pinched_at, string_done}
use Rattle.theory.specs.Letter.{byte, letter}
use Rattle.theory.specs.Lists.{greatest, head}
use Rattle.theory.specs.Word.{width, word_of, words}
use Rattle.theory.specs.declared.Letter.{Letter}
use Rattle.theory.specs.declared.Letter.TheVariants.{C}

pub record Passing (s w₀ left : List ℕ) (top : Option ℕ) (st : Stack) : Type 0 where
  pub done : List ℕ
  pub parts : left ++ done ≡ s
  pub standing : Standing (length done) w₀ top st
  pub stack : widths_of top (held st) ≡ widths (words done)
  pub wide : Wide (widths_of top (held st))
  pub free : Above (λ q. not (pinched_at s q)) (length s) (length left)

pub passes_begin : (s w₀ left : List ℕ) (st : Stack) → left ≡ s → st.work.now ≡ w₀ → st.at ≡ length w₀
    → Passing s w₀ left None st
unfolding words
passes_begin s w₀ left st all e f =
    record {
      done = [];
      parts = append-nil left ∙ all;
      standing = stands_first w₀ st e f;
      stack = refl;
      wide = tt;
      free = λ y h k. absurd (omega (arith, ap length all));
    }

-- what the code tests is the definition's test
first_two : (top : Option ℕ) (st : List ℕ) → option_eq eqb top (Some 2) ≡ eqb (head (widths_of top st)) 2
unfolding head
first_two None st = refl
first_two (Some w) st = refl

pinch_here : (left done : List ℕ) (b : ℕ) (top : Option ℕ) (st : List ℕ) → widths_of top st ≡ widths (words done)
    → (eqb b (byte C) && option_eq eqb top (Some 2)) ≡ pinched_at (left ++ (b ∷ done)) (length left)
unfolding pinched_at
pinch_here left done b top st e =
    rw (get_or-append_seam left b done 0, ← add-one (length left), drop-append-add left (b ∷ done) 1)
    rw (first_two top st, e, two_first (words done))

module _ {s w₀ left : List ℕ} {top : Option ℕ} {st : Stack} (inv : Passing s w₀ left top st) (left' : List ℕ) (b : ℕ)
    (next : left ≡ push left' b) where
  more : length left ≡ length left' + 1
  more = omega (arith, ap length next, length-append left' (b ∷ []))

  parts : left' ++ (b ∷ inv.done) ≡ s
  parts = sym (append_assoc left' (b ∷ []) inv.done) ∙ ap (λ (l : List ℕ). l ++ inv.done) (sym next) ∙ inv.parts

  whole : length s ≡ length left + length inv.done
  whole = omega (arith, ap length inv.parts, length-append left inv.done)

  here : (eqb b (byte C) && option_eq eqb top (Some 2)) ≡ pinched_at s (length left')
  here = rw (← parts) (pinch_here left' inv.done b top (held st) inv.stack)

  pub passes_turn : {a : Letter} {st' : Stack} {r : Option ℕ} → a ≡ letter b → Turned a top st st' r
      → (eqb b (byte C) && option_eq eqb top (Some 2)) ≡ false → Passing s w₀ left' r st'
  unfolding words
  passes_turn {a} e t calm =
      let ok : ℕ → Bool = λ q. not (pinched_at s q) in
      let back : length left - 1 ≡ length left' = omega (arith, more) in
      let good : ok (length left - 1) ≡ true = rw back (ap not (sym here ∙ calm)) in
      let two = first_two top (held st) in
      record {
        done = b ∷ inv.done;
        parts = parts;
        standing = rw (← add-one (length inv.done)) (stands_turn inv.standing t);
        stack = t.stack ∙ rw (e, inv.stack) (sym (widths_before_lem (letter b) (words inv.done)));
        wide = rw t.stack (before_wide a _ (λ new. sym two ∙ and_rest _ _ (letter_new b (sym e ∙ new)) calm) inv.wide);
        free = rw back at (down_turn ok (length s) (length left) inv.free good);
      }

  pub stops : (i : ℕ) → i ≡ length left' → b ≡ byte C → true ≡ option_eq eqb top (Some 2)
      → refused 6 i ≡ first_broken (drop 3 (letter_rungs s)) (string_done s)
  stops i at new two =
      let e : (eqb b (byte C) && option_eq eqb top (Some 2)) ≡ true = rw (new, ← two) in
      let ok : ℕ → Bool = λ q. not (pinched_at s q) in
      let back : length left - 1 ≡ length left' = omega (arith, more) in
      let bad : ok (length left - 1) ≡ false = rw back (ap not (sym here ∙ e)) in
      let last = down_stop ok (length s) (length left) inv.free (omega (arith, more)) (omega (arith, whole)) bad in
      breaks_six s i (omega (arith, at, more, whole)) (last ∙ back ∙ sym at)

module _ {s w₀ left : List ℕ} {top : Option ℕ} {st : Stack} (inv : Passing s w₀ left top st)
    (end : length left ≡ 0) where
  none_pinched : greatest (λ q. not (pinched_at s q)) (length s) ≡ length s
  none_pinched = down_end (λ q. not (pinched_at s q)) (length s) (length left) inv.free (omega arith)

  first_same : option_eq eqb top (Some 2) ≡ eqb (width (word_of s)) 2
  first_same =
      let all : s ≡ inv.done = sym inv.parts ∙ ap (λ (l : List ℕ). l ++ inv.done) (nil_from_length left end) in
      rw all (first_two top (held st) ∙ rw inv.stack (two_first (words inv.done)))

  pub ends_wide : option_eq eqb top (Some 2) ≡ false
      → refused 7 0 ≡ first_broken (drop 3 (letter_rungs s)) (string_done s)
  ends_wide h = breaks_seven s none_pinched (sym first_same ∙ h)

  pub ends_done : option_eq eqb top (Some 2) ≡ true
      → string_done s ≡ first_broken (drop 3 (letter_rungs s)) (string_done s)
  ends_done h = seven_passed s none_pinched (sym first_same ∙ h)
