-- The loop of `closes`: its invariant, what a letter asks, a turn, and its end.
--
--   Folding s w₀ left top st   the letters behind left are sound words, of the widths top and those of st
--   folds_ready folds_turn     before and after a letter more
--   folds_end                  no letter is left, and there is one word, of width 2
use mathlib.Core.Bool.{true}
use mathlib.Core.List.{List, [], ◌++◌, ◌∷◌, append_assoc}
use mathlib.Core.Path.{◌∙◌, ◌≡◌, ap, sym}
use Prim.Native.Nat.{◌<◌, ◌≤◌, ℕ}
use native.Mathlib.Numerals.{add-one}
use native.Mathlib.Omega.{arith}
use lib.ListN.{length, length-append}
use Rattle.std.specs.Prelude.{Option, Some, None}
use Rattle.std.specs.List.{push}
use Rattle.std.specs.Option.{option_eq}
use lib.Dec.{eqb}
use borrow.Author.Tests.{eqb-true}
use Rattle.judge.proofs.Folds.{Folded, folded_before, folded_closes, folded_wide}
use Rattle.judge.proofs.Standing.{Standing, stands_ready, stands_turn}
use Rattle.judge.specs.Stack.{Ready, Turned, held, widths_of}
use Rattle.judge.specs.declared.stack.Stack.{Stack}
use Rattle.theory.specs.Letter.{is_letter, letter}
use Rattle.theory.specs.Word.{Closes}
use Rattle.theory.specs.declared.Letter.{Letter}

pub record Folding (s w₀ left : List ℕ) (top : Option ℕ) (st : Stack) : Type 0 where
  pub done : List ℕ
  pub parts : left ++ done ≡ s
  pub standing : Standing (length done) w₀ top st
  pub folded : Folded done (widths_of top (held st))

module _ {s w₀ left : List ℕ} {top : Option ℕ} {st : Stack} (inv : Folding s w₀ left top st) (left' : List ℕ) (b : ℕ)
    (next : left ≡ push left' b) where
  pub folds_ready : length s ≤ 65536 → length s ≤ length w₀ → Ready top st
  folds_ready h k =
      let more : length inv.done < length s =
      omega (arith, ap length inv.parts, ap length next, length-append left inv.done, length-append left' (b ∷ []))
      in
      stands_ready inv.standing (omega arith) (omega arith) (folded_wide inv.folded)

  pub folds_turn : {a : Letter} {st' : Stack} {w : ℕ} → is_letter b ≡ true → a ≡ letter b
      → Turned a top st st' (Some w) → 2 ≤ w → Folding s w₀ left' (Some w) st'
  folds_turn h e t k =
      record {
        done = b ∷ inv.done;
        parts = sym (append_assoc left' (b ∷ []) inv.done) ∙ ap (λ (l : List ℕ). l ++ inv.done) (sym next) ∙ inv.parts;
        standing = rw (← add-one (length inv.done)) (stands_turn inv.standing t);
        folded = folded_before b inv.done inv.folded h k (rw e at t.stack);
      }

pub folds_end : {s w₀ left : List ℕ} {top : Option ℕ} {st : Stack} → Folding s w₀ left top st → length left ≡ 0
    → true ≡ option_eq eqb top (Some 2) → held st ≡ [] → Closes s
folds_end {s} {left = []} {top = Some w} inv z two e =
    let whole : Folded s (2 ∷ []) = rw (inv.parts, e, eqb-true w 2 (sym two)) at inv.folded in
    folded_closes whole
folds_end {left = []} {top = None} inv z two e = cc
folds_end {left = x ∷ left} inv z two e = absurd (omega arith)
