-- What both loops from the right keep of the stack: it is in the lent work space, and small after a few letters.
--
--   Standing n w₀ top st      after n letters, in a work space as long as w₀
--   stands_first stands_ready stands_turn    at the start, what a letter asks, and after one
use mathlib.Core.List.{List, []}
use mathlib.Core.Path.{◌∙◌, ◌≡◌, ap, refl}
use Prim.Native.Nat.{◌*◌, ◌+◌, ◌<◌, ◌≤◌, ℕ}
use native.Mathlib.Omega.{arith}
use lib.ListN.{length, length-drop}
use lib.Seq.{drop-length}
use Rattle.std.specs.Prelude.{Option, Some, None}
use Rattle.judge.proofs.WidthLaws.{before_length, before_total}
use Rattle.judge.specs.Stack.{Ready, Turned, held, widths_of}
use Rattle.judge.specs.Widths.{Wide, total}
use Rattle.judge.specs.declared.stack.Stack.{Stack}
use Rattle.theory.specs.declared.Letter.{Letter}

pub record Standing (n : ℕ) (w₀ : List ℕ) (top : Option ℕ) (st : Stack) : Type 0 where
  pub same : length st.work.now ≡ length w₀
  pub alone : top ≡ None → held st ≡ []
  pub small : total (widths_of top (held st)) ≤ 3 * n
  pub room : length (widths_of top (held st)) ≤ n

pub stands_first : (w₀ : List ℕ) (st : Stack) → st.work.now ≡ w₀ → st.at ≡ length w₀ → Standing 0 w₀ None st
stands_first w₀ st e f =
    record {
      same = ap length e;
      alone = λ _. rw (e, f) (drop-length w₀);
      small = omega arith;
      room = omega arith;
    }

module _ {n : ℕ} {w₀ : List ℕ} {top : Option ℕ} {st : Stack} (inv : Standing n w₀ top st) where
  pub stands_ready : n < length w₀ → n < 65536 → Wide (widths_of top (held st)) → Ready top st
  stands_ready h k wide =
      record {
        room = go top inv.alone inv.room;
        alone = inv.alone;
        wide = wide;
        small = omega (arith, inv.small);
      }
    where
      go : (top : Option ℕ) → (top ≡ None → held st ≡ []) → length (widths_of top (held st)) ≤ n → 0 < st.at
      go None a r = omega (arith, ap length (a refl), length-drop st.at st.work.now, inv.same)
      go (Some w) a r = omega (arith, length-drop st.at st.work.now, inv.same, st.within)

  pub stands_turn : {a : Letter} {r : Option ℕ} {st' : Stack} → Turned a top st st' r → Standing (n + 1) w₀ r st'
  stands_turn {a} t =
      let before = widths_of top (held st) in
      record {
        same = t.same ∙ inv.same;
        alone = t.alone;
        small = omega (arith, ap total t.stack, before_total a before, inv.small);
        room = omega (arith, ap length t.stack, before_length a before, inv.room);
      }
