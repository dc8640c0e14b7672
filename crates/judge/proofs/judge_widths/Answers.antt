use mathlib.Core.Bool.{◌&&◌, false}
use mathlib.Core.Path.{◌∙◌, ◌≡◌, sym}
use native.Mathlib.Omega.{arith}
use lib.Dec.{eqb}
use borrow.Author.Rules.{rules}
use borrow.Author.Tests.{ne_eqb}
use Rattle.std.specs.Option.{option_eq}
use Rattle.std.specs.Prelude.{Some}
use Rattle.std.proofs.lemmas.Bool.{not-false, not-true}
use Rattle.judge.proofs.Passes.{ends_done, ends_wide, passes_begin, passes_turn, stops}
use Rattle.judge.proofs.judge_widths.Goals as goal
use Rattle.judge.proofs.judge_widths.Goals.{else-b-eq67-via-then-b-eq67+else-eq, else-b-eq67-via-else-b-eq67}

pub loop-i-init : goal.loop-i-init
loop-i-init c =
    let made = c.new-behind.ensures in
    record {
      from = search rules;
      passing = passes_begin c.args.s.now c.args.work.now _ _ (search rules) made.same made.empty;
    }

pub returns-then-eq : goal.returns-then-eq
returns-then-eq c =
    let inv = c.loop-i.invariant in
    let step = c.in-Some.ensures.steps in
    rw c.at.ensures
    (stops inv.passing _ _ step.1.0 c.in-Some.i (omega (arith, inv.from, step.1.1)) c.if-b-eq67.true c.if-eq.ensures)

pub loop-i-preserved : goal.loop-i-preserved
loop-i-preserved c =
    let inv = c.loop-i.invariant in
    let step = c.in-Some.ensures.steps in
    let b = c.in-Some.field-0-1.now in
    let calm : (eqb b 67 && option_eq eqb c.loop-i.top (Some 2)) ≡ false = elim c.else-b-eq67.branch [
      | else-b-eq67-via-then-b-eq67+else-eq w ↦ rw w.if-b-eq67.true (sym w.if-eq.ensures)
      | else-b-eq67-via-else-b-eq67 w ↦ rw (ne_eqb b 67 w.if-b-eq67.false)
    ] in
    record {
      from = step.0 ∙ inv.from;
      passing = passes_turn inv.passing _ _ step.1.0 c.letter_of.ensures c.turn-top.ensures calm;
    }

pub returns-then-ne : goal.returns-then-ne
returns-then-ne c =
    rw c.at-then-ne.ensures
    (ends_wide c.loop-i.invariant.passing c.in-None.ensures.steps.1.0 (not-true _ (sym c.if-ne.ensures)))

pub returns : goal.returns
returns c =
    c.counts.ensures
    ∙ ends_done c.loop-i.invariant.passing c.in-None.ensures.steps.1.0 (not-false _ (sym c.if-ne.ensures))
