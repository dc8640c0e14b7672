-- `judge_letters` meets its contract: letters that close are answered at once; else the checks 3 to 5 in their order,
-- then those of the widths.
use mathlib.Core.Path.{◌∙◌, sym}
use native.Mathlib.Omega.{arith}
use Rattle.theory.proofs.Closing.{closes_answer}
use Rattle.judge.proofs.Checks.{behind_breaks, end_breaks, end_passed, foreign_breaks, foreign_within}
use Rattle.judge.proofs.judge_letters.Goals as goal

pub returns-then-closes : goal.returns-then-closes
returns-then-closes c = c.counts.ensures ∙ sym (closes_answer c.args.s.now (c.closes.ensures c.if-closes.true))

pub overflow_cast-i : goal.overflow_cast-i
overflow_cast-i c = omega (arith, foreign_within c.args.s.now c.in-Some.i c.in-Some.ensures)

pub returns-in-Some : goal.returns-in-Some
returns-in-Some c = rw c.at.ensures (foreign_breaks c.args.s.now c.in-Some.i c.in-Some.ensures)

pub returns-in-None : goal.returns-in-None
returns-in-None c = rw c.at-in-None.ensures (end_breaks c.args.s.now c.in_default.ensures c.in-None.ensures)

pub returns-in-Some-words_end : goal.returns-in-Some-words_end
returns-in-Some-words_end c =
    let end = c.in-Some-words_end in
    rw c.at-in-Some-words_end.ensures
    (behind_breaks c.args.s.now c.in_default.ensures end.end end.ensures c.if-end-s.true)

pub returns-in-Some-2 : goal.returns-in-Some-2
returns-in-Some-2 c =
    let end = c.in-Some-words_end in
    c.judge_widths.ensures ∙ end_passed c.args.s.now c.in_default.ensures end.end end.ensures c.if-end-s.false
