use Prim.Native.Nat.{◌-◌}
use mathlib.Core.Path.{◌∙◌}
use native.Mathlib.Omega.{arith}
use lib.ListN.{get_or}
use Rattle.judge.proofs.Forward.{want_end, want_stop, want_turn, wanted_le}
use Rattle.theory.specs.Letter.{letter}
use Rattle.judge.proofs.words_end.Goals as goal

pub returns-then-need-eq0 : goal.returns-then-need-eq0
returns-then-need-eq0 c = want_stop _ _ _ c.if-need-eq0.true (omega arith) c.loop-i.invariant.left

pub loop-i-preserved : goal.loop-i-preserved
loop-i-preserved c =
    let l = c.loop-i in
    let a = letter (get_or c.args.s.now l.i 0) in
    let e = c.wanted_after-need.ensures in
    let turn = want_turn _ _ l.need c.loop-i-test.true (omega arith) l.invariant.left in
    record { few = omega (arith, e, wanted_le a (l.need - 1)); left = rw e turn }

pub returns : goal.returns
returns c =
    let l = c.loop-i in
    c.then_some.ensures ∙ want_end _ l.i l.need l.auto.i-end c.loop-i-test.false l.invariant.left
