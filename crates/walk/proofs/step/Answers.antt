use Rattle.std.proofs.Common.{rules}
use mathlib.Core.Path.{refl}
use Rattle.walk.proofs.Stepping.{did_c, did_e, did_l, did_r, did_s}
use Rattle.walk.proofs.step.Goals as goal

pub returns-then-work-tip-eq0 : goal.returns-then-work-tip-eq0
returns-then-work-tip-eq0 c = search (rules, did_c)

pub returns-in-true-true : goal.returns-in-true-true
returns-in-true-true c = search (rules, did_s)

pub returns-in-true-false : goal.returns-in-true-false
returns-in-true-false c = search (rules, did_r)

pub returns-in-false-true : goal.returns-in-false-true
returns-in-false-true c = search (rules, did_l)

pub returns-in-false-false : goal.returns-in-false-false
returns-in-false-false c =
    did_e c.requires refl c.left_of-l.ensures.0 c.right_of-r.ensures.0 (search rules) (search rules) (search rules)
    c.waiting.ensures
