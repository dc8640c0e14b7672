-- `all_on` meets its contract: every entry is on, or the one where `all` stopped is off.
use Rattle.std.proofs.Common.{rules, tests}
use mathlib.Core.Logic.{◌≢◌}
use mathlib.Core.Path.{◌≡◌}
use lib.ListN.{take}
use Rattle.std.proofs.lemmas.Iterator.{YieldsList-from_slice, cases_from_all}
use Rattle.sweep.proofs.Marks.{all_marked}
use Rattle.sweep.proofs.all_on.Goals as goal

pub returns : goal.returns
returns c =
    all_marked c.args.work.now c.args.n _ c.requires
    (cases_from_all _ _ _ (λ x. x ≢ 0) (λ x. x ≡ 0) c.all.ensures.ran
    (YieldsList-from_slice (take c.args.n c.args.work.now) (search rules)) (λ x q k. search (rules, tests)) (λ x q k. search (rules, tests)))
