-- `first_doubled` meets its contract.
use Rattle.std.proofs.Common.{rules, tests}
use Rattle.mesh.proofs.Scans.{find_lowest}
use Rattle.mesh.proofs.first_doubled.Goals as goal

pub returns : goal.returns
returns c =
    find_lowest _ _ _ _ _ c.find.ensures.ran (λ i f e. search (rules, tests))
    (λ i f e. (search rules, search (rules, tests)))
