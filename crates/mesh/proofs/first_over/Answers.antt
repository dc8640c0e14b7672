-- `first_over` meets its contract.
use lib.Dec.{ltb}
use Rattle.std.proofs.Common.{rules, tests}
use Rattle.mesh.proofs.Scans.{position_lowest}
use Rattle.theory.specs.Mesh.{below_at}
use Rattle.mesh.proofs.first_over.Goals as goal

pub returns : goal.returns
unfolding below_at
returns c =
    position_lowest (λ u. ltb u c.args.v) _ _ _ _ _ c.position.ensures.ran (search rules)
    (λ x f e. search (rules, tests)) (λ x f e. (search rules, search (rules, tests)))
