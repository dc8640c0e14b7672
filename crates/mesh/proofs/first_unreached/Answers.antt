-- `first_unreached` meets its contract: what the search marks is what t rounds reach.
use mathlib.Core.Bool.{not}
use mathlib.Core.Path.{◌∙◌, ◌≡◌}
use native.Mathlib.Omega.{arith}
use lib.Dec.{eqb}
use lib.ListN.{length}
use Prim.Native.Nat.{◌/◌}
use Rattle.std.proofs.Common.{rules, tests}
use Rattle.mesh.proofs.Scans.{position_lowest}
use Rattle.mesh.proofs.SearchTables.{agrees}
use Rattle.theory.proofs.LowestLaws.{lowest_same}
use Rattle.mesh.proofs.first_unreached.Goals as goal

pub returns : goal.returns
returns c =
    let seen = c.mark_reached.new.seen in
    let pairing = c.args.pairs.now.pairing in
    let t : length seen ≡ length c.args.pairs.now.os.now / 3 = omega arith in
    position_lowest (λ x. not (eqb x 0)) seen _ _ _ _ c.position.ensures.ran (search rules)
    (λ x f e. search (rules, tests)) (λ x f e. (search rules, search (rules, tests)))
    ∙ rw t (lowest_same _ _ _
    (agrees _ _ _ _ pairing (omega (arith, pairing.thirds)) c.requires.gate c.mark_reached.ensures))
