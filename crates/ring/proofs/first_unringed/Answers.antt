-- `first_unringed` meets its contract: the search stops where rule 13 fails, or where vertices outnumber corners.
use Rattle.std.proofs.Common.{rules, tests}
use mathlib.Core.Bool.{false, true}
use mathlib.Core.Path.{◌≡◌}
use Prim.Native.Nat.{◌<◌}
use lib.ListN.{length}
use Rattle.std.proofs.lemmas.Iterator.{first_from_Range}
use Rattle.ring.proofs.Turns.{rings_found}
use Rattle.theory.specs.Mesh.{ringed_at}
use Rattle.ring.proofs.first_unringed.Goals as goal

pub returns : goal.returns
returns c =
    let vs = c.args.s.now.vs.now in
    let os = c.args.s.now.os.now in
    rings_found vs os _ _
    (first_from_Range _ _ _ _ (λ u. u < length vs → ringed_at vs os u ≡ false) (λ u. ringed_at vs os u ≡ true)
    c.find.ensures.ran (λ u q e l. search (rules, tests)) (λ u q e. (search rules, search (rules, tests))))
