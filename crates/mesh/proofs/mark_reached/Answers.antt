use native.Mathlib.Omega.{arith}
use lib.ListN.{length}
use Rattle.std.proofs.Common.{rules}
use Rattle.mesh.proofs.SearchTables.{again, begun, fewer, finished}
use Rattle.mesh.proofs.mark_reached.Goals as goal

pub loop-p-init : goal.loop-p-init
loop-p-init c =
    begun _ _ _ _ c.args.stack.now _ _ (length c.args.stack.now) _ c.args.pairs.now.pairing c.requires.triangles
    c.requires.triangle c.requires.clear (omega arith) (omega arith) c.meet-p.ensures.met

pub loop-p-smaller : goal.loop-p-smaller
loop-p-smaller c = search (rules, fewer)

pub loop-p-preserved : goal.loop-p-preserved
loop-p-preserved c = search (rules, again)

pub returns : goal.returns
returns c = search (rules, finished)
