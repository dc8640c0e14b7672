-- `judge` meets its contract: done by the walk, or the rules one by one.
use mathlib.Core.Path.{ap}
use Prim.Native.Nat.{ℕ}
use native.Mathlib.Omega.{arith}
use Rattle.sweep.proofs.Judging.{judged_closer, judged_done}
use Rattle.theory.proofs.MeshLaws.{shape_of}
use Rattle.theory.specs.Answer.{done}
use Rattle.sweep.proofs.judge.Goals as goal

pub overflow_cast-result : goal.overflow_cast-result
overflow_cast-result c = omega (arith, shape_of _ _ c.args.tables.now.shape)

pub returns-then-walks : goal.returns-then-walks
returns-then-walks c =
    judged_done c.walks.ensures c.if-walks.true _ (ap (λ (t : ℕ). done t c.args.v) c.count.ensures)

pub returns : goal.returns
returns c = judged_closer c.walks.ensures c.if-walks.false c.args.tables.now.shape _ c.judge_mesh.ensures
