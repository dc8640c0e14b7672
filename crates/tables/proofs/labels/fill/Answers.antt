use Rattle.std.proofs.Common.{rules}
use Rattle.tables.proofs.Filling.{filling_end, filling_start, filling_turn}
use Rattle.tables.proofs.labels.fill.Goals as goal

pub loop-k-init : goal.loop-k-init
loop-k-init c = search (rules, filling_start)

pub loop-k-preserved : goal.loop-k-preserved
loop-k-preserved c = search (rules, filling_turn)

pub returns : goal.returns
returns c = search (rules, filling_end)
