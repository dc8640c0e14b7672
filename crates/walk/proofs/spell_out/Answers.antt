use Rattle.std.proofs.Common.{rules}
use Rattle.walk.proofs.Spelling.{end, turn}
use Rattle.walk.proofs.spell_out.Goals as goal

pub loop-k-preserved : goal.loop-k-preserved
loop-k-preserved c = search (rules, turn)

pub returns : goal.returns
returns c = search (rules, end)
