use Rattle.std.proofs.Common.{rules}
use Rattle.ring.proofs.Turns.{swinging}
use Rattle.ring.proofs.away_for.Goals as goal

pub loop-preserved : goal.loop-preserved
loop-preserved c = search (rules, swinging)

pub returns : goal.returns
returns c = search (rules, swinging)
