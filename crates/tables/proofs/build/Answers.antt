-- `build` meets its contract: the neighbours are carried over, then the vertices are filled in.
use Rattle.std.proofs.Common.{rules}
use Rattle.tables.proofs.Building.{built}
use Rattle.tables.proofs.build.Goals as goal

pub returns : goal.returns
returns c = search (rules, built)
