-- `write_numbered` meets its contract: the key, and the number behind it.
use Rattle.print.specs.Printed.{numbered}
use Rattle.text.proofs.WriterLaws.{writes_append}
use Rattle.print.proofs.write_numbered.Goals as goal

pub returns-clause-text : goal.returns-clause-text
unfolding numbered
returns-clause-text c = writes_append c.bytes.ensures c.decimal.ensures
