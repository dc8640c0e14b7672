-- `write_three` meets its contract: its three pieces, one behind another.
use Rattle.print.specs.Printed.{three}
use Rattle.text.proofs.WriterLaws.{writes_append}
use Rattle.print.proofs.write_three.Goals as goal

pub returns-clause-text : goal.returns-clause-text
unfolding three
returns-clause-text c =
    writes_append (writes_append c.write_numbered.ensures.text c.write_numbered-2.ensures.text)
    c.write_numbered-3.ensures.text
