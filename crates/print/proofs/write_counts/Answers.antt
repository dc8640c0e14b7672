-- `write_counts` meets its contract: its four pieces, one behind another.
use Rattle.print.specs.Printed.{counts_line}
use Rattle.text.proofs.WriterLaws.{writes_append}
use Rattle.print.proofs.write_counts.Goals as goal

pub returns-clause-line : goal.returns-clause-line
unfolding counts_line
returns-clause-line c =
    let front = writes_append c.write_numbered.ensures.text c.write_numbered-2.ensures.text in
    writes_append (writes_append front c.write_numbered-3.ensures.text) c.bytes.ensures
