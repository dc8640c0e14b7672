-- `write_triangle` meets its contract: its four pieces, one behind another.
use Rattle.print.specs.Printed.{triangle_line}
use Rattle.text.proofs.WriterLaws.{writes_append}
use Rattle.print.proofs.write_triangle.Goals as goal

pub returns-clause-line : goal.returns-clause-line
unfolding triangle_line
returns-clause-line c =
    let front = writes_append c.write_numbered.ensures.text c.write_three.ensures.text in
    writes_append (writes_append front c.write_three-2.ensures.text) c.bytes.ensures
