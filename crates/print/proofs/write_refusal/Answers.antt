-- `write_refusal` meets its contract: its three pieces, one behind another.
use Rattle.print.specs.Printed.{refusal_line}
use Rattle.text.proofs.WriterLaws.{writes_append}
use Rattle.print.proofs.write_refusal.Goals as goal

pub returns : goal.returns
unfolding refusal_line
returns c =
    let number = rw c.into.ensures at c.write_numbered.ensures.text in
    writes_append (writes_append number c.write_numbered-2.ensures.text) c.bytes.ensures
