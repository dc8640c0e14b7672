-- `write_text` meets its contract: its seven pieces, one behind another, are the text of the four lines.
use Rattle.record.proofs.Pieces.{record_pieces}
use Rattle.record.specs.Head.{front_text}
use Rattle.text.proofs.WriterLaws.{writes_append}
use Rattle.text.specs.Put.{Writes}
use mathlib.Core.List.{List}
use mathlib.Core.Path.{subst}
use Prim.Native.Nat.{ℕ}
use Rattle.record.proofs.write_text.Goals as goal

pub returns : goal.returns
unfolding front_text
returns c =
    let a = c.args in
    let front = writes_append (writes_append (writes_append c.bytes.ensures c.decimal.ensures) c.bytes-2.ensures)
    c.decimal-2.ensures in
    subst (λ (s : List ℕ). Writes a.w.now s c.bytes-5.new.self) (record_pieces a.t a.gate a.letters.now)
    (writes_append (writes_append (writes_append front c.bytes-3.ensures) c.bytes-4.ensures) c.bytes-5.ensures)
