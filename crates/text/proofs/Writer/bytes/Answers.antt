-- `bytes` meets its contract: what is copied is the text put at the place.
use mathlib.Core.Path.{refl}
use Rattle.text.proofs.PutLaws.{put_copy}
use Rattle.text.proofs.WriterLaws.{writes_put}
use Rattle.text.proofs.Writer.bytes.Goals as goal

pub returns : goal.returns
returns c =
    let w = c.args.self.now in
    writes_put c.requires refl refl (put_copy w.out.now w.at c.args.s.now _ c.copy.ensures)
