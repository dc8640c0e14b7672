-- `decimal` meets its contract: the digits, as many as `decimal_length` says, are the text put at the place.
use mathlib.Core.Path.{◌∙◌, ap, refl}
use Prim.Native.Nat.{◌+◌, ◌-◌}
use borrow.Rule.Slice.PartMut.{put_mid}
use Rattle.text.proofs.PutLaws.{put_copy}
use Rattle.text.proofs.WriterLaws.{writes_put}
use Rattle.text.proofs.Writer.decimal.Goals as goal

pub returns : goal.returns
returns c =
    let w = c.args.self.now in
    let many = c.decimal_length-many.ensures in
    writes_put c.requires refl (ap (λ k. w.at + k) many)
    (ap (λ k. put_mid w.at (w.at + k - w.at) w.out.now c.digits.new.part) many
    ∙ put_copy w.out.now w.at _ _ c.digits.ensures)
