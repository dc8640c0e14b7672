-- `faces_at` meets its contract: the opposite is no corner, or faces elsewhere, or the vertex before it decides.
use mathlib.Core.Path.{refl}
use borrow.Author.Rules.{rules}
use Rattle.sweep.proofs.Facing.{before_in, faces_ends, faces_off, faces_out}
use Rattle.sweep.proofs.faces_at.Goals as goal

pub returns-then-os-d : goal.returns-then-os-d
returns-then-os-d c = faces_out _ _ _ _ _ c.requires refl c.if-os-d.true

pub returns-then-os-d-2 : goal.returns-then-os-d-2
returns-then-os-d-2 c = faces_off _ _ _ _ _ c.requires refl c.if-os-d.false _ refl c.if-os-d-2.true

pub offset_bounds-tables-previous_of : goal.offset_bounds-tables-previous_of
offset_bounds-tables-previous_of c =
    let q = before_in _ _ c.args.tables.shape _ _ c.if-os-d.false c.previous_of.ensures in
    search rules

pub bounds-tables-previous_of : goal.bounds-tables-previous_of
bounds-tables-previous_of c = before_in _ _ c.args.tables.shape _ _ c.if-os-d.false c.previous_of.ensures

pub returns : goal.returns
returns c =
    faces_ends _ _ _ _ _ c.requires refl c.if-os-d.false _ refl c.if-os-d-2.false _ c.previous_of.ensures
