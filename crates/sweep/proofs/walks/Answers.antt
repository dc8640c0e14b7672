-- `walks` meets its contract: an accepted mesh passes every test, and the tests passed make an accepted mesh.
use native.Mathlib.Omega.{arith}
use Rattle.sweep.proofs.Judging.{kept_walk, refused_walk}
use Rattle.sweep.proofs.Saying.{said_no}
use Rattle.sweep.proofs.Spheres.{accepted_gate, accepted_sound, swept, swept_walkable}
use Rattle.theory.proofs.MeshLaws.{shape_of}
use Rattle.sweep.proofs.walks.Goals as goal

pub returns-then-tables-g : goal.returns-then-tables-g
returns-then-tables-g c = refused_walk (λ a. let b = accepted_gate a in omega (arith, c.if-tables-g.true))

pub returns-then-t-twice : goal.returns-then-t-twice
returns-then-t-twice c = refused_walk (λ a. c.if-t-twice.true (omega (arith, a.sphere.euler, c.count-t.ensures)))

pub returns-then-not-sound : goal.returns-then-not-sound
returns-then-not-sound c = refused_walk (λ a. said_no c.sound.ensures c.if-not-sound.true (accepted_sound a))

pub trace-requires : goal.trace-requires
trace-requires c =
    swept_walkable (swept c.args.tables.shape c.count-t.ensures c.if-tables-g.false c.if-t-twice.false c.sound.ensures
    c.if-not-sound.false)
    c.requires

pub all_on-requires : goal.all_on-requires
all_on-requires c =
    omega (arith, shape_of _ _ c.args.tables.shape, c.if-t-twice.false, c.count-t.ensures, c.requires, c.trace.auto.work)

pub returns : goal.returns
returns c =
    kept_walk _ c.count-t.ensures (swept c.args.tables.shape c.count-t.ensures c.if-tables-g.false c.if-t-twice.false
    c.sound.ensures c.if-not-sound.false)
    c.trace.ensures c.all_on.ensures
