-- One line behind the others.
use native.Mathlib.Numerals.{add-one}
use native.Mathlib.Omega.{arith}
use Rattle.print.specs.Printed.{triangle_lines}
use Rattle.text.proofs.WriterLaws.{writes_append, writes_nothing}
use Rattle.print.proofs.write_triangles.Goals as goal

pub loop-k-init : goal.loop-k-init
unfolding triangle_lines
loop-k-init c = record { lines = writes_nothing c.args.w.now (omega arith); short = omega arith }

pub loop-k-preserved : goal.loop-k-preserved
unfolding triangle_lines
loop-k-preserved c = record {
  lines = rw (add-one c.loop-k.k) (writes_append c.loop-k.invariant.lines c.write_triangle.ensures.line);
  short = omega arith;
}
