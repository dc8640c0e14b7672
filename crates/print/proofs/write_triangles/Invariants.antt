-- `write_triangles` meets its contract: the lines of the first k triangles are written, each of at most 83 bytes.
use Rattle.std.specs.Prelude.{◌*◌, ◌+◌, ◌≤◌}
use Rattle.print.specs.Printed.{triangle_lines}
use Rattle.text.specs.Put.{Writes}
use Rattle.print.proofs.write_triangles.Given as goal

abbrev pub invariant-loop-k : goal.invariant-loop-k
invariant-loop-k l = record {
  lines : Writes l.initial.w (triangle_lines l.vs l.os l.k) l.w;
  short : l.w.at ≤ l.initial.w.at + 83 * l.k;
}
