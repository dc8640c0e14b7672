-- `read_record` meets its contract. A refused head is the answer; else the letters are the part that is passed on,
-- and the string reader's promise is the call's.
use native.Mathlib.Omega.{arith}
use Rattle.std.proofs.lemmas.Result.{err_from_is_err_and}
use Rattle.record.proofs.OpenLaws.{open_done, open_refused, open_stopped, part_inside}
use Rattle.record.proofs.read_record.Goals as goal

pub returns-in_err-gate : goal.returns-in_err-gate
returns-in_err-gate c =
    let p = err_from_is_err_and c.from_residual.result c.from_residual.ensures.1 in
    rw (p.1, p.2) (open_refused _ _ _ _ _ c.in_err-gate.ensures)

pub overflow_add-start : goal.overflow_add-start
overflow_add-start c = omega (arith, part_inside _ _ _ _ c.in_ok-gate.ensures)

pub slice_bounds-read_string-end : goal.slice_bounds-read_string-end
slice_bounds-read_string-end c = omega (arith, part_inside _ _ _ _ c.in_ok-gate.ensures)

pub returns-in_err-counts : goal.returns-in_err-counts
returns-in_err-counts c =
    let p = err_from_is_err_and c.from_residual-in_err-counts.result c.from_residual-in_err-counts.ensures.1 in
    rw (p.1, p.2) (open_stopped _ _ _ _ c.in_ok-gate.ensures _ _ _ _ _ _ _ c.in_err-counts.ensures)

pub returns : goal.returns
returns c = open_done _ _ _ _ c.in_ok-gate.ensures _ _ _ _ _ _ _ c.in_ok-counts.ensures
