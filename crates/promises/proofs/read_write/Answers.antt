-- `read_write` meets its contract, from the promises of read_string and write_string alone.
use mathlib.Core.Path.{refl, sym}
use native.Mathlib.Omega.{arith}
use lib.Seq.{length-take-le}
use Rattle.promises.proofs.Returns.{read_refused, read_returned, read_was_done}
use Rattle.theory.proofs.AnswerLaws.{count_few}
use Rattle.theory.proofs.ResultLaws.{answer_else}
use Rattle.promises.proofs.read_write.Goals as goal

pub returns-in_default : goal.returns-in_default
returns-in_default c = read_refused c.read_string-first.ensures (answer_else _ c.in_default.not-Ok)

pub overflow_mul-n : goal.overflow_mul-n
overflow_mul-n c = omega (arith, count_few _ (read_was_done c.in-Ok.ensures refl).count)

pub slice_bounds-write_string-end : goal.slice_bounds-write_string-end
slice_bounds-write_string-end c =
    omega (arith, (read_was_done c.in-Ok.ensures refl).vertices, c.read_string-first.auto.vs)

pub slice_bounds-write_string-end-2 : goal.slice_bounds-write_string-end-2
slice_bounds-write_string-end-2 c =
    sym (length-take-le _ _ (omega (arith, (read_was_done c.in-Ok.ensures refl).vertices, c.read_string-first.auto.vs)))

pub slice_bounds-write_string-end-3 : goal.slice_bounds-write_string-end-3
slice_bounds-write_string-end-3 c =
    omega (arith, (read_was_done c.in-Ok.ensures refl).neighbours, c.read_string-first.auto.os)

pub slice_bounds-write_string-end-4 : goal.slice_bounds-write_string-end-4
slice_bounds-write_string-end-4 c =
    sym (length-take-le _ _ (omega (arith, (read_was_done c.in-Ok.ensures refl).neighbours, c.read_string-first.auto.os)))

pub returns : goal.returns
returns c = read_returned c.in-Ok.ensures (λ h. c.write_string-second.ensures)
