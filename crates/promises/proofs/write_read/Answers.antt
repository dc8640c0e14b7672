-- `write_read` meets its contract, from the promises of write_string and read_string alone.
use mathlib.Core.Path.{◌∙◌, sym}
use native.Mathlib.Omega.{arith}
use lib.Seq.{length-take-le}
use Rattle.promises.proofs.ReadsBack.{write_was_done, written_refused, written_returned}
use Rattle.theory.proofs.ResultLaws.{answer_is_err, answer_no_err}
use Rattle.promises.proofs.write_read.Goals as goal

pub returns-then-is_err : goal.returns-then-is_err
returns-then-is_err c = written_refused c.write_string-first.ensures (answer_is_err _ (sym c.is_err.ensures.value ∙ c.if-is_err.true))

pub slice_bounds-read_string-end : goal.slice_bounds-read_string-end
slice_bounds-read_string-end c =
    let done = answer_no_err _ (sym c.is_err.ensures.value ∙ c.if-is_err.false) in
    omega (arith, (write_was_done c.write_string-first.ensures done).string, c.write_string-first.auto.letters)

pub slice_bounds-read_string-end-2 : goal.slice_bounds-read_string-end-2
slice_bounds-read_string-end-2 c =
    let done = answer_no_err _ (sym c.is_err.ensures.value ∙ c.if-is_err.false) in
    sym (length-take-le _ _
    (omega (arith, (write_was_done c.write_string-first.ensures done).string, c.write_string-first.auto.letters)))

pub returns : goal.returns
returns c = written_returned c.write_string-first.ensures (λ h. c.read_string-second.ensures)
