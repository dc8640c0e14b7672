-- `same_mesh` meets its contract, from the promise of write_string alone.
use mathlib.Core.Path.{◌∙◌, sym}
use native.Mathlib.Omega.{arith}
use lib.Seq.{length-take-le}
use Rattle.promises.proofs.Compares.{compared, second_answer, told}
use Rattle.promises.proofs.ReadsBack.{write_was_done}
use Rattle.theory.proofs.ResultLaws.{answer_no_err}
use Rattle.promises.proofs.same_mesh.Goals as goal

pub slice_bounds-eq-end : goal.slice_bounds-eq-end
slice_bounds-eq-end c =
    let done = answer_no_err _ (sym c.is_err.ensures.value ∙ c.if-is_err.false) in
    omega (arith, (write_was_done c.write_string-first.ensures done).string, c.write_string-first.auto.letters)

pub slice_bounds-eq-end-2 : goal.slice_bounds-eq-end-2
slice_bounds-eq-end-2 c =
    let done = answer_no_err _ (sym c.is_err.ensures.value ∙ c.if-is_err.false) in
    sym (length-take-le _ _
    (omega (arith, (write_was_done c.write_string-first.ensures done).string, c.write_string-first.auto.letters)))

pub slice_bounds-eq-end-3 : goal.slice_bounds-eq-end-3
slice_bounds-eq-end-3 c =
    let done = answer_no_err _ (sym c.is_err-else-is_err.ensures.value ∙ c.if-is_err-2.false) in
    omega (arith, (write_was_done c.write_string-second.ensures done).string, c.write_string-second.auto.letters)

pub slice_bounds-eq-end-4 : goal.slice_bounds-eq-end-4
slice_bounds-eq-end-4 c =
    let done = answer_no_err _ (sym c.is_err-else-is_err.ensures.value ∙ c.if-is_err-2.false) in
    sym (length-take-le _ _
    (omega (arith, (write_was_done c.write_string-second.ensures done).string, c.write_string-second.auto.letters)))

pub returns : goal.returns
returns c = record {
  first = c.write_string-first.ensures.answer;
  second = second_answer _ c.write_string-second.ensures c.write_string-first.auto.work;
  compared = compared c.write_string-first.ensures c.write_string-second.ensures (told c.eq-same.ensures);
}
