-- `write_record` meets its contract. What 1, 8 and 2 stop touches nothing; then the string judge's promise, and the
-- text's.
use native.Mathlib.Omega.{arith}
use borrow.Author.Rules.{rules}
use Rattle.record.proofs.Filled.{writer_filled}
use Rattle.record.proofs.PackLaws.{few_letters, length_fits, pack_done, pack_early, pack_stopped, text_fits}
use Rattle.std.proofs.lemmas.Result.{err_from_is_err_and}
use Rattle.record.proofs.write_record.Goals as goal

pub returns-in_err-judge_sizes : goal.returns-in_err-judge_sizes
returns-in_err-judge_sizes c =
    let p = err_from_is_err_and c.from_residual.result c.from_residual.ensures.1 in
    rw (p.1, p.2) (pack_early _ _ _ _ _ c.in_err-judge_sizes.ensures)

pub returns-in_err-counts : goal.returns-in_err-counts
returns-in_err-counts c =
    let p = err_from_is_err_and c.from_residual-in_err-counts.result c.from_residual-in_err-counts.ensures.1 in
    rw (p.1, p.2) (pack_stopped _ _ _ _ c.in_ok-judge_sizes.ensures _ c.in_err-counts.ensures)

pub overflow_cast-letters : goal.overflow_cast-letters
overflow_cast-letters c = omega (arith, few_letters _ _ _ _ c.in_ok-judge_sizes.ensures)

pub write_text-requires : goal.write_text-requires
write_text-requires c = let w = c.new-w.ensures in
    rw (w.start, w.same_bytes) (omega (arith, text_fits _ _ _ _ c.in_ok-judge_sizes.ensures))

pub overflow_cast-result : goal.overflow_cast-result
overflow_cast-result c =
    omega (
      arith,
      length_fits _ _ _ _ c.in_ok-judge_sizes.ensures,
      c.write_text.ensures.wrote.place,
      c.new-w.ensures.start,
    )

pub returns : goal.returns
returns c =
    let new = c.new-w.ensures in
    pack_done _ _ _ _ c.in_ok-judge_sizes.ensures _ c.in_ok-counts.ensures
    (writer_filled _ _ new.same_bytes new.start c.write_text.ensures _ (search rules) _ c.size.ensures)
