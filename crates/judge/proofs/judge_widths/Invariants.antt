-- `judge_widths` meets its contract: the loop passes the letters from the right (`Passing`); what it stops at, or the
-- width that it ends with, is the answer.
use mathlib.Core.Path.{◌≡◌}
use Rattle.std.specs.Iterator.Adapters.{enumerate_count, enumerate_source, rev_source}
use Rattle.std.specs.Slice.Iter.{iter_rest}
use Rattle.judge.proofs.Passes.{Passing}
use Rattle.judge.proofs.judge_widths.Given as goal

abbrev pub invariant-loop-i : goal.invariant-loop-i
invariant-loop-i l =
    let left = rev_source l.i-iterator in
    record {
      from : enumerate_count left ≡ 0;
      passing : Passing l.s l.fn.work (iter_rest (enumerate_source left)) l.top l.behind;
    }
