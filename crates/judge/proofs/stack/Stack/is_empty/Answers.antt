-- `is_empty` meets its contract: the stack has as many numbers as stand from its place on.
use mathlib.Core.Path.{ap}
use native.Mathlib.Omega.{arith}
use lib.ListN.{drop_of_length-le, length, length-drop}
use borrow.Author.Tests.{le-leb, leb-true}
use Rattle.judge.proofs.stack.Stack.is_empty.Goals as goal

pub returns : goal.returns
returns c =
    let st = c.args.self.now in (
      λ e. drop_of_length-le st.work.now (leb-true (length st.work.now) st.at e),
      λ e. le-leb (length st.work.now) st.at (omega (arith, ap length e, length-drop st.at st.work.now)),
    )
