-- `check_mesh` meets its promise: 1 and 2 stop it before any work, else it answers as the mesh's checks do and clears
-- the work space.
use mathlib.Core.Path.{◌∙◌, ap}
use Prim.Native.Nat.{ℕ}
use lib.ListN.{replicate}
use borrow.Author.Tests.{lt-leb}
use Rattle.conn.proofs.Outcomes.{checks_kept, checks_rest}
use Rattle.theory.proofs.CallLaws.{stopped_first, stopped_second}
use Rattle.theory.proofs.ResultLaws.{refusal_at}
use Rattle.theory.specs.declared.Rule.TheVariants.{Count, Room}
use Rattle.conn.proofs.check_mesh.Goals as goal

pub returns-in_default : goal.returns-in_default
returns-in_default c = checks_kept (stopped_first c.in_default.ensures (refusal_at Count 0 c.at.ensures))

pub returns-then-work-count : goal.returns-then-work-count
returns-then-work-count c =
    let e = c.in-Some.ensures in
    rw (← e.0, ← e.1)
    (checks_kept (stopped_second c.in-Some.tables.shape (lt-leb _ _ (rw c.count.ensures at c.if-work-count.true))
    (refusal_at Room 0 c.at-then-work-count.ensures)))

pub returns : goal.returns
returns c =
    let e = c.in-Some.ensures in
    rw (← e.0, ← e.1)
    (checks_rest c.in-Some.tables.shape (rw c.count.ensures at c.if-work-count.false) c.judge-judged.ensures.answer
    (c.clear.ensures ∙ ap (λ (n : ℕ). replicate n 0) c.judge-judged.auto.work))
