-- `read_letters` meets its contract: where the letters do not close, the checks name the refusal before a table is
-- touched; where they do, the tables are built in the first 3t entries that were lent.
use mathlib.Core.Path.{◌∙◌, ap}
use lib.ListN.{replicate}
use lib.Seq.{length-take-le}
use Prim.Native.Nat.{ℕ}
use Rattle.conn.proofs.Outcomes.{letters_kept, letters_made}
use Rattle.conn.proofs.read_letters.Goals as goal

pub returns-then-not-fold : goal.returns-then-not-fold
returns-then-not-fold c =
    letters_kept c.judge_letters-judged.ensures (c.fold.ensures.refuses c.if-not-fold.true)
    (c.clear.ensures ∙ ap (λ (n : ℕ). replicate n 0)
    (c.judge_letters-judged.auto.work ∙ c.fold.auto.work))

pub returns : goal.returns
returns c =
    let lent = c.requires in
    letters_made (c.fold.ensures.closes c.if-not-fold.false) c.counts.ensures
    c.build.ensures
    (c.build.auto.vs ∙ length-take-le _ _ lent.vertices)
    (c.build.auto.os ∙ length-take-le _ _ lent.neighbours)
    (c.clear-2.ensures ∙ ap (λ (n : ℕ). replicate n 0) c.fold.auto.work)
