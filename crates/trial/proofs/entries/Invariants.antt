-- So far n counts the entries before y-index.
use Rattle.std.proofs.Common.{◌≡◌, ◌==◌, count_by, take, ◌≤◌}
use Rattle.trial.proofs.entries.Given as goal

abbrev pub invariant-loop-y : goal.invariant-loop-y
invariant-loop-y l = (l.n ≡ count_by (λ y. y == l.x) (take l.y-index l.tab)) × (l.n ≤ l.y-index)
