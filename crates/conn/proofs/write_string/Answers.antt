-- `write_string` meets its promise: 1 and 2 stop it before any work, and the rest is its inner part's.
use mathlib.Core.Path.{◌∙◌, sym}
use Rattle.conn.proofs.Outcomes.{refusal, write_room, writes_kept, writes_rest}
use Rattle.theory.proofs.CallLaws.{stopped_first, stopped_second}
use Rattle.theory.proofs.ResultLaws.{refusal_at}
use Rattle.theory.specs.declared.Rule.TheVariants.{Count, Room}
use Rattle.conn.proofs.write_string.Goals as goal

pub returns-in_default : goal.returns-in_default
returns-in_default c =
    let first = refusal_at Count 0 c.at.ensures in
    writes_kept (stopped_first c.in_default.ensures first) (refusal 0 0 first)

pub returns-then-not-enough : goal.returns-then-not-enough
returns-then-not-enough c =
    let e = c.in-Some.ensures in
    let second = refusal_at Room 0 c.at-then-not-enough.ensures in
    let short = rw c.count-t.ensures at (sym c.enough.ensures ∙ c.if-not-enough.true) in
    rw (← e.0, ← e.1) (writes_kept (stopped_second c.in-Some.tables.shape short second) (refusal 1 0 second))

pub write_letters-requires : goal.write_letters-requires
write_letters-requires c = write_room (rw c.count-t.ensures at (sym c.enough.ensures ∙ c.if-not-enough.false))

pub returns : goal.returns
returns c =
    let e = c.in-Some.ensures in
    let fits = rw c.count-t.ensures at (sym c.enough.ensures ∙ c.if-not-enough.false) in
    rw (← e.0, ← e.1) (writes_rest c.in-Some.tables.shape fits c.write_letters.ensures)
