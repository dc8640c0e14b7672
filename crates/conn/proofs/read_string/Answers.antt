-- `read_string` meets its promise: 1 and 2 stop it before any work, and the rest is its inner part's.
use mathlib.Core.Path.{◌∙◌, sym}
use native.Mathlib.Omega.{arith}
use Rattle.conn.proofs.Outcomes.{read_room, reads_kept, reads_rest, refusal}
use Rattle.theory.proofs.AnswerLaws.{count_few}
use Rattle.theory.proofs.CallLaws.{stopped_first, stopped_second}
use Rattle.theory.proofs.ResultLaws.{refusal_at}
use Rattle.theory.specs.declared.Rule.TheVariants.{Count, Room}
use Rattle.conn.proofs.read_string.Goals as goal

pub returns-then-not-count_ok : goal.returns-then-not-count_ok
returns-then-not-count_ok c = let first = refusal_at Count 0 c.at.ensures in
    reads_kept (stopped_first (sym c.count_ok.ensures ∙ c.if-not-count_ok.true) first)
    (refusal 0 0 first)

pub overflow_mul-t : goal.overflow_mul-t
overflow_mul-t c = omega (arith, count_few _ (sym c.count_ok.ensures ∙ c.if-not-count_ok.false))

pub overflow_mul-t-2 : goal.overflow_mul-t-2
overflow_mul-t-2 c = omega (arith, count_few _ (sym c.count_ok.ensures ∙ c.if-not-count_ok.false))

pub overflow_mul-t-3 : goal.overflow_mul-t-3
overflow_mul-t-3 c = omega (arith, count_few _ (sym c.count_ok.ensures ∙ c.if-not-count_ok.false))

pub returns-then-not-enough : goal.returns-then-not-enough
returns-then-not-enough c = let short = sym c.enough.ensures ∙ c.if-not-enough.true in
    let second = refusal_at Room 0 c.at-then-not-enough.ensures in
    reads_kept (stopped_second (sym c.count_ok.ensures ∙ c.if-not-count_ok.false) short second) (refusal 1 0 second)

pub read_letters-requires : goal.read_letters-requires
read_letters-requires c =
    read_room (sym c.count_ok.ensures ∙ c.if-not-count_ok.false) (sym c.enough.ensures
    ∙ c.if-not-enough.false)

pub returns : goal.returns
returns c =
    reads_rest (sym c.count_ok.ensures ∙ c.if-not-count_ok.false) (sym c.enough.ensures ∙ c.if-not-enough.false)
    c.read_letters.ensures
