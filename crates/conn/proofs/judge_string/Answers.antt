-- `judge_string` meets its promise: 1 and 2 stop it before any work, else it answers as the letters do and clears the
-- work space.
use mathlib.Core.Path.{◌∙◌, ap, sym}
use Prim.Native.Nat.{ℕ}
use native.Mathlib.Omega.{arith}
use lib.ListN.{replicate}
use Rattle.conn.proofs.Outcomes.{judges_kept, judges_rest}
use Rattle.theory.proofs.AnswerLaws.{count_few}
use Rattle.theory.proofs.CallLaws.{stopped_first}
use Rattle.theory.proofs.ResultLaws.{refusal_at}
use Rattle.theory.specs.declared.Rule.TheVariants.{Count}
use Rattle.conn.proofs.judge_string.Goals as goal

pub returns-then-not-count_ok : goal.returns-then-not-count_ok
returns-then-not-count_ok c =
    judges_kept (stopped_first (sym c.count_ok.ensures ∙ c.if-not-count_ok.true) (refusal_at Count 0 c.at.ensures))

pub overflow_mul-t : goal.overflow_mul-t
overflow_mul-t c = omega (arith, count_few _ (sym c.count_ok.ensures ∙ c.if-not-count_ok.false))

pub judge_letters-judged-requires : goal.judge_letters-judged-requires
judge_letters-judged-requires c = (
  (count_few _ (sym c.count_ok.ensures ∙ c.if-not-count_ok.false)).2,
  omega arith,
)

pub returns : goal.returns
returns c =
    let ok = sym c.count_ok.ensures ∙ c.if-not-count_ok.false in
    judges_rest ok (omega arith) c.judge_letters-judged.ensures
    (c.clear.ensures ∙ ap (λ (n : ℕ). replicate n 0) c.judge_letters-judged.auto.work)
