-- `keyed_size` meets its contract. A search for the line's end finds it or not, and what stands before it is compared
-- with the key.
use mathlib.Core.Bool.{false, true}
use mathlib.Core.Path.{◌∙◌, subst, sym}
use Rattle.text.proofs.KeyedLaws.{keyed_ends, keyed_open}
use Rattle.text.proofs.LineLaws.{Found, found_up}
use Rattle.text.specs.Line.{line_end}
use Rattle.text.proofs.keyed_size.Goals as goal

pub returns-in_err-n : goal.returns-in_err-n
returns-in_err-n c =
    let a = c.args in
    let none = found_up line_end a.s.now c.first.result c.first.ensures in
    c.from_residual.ensures ∙ keyed_open a.key.now a.s.now (subst (Found line_end a.s.now) c.in_err-n.was none)

pub returns-then-starts_with : goal.returns-then-starts_with
returns-then-starts_with c =
    let a = c.args in
    let some = found_up line_end a.s.now c.first.result c.first.ensures in
    keyed_ends a.key.now a.s.now c.in_ok-n.n (subst (Found line_end a.s.now) c.in_ok-n.was some) true
    (sym c.if-starts_with.true ∙ c.starts_with.ensures.value)

pub returns-else-starts_with : goal.returns-else-starts_with
returns-else-starts_with c =
    let a = c.args in
    let some = found_up line_end a.s.now c.first.result c.first.ensures in
    keyed_ends a.key.now a.s.now c.in_ok-n.n (subst (Found line_end a.s.now) c.in_ok-n.was some) false
    (sym c.if-starts_with.false ∙ c.starts_with.ensures.value)
