-- `up_to` meets its contract: a search for b finds it, or there is none.
use mathlib.Core.Path.{◌∙◌}
use Rattle.text.proofs.LineLaws.{found_or, found_up}
use Rattle.text.proofs.up_to.Goals as goal

pub returns : goal.returns
returns c =
    let a = c.args in
    c.unwrap_or.ensures ∙ found_or a.b a.s.now c.first.result (found_up a.b a.s.now c.first.result c.first.ensures)
