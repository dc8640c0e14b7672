-- `Corner::step` meets its contract: inside the table it answers what the closure answers, beyond it the corner itself.
use borrow.Author.Tests.{le-ltb, lt-ltb}
use Rattle.theory.specs.Corner.{inside}
use Rattle.corner.proofs.Corner.step.Goals as goal

pub returns-then-self-os : goal.returns-then-self-os
unfolding inside
returns-then-self-os g c = λ to is. rw (lt-ltb _ _ c.if-self-os.true) (is _ c.f.ensures)

pub returns-else-self-os : goal.returns-else-self-os
unfolding inside
returns-else-self-os g c = λ to is. rw (le-ltb _ _ c.if-self-os.false)
