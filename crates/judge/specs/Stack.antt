-- The stack of widths as the code holds it, and what a letter before its words makes of it. The first width is apart.
--
--   held st                 its widths
--   widths_of r st          the width r and those of st behind it, none where there is no r
--   Ready top st            the stack can take a letter before words of the widths top and those of st
--   Turned a top st st' r   r and st' are the widths with the letter a before words of the widths top and those of st
use Rattle.std.specs.Prelude.{List, [], ◌∷◌, ◌≡◌, ◌<◌, ℕ, Option, Some, None, drop, length}
use Rattle.judge.specs.Widths.{Wide, total, widths_before}
use Rattle.judge.specs.declared.stack.Stack.{Stack}
use Rattle.theory.specs.declared.Letter.{Letter}

abbrev pub held : Stack → List ℕ
held st = drop st.at st.work.now

abbrev pub widths_of : Option ℕ → List ℕ → List ℕ
widths_of None st = []
widths_of (Some top) st = top ∷ st

pub record Ready (top : Option ℕ) (st : Stack) : Type 0 where
  pub room : 0 < st.at
  pub alone : top ≡ None → held st ≡ []
  pub wide : Wide (widths_of top (held st))
  pub small : total (widths_of top (held st)) < 1000000

pub record Turned (a : Letter) (top : Option ℕ) (st st' : Stack) (r : Option ℕ) : Type 0 where
  pub same : length st'.work.now ≡ length st.work.now
  pub alone : r ≡ None → held st' ≡ []
  pub stack : widths_of r (held st') ≡ widths_before a (widths_of top (held st))
