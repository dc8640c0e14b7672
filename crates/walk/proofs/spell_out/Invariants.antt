-- `spell_out` meets its contract: the invariant says which letters and corners are written.
use Rattle.walk.proofs.Spelling.{Spelling}
use Rattle.walk.proofs.spell_out.Given as goal

abbrev pub invariant-loop-k : goal.invariant-loop-k
invariant-loop-k l = Spelling l.work l.t l.initial.letters l.initial.walk l.letters l.walk l.k
