-- `sound` meets its contract: every triangle is sound, or the one where `all` stopped is not.
use mathlib.Core.Path.{refl}
use Rattle.std.proofs.Common.{rules}
use Rattle.std.proofs.lemmas.Iterator.{YieldsList-from_range, cases_from_all}
use Rattle.sweep.proofs.Facing.{all_sound}
use Rattle.sweep.proofs.Saying.{no, yes}
use Rattle.sweep.specs.Sound.{SoundAt}
use Rattle.sweep.proofs.sound.Goals as goal

pub returns : goal.returns
returns c =
    let vs = c.args.tables.vs.now in
    let os = c.args.tables.os.now in
    all_sound vs os _ _ _
    (cases_from_all _ _ _ (λ k. SoundAt vs os c.args.v k) (λ k. SoundAt vs os c.args.v k → ⊥) c.all.ensures.ran
    (YieldsList-from_range 0 _ _ refl (search rules)) (λ x q k. search (rules, yes)) (λ x q k. search (rules, no)))
