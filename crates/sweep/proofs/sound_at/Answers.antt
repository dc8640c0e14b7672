-- `sound_at` meets its contract: a test that is failed is a part of the rules that fails.
use native.Mathlib.Omega.{arith}
use Rattle.std.proofs.lemmas.Grind.{common_steps}
use Rattle.sweep.proofs.Saying.{said_no, said_yes, says_same}
use Rattle.sweep.specs.Sound.{fails}
use Rattle.theory.proofs.MeshLaws.{shape_of}
use Rattle.sweep.proofs.sound_at.Goals as goal

pub returns-then-v-a : goal.returns-then-v-a
returns-then-v-a c =
    fails (λ s.
    let below = s.below in
    let first = s.first in
    let second = s.second in
    let third = s.third in
    let e = c.then-v-a.either in
    grind (arith, common_steps))

pub faces_at-requires : goal.faces_at-requires
faces_at-requires c = omega (arith, shape_of _ _ c.args.tables.shape)

pub faces_at-requires-2 : goal.faces_at-requires-2
faces_at-requires-2 c = omega (arith, shape_of _ _ c.args.tables.shape)

pub faces_at-requires-3 : goal.faces_at-requires-3
faces_at-requires-3 c = omega (arith, shape_of _ _ c.args.tables.shape)

pub returns-then-not-faces_at : goal.returns-then-not-faces_at
returns-then-not-faces_at c = fails (λ s. said_no c.faces_at.ensures c.if-not-faces_at.true s.tip)

pub returns-then-not-faces_at-2 : goal.returns-then-not-faces_at-2
returns-then-not-faces_at-2 c = fails (λ s. said_no c.faces_at-2.ensures c.if-not-faces_at-2.true s.left)

pub returns : goal.returns
returns c =
    says_same
    (λ f. record {
      below = (omega (arith, c.if-v-a.false), omega (arith, c.if-v-b.false), omega (arith, c.if-v-d.false));
      first = c.if-a-b.false;
      second = c.if-b-d.false;
      third = c.if-d-a.false;
      tip = said_yes c.faces_at.ensures c.if-not-faces_at.false;
      left = said_yes c.faces_at-2.ensures c.if-not-faces_at-2.false;
      right = f;
    })
    (λ s. s.right) c.faces_at-3.ensures
