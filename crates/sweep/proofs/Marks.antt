-- Whether the first entries are on, from what `all` over them tells (`all_on`).
use mathlib.Core.Bool.{Bool, false, true}
use mathlib.Core.List.{List}
use mathlib.Core.Logic.{◌≢◌}
use mathlib.Core.Path.{◌≡◌}
use Prim.Native.Nat.{◌<◌, ◌≤◌, ℕ}
use native.Mathlib.Omega.{arith}
use lib.ListN.{get_or, length, take}
use lib.Seq.{get_or-take, length-take-le}
use borrow.Author.Tests.{ne_eqb}
use Rattle.std.specs.Prelude.{MatchBool}
use Rattle.std.specs.List.{AllWithin, HoldsAt}
use Rattle.sweep.specs.Sound.{Says, fails, holds}
use Rattle.theory.proofs.TestLaws.{not_both}
use Rattle.walk.specs.Table.{AllOn, on}

pub all_marked : (work : List ℕ) (n : ℕ) (r : Bool) → n ≤ length work
    → MatchBool r (AllWithin (λ x. x ≢ 0) (take n work) 0 (length (take n work)))
    ((k : ℕ) × (k < length (take n work)) × HoldsAt (λ x. x ≡ 0) (take n work) k)
    → Says (AllOn n work) r
all_marked work n true m h = holds (record {
  at = λ k l.
      let low : k < length (take n work) = omega (arith, length-take-le n work m) in
      let e : get_or (take n work) k 0 ≡ get_or work k 0 = get_or-take n work k 0 l in
      let x : get_or work k 0 ≢ 0 = rw e at (h k 0 (omega arith) low) in
      rw (ne_eqb (get_or work k 0) 0 x);
})
all_marked work n false m h = fails (λ s.
    let k = h.0 in
    let l : k < n = omega (arith, h.1, length-take-le n work m) in
    let e : get_or (take n work) k 0 ≡ get_or work k 0 = get_or-take n work k 0 l in
    let z : get_or work k 0 ≡ 0 = rw e at (h.2 0) in
    not_both (on work k) (s.at k l) (rw z))
