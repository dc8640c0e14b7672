-- Laws of `first_broken`: a check stops at its rung or is passed.
--
--   rung_stops rung_passed     any rung, by its place and limit
--   each_stops each_passed     a check at each of k places
--   whole_stops whole_passed   a check of the whole
--   count_few                  what number 1 leaves of a count
use mathlib.Core.Bool.{Bool, ◌&&◌, false, true}
use mathlib.Core.List.{List, [], ◌∷◌}
use mathlib.Core.Path.{◌≡◌, refl}
use Prim.Native.Nat.{◌%◌, ◌<◌, ◌≤◌, ℕ}
use native.Mathlib.Omega.{arith}
use lib.Dec.{eqb, leb}
use borrow.Author.Tests.{eqb-true, le-ltb, leb-true, lt-ltb}
use Rattle.theory.proofs.TestLaws.{and_left, and_right}
use Rattle.theory.specs.Answer.{Rung, count_ok, each, first_broken, refused, whole}
use Rattle.theory.specs.Lists.{least}
use Rattle.theory.specs.Answer.{Answer}

module _ (r : Rung) (rs : List Rung) (a : Answer) where
  pub rung_stops : r.place < r.limit → first_broken (r ∷ rs) a ≡ refused r.number r.place
  unfolding first_broken
  rung_stops h = rw (lt-ltb r.place r.limit h)

  pub rung_passed : r.limit ≤ r.place → first_broken (r ∷ rs) a ≡ first_broken rs a
  unfolding first_broken
  rung_passed h = rw (le-ltb r.place r.limit h)

module _ (n : ℕ) (ok : ℕ → Bool) (k : ℕ) (rs : List Rung) (a : Answer) where
  pub each_stops : least ok k < k → first_broken (each n ok k ∷ rs) a ≡ refused n (least ok k)
  each_stops h = rung_stops (each n ok k) rs a h

  pub each_passed : k ≤ least ok k → first_broken (each n ok k ∷ rs) a ≡ first_broken rs a
  each_passed h = rung_passed (each n ok k) rs a h

module _ (n : ℕ) (ok : Bool) (rs : List Rung) (a : Answer) where
  pub whole_stops : ok ≡ false → first_broken (whole n ok ∷ rs) a ≡ refused n 0
  whole_stops h = rung_stops (whole n ok) rs a (rw h (omega arith))

  pub whole_passed : ok ≡ true → first_broken (whole n ok ∷ rs) a ≡ first_broken rs a
  whole_passed h = rung_passed (whole n ok) rs a (rw h (omega arith))

pub none_broken : (a : Answer) → first_broken [] a ≡ a
unfolding first_broken
none_broken a = refl

pub count_few : (t : ℕ) → count_ok t ≡ true → (t % 2 ≡ 0) × (2 ≤ t) × (t ≤ 65536)
unfolding count_ok
count_few t h =
    let r = and_right (eqb (t % 2) 0) (leb 2 t && leb t 65536) h in (
      eqb-true (t % 2) 0 (and_left (eqb (t % 2) 0) (leb 2 t && leb t 65536) h),
      leb-true 2 t (and_left (leb 2 t) (leb t 65536) r),
      leb-true t 65536 (and_right (leb 2 t) (leb t 65536) r),
    )
