-- The loop of `spell_out`: the letters and the corners of the first k steps kept are written, the others are still to
-- come.
--
--   Spelling          the loop's invariant
--   turn end          a turn, after it
use mathlib.Core.List.{List, [], ◌∷◌}
use mathlib.Core.Path.{◌∙◌, ◌≡◌, ap, sym}
use Prim.Native.Nat.{◌%◌, ◌*◌, ◌+◌, ◌/◌, ◌<◌, ◌≤◌, ℕ}
use native.Mathlib.Numerals.{add-one}
use native.Mathlib.Omega.{arith}
use lib.ListN.{drop, drop_of_length-le, get_or, length, length-drop, set, take}
use lib.Seq.{drop-cons, get_or-drop, get_or-take, length-take-le}
use Rattle.walk.proofs.Written.{Written, whole_is, write}
use Rattle.walk.specs.Calls.{Spelt, corners_in, letters_in}
use Rattle.walk.specs.Table.{kept_to}

pub record Spelling (work : List ℕ) (t : ℕ) (letters₀ path₀ letters path : List ℕ) (k : ℕ) : Type 0 where
  pub few : t ≤ 65536
  pub space : 4 * t ≤ length work
  pub enough : (t ≤ length letters₀) × (t ≤ length path₀)
  pub said : Written (letters_in (kept_to t t work)) (letters_in (drop k (kept_to t t work))) letters₀ letters k
  pub went : Written (corners_in (kept_to t t work)) (corners_in (drop k (kept_to t t work))) path₀ path k
  pub count : k ≤ t

module _ {work : List ℕ} {t : ℕ} {letters₀ path₀ letters path : List ℕ} {k : ℕ}
    (i : Spelling work t letters₀ path₀ letters path k) where
  long : length (kept_to t t work) ≡ t
  long =
      let a = length-take-le (3 * t + t) work (omega (arith, i.space)) in
      let d = length-drop (3 * t) (take (3 * t + t) work) in
      omega arith

  pub room_letters : k < t → k < length letters
  room_letters b = omega (arith, i.enough.0, i.said.same)

  pub room_path : k < t → k < length path
  room_path b = omega (arith, i.enough.1, i.went.same)

  pub turn : {x : ℕ} → k < t → x ≡ get_or work (3 * t + k) 0
      → Spelling work t letters₀ path₀ (set letters k (x % 256)) (set path k (x / 256)) (k + 1)
  unfolding letters_in corners_in
  turn {x} b e =
      let seg = kept_to t t work in
      let at : get_or seg k 0 ≡ x =
      get_or-drop (3 * t) (take (3 * t + t) work) k 0
      ∙ get_or-take (3 * t + t) work (3 * t + k) 0 (omega arith) ∙ sym e in
      let next : drop k seg ≡ x ∷ drop (k + 1) seg =
      drop-cons seg k 0 (omega (arith, long)) ∙ rw (at, add-one k) in
      record {
        few = i.few;
        space = i.space;
        enough = i.enough;
        said = write (room_letters b) (ap letters_in next) i.said;
        went = write (room_path b) (ap corners_in next) i.went;
        count = omega arith;
      }

  pub end : t ≤ k → Spelt work t letters₀ path₀ letters path
  unfolding letters_in corners_in
  end b =
      let none : drop k (kept_to t t work) ≡ [] = drop_of_length-le (kept_to t t work) {i = k} (omega (arith, long)) in
      record {
        said = whole_is (omega (arith, i.enough.0, i.count, i.said.same)) (ap letters_in none) i.said;
        went = whole_is (omega (arith, i.enough.1, i.count, i.went.same)) (ap corners_in none) i.went;
      }
