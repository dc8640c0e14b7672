-- A table that holds the joins of a word, letter by letter: what it holds at the first triangle, and that it holds the
-- joins of the words behind the letter.
--
--   HoldsWord opp k w rs    w is sound, rs are its loop's remembered corners, none behind 3k, and opp has its joins
--   Zipped opp k a x        the side a is joined with the remembered corner x
--   holds_e .. holds_s      the five letters
use mathlib.Core.List.{List, [], ◌++◌, ◌∷◌}
use mathlib.Core.Path.{◌≡◌}
use Prim.Native.Nat.{◌*◌, ◌+◌, ◌-◌, ◌≤◌, ℕ}
use native.Mathlib.Omega.{arith}
use lib.ListN.{drop, length, length-append, length-drop, take}
use lib.Seq.{length-take-le}
use Rattle.theory.proofs.Chain.{Each, each_split}
use Rattle.theory.proofs.Each.{EachN, each_back, each_drop, each_first, each_front, each_second, each_take, each_tl, each_n_append, each_n_map}
use Rattle.theory.proofs.JoinLaws.{Join}
use Rattle.theory.proofs.ListLaws.{length_front, length_tail}
use Rattle.theory.proofs.WordLaws.{width_two}
use Rattle.theory.specs.Lists.{back, front, head, tail}
use Rattle.theory.specs.Tables.{links, zips}
use Rattle.theory.specs.Word.{Sound, Word, size, w_c, w_e, w_l, w_r, w_s, width}

pub record HoldsWord (opp : ℕ → ℕ) (k : ℕ) (w : Word) (rs : List ℕ) : Type 0 where
  pub sound : Sound w
  pub long : length rs + 1 ≡ width w
  pub low : EachN (λ x. x ≤ 3 * k) rs
  pub linked : Each (Join opp) (links k w)
  pub zipped : Each (Join opp) (zips k w rs)

later : (k m : ℕ) (rs : List ℕ) → k ≤ m → EachN (λ x. x ≤ 3 * k) rs → EachN (λ x. x ≤ 3 * m) rs
later k m rs q h = each_n_map (λ x. x ≤ 3 * k) (λ x. x ≤ 3 * m) (λ x i. omega arith) rs h

module _ (opp : ℕ → ℕ) (k : ℕ) where
  abbrev pub Zipped : ℕ → ℕ → Type 0
  Zipped a x = Join opp a x × (x ≤ 3 * k)

  pub holds_e : (rs : List ℕ) → HoldsWord opp k w_e rs
      → Zipped (3 * k + 1) (head rs) × Zipped (3 * k + 2) (head (tail rs))
  unfolding zips width
  holds_e rs h =
      let n = h.long in
      let x = each_first (λ x. x ≤ 3 * k) rs (omega arith) h.low in
      let y = each_second (λ x. x ≤ 3 * k) rs (omega arith) h.low in
      ((h.zipped.0, x), (h.zipped.1.0, y))

  module _ (w : Word) (rs : List ℕ) where
    pub holds_c : HoldsWord opp k (w_c w) rs
        → Join opp (3 * k + 1) (3 * (k + 1)) × HoldsWord opp (k + 1) w (rs ++ ((3 * k + 2) ∷ []))
    unfolding links zips width
    holds_c h =
        let two = h.sound.1 in
        let n = h.long in
        let lo = later k (k + 1) rs (omega arith) h.low in (
          h.linked.0,
          record {
            sound = h.sound.0;
            long = rw length-append (omega arith);
            low = each_n_append (λ x. x ≤ 3 * (k + 1)) rs ((3 * k + 2) ∷ []) lo (omega arith, tt);
            linked = h.linked.1;
            zipped = h.zipped;
          },
        )

    pub holds_l : HoldsWord opp k (w_l w) rs
        → Join opp (3 * k + 1) (3 * (k + 1)) × Zipped (3 * k + 2) (back rs) × HoldsWord opp (k + 1) w (front rs)
    unfolding links zips width
    holds_l h =
        let two = width_two w h.sound in
        let n = h.long in
        let m = length_front rs in
        let x = each_back (λ x. x ≤ 3 * k) rs (omega arith) h.low in (
          h.linked.0,
          (h.zipped.0, x),
          record {
            sound = h.sound;
            long = omega arith;
            low = later k (k + 1) (front rs) (omega arith) (each_front (λ x. x ≤ 3 * k) rs h.low);
            linked = h.linked.1;
            zipped = h.zipped.1;
          },
        )

    pub holds_r : HoldsWord opp k (w_r w) rs
        → Join opp (3 * k + 2) (3 * (k + 1)) × Zipped (3 * k + 1) (head rs) × HoldsWord opp (k + 1) w (tail rs)
    unfolding links zips width
    holds_r h =
        let two = width_two w h.sound in
        let n = h.long in
        let m = length_tail rs (omega arith) in
        let x = each_first (λ x. x ≤ 3 * k) rs (omega arith) h.low in (
          h.linked.0,
          (h.zipped.0, x),
          record {
            sound = h.sound;
            long = omega arith;
            low = later k (k + 1) (tail rs) (omega arith) (each_tl (λ x. x ≤ 3 * k) rs h.low);
            linked = h.linked.1;
            zipped = h.zipped.1;
          },
        )

  pub holds_s : (a b : Word) (rs : List ℕ) → HoldsWord opp k (w_s a b) rs
      → Join opp (3 * k + 1) (3 * (k + 1)) × Join opp (3 * k + 2) (3 * (k + 1 + size a))
      × HoldsWord opp (k + 1) a (take (width a - 1) rs) × HoldsWord opp (k + 1 + size a) b (drop (width a - 1) rs)
  unfolding links zips width
  holds_s a b rs h =
      let m = k + 1 + size a in
      let ra = take (width a - 1) rs in
      let rb = drop (width a - 1) rs in
      let ta = width_two a h.sound.0 in
      let tb = width_two b h.sound.1 in
      let n = h.long in
      let g = each_split (Join opp) (links (k + 1) a) (links m b) h.linked.1.1 in
      let z = each_split (Join opp) (zips (k + 1) a ra) (zips m b rb) h.zipped in (
        h.linked.0,
        h.linked.1.0,
        record {
          sound = h.sound.0;
          long = rw (length-take-le (width a - 1) rs (omega arith)) (omega arith);
          low = later k (k + 1) ra (omega arith) (each_take (λ x. x ≤ 3 * k) (width a - 1) rs h.low);
          linked = g.0;
          zipped = z.0;
        },
        record {
          sound = h.sound.1;
          long = rw length-drop (omega arith);
          low = later k m rb (omega arith) (each_drop (λ x. x ≤ 3 * k) (width a - 1) rs h.low);
          linked = g.1;
          zipped = z.1;
        },
      )
