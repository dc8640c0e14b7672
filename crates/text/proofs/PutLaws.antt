-- Laws of texts written into buffers.
--
--   length_put     the buffer keeps its length
--   put_append     one text behind another
--   put_copy       as a copy into a part of the buffer
--   put_none       nothing; put_start: from the very start
--   put_inside     it lies inside a buffer that kept its length
use mathlib.Core.List.{List, [], ◌++◌, append_assoc}
use mathlib.Core.Path.{◌∙◌, ◌≡◌, ap, sym}
use Prim.Native.Nat.{◌+◌, ◌-◌, ◌≤◌, ℕ}
use native.Mathlib.Omega.{arith}
use lib.ListN.{drop, length, length-append, length-drop, take, take-append-drop}
use borrow.Rule.Slice.PartMut.{Post-is, put_mid}
use lib.Seq.{drop_at, drop-drop, length-take-le, take_at}
use Rattle.text.specs.Put.{put}

module _ (out : List ℕ) (at : ℕ) where
  head_length : (s : List ℕ) → at ≤ length out → length (take at out ++ s) ≡ at + length s
  head_length s h = omega (arith, length-append (take at out) s, length-take-le at out h)

  put_cut : (s : List ℕ) → put out at s ≡ take at out ++ s ++ drop (at + length s) out
  unfolding put
  put_cut s = sym (append_assoc (take at out) s (drop (at + length s) out))

  pub put_none : put out at [] ≡ out
  unfolding put
  put_none =
      let q : at + 0 ≡ at = omega arith in
      rw q (take-append-drop at out)

  pub length_put : (s : List ℕ) → at + length s ≤ length out → length (put out at s) ≡ length out
  length_put s h =
      rw (put_cut s)
      (omega (
        arith,
        length-append (take at out ++ s) (drop (at + length s) out),
        head_length s
            (omega arith),
        length-drop (at + length s) out,
      ))

  pub take_put : (s : List ℕ) → at ≤ length out → take (at + length s) (put out at s) ≡ take at out ++ s
  take_put s h = rw (put_cut s) (take_at (take at out ++ s) (drop (at + length s) out) (at + length s)
      (head_length s h))

  pub drop_put : (s : List ℕ) → at ≤ length out → drop (at + length s) (put out at s) ≡ drop (at + length s) out
  drop_put s h = rw (put_cut s) (drop_at (take at out ++ s) (drop (at + length s) out) (at + length s)
      (head_length s h))

  put_behind : (l a b : List ℕ) → take (at + length a) l ≡ take at out ++ a
      → drop (at + length a + length b) l ≡ drop (at + length (a ++ b)) out
      → put l (at + length a) b ≡ put out at (a ++ b)
  unfolding put
  put_behind l a b e d =
      rw (e, d) (append_assoc (take at out) a (b ++ drop (at + length (a ++ b)) out)
      ∙ ap (λ (r : List ℕ). take at out ++ r) (sym (append_assoc a b (drop (at + length (a ++ b)) out))))

  pub put_append : (a b : List ℕ) → at ≤ length out → put (put out at a) (at + length a) b ≡ put out at (a ++ b)
  put_append a b h =
      let q : at + length a + length b ≡ at + length (a ++ b) = omega (arith, length-append a b) in
      let behind : drop (at + length a + length b) (put out at a) ≡ drop (at + length (a ++ b)) out =
      sym (drop-drop (length b) (at + length a) (put out at a))
      ∙ ap (drop (length b)) (drop_put a h)
      ∙ drop-drop (length b) (at + length a) out
      ∙ ap (λ (k : ℕ). drop k out) q in
      put_behind (put out at a) a b (take_put a h) behind

-- a text copied into the part from the place on
pub put_copy : (out : List ℕ) (at : ℕ) (s copied : List ℕ) → copied ≡ s
    → put_mid at (at + length s - at) out copied ≡ put out at s
unfolding put
put_copy out at s copied e = rw (e, Post-is at (at + length s) out (omega arith))

-- from the very start
pub put_start : (out s : List ℕ) → put out 0 s ≡ s ++ drop (length s) out
unfolding put
put_start out s =
    let q : 0 + length s ≡ length s = omega arith in
    rw q

-- what a writer wrote into a buffer that kept its length lies inside
pub put_inside : (out : List ℕ) (at : ℕ) (s : List ℕ) → length (put out at s) ≡ length out → at ≤ length out
    → at + length s ≤ length out
unfolding put
put_inside out at s e h =
    omega (
      arith,
      e,
      length-append (take at out) (s ++ drop (at + length s) out),
      length-append s (drop (at + length s) out),
      length-take-le at out h,
      length-drop (at + length s) out,
    )
