-- A lent buffer that a writer filled from its start on: a text stands there, and its size is the place behind it.
--
--   Filled          the buffer, the text, the buffer afterwards, and the size
--   writer_filled   from what the writer wrote
use mathlib.Core.List.{List}
use mathlib.Core.Path.{◌≡◌}
use Prim.Native.Nat.{◌≤◌, ℕ}
use native.Mathlib.Omega.{arith}
use lib.ListN.{length}
use Rattle.text.specs.Put.{Writes, put}
use Rattle.text.specs.declared.Writer.{Writer}

pub record Filled (out s out' : List ℕ) (n : ℕ) : Type 0 where
  pub size : n ≡ length s
  pub text : out' ≡ put out 0 s
  pub inside : n ≤ length out'

-- v is the writer of the lent buffer, w the same behind the text
pub writer_filled : {out s : List ℕ} (v w : Writer) → v.out.now ≡ out → v.at ≡ 0 → Writes v s w
    → (out' : List ℕ) → out' ≡ w.out.now → (n : ℕ) → n ≡ w.at → Filled out s out' n
writer_filled v w vo va wrote out' eo n en = record {
  size = omega (arith, wrote.wrote.place);
  text = rw (eo, wrote.wrote.text, va, vo);
  inside = rw (eo, en) wrote.inside;
}
