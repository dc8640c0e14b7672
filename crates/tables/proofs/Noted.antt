-- The records of the S triangles, in a list of their own.
--
--   Noted ns k w     ns holds for each S of w, its first triangle k, the last open side of its right branch
--   noted_recorded   as the first pass leaves them
use mathlib.Core.List.{List}
use mathlib.Core.Path.{◌∙◌, ◌≡◌}
use Prim.Native.Nat.{◌*◌, ◌+◌, ℕ}
use lib.ListN.{drop, get_or}
use lib.Seq.{get_or-drop}
use Rattle.tables.specs.Fold.{Recorded}
use Rattle.theory.proofs.Opens.{opens}
use Rattle.theory.specs.Lists.{back}
use Rattle.theory.specs.Word.{Word, size, w_c, w_e, w_l, w_r, w_s}

module _ (ns : List ℕ) where
  abbrev pub Noted : ℕ → Word → Type 0
  Noted k w_e = Unit {0}
  Noted k (w_c w) = Noted (k + 1) w
  Noted k (w_l w) = Noted (k + 1) w
  Noted k (w_r w) = Noted (k + 1) w
  Noted k (w_s a b) = (get_or ns k 0 ≡ back (opens (k + 1) a)) × Noted (k + 1) a × Noted (k + 1 + size a) b

pub noted_recorded : (t : ℕ) (work : List ℕ) (k : ℕ) (w : Word) → Recorded t work k w → Noted (drop (3 * t) work) k w
noted_recorded t work k w_e r = tt
noted_recorded t work k (w_c w) r = noted_recorded t work (k + 1) w r
noted_recorded t work k (w_l w) r = noted_recorded t work (k + 1) w r
noted_recorded t work k (w_r w) r = noted_recorded t work (k + 1) w r
noted_recorded t work k (w_s a b) r = (
  get_or-drop (3 * t) work k 0 ∙ r.0,
  noted_recorded t work (k + 1) a r.1,
  noted_recorded t work (k + 1 + size a) b r.2,
)
