-- E before the words that stand in the work space: it leaves them all on the stack (`standing_e`).
--
--   pushed-..   the entries of the work space with one word more on the stack
--   on_e off_e   the work space after an E, and the entries that it leaves
use mathlib.Core.List.{List, [], ◌∷◌}
use mathlib.Core.Logic.{◌≢◌}
use mathlib.Core.Path.{◌∙◌, ◌≡◌, refl}
use Prim.Native.Nat.{◌*◌, ◌+◌, ◌-◌, ◌<◌, ◌≤◌, ℕ}
use native.Mathlib.Omega.{arith}
use lib.ListN.{get_or, length, length-set, set}
use lib.Seq.{get_or-set_other, get_or-set_same}
use Rattle.tables.proofs.Held.{Held, Standing, Waits, held_same, waits_same}
use Rattle.tables.specs.Fold.{Fold, fold_e, pushed}
use Rattle.theory.proofs.Opens.{mates, opens}
use Rattle.theory.specs.Lists.{back, head}
use Rattle.theory.specs.Tables.{links}
use Rattle.theory.specs.Word.{Word, size, w_e}

module _ (t k p : ℕ) (z : Fold) (fits : p + 3 ≤ length z.work) (high : 4 * t ≤ p) (at : k < t) where
  abbrev on_e : List ℕ
  on_e = set (pushed k p z) (3 * k + 2) (3 * k + 1)

  pushed_off : (x d : ℕ) → x ≢ p → x ≢ p + 1 → x ≢ p + 2 → get_or (pushed k p z) x d ≡ get_or z.work x d
  unfolding pushed
  pushed_off x d a b e =
      let one = set z.work p (3 * (k + 1)) in
      let two = set one (p + 1) z.first in
      get_or-set_other two (p + 2) x z.last d e ∙ get_or-set_other one (p + 1) x z.first d b
      ∙ get_or-set_other z.work p x (3 * (k + 1)) d a

  pushed_tip : get_or (pushed k p z) p 0 ≡ 3 * (k + 1)
  unfolding pushed
  pushed_tip =
      let one = set z.work p (3 * (k + 1)) in
      let two = set one (p + 1) z.first in
      get_or-set_other two (p + 2) p z.last 0 (λ q. omega arith)
      ∙ get_or-set_other one (p + 1) p z.first 0 (λ q. omega arith)
      ∙ get_or-set_same z.work p (3 * (k + 1)) 0 (omega arith)

  pushed_first : get_or (pushed k p z) (p + 1) 0 ≡ z.first
  unfolding pushed
  pushed_first =
      let one = set z.work p (3 * (k + 1)) in
      let two = set one (p + 1) z.first in
      let n = length-set z.work p (3 * (k + 1)) in
      get_or-set_other two (p + 2) (p + 1) z.last 0 (λ q. omega arith)
      ∙ get_or-set_same one (p + 1) z.first 0 (omega arith)

  pushed_last : get_or (pushed k p z) (p + 2) 0 ≡ z.last
  unfolding pushed
  pushed_last =
      let one = set z.work p (3 * (k + 1)) in
      let two = set one (p + 1) z.first in
      let n = length-set z.work p (3 * (k + 1)) in
      let m = length-set one (p + 1) z.first in
      get_or-set_same two (p + 2) z.last 0 (omega arith)

  length_pushed : length (pushed k p z) ≡ length z.work
  unfolding pushed
  length_pushed =
      let one = set z.work p (3 * (k + 1)) in
      let two = set one (p + 1) z.first in
      length-set two (p + 2) z.last ∙ length-set one (p + 1) z.first ∙ length-set z.work p (3 * (k + 1))

  on_stack : (x d : ℕ) → p ≤ x → get_or on_e x d ≡ get_or (pushed k p z) x d
  on_stack x d a = get_or-set_other (pushed k p z) (3 * k + 2) x (3 * k + 1) d (λ q. omega arith)

  off_e : (x d : ℕ) → x ≢ 3 * k + 2 → x ≢ p → x ≢ p + 1 → x ≢ p + 2 → get_or on_e x d ≡ get_or z.work x d
  off_e x d a b e f =
      get_or-set_other (pushed k p z) (3 * k + 2) x (3 * k + 1) d a ∙ pushed_off x d b e f

  held_e : Held t on_e k w_e
  unfolding size links mates opens
  held_e =
      let n = length_pushed in
      record {
        sound = tt;
        within = omega arith;
        linked = tt;
        mated = tt;
        chain = (get_or-set_same (pushed k p z) (3 * k + 2) (3 * k + 1) 0 (omega arith), tt);
        records = tt;
      }

  waits_e : (ws : List Word) → z.top ≡ p + 3 → Standing t z ws (k + 1) → Waits t on_e ws (k + 1) p
  waits_e [] e h = tt
  waits_e (w ∷ ws) e h =
      let m = h.0.within in
      let n : length on_e ≡ length z.work =
      length-set (pushed k p z) (3 * k + 2) (3 * k + 1) ∙ length_pushed in
      let rest : Waits t z.work ws (k + 1 + size w) (p + 3) = rw e at h.3 in (
        omega arith,
        on_stack p 0 (omega arith) ∙ pushed_tip,
        on_stack (p + 1) 0 (omega arith) ∙ pushed_first ∙ h.1,
        on_stack (p + 2) 0 (omega arith) ∙ pushed_last ∙ h.2,
        held_same t z.work on_e (k + 1) w
            (λ x d a b. off_e x d (λ q. omega arith) (λ q. omega arith) (λ q. omega arith) (λ q. omega arith))
            (λ i a b. off_e (3 * t + i) 0 (λ q. omega arith) (λ q. omega arith) (λ q. omega arith) (λ q. omega arith))
            h.0,
        waits_same t z.work on_e n ws (k + 1 + size w) (p + 3)
            (λ x d a b. off_e x d (λ q. omega arith) (λ q. omega arith) (λ q. omega arith) (λ q. omega arith))
            (λ i a b. off_e (3 * t + i) 0 (λ q. omega arith) (λ q. omega arith) (λ q. omega arith) (λ q. omega arith))
            (λ x a. off_e x 0 (λ q. omega arith) (λ q. omega arith) (λ q. omega arith) (λ q. omega arith)) rest,
      )

pub standing_e : (t k : ℕ) (z : Fold) (ws : List Word) → z.top ≤ length z.work → 4 * t + 3 ≤ z.top → k < t
    → Standing t z ws (k + 1) → Standing t (fold_e k z) (w_e ∷ ws) k
unfolding fold_e size opens head back
standing_e t k z ws fits high at h = (
  held_e t k (z.top - 3) z (omega arith) (omega arith) at,
  refl,
  refl,
  waits_e t k (z.top - 3) z (omega arith) (omega arith) at ws (omega arith) h,
)
