-- What the work space holds of the words behind a letter.
--
--   Held t work k w              a word, its first triangle k: its joins, its open sides as a list, its records
--   Waits t work ws j p          the words on the stack that stands at p, the first of them at triangle j
--   Standing t z ws k            all of them, the first at triangle k, its ends in the locals
--   held_same waits_same         in a work space that has not changed where they stand
--   standing_low                 the ends are corners
use mathlib.Core.List.{List, [], ◌∷◌}
use mathlib.Core.Path.{◌∙◌, ◌≡◌}
use Prim.Native.Nat.{◌*◌, ◌+◌, ◌<◌, ◌≤◌, ℕ}
use native.Mathlib.Omega.{arith}
use lib.ListN.{get_or, length}
use Rattle.tables.proofs.Chained.{Chained, chained_same}
use Rattle.tables.proofs.Corners.{each_same, first_in, inner_in, last_in, open_in, some_open}
use Rattle.tables.specs.Fold.{Fold, Recorded}
use Rattle.theory.proofs.Chain.{Each}
use Rattle.theory.proofs.Counting.{count_tail}
use Rattle.theory.proofs.JoinLaws.{Join}
use Rattle.theory.proofs.Opens.{mates, opens}
use Rattle.theory.specs.Corner.{opposite}
use Rattle.theory.specs.Lists.{back, head}
use Rattle.theory.specs.Tables.{links}
use Rattle.theory.specs.Word.{Sound, Word, size, w_c, w_e, w_l, w_r, w_s}

pub record Held (t : ℕ) (work : List ℕ) (k : ℕ) (w : Word) : Type 0 where
  pub sound : Sound w
  pub within : k + size w ≤ t
  pub linked : Each (Join (opposite work)) (links k w)
  pub mated : Each (Join (opposite work)) (mates k w)
  pub chain : Chained work (opens k w)
  pub records : Recorded t work k w

module _ (t : ℕ) (work : List ℕ) where
  abbrev pub Waits : List Word → ℕ → ℕ → Type 0
  Waits [] j p = Unit {0}
  Waits (w ∷ ws) j p =
      (p + 3 ≤ length work) × (get_or work p 0 ≡ 3 * j) × (get_or work (p + 1) 0 ≡ head (opens j w))
      × (get_or work (p + 2) 0 ≡ back (opens j w)) × Held t work j w × Waits ws (j + size w) (p + 3)

abbrev pub Standing : ℕ → Fold → List Word → ℕ → Type 0
Standing t z [] k = Unit {0}
Standing t z (w ∷ ws) k =
    Held t z.work k w × (z.first ≡ head (opens k w)) × (z.last ≡ back (opens k w))
    × Waits t z.work ws (k + size w) z.top

module _ (t : ℕ) (work work' : List ℕ) where
  pub recorded_same : (k : ℕ) (w : Word)
      → ((i : ℕ) → k ≤ i → i < k + size w → get_or work' (3 * t + i) 0 ≡ get_or work (3 * t + i) 0)
      → Recorded t work k w → Recorded t work' k w
  unfolding size
  recorded_same k w_e f r = tt
  recorded_same k (w_c w) f r = recorded_same (k + 1) w (λ i a b. f i (omega arith) (omega arith)) r
  recorded_same k (w_l w) f r = recorded_same (k + 1) w (λ i a b. f i (omega arith) (omega arith)) r
  recorded_same k (w_r w) f r = recorded_same (k + 1) w (λ i a b. f i (omega arith) (omega arith)) r
  recorded_same k (w_s a b) f r = (
    f k (omega arith) (omega arith) ∙ r.0,
    recorded_same (k + 1) a (λ i m n. f i (omega arith) (omega arith)) r.1,
    recorded_same (k + 1 + size a) b (λ i m n. f i (omega arith) (omega arith)) r.2,
  )

  pub held_same : (k : ℕ) (w : Word)
      → ((x d : ℕ) → 3 * k < x → x < 3 * (k + size w) → get_or work' x d ≡ get_or work x d)
      → ((i : ℕ) → k ≤ i → i < k + size w → get_or work' (3 * t + i) 0 ≡ get_or work (3 * t + i) 0)
      → Held t work k w → Held t work' k w
  held_same k w f g h =
      let o = h.sound in
      record {
        sound = o;
        within = h.within;
        linked =
            each_same work work' (links k w) (λ x m. let i = inner_in k w o x (omega arith) in f x x i.0 i.1)
            h.linked;
        mated =
            each_same work work' (mates k w) (λ x m. let i = inner_in k w o x (omega arith) in f x x i.0 i.1)
            h.mated;
        chain =
            chained_same work work' (opens k w) (λ x m.
            let n = count_tail x (opens k w) in
            let i = open_in k w o x (omega arith) in
            f x 0 i.0 i.1) h.chain;
        records = recorded_same k w g h.records;
      }

  pub waits_same : length work' ≡ length work → (ws : List Word) (j p : ℕ)
      → ((x d : ℕ) → 3 * j < x → x < 3 * t → get_or work' x d ≡ get_or work x d)
      → ((i : ℕ) → j ≤ i → i < t → get_or work' (3 * t + i) 0 ≡ get_or work (3 * t + i) 0)
      → ((x : ℕ) → p ≤ x → get_or work' x 0 ≡ get_or work x 0) → Waits t work ws j p → Waits t work' ws j p
  waits_same n [] j p f g e h = tt
  waits_same n (w ∷ ws) j p f g e h =
      let room = h.0 in
      let within = h.4.within in (
        omega arith,
        e p (omega arith) ∙ h.1,
        e (p + 1) (omega arith) ∙ h.2,
        e (p + 2) (omega arith) ∙ h.3,
        held_same j w (λ x d a b. f x d a (omega arith)) (λ i a b. g i a (omega arith)) h.4,
        waits_same n ws (j + size w) (p + 3) (λ x d a b. f x d (omega arith) b) (λ i a b. g i (omega arith) b)
            (λ x a. e x (omega arith)) h.5,
      )

pub standing_low : (t : ℕ) (z : Fold) (ws : List Word) (k : ℕ) → 1 ≤ length ws → Standing t z ws k
    → (z.first < 3 * t) × (z.last < 3 * t)
standing_low t z [] k n h = absurd (omega arith)
standing_low t z (w ∷ ws) k n h =
    let o = h.0.sound in
    let within = h.0.within in
    let bs = opens k w in
    let a = open_in k w o (head bs) (first_in bs (some_open k w o)) in
    let b = open_in k w o (back bs) (last_in bs (some_open k w o)) in
    let e = h.1 in
    let f = h.2 in
    let p = a.1 in
    let q = b.1 in
    (omega arith, omega arith)
