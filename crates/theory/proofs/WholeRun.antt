-- The whole run on an accepted mesh: it has exactly t steps (E2 and E4), each with its facts (`Walked`).
--
--   letter_of q k, corner_of q k   the letter and the corner of step k; beyond the last step S and 3k
--   steps                        the run from the gate
--   Walked                       what all later files use of it
use mathlib.Core.List.{List, [], ◌∷◌}
use mathlib.Core.Path.{◌≡◌, ap, refl}
use Prim.Native.Nat.{◌*◌, ◌+◌, ◌<◌, ◌≤◌, suc, zero, ℕ}
use native.Mathlib.Nat.{add-zero}
use native.Mathlib.Omega.{arith}
use lib.ListN.{get_or-eq_default, get_or, length}
use Rattle.theory.proofs.ByTime.{Ahead, Earlier}
use Rattle.theory.proofs.Facts.{Fact, Here, headed, index}
use Rattle.theory.proofs.Live.{begun}
use Rattle.theory.proofs.Runs.{Run}
use Rattle.theory.proofs.Visited.{full, visited}
use Rattle.theory.proofs.WalkState.{started}
use Rattle.theory.specs.Mesh.{Sphere}
use Rattle.theory.specs.Walk.{Step, ◌＠◌, corners_of, letters_of}
use Rattle.theory.specs.declared.Letter.{Letter}
use Rattle.theory.specs.declared.Letter.TheVariants.{S}

pub length_letters : (q : List Step) → length (letters_of q) ≡ length q
unfolding letters_of
length_letters [] = refl
length_letters ((a ＠ d) ∷ q) = ap suc (length_letters q)

pub length_corners : (q : List Step) → length (corners_of q) ≡ length q
unfolding corners_of
length_corners [] = refl
length_corners ((a ＠ d) ∷ q) = ap suc (length_corners q)

unfoldable pub letter_of : List Step → ℕ → Letter
letter_of [] k = S
letter_of ((a ＠ d) ∷ q) zero = a
letter_of ((a ＠ d) ∷ q) (suc k) = letter_of q k

letter_beyond : (q : List Step) (k : ℕ) → length q ≤ k → letter_of q k ≡ S
unfolding letter_of
letter_beyond [] k h = refl
letter_beyond ((a ＠ d) ∷ q) zero h = absurd (omega arith)
letter_beyond ((a ＠ d) ∷ q) (suc k) h = letter_beyond q k (omega arith)

abbrev pub corner_of : List Step → ℕ → ℕ
corner_of q k = get_or (corners_of q) k (3 * k)

pub record Walked {lab opp : ℕ → ℕ} {t v g : ℕ} (mesh : Sphere lab opp t v g) (sp : ℕ → Letter)
    (co : ℕ → ℕ) : Type 0 where
  pub start : co 0 ≡ g
  pub facts : (k : ℕ) → k < t → Fact mesh sp co t k
  pub seen_all : (c : ℕ) → c < 3 * t → Earlier co t c
  pub sp_end : (k : ℕ) → t ≤ k → sp k ≡ S
  pub co_end : (k : ℕ) → t ≤ k → co k ≡ 3 * k

ahead_from : (sp : ℕ → Letter) (co : ℕ → ℕ) (q : List Step) (k : ℕ) → ((i : ℕ) → sp (k + i) ≡ letter_of q i)
    → ((i : ℕ) → co (k + i) ≡ get_or (corners_of q) i (3 * (k + i))) → Ahead sp co k q
unfolding letter_of corners_of
ahead_from sp co [] k h i = tt
ahead_from sp co ((a ＠ d) ∷ q) k h i = (
  rw (add-zero k) at (h 0),
  rw (add-zero k) at (i 0),
  ahead_from sp co q (suc k)
      (λ j. let e : suc k + j ≡ k + suc j = omega arith in rw e (h (suc j)))
      (λ j. let e : suc k + j ≡ k + suc j = omega arith in rw e (i (suc j))),
)

pub ahead_all : (q : List Step) → Ahead (letter_of q) (corner_of q) 0 q
ahead_all q =
    ahead_from (letter_of q) (corner_of q) q 0
    (λ i. let e : 0 + i ≡ i = omega arith in rw e)
    (λ i. let e : 0 + i ≡ i = omega arith in rw e)

module _ {lab opp : ℕ → ℕ} {t v g : ℕ} (mesh : Sphere lab opp t v g) where
  unfoldable pub steps : List Step
  steps = (begun mesh).0

  pub the_run : Run lab opp g [] [] g steps
  unfolding steps
  the_run = (begun mesh).1

  all_facts : (k : ℕ) → k < length steps → Fact mesh (letter_of steps) (corner_of steps) (length steps) k
  all_facts k h = (index mesh (letter_of steps) (corner_of steps) the_run at).0 k (omega arith) h
    where
      at : Here mesh (letter_of steps) (corner_of steps) (length steps) [] [] g steps
      at = record {
        state = started mesh;
        behind = tt;
        ahead = ahead_all steps;
        total = omega arith;
        backed = λ u. absurd (omega arith);
        waiting = tt;
      }

  first_corner_lem : (corner_of steps 0 ≡ g) × (1 ≤ length steps)
  first_corner_lem = headed mesh (letter_of steps) (corner_of steps) the_run 0 (ahead_all steps)

  pub steps_length : length steps ≡ t
  unfolding steps
  steps_length =
      let b = full mesh all_facts first_corner_lem.1 first_corner_lem.0 in
      let d = (begun mesh).2 in
      omega arith

  pub walked : Walked mesh (letter_of steps) (corner_of steps)
  walked =
      let n = steps_length in
      let m = length_corners steps in
      record {
        start = first_corner_lem.0;
        facts = rw n at all_facts;
        seen_all = rw n at (visited mesh all_facts first_corner_lem.1 first_corner_lem.0);
        sp_end = λ k h. letter_beyond steps k (omega arith);
        co_end = λ k h. get_or-eq_default (corners_of steps) (3 * k) {n = k} (omega arith);
      }
