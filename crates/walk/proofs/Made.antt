-- What steps made at met corners tell of the mesh, and how they are kept.
--
--   seen_reached      a triangle that is seen is reached
--   marked_present    a vertex that is marked has a corner
--   length_codes letters_codes corners_codes    steps from what is kept of them
use mathlib.Core.Bool.{false, true}
use mathlib.Core.List.{List, [], ◌∷◌}
use mathlib.Core.Logic.{◌⊎◌, inl, inr}
use mathlib.Core.Path.{◌≡◌, ap, refl, subst, sym}
use Prim.Native.Nat.{◌%◌, ◌*◌, ◌+◌, ◌/◌, ◌<◌, suc, ℕ}
use native.Mathlib.Omega.{arith}
use lib.Dec.{eqb}
use lib.ListN.{length}
use borrow.Author.Tests.{eqb-true}
use Rattle.theory.proofs.CornerLaws.{next_low, previous_low}
use Rattle.std.proofs.lemmas.Bool.{or_cases}
use Rattle.theory.proofs.TestLaws.{not_both}
use Rattle.theory.specs.Corner.{next, previous, triangle}
use Rattle.theory.specs.Letter.{byte}
use Rattle.theory.specs.Lists.{mem}
use Rattle.theory.specs.Mesh.{Reach}
use Rattle.theory.specs.Walk.{Step, ◌＠◌, corners_of, letters_of, marks, seen, tips}
use Rattle.theory.specs.declared.Letter.{Letter}
use Rattle.theory.specs.declared.Letter.TheVariants.{C, E, L, R, S}
use Rattle.walk.specs.Calls.{corners_in, letters_in}
use Rattle.walk.specs.Table.{MetAll, codes}

module _ (opp : ℕ → ℕ) (t g : ℕ) where
  pub seen_reached : (steps : List Step) → MetAll opp t g (corners_of steps) → (d : ℕ) → seen steps d ≡ true
      → Reach opp (triangle g) (triangle d)
  unfolding seen corners_of
  seen_reached [] m d e = absurd (not_both false e refl)
  seen_reached ((a ＠ c) ∷ steps) (h, m) d e =
      go (λ q. seen_reached steps m d q) (or_cases (eqb (triangle d) (triangle c)) (seen steps d) e)
    where
      go : (seen steps d ≡ true → Reach opp (triangle g) (triangle d))
          → (eqb (triangle d) (triangle c) ≡ true) ⊎ (seen steps d ≡ true) → Reach opp (triangle g) (triangle d)
      go f (inl q) = subst (Reach opp (triangle g)) (sym (eqb-true (triangle d) (triangle c) q)) h.reach
      go f (inr q) = f q

module _ (lab : ℕ → ℕ) (t : ℕ) where
  -- a vertex has a corner
  abbrev pub Present : ℕ → Type 0
  Present u = (c : ℕ) × (c < 3 * t) × (lab c ≡ u)

  at : (u c : ℕ) (l : List ℕ) → c < 3 * t → (mem u l ≡ true → Present u) → mem u (lab c ∷ l) ≡ true → Present u
  unfolding mem
  at u c l h f e = go (or_cases (eqb u (lab c)) (mem u l) e)
    where
      go : (eqb u (lab c) ≡ true) ⊎ (mem u l ≡ true) → Present u
      go (inl q) = (c, h, sym (eqb-true u (lab c) q))
      go (inr q) = f q

  module _ (opp : ℕ → ℕ) (g : ℕ) where
    tips_present : (steps : List Step) → MetAll opp t g (corners_of steps) → (u : ℕ) → mem u (tips lab steps) ≡ true
        → Present u
    unfolding tips corners_of mem
    tips_present [] m u e = absurd (not_both false e refl)
    tips_present ((C ＠ c) ∷ steps) (h, m) u e = at u c (tips lab steps) h.low (tips_present steps m u) e
    tips_present ((L ＠ c) ∷ steps) (h, m) u e = tips_present steps m u e
    tips_present ((E ＠ c) ∷ steps) (h, m) u e = tips_present steps m u e
    tips_present ((R ＠ c) ∷ steps) (h, m) u e = tips_present steps m u e
    tips_present ((S ＠ c) ∷ steps) (h, m) u e = tips_present steps m u e

    pub marked_present : (steps : List Step) → MetAll opp t g (corners_of steps) → g < 3 * t
        → (u : ℕ) → mem u (marks lab g steps) ≡ true → Present u
    unfolding marks
    marked_present steps m h u e =
        at u (next g) (lab (previous g) ∷ tips lab steps) (next_low t g h)
        (at u (previous g) (tips lab steps) (previous_low t g h) (tips_present steps m u)) e

-- ---- steps as they are kept

pub length_codes : (steps : List Step) → length (codes steps) ≡ length steps
unfolding codes
length_codes [] = refl
length_codes ((a ＠ c) ∷ steps) = ap suc (length_codes steps)

byte_low : (a : Letter) → byte a < 256
byte_low C = omega arith
byte_low L = omega arith
byte_low E = omega arith
byte_low R = omega arith
byte_low S = omega arith

pub letters_codes : (steps : List Step) → letters_in (codes steps) ≡ letters_of steps
unfolding codes letters_in letters_of
letters_codes [] = refl
letters_codes ((a ＠ c) ∷ steps) =
    let h = byte_low a in
    let e : (256 * c + byte a) % 256 ≡ byte a = omega arith in
    rw e (ap (λ (y : List ℕ). byte a ∷ y) (letters_codes steps))

pub corners_codes : (steps : List Step) → corners_in (codes steps) ≡ corners_of steps
unfolding codes corners_in corners_of
corners_codes [] = refl
corners_codes ((a ＠ c) ∷ steps) =
    let h = byte_low a in
    let e : (256 * c + byte a) / 256 ≡ c = omega arith in
    rw e (ap (λ (y : List ℕ). c ∷ y) (corners_codes steps))
