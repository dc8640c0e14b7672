-- Steps numbered by time: sp k is the letter of step k and co k its corner.
--
--   Holds pre      the steps so far, the latest first, are those of the times 0, 1, ..
--   Ahead k q      the steps to come are those of the times k, k + 1, ..
--   Earlier k x    the triangle of x is visited before step k
--   Mark k y       the vertex y is marked before step k: an end of the gate corner's edge, or the tip of an earlier C
--
-- While the steps hold, `seen` says Earlier (seen_before, before_seen) and `marks` says Mark (in_mark, mark_in).
use mathlib.Core.Bool.{◌||◌, false, true}
use mathlib.Core.List.{List, [], ◌∷◌}
use mathlib.Core.Logic.{◌⊎◌, inl, inr}
use mathlib.Core.Path.{◌∙◌, ◌≡◌, ap, refl, sym}
use Prim.Native.Nat.{◌<◌, ◌≤◌, suc, ℕ}
use native.Mathlib.Decide.{ℕ_discrete}
use native.Mathlib.Omega.{arith}
use lib.Dec.{eqb}
use lib.ListN.{length}
use borrow.Author.Tests.{eqb-true}
use Rattle.theory.proofs.LetterLaws.{letters_differ}
use Rattle.std.proofs.lemmas.Bool.{or_cases, or_right}
use Rattle.theory.proofs.TestLaws.{eqb_same, not_both}
use Rattle.theory.specs.Corner.{next, previous, triangle}
use Rattle.theory.specs.Lists.{mem}
use Rattle.theory.specs.Walk.{Step, ◌＠◌, marks, seen, tips}
use Rattle.theory.specs.declared.Letter.{Letter}
use Rattle.theory.specs.declared.Letter.TheVariants.{C, E, L, R, S}

module _ (sp : ℕ → Letter) (co : ℕ → ℕ) where
  abbrev pub Holds : List Step → Type 0
  Holds [] = Unit {0}
  Holds ((a ＠ d) ∷ pre) = (sp (length pre) ≡ a) × (co (length pre) ≡ d) × Holds pre

  abbrev pub Ahead : ℕ → List Step → Type 0
  Ahead k [] = Unit {0}
  Ahead k ((a ＠ d) ∷ q) = (sp k ≡ a) × (co k ≡ d) × Ahead (suc k) q

abbrev pub Earlier : (ℕ → ℕ) → ℕ → ℕ → Type 0
Earlier co k x = (j : ℕ) × (j < k) × (triangle x ≡ triangle (co j))

-- y is the tip of a C before step k
abbrev pub TipOfC : (ℕ → ℕ) → (ℕ → Letter) → (ℕ → ℕ) → ℕ → ℕ → Type 0
TipOfC lab sp co k y = (j : ℕ) × (j < k) × (sp j ≡ C) × (y ≡ lab (co j))

abbrev pub Mark : (ℕ → ℕ) → ℕ → (ℕ → Letter) → (ℕ → ℕ) → ℕ → ℕ → Type 0
Mark lab g sp co k y = (y ≡ lab (next g)) ⊎ ((y ≡ lab (previous g)) ⊎ TipOfC lab sp co k y)

pub longer : (co : ℕ → ℕ) (k n x : ℕ) → k ≤ n → Earlier co k x → Earlier co n x
longer co k n x h (j, q, u) = (j, omega arith, u)

module _ (lab : ℕ → ℕ) (g : ℕ) (sp : ℕ → Letter) (co : ℕ → ℕ) where
  tip_longer : (k n y : ℕ) → k ≤ n → TipOfC lab sp co k y → TipOfC lab sp co n y
  tip_longer k n y h (j, p, u, w) = (j, omega arith, u, w)

  pub mark_longer : (k n y : ℕ) → k ≤ n → Mark lab g sp co k y → Mark lab g sp co n y
  mark_longer k n y h (inl q) = inl q
  mark_longer k n y h (inr (inl q)) = inr (inl q)
  mark_longer k n y h (inr (inr z)) = inr (inr (tip_longer k n y h z))

  pub seen_before : (pre : List Step) → Holds sp co pre → (x : ℕ) → seen pre x ≡ true → Earlier co (length pre) x
  unfolding seen
  seen_before [] h x q = absurd (not_both false q refl)
  seen_before ((a ＠ d) ∷ pre) h x q =
      go (or_cases (eqb (triangle x) (triangle d)) (seen pre x) q) (λ u. seen_before pre h.2 x u)
    where
      go : (eqb (triangle x) (triangle d) ≡ true) ⊎ (seen pre x ≡ true)
          → (seen pre x ≡ true → Earlier co (length pre) x)
          → Earlier co (suc (length pre)) x
      go (inl u) f = (length pre, omega arith, eqb-true (triangle x) (triangle d) u ∙ ap triangle (sym h.1))
      go (inr u) f = longer co (length pre) (suc (length pre)) x (omega arith) (f u)

  pub before_seen : (pre : List Step) → Holds sp co pre → (x : ℕ) → Earlier co (length pre) x → seen pre x ≡ true
  unfolding seen
  before_seen [] h x (j, q, u) = absurd (omega arith)
  before_seen ((a ＠ d) ∷ pre) h x (j, q, u) = go (ℕ_discrete j (length pre)) (λ z. before_seen pre h.2 x z)
    where
      go : Dec (j ≡ length pre) → (Earlier co (length pre) x → seen pre x ≡ true) → seen ((a ＠ d) ∷ pre) x ≡ true
      go (yes e) f =
          let w : triangle x ≡ triangle d = u ∙ ap (λ (i : ℕ). triangle (co i)) e ∙ ap triangle h.1 in
          rw (w, eqb_same (triangle d))
      go (no e) f = or_right (eqb (triangle x) (triangle d)) (seen pre x) (f (j, omega arith, u))

  tip_mark : (pre : List Step) → Holds sp co pre → (y : ℕ) → mem y (tips lab pre) ≡ true
      → TipOfC lab sp co (length pre) y
  unfolding mem tips
  tip_mark [] h y q = absurd (not_both false q refl)
  tip_mark ((C ＠ d) ∷ pre) h y q = go (or_cases (eqb y (lab d)) (mem y (tips lab pre)) q) (λ u. tip_mark pre h.2 y u)
    where
      go : (eqb y (lab d) ≡ true) ⊎ (mem y (tips lab pre) ≡ true)
          → (mem y (tips lab pre) ≡ true → TipOfC lab sp co (length pre) y)
          → TipOfC lab sp co (suc (length pre)) y
      go (inl u) f = (length pre, omega arith, h.0, eqb-true y (lab d) u ∙ ap lab (sym h.1))
      go (inr u) f = tip_longer (length pre) (suc (length pre)) y (omega arith) (f u)
  tip_mark ((L ＠ d) ∷ pre) h y q = tip_longer (length pre) (suc (length pre)) y (omega arith) (tip_mark pre h.2 y q)
  tip_mark ((E ＠ d) ∷ pre) h y q = tip_longer (length pre) (suc (length pre)) y (omega arith) (tip_mark pre h.2 y q)
  tip_mark ((R ＠ d) ∷ pre) h y q = tip_longer (length pre) (suc (length pre)) y (omega arith) (tip_mark pre h.2 y q)
  tip_mark ((S ＠ d) ∷ pre) h y q = tip_longer (length pre) (suc (length pre)) y (omega arith) (tip_mark pre h.2 y q)

  pub in_mark : (pre : List Step) → Holds sp co pre → (y : ℕ) → mem y (marks lab g pre) ≡ true
      → Mark lab g sp co (length pre) y
  unfolding mem marks
  in_mark pre h y q = go (or_cases (eqb y (lab (next g))) (eqb y (lab (previous g)) || mem y (tips lab pre)) q)
    where
      more : (eqb y (lab (previous g)) ≡ true) ⊎ (mem y (tips lab pre) ≡ true) → Mark lab g sp co (length pre) y
      more (inl u) = inr (inl (eqb-true y (lab (previous g)) u))
      more (inr u) = inr (inr (tip_mark pre h y u))

      go : (eqb y (lab (next g)) ≡ true) ⊎ ((eqb y (lab (previous g)) || mem y (tips lab pre)) ≡ true)
          → Mark lab g sp co (length pre) y
      go (inl u) = inl (eqb-true y (lab (next g)) u)
      go (inr u) = more (or_cases (eqb y (lab (previous g))) (mem y (tips lab pre)) u)

  mark_tip : (pre : List Step) → Holds sp co pre → (j : ℕ) → j < length pre → sp j ≡ C
      → mem (lab (co j)) (tips lab pre) ≡ true
  unfolding mem tips
  mark_tip [] h j q u = absurd (omega arith)
  mark_tip ((a ＠ d) ∷ pre) h j q u = go a h.0 (ℕ_discrete j (length pre)) (λ z. mark_tip pre h.2 j z u)
    where
      -- the latest step is a C if it is step j
      here_c : (b : Letter) → sp (length pre) ≡ b → j ≡ length pre → b ≡ C
      here_c b p z = sym p ∙ ap sp (sym z) ∙ u

      go : (b : Letter) → sp (length pre) ≡ b → Dec (j ≡ length pre)
          → (j < length pre → mem (lab (co j)) (tips lab pre) ≡ true)
          → mem (lab (co j)) (tips lab ((b ＠ d) ∷ pre)) ≡ true
      go C p (yes z) f =
          let w : lab (co j) ≡ lab d = ap (λ (i : ℕ). lab (co i)) z ∙ ap lab h.1 in
          rw (w, eqb_same (lab d))
      go L p (yes z) f = absurd (letters_differ L C refl (here_c L p z))
      go E p (yes z) f = absurd (letters_differ E C refl (here_c E p z))
      go R p (yes z) f = absurd (letters_differ R C refl (here_c R p z))
      go S p (yes z) f = absurd (letters_differ S C refl (here_c S p z))
      go C p (no z) f = or_right (eqb (lab (co j)) (lab d)) (mem (lab (co j)) (tips lab pre)) (f (omega arith))
      go L p (no z) f = f (omega arith)
      go E p (no z) f = f (omega arith)
      go R p (no z) f = f (omega arith)
      go S p (no z) f = f (omega arith)

  pub mark_in : (pre : List Step) → Holds sp co pre → (y : ℕ) → Mark lab g sp co (length pre) y
      → mem y (marks lab g pre) ≡ true
  unfolding mem marks
  mark_in pre h y (inl q) = rw (q, eqb_same (lab (next g)))
  mark_in pre h y (inr (inl q)) = or_right (eqb y (lab (next g))) _ (rw (q, eqb_same (lab (previous g))))
  mark_in pre h y (inr (inr (j, p, u, w))) =
      let m = mark_tip pre h j p u in
      or_right (eqb y (lab (next g))) _ (or_right (eqb y (lab (previous g))) _ (rw (← w) at m))
