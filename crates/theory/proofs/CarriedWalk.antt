-- A renumbering carries the walk of one mesh to that of the other (`walk_map`): the letters are the same
-- (`same_letters`), and the walk tables show the renumbering (`by_walk_map`). No rule is needed but that opp and lab
-- stay in range.
--
--   map_steps h q   the steps q with their corners carried by h
use mathlib.Core.Bool.{Bool, ◌||◌}
use mathlib.Core.List.{List, [], ◌∷◌, map}
use mathlib.Core.Logic.{◌⊎◌, inl, inr}
use mathlib.Core.Path.{◌∙◌, ◌≡◌, ap, refl, sym}
use Prim.Native.Nat.{◌%◌, ◌*◌, ◌/◌, ◌<◌, suc, zero, ℕ}
use native.Mathlib.Omega.{arith}
use lib.Dec.{eqb}
use lib.ListN.{get_or, length}
use borrow.Author.Tests.{eq-eqb, eqb-true}
use Rattle.theory.proofs.CornerLaws.{next_low, next_previous, previous_low, previous_next, three, triangle_low, triangle_next, triangle_previous}
use Rattle.theory.proofs.Each.{EachN}
use Rattle.theory.proofs.TestLaws.{same_test}
use Rattle.theory.proofs.WalkBack.{onward, take_left, walk_step}
use Rattle.theory.proofs.WholeRun.{corner_of}
use Rattle.theory.specs.Corner.{left, next, previous, right, triangle}
use Rattle.theory.specs.Letter.{byte}
use Rattle.theory.specs.Lists.{mem}
use Rattle.theory.specs.Renumber.{Renumbering, by_walk, turned}
use Rattle.theory.specs.Walk.{Step, ◌＠◌, corners_of, letter_at, letters_of, marks, seen, tips, walk, walk_from}
use Rattle.theory.specs.declared.Letter.{Letter}
use Rattle.theory.specs.declared.Letter.TheVariants.{C, E, L, R, S}

unfoldable map_steps : (ℕ → ℕ) → List Step → List Step
map_steps h [] = []
map_steps h ((a ＠ d) ∷ q) = (a ＠ h d) ∷ map_steps h q

letters_map : (h : ℕ → ℕ) (q : List Step) → letters_of (map_steps h q) ≡ letters_of q
unfolding letters_of map_steps
letters_map h [] = refl
letters_map h ((a ＠ d) ∷ q) = ap (λ (y : List ℕ). byte a ∷ y) (letters_map h q)

corners_map : (h : ℕ → ℕ) (q : List Step) (k i j : ℕ) → k < length q
    → get_or (corners_of (map_steps h q)) k i ≡ h (get_or (corners_of q) k j)
unfolding corners_of map_steps
corners_map h [] k i j p = absurd (omega arith)
corners_map h ((a ＠ d) ∷ q) zero i j p = refl
corners_map h ((a ＠ d) ∷ q) (suc k) i j p = corners_map h q k i j (omega arith)

eqb_iff : (x y z u : ℕ) → (x ≡ y → z ≡ u) → (z ≡ u → x ≡ y) → eqb x y ≡ eqb z u
eqb_iff x y z u f k =
    same_test (eqb x y) (eqb z u) (λ p. eq-eqb z u (f (eqb-true x y p))) (λ p. eq-eqb x y (k (eqb-true z u p)))

module _ {lab opp lab' opp' : ℕ → ℕ} {t v g g' : ℕ} {h a : ℕ → ℕ} (iso : Renumbering lab opp lab' opp' t v g g' h a)
    (low : g < 3 * t) (inside : (c : ℕ) → c < 3 * t → opp c < 3 * t) (below : (c : ℕ) → c < 3 * t → lab c < v) where
  previous_map : (c : ℕ) → c < 3 * t → h (previous c) ≡ previous (h c)
  previous_map c b =
      let e = sym (iso.turning (previous c) (previous_low t c b)) ∙ ap h (next_previous c) in
      sym (previous_next (h (previous c))) ∙ ap previous e

  triangle_to : (c d : ℕ) → d < 3 * t → triangle c ≡ triangle d → triangle (h c) ≡ triangle (h d)
  triangle_to c d b u = go (three c d u)
    where
      go : (c ≡ d) ⊎ ((c ≡ next d) ⊎ (c ≡ previous d)) → triangle (h c) ≡ triangle (h d)
      go (inl z) = ap (λ (i : ℕ). triangle (h i)) z
      go (inr (inl z)) = ap (λ (i : ℕ). triangle (h i)) z ∙ ap triangle (iso.turning d b) ∙ triangle_next (h d)
      go (inr (inr z)) = ap (λ (i : ℕ). triangle (h i)) z ∙ ap triangle (previous_map d b) ∙ triangle_previous (h d)

  triangle_from : (c d : ℕ) → c < 3 * t → d < 3 * t → triangle (h c) ≡ triangle (h d) → triangle c ≡ triangle d
  triangle_from c d p q u = go (three (h c) (h d) u)
    where
      go : (h c ≡ h d) ⊎ ((h c ≡ next (h d)) ⊎ (h c ≡ previous (h d))) → triangle c ≡ triangle d
      go (inl z) = ap triangle (iso.inj c d p q z)
      go (inr (inl z)) =
          ap triangle (iso.inj c (next d) p (next_low t d q) (z ∙ sym (iso.turning d q))) ∙ triangle_next d
      go (inr (inr z)) =
          ap triangle (iso.inj c (previous d) p (previous_low t d q) (z ∙ sym (previous_map d q)))
          ∙ triangle_previous d

  abbrev Low : List Step → Type 0
  Low [] = Unit {0}
  Low ((b ＠ d) ∷ pre) = (d < 3 * t) × Low pre

  seen_map : (pre : List Step) (c : ℕ) → Low pre → c < 3 * t → seen (map_steps h pre) (h c) ≡ seen pre c
  unfolding seen map_steps
  seen_map [] c l b = refl
  seen_map ((x ＠ d) ∷ pre) c l b =
      let inj = triangle_from c d b l.0 in
      let e = eqb_iff (triangle (h c)) (triangle (h d)) (triangle c) (triangle d) inj (triangle_to c d l.0) in
      rw (e, seen_map pre c l.1 b)

  eqb_name : (u w : ℕ) → u < v → w < v → eqb (a u) (a w) ≡ eqb u w
  eqb_name u w p q = eqb_iff (a u) (a w) u w (iso.names_inj u w p q) (λ e. ap a e)

  tips_map : (pre : List Step) (u : ℕ) → Low pre → u < v → mem (a u) (tips lab' (map_steps h pre)) ≡ mem u (tips lab pre)
  unfolding tips map_steps mem
  tips_map [] u l b = refl
  tips_map ((C ＠ d) ∷ pre) u l b =
      rw (iso.vertex d l.0, eqb_name u (lab d) b (below d l.0), tips_map pre u l.1 b)
  tips_map ((L ＠ d) ∷ pre) u l b = tips_map pre u l.1 b
  tips_map ((E ＠ d) ∷ pre) u l b = tips_map pre u l.1 b
  tips_map ((R ＠ d) ∷ pre) u l b = tips_map pre u l.1 b
  tips_map ((S ＠ d) ∷ pre) u l b = tips_map pre u l.1 b

  -- the ends of the gate corner's edge
  left_end : lab' (next g') ≡ a (lab (next g))
  left_end =
      ap (λ (c : ℕ). lab' (next c)) (sym iso.gate) ∙ ap lab' (sym (iso.turning g low))
      ∙ iso.vertex (next g) (next_low t g low)

  right_end : lab' (previous g') ≡ a (lab (previous g))
  right_end =
      ap (λ (c : ℕ). lab' (previous c)) (sym iso.gate) ∙ ap lab' (sym (previous_map g low))
      ∙ iso.vertex (previous g) (previous_low t g low)

  marks_name : (pre : List Step) (u : ℕ) → Low pre → u < v
      → mem (a u) (marks lab' g' (map_steps h pre)) ≡ mem u (marks lab g pre)
  unfolding mem marks
  marks_name pre u l b =
      let p = eqb_name u (lab (next g)) b (below (next g) (next_low t g low)) in
      let q = eqb_name u (lab (previous g)) b (below (previous g) (previous_low t g low)) in
      rw (left_end, right_end, p, q)
      (ap (λ (z : Bool). eqb u (lab (next g)) || (eqb u (lab (previous g)) || z)) (tips_map pre u l b))

  marks_map : (pre : List Step) (c : ℕ) → Low pre → c < 3 * t
      → mem (lab' (h c)) (marks lab' g' (map_steps h pre)) ≡ mem (lab c) (marks lab g pre)
  marks_map pre c l b =
      ap (λ (x : ℕ). mem x (marks lab' g' (map_steps h pre))) (iso.vertex c b)
      ∙ marks_name pre (lab c) l (below c b)

  right_map : (c : ℕ) → c < 3 * t → right opp' (h c) ≡ h (right opp c)
  right_map c b = ap opp' (sym (iso.turning c b)) ∙ sym (iso.neighbour (next c) (next_low t c b))

  left_map : (c : ℕ) → c < 3 * t → left opp' (h c) ≡ h (left opp c)
  left_map c b = ap opp' (sym (previous_map c b)) ∙ sym (iso.neighbour (previous c) (previous_low t c b))

  right_low : (c : ℕ) → c < 3 * t → right opp c < 3 * t
  right_low c b = inside (next c) (next_low t c b)

  left_low : (c : ℕ) → c < 3 * t → left opp c < 3 * t
  left_low c b = inside (previous c) (previous_low t c b)

  beside_map : (pre : List Step) (c d : ℕ) → Low pre → c < 3 * t → d < 3 * t
      → seen ((E ＠ h c) ∷ map_steps h pre) (h d) ≡ seen ((E ＠ c) ∷ pre) d
  unfolding map_steps
  beside_map pre c d l b q = seen_map ((E ＠ c) ∷ pre) d (b, l) q

  letter_map : (pre : List Step) (c : ℕ) → Low pre → c < 3 * t
      → letter_at lab' opp' g' (map_steps h pre) (h c) ≡ letter_at lab opp g pre c
  unfolding letter_at
  letter_map pre c l b =
      let p = beside_map pre c (left opp c) l b (left_low c b) in
      let q = beside_map pre c (right opp c) l b (right_low c b) in
      rw (marks_map pre c l b, left_map c b, p, right_map c b, q)

  -- carried, as far as n steps go
  abbrev Carried : ℕ → Type 0
  Carried n =
      (pre : List Step) (st : List ℕ) (x : ℕ) → Low pre → EachN (λ d. d < 3 * t) st → x < 3 * t
      → walk lab' opp' g' n (map_steps h pre) (map h st) (h x) ≡ map_steps h (walk lab opp g n pre st x)

  onward_map : (n : ℕ) → Carried n → (b : Letter) (pre : List Step) (st : List ℕ) (x : ℕ) → Low pre
      → EachN (λ d. d < 3 * t) st → x < 3 * t
      → onward lab' opp' g' b n (map_steps h pre) (map h st) (h x) ≡ map_steps h (onward lab opp g b n pre st x)
  unfolding onward take_left map_steps
  onward_map n f C pre st x l w b = rw (right_map x b, f pre st (right opp x) l w (right_low x b))
  onward_map n f L pre st x l w b = rw (right_map x b, f pre st (right opp x) l w (right_low x b))
  onward_map n f E pre [] x l w b = refl
  onward_map n f E pre (d ∷ st) x l w b = f pre st d l w.1 w.0
  onward_map n f R pre st x l w b = rw (left_map x b, f pre st (left opp x) l w (left_low x b))
  onward_map n f S pre st x l w b =
      rw (left_map x b, right_map x b, f pre (left opp x ∷ st) (right opp x) l (left_low x b, w) (right_low x b))

  -- I1
  carried : (n : ℕ) → Carried n
  unfolding walk map_steps
  carried zero pre st x l w b = refl
  carried (suc n) pre st x l w b =
      let y = letter_at lab opp g pre x in
      let this = walk_step lab opp g y n pre st x refl in
      let that = walk_step lab' opp' g' y n (map_steps h pre) (map h st) (h x) (letter_map pre x l b) in
      that ∙ ap (λ (q : List Step). (y ＠ h x) ∷ q) (onward_map n (carried n) y ((y ＠ x) ∷ pre) st x (b, l) w b)
      ∙ ap (map_steps h) (sym this)

  walk_map : walk_from lab' opp' t g' ≡ map_steps h (walk_from lab opp t g)
  unfolding walk_from map_steps
  walk_map = ap (λ (y : ℕ). walk lab' opp' g' t [] [] y) (sym iso.gate) ∙ carried t [] [] g tt tt low

  -- T4, from meshes to strings
  pub same_letters : letters_of (walk_from lab' opp' t g') ≡ letters_of (walk_from lab opp t g)
  same_letters = ap letters_of walk_map ∙ letters_map h (walk_from lab opp t g)

  turned_map : (i c : ℕ) → c < 3 * t → h (turned i c) ≡ turned i (h c)
  unfolding turned
  turned_map zero c b = refl
  turned_map (suc zero) c b = iso.turning c b
  turned_map (suc (suc i)) c b = previous_map c b

  pub by_walk_map : (n : ℕ) → length (walk_from lab opp t g) ≡ n
      → ((k : ℕ) → k < n → corner_of (walk_from lab opp t g) k < 3 * t)
      → (x : ℕ) → x < 3 * n
      → h (by_walk (corners_of (walk_from lab opp t g)) x) ≡ by_walk (corners_of (walk_from lab' opp' t g')) x
  unfolding by_walk
  by_walk_map n len lo x b =
      let q = walk_from lab opp t g in
      let k = triangle_low n x b in
      let d = 3 * (x / 3) in
      let e = ap (λ (p : List Step). corner_of p (x / 3)) walk_map ∙ corners_map h q (x / 3) d d (omega arith) in
      turned_map (x % 3) (corner_of q (x / 3)) (lo (x / 3) k) ∙ ap (turned (x % 3)) (sym e)
