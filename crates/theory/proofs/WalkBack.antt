-- D12 (`walk_word`): in tables that hold a word's joins and tips, the walk from the word's first corner gives exactly
-- its letters, each at the first corner of its triangle.
--
--   word_steps k w        the steps of a word whose first triangle is k, in walk order
--   take_left onward      what the walk does behind an E, and behind each letter (`walk_step`)
--   Then k nv n st rest  from every state that has visited k triangles and marked nv vertices, the walk goes on as rest
use mathlib.Core.List.{List, [], ◌++◌, ◌∷◌, append_assoc}
use mathlib.Core.Path.{◌∙◌, ◌≡◌, ap, refl}
use Prim.Native.Nat.{◌*◌, ◌+◌, ◌-◌, suc, ℕ}
use native.Mathlib.Nat.{add_assoc, add-zero, suc-add, zero-add}
use native.Mathlib.Omega.{arith}
use lib.ListN.{drop, take}
use Rattle.theory.proofs.CornerLaws.{next_tip, previous_tip}
use Rattle.theory.proofs.HoldsWord.{HoldsWord, holds_c, holds_e, holds_l, holds_r, holds_s}
use Rattle.theory.proofs.Loops.{Tips}
use Rattle.theory.proofs.WalkLetters.{Visited, late, letter_c, letter_sides, near, visit_new, visit_old}
use Rattle.theory.specs.Corner.{left, right}
use Rattle.theory.specs.Lists.{back, front, head, tail}
use Rattle.theory.specs.Walk.{Step, ◌＠◌, by_sides, letter_at, tips, walk}
use Rattle.theory.specs.Word.{Word, news, size, w_c, w_e, w_l, w_r, w_s, width}
use Rattle.theory.specs.declared.Letter.{Letter}
use Rattle.theory.specs.declared.Letter.TheVariants.{C, E, L, R, S}

-- the place behind a letter, and behind a letter and a word
next_place : (k n : ℕ) → k + 1 + n ≡ k + suc n
next_place k n = omega arith

next_place2 : (k m n : ℕ) → k + 1 + m + n ≡ k + suc (m + n)
next_place2 k m n = omega arith

unfoldable pub word_steps : ℕ → Word → List Step
word_steps k w_e = (E ＠ (3 * k)) ∷ []
word_steps k (w_c w) = (C ＠ (3 * k)) ∷ word_steps (k + 1) w
word_steps k (w_l w) = (L ＠ (3 * k)) ∷ word_steps (k + 1) w
word_steps k (w_r w) = (R ＠ (3 * k)) ∷ word_steps (k + 1) w
word_steps k (w_s a b) = (S ＠ (3 * k)) ∷ (word_steps (k + 1) a ++ word_steps (k + 1 + size a) b)

module _ (lab opp : ℕ → ℕ) (g : ℕ) where
  -- the latest waiting left, or the end
  unfoldable pub take_left : ℕ → List Step → List ℕ → List Step
  take_left n pre [] = []
  take_left n pre (d ∷ st) = walk lab opp g n pre st d

  unfoldable pub onward : Letter → ℕ → List Step → List ℕ → ℕ → List Step
  onward C n pre st c = walk lab opp g n pre st (right opp c)
  onward L n pre st c = walk lab opp g n pre st (right opp c)
  onward E n pre st c = take_left n pre st
  onward R n pre st c = walk lab opp g n pre st (left opp c)
  onward S n pre st c = walk lab opp g n pre (left opp c ∷ st) (right opp c)

  pub walk_step : (a : Letter) (n : ℕ) (pre : List Step) (st : List ℕ) (c : ℕ) → letter_at lab opp g pre c ≡ a
      → walk lab opp g (suc n) pre st c ≡ (a ＠ c) ∷ onward a n ((a ＠ c) ∷ pre) st c
  unfolding walk onward take_left
  walk_step C n pre st c h = rw (h, walk)
  walk_step L n pre st c h = rw (h, walk)
  walk_step E n pre [] c h = rw (h, walk)
  walk_step E n pre (d ∷ st) c h = rw (h, walk)
  walk_step R n pre st c h = rw (h, walk)
  walk_step S n pre st c h = rw (h, walk)

  -- one letter, then the rest
  turn : (a : Letter) (n : ℕ) (pre : List Step) (st : List ℕ) (c : ℕ) (rest : List Step) → letter_at lab opp g pre c ≡ a
      → onward a n ((a ＠ c) ∷ pre) st c ≡ rest → walk lab opp g (suc n) pre st c ≡ (a ＠ c) ∷ rest
  turn a n pre st c rest h e = walk_step a n pre st c h ∙ ap (λ (p : List Step). (a ＠ c) ∷ p) e

  abbrev pub Then : ℕ → ℕ → ℕ → List ℕ → List Step → Type 0
  Then k nv n st rest = (pre : List Step) → Visited lab g k nv pre → take_left n pre st ≡ rest

  pub walk_word : (k nv : ℕ) (w : Word) (rs : List ℕ) → HoldsWord opp k w rs → Tips lab k nv w
      → (pre : List Step) → Visited lab g k nv pre → (n : ℕ) (st : List ℕ) (rest : List Step)
      → Then (k + size w) (nv + news w) n st rest
      → walk lab opp g (size w + n) pre st (3 * k) ≡ word_steps k w ++ rest
  unfolding size news word_steps by_sides tips onward take_left
  walk_word k nv w_e rs h t pre v n st rest f =
      let z = holds_e opp k rs h in
      let a = letter_sides lab g opp k nv (head (tail rs)) (head rs) pre v t z.1.0.0 z.0.0.0 in
      let x = near (head rs) k z.0.1 in
      let y = near (head (tail rs)) k z.1.1 in
      let i : letter_at lab opp g pre (3 * k) ≡ E = rw (x, y) at a in
      let u : Visited lab g (k + 1) (nv + 0) ((E ＠ (3 * k)) ∷ pre) = rw add-zero (visit_old lab g E k nv pre refl v) in
      rw suc-add (turn E (0 + n) pre st (3 * k) rest i (rw zero-add (f ((E ＠ (3 * k)) ∷ pre) u)))
  walk_word k nv (w_c w) rs h t pre v n st rest f =
      let z = holds_c opp k w rs h in
      let i = letter_c lab g opp k nv pre v t.0 in
      let p = walk_word (k + 1) (nv + 1) w (rs ++ ((3 * k + 2) ∷ [])) z.1 t.1 ((C ＠ (3 * k)) ∷ pre)
      (visit_new lab g k nv pre t.0 v) n st rest
      (λ pr b. f pr (rw (← next_place k (size w), ← next_place nv (news w)) b)) in
      rw suc-add (turn C (size w + n) pre st (3 * k) (word_steps (k + 1) w ++ rest) i (rw (next_tip k, z.0.0) p))
  walk_word k nv (w_l w) rs h t pre v n st rest f =
      let z = holds_l opp k w rs h in
      let a = letter_sides lab g opp k nv (back rs) (3 * (k + 1)) pre v t.0 z.1.0.0 z.0.0 in
      let i : letter_at lab opp g pre (3 * k) ≡ L = rw (near (back rs) k z.1.1, late (k + 1) k (omega arith)) at a in
      let p = walk_word (k + 1) nv w (front rs) z.2 t.1 ((L ＠ (3 * k)) ∷ pre)
      (visit_old lab g L k nv pre refl v) n st rest (λ pr b. f pr (rw (← next_place k (size w)) b)) in
      rw suc-add (turn L (size w + n) pre st (3 * k) (word_steps (k + 1) w ++ rest) i (rw (next_tip k, z.0.0) p))
  walk_word k nv (w_r w) rs h t pre v n st rest f =
      let z = holds_r opp k w rs h in
      let a = letter_sides lab g opp k nv (3 * (k + 1)) (head rs) pre v t.0 z.0.0 z.1.0.0 in
      let i : letter_at lab opp g pre (3 * k) ≡ R = rw (near (head rs) k z.1.1, late (k + 1) k (omega arith)) at a in
      let p = walk_word (k + 1) nv w (tail rs) z.2 t.1 ((R ＠ (3 * k)) ∷ pre)
      (visit_old lab g R k nv pre refl v) n st rest (λ pr b. f pr (rw (← next_place k (size w)) b)) in
      rw suc-add (turn R (size w + n) pre st (3 * k) (word_steps (k + 1) w ++ rest) i (rw (previous_tip k, z.0.0) p))
  walk_word k nv (w_s a b) rs h t pre v n st rest f =
      let z = holds_s opp k a b rs h in
      let m = k + 1 + size a in
      let after = word_steps m b ++ rest in
      let u = letter_sides lab g opp k nv (3 * m) (3 * (k + 1)) pre v t.0 z.1.0 z.0.0 in
      let i : letter_at lab opp g pre (3 * k) ≡ S = rw (late m k (omega arith), late (k + 1) k (omega arith)) at u in
      let then-b : Then m (nv + news a) (size b + n) ((3 * m) ∷ st) after = λ pr h2.
      walk_word m (nv + news a) b (drop (width a - 1) rs) z.3 t.2 pr h2 n st rest
      (λ pr2 h3. f pr2 (rw (← next_place2 k (size a) (size b), ← add_assoc nv (news a) (news b)) h3)) in
      let p = walk_word (k + 1) nv a (take (width a - 1) rs) z.2 t.1 ((S ＠ (3 * k)) ∷ pre)
      (visit_old lab g S k nv pre refl v) (size b + n) ((3 * m) ∷ st) after then-b in
      rw (suc-add, add_assoc (size a) (size b) n, append_assoc (word_steps (k + 1) a) (word_steps m b) rest)
      (turn S (size a + (size b + n)) pre st (3 * k) (word_steps (k + 1) a ++ after) i
      (rw (next_tip k, z.0.0, previous_tip k, z.1.0) p))
