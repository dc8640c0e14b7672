-- E6 (`marks_bound`): every vertex gets marked, so v is at most 2 and the number of Cs. With E5 and Euler's count
-- t + 4 = 2v there are as many Es as Ss and one more (`balanced`, E7): no waiting left is ever skipped. So the walk of
-- document 01 is the run (`literal`), and its steps follow a word (`word_of`).
--
-- This is the one file that uses Euler's count; `vertex_count` hands it on to the word. Of rule 13 only that every
-- vertex has a corner is used (`covered`), here and in `unnaming`.
use mathlib.Core.List.{List, [], ◌++◌, ◌∷◌, append-nil}
use mathlib.Core.Logic.{◌⊎◌, inl, inr}
use mathlib.Core.Path.{◌∙◌, ◌≡◌, ap, refl, subst, sym}
use Prim.Native.Nat.{◌*◌, ◌+◌, ◌-◌, ◌<◌, ◌≤◌, suc, ℕ}
use native.Mathlib.Decide.{dec_lt, ℕ_discrete}
use native.Mathlib.Omega.{arith}
use lib.ListN.{length}
use Rattle.theory.proofs.ByTime.{Ahead, Mark, mark_longer}
use Rattle.theory.proofs.Carry.{mate, mate_mate}
use Rattle.theory.proofs.CornerLaws.{three}
use Rattle.theory.proofs.Counting.{bit_refl, count, pigeon}
use Rattle.theory.proofs.Facts.{Side}
use Rattle.theory.proofs.Injections.{length_vals, vals, vals_off, vals_once}
use Rattle.theory.proofs.LetterLaws.{letters_differ}
use Rattle.theory.proofs.Neighbours.{later}
use Rattle.theory.proofs.Runs.{Follows, Forest, count_e, count_s, forest, loose, tight}
use Rattle.theory.proofs.UpSides.{down_at, downs, downs_length, more_down, up_at, ups, ups_length}
use Rattle.theory.proofs.WholeRun.{Walked, ahead_all, steps, steps_length, the_run, walked}
use Rattle.theory.proofs.WordLaws.{width_news}
use Rattle.theory.specs.Corner.{next, previous}
use Rattle.theory.specs.Mesh.{Sphere}
use Rattle.theory.specs.Walk.{Step, ◌＠◌, tips, walk}
use Rattle.theory.specs.Word.{Sound, Word, news, size, width}
use Rattle.theory.specs.declared.Letter.{Letter}
use Rattle.theory.specs.declared.Letter.TheVariants.{C, E, L, R, S}

module _ (lab : ℕ → ℕ) (sp : ℕ → Letter) (co : ℕ → ℕ) where
  -- sides and letters, counted
  counts : (q : List Step) (k : ℕ) → Ahead sp co k q
      → length (downs sp k (length q)) + 2 * length (tips lab q) + 2 * count_s q
      ≡ length (ups sp k (length q)) + length q + 2 * count_e q
  unfolding tips count_s count_e up_at down_at ups downs
  counts [] k h = refl
  counts ((C ＠ d) ∷ q) k h =
      let i = counts q (suc k) h.2 in
      let a = ups_length sp k (length q) C h.0 in
      let b = downs_length sp k (length q) C h.0 in
      omega arith
  counts ((L ＠ d) ∷ q) k h =
      let i = counts q (suc k) h.2 in
      let a = ups_length sp k (length q) L h.0 in
      let b = downs_length sp k (length q) L h.0 in
      omega arith
  counts ((E ＠ d) ∷ q) k h =
      let i = counts q (suc k) h.2 in
      let a = ups_length sp k (length q) E h.0 in
      let b = downs_length sp k (length q) E h.0 in
      omega arith
  counts ((R ＠ d) ∷ q) k h =
      let i = counts q (suc k) h.2 in
      let a = ups_length sp k (length q) R h.0 in
      let b = downs_length sp k (length q) R h.0 in
      omega arith
  counts ((S ＠ d) ∷ q) k h =
      let i = counts q (suc k) h.2 in
      let a = ups_length sp k (length q) S h.0 in
      let b = downs_length sp k (length q) S h.0 in
      omega arith

  tips_has : (q : List Step) (k : ℕ) → Ahead sp co k q → (j : ℕ) → k ≤ j → j < k + length q → sp j ≡ C
      → 1 ≤ count (lab (co j)) (tips lab q)
  unfolding tips count
  tips_has [] k h j a b c = absurd (omega arith)
  tips_has ((x ＠ d) ∷ q) k h j a b c = go x h.0 (ℕ_discrete j k) (λ z. tips_has q (suc k) h.2 j z (omega arith) c)
    where
      here_c : (y : Letter) → sp k ≡ y → j ≡ k → y ≡ C
      here_c y p e = sym p ∙ ap sp (sym e) ∙ c

      go : (y : Letter) → sp k ≡ y → Dec (j ≡ k) → (suc k ≤ j → 1 ≤ count (lab (co j)) (tips lab q))
          → 1 ≤ count (lab (co j)) (tips lab ((y ＠ d) ∷ q))
      go C p (yes e) f =
          let u : lab (co j) ≡ lab d = ap (λ (i : ℕ). lab (co i)) e ∙ ap lab h.1 in
          let o = bit_refl (lab d) in
          rw u (omega arith)
      go L p (yes e) f = absurd (letters_differ L C refl (here_c L p e))
      go E p (yes e) f = absurd (letters_differ E C refl (here_c E p e))
      go R p (yes e) f = absurd (letters_differ R C refl (here_c R p e))
      go S p (yes e) f = absurd (letters_differ S C refl (here_c S p e))
      go C p (no e) f = let z = f (omega arith) in omega arith
      go L p (no e) f = f (omega arith)
      go E p (no e) f = f (omega arith)
      go R p (no e) f = f (omega arith)
      go S p (no e) f = f (omega arith)

module _ {lab opp : ℕ → ℕ} {t v g : ℕ} {mesh : Sphere lab opp t v g} {sp : ℕ → Letter} {co : ℕ → ℕ}
    (w : Walked mesh sp co) where
  abbrev pub Marked : ℕ → ℕ → Type 0
  Marked = Mark lab g sp co

  -- every vertex is marked in the end
  pub covered : (u : ℕ) → u < v → Marked t u
  covered u h = go (mesh.present u h)
    where
      stays : (j y : ℕ) → j < t → Marked j y → Marked t y
      stays j y l = mark_longer lab g sp co j t y (omega arith)

      tip : (j : ℕ) → j < t → (a : Letter) → sp j ≡ a → Side mesh sp co t j a → Marked t (lab (co j))
      tip j l C q s = inr (inr (j, l, q, refl))
      tip j l L q s = stays j (lab (co j)) l s.0
      tip j l E q s = stays j (lab (co j)) l s.0
      tip j l R q s = stays j (lab (co j)) l s.0
      tip j l S q s = stays j (lab (co j)) l s.0

      at : (j c : ℕ) → j < t → (c ≡ co j) ⊎ ((c ≡ next (co j)) ⊎ (c ≡ previous (co j))) → Marked t (lab c)
      at j c b (inl z) = rw z (tip j b (sp j) refl (w.facts j b).side)
      at j c b (inr (inl z)) = rw z (stays j (lab (next (co j))) b (w.facts j b).left_end)
      at j c b (inr (inr z)) = rw z (stays j (lab (previous (co j))) b (w.facts j b).right_end)

      go : (c : ℕ) × (c < 3 * t) × (lab c ≡ u) → Marked t u
      go (c, l, q) = let z = w.seen_all c l in rw (← q) (at z.0 c z.1 (three c (co z.0) z.2))

  module _ (q : List Step) (ahead : Ahead sp co 0 q) (n : length q ≡ t) where
    -- E6
    marks_bound : v ≤ 2 + length (tips lab q)
    unfolding count
    marks_bound =
        let p = pigeon (vals (λ i. i) v) (lab (next g) ∷ (lab (previous g) ∷ tips lab q)) at in
        let a = length_vals (λ i. i) v in
        omega arith
      where
        has : (u : ℕ) → Marked t u → 1 ≤ count u (lab (next g) ∷ (lab (previous g) ∷ tips lab q))
        has u (inl e) = let b = bit_refl (lab (next g)) in rw e (omega arith)
        has u (inr (inl e)) = let b = bit_refl (lab (previous g)) in rw e (omega arith)
        has u (inr (inr (j, l, c, e))) =
            let b = tips_has lab sp co q 0 ahead j (omega arith) (omega arith) c in
            let a = rw (← e) at b in
            omega arith

        at : (u : ℕ) → count u (vals (λ i. i) v) ≤ count u (lab (next g) ∷ (lab (previous g) ∷ tips lab q))
        at u = go (dec_lt u v)
          where
            go : Dec (u < v) → count u (vals (λ i. i) v) ≤ count u (lab (next g) ∷ (lab (previous g) ∷ tips lab q))
            go (yes l) =
                let a = vals_once (λ i. i) u v (λ i j p o e. e) in
                let b = has u (covered u l) in
                omega arith
            go (no l) = let a = vals_off (λ i. i) u v (λ i o e. omega arith) in omega arith

    -- E5 in letters
    enough : (m : ℕ) → t ≡ suc m → count_s q + 1 ≤ count_e q
    enough m e =
        let a = more_down sp m (mate w) (mate_mate w) (later w m e) in
        let b = counts lab sp co q 0 ahead in
        let d = marks_bound in
        let f = mesh.euler in
        let len : length q ≡ suc m = n ∙ e in
        let u = ap (λ (i : ℕ). length (ups sp 0 i)) len in
        let o = ap (λ (i : ℕ). length (downs sp 0 i)) len in
        omega arith

module _ {lab opp : ℕ → ℕ} {t v g : ℕ} (mesh : Sphere lab opp t v g) where
  balanced : count_e (steps mesh) ≡ count_s (steps mesh) + length {A = ℕ} [] + 1
  balanced =
      let a = loose lab opp g (the_run mesh) in
      let z = mesh.gate in
      let b = enough (walked mesh) (steps mesh) (ahead_all (steps mesh)) (steps_length mesh) (t - 1) (omega arith) in
      omega arith

  pub literal : walk lab opp g t [] [] g ≡ steps mesh
  literal = let n = steps_length mesh in tight lab opp g (the_run mesh) balanced t (omega arith)

  pub word_of : (x : Word) × Follows opp x g (steps mesh)
  word_of = go (forest lab opp g (the_run mesh) balanced)
    where
      go : Forest opp g [] (steps mesh) → (x : Word) × Follows opp x g (steps mesh)
      go (x, [], (q₁, q₂, h, k, n)) =
          (x, subst (Follows opp x g) (sym (h ∙ ap (λ (y : List Step). q₁ ++ y) n ∙ append-nil q₁)) k)
      go (x, y ∷ ws, (q₁, q₂, h, k, n)) = absurd n

  pub vertex_count : (x : Word) → Sound x → width x ≡ 2 → size x ≡ t → 2 + news x ≡ v
  vertex_count x o two n = let a = width_news x o in let b = mesh.euler in omega arith
