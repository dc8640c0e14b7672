-- Maps of 0, .., n - 1 that are one to one: no more values than places (`inj_bound`), every value met (`onto`), and
-- going on long enough leads back (`order`).
use mathlib.Core.List.{List, [], ◌∷◌}
use mathlib.Core.Logic.{◌≢◌, ◌⊎◌, inl, inr}
use mathlib.Core.Path.{◌∙◌, ◌≡◌, ap, refl, sym}
use Prim.Native.Nat.{◌+◌, ◌<◌, ◌≤◌, suc, zero, ℕ}
use native.Mathlib.Decide.{dec_lt, ℕ_discrete}
use native.Mathlib.Omega.{arith}
use lib.Dec.{eqb}
use lib.ListN.{length}
use Rattle.theory.proofs.Counting.{bit, bit_off, bit_refl, count, pigeon}
use Rattle.theory.specs.Lists.{iter}

-- g 0, .., g (m - 1), last first
unfoldable pub vals : (ℕ → ℕ) → ℕ → List ℕ
vals g zero = []
vals g (suc m) = g m ∷ vals g m

pub length_vals : (g : ℕ → ℕ) (m : ℕ) → length (vals g m) ≡ m
unfolding vals
length_vals g zero = refl
length_vals g (suc m) = ap suc (length_vals g m)

pub vals_off : (g : ℕ → ℕ) (x m : ℕ) → ((i : ℕ) → i < m → x ≢ g i) → count x (vals g m) ≡ 0
unfolding vals count
vals_off g x zero h = refl
vals_off g x (suc m) h =
    let a = bit_off x (g m) (h m (omega arith)) in
    let b = vals_off g x m (λ i q. h i (omega arith)) in
    omega arith

pub vals_once : (g : ℕ → ℕ) (x m : ℕ) → ((i j : ℕ) → i < m → j < m → g i ≡ g j → i ≡ j) → count x (vals g m) ≤ 1
unfolding vals count
vals_once g x zero h = omega arith
vals_once g x (suc m) h = go (ℕ_discrete x (g m)) (vals_once g x m (λ i j p q. h i j (omega arith) (omega arith)))
  where
    go : Dec (x ≡ g m) → count x (vals g m) ≤ 1 → bit (eqb x (g m)) + count x (vals g m) ≤ 1
    go (yes p) z =
        let same : (i : ℕ) → i < m → x ≡ g i → i ≡ m = λ i q o. h i m (omega arith) (omega arith) (sym o ∙ p) in
        let a = vals_off g x m (λ i q (o : x ≡ g i). let w = same i q o in omega arith) in
        let b : bit (eqb x (g m)) ≡ 1 = rw (← p) (bit_refl x) in
        omega arith
    go (no p) z = let a = bit_off x (g m) p in omega arith

pub vals_in : (x n : ℕ) → x < n → 1 ≤ count x (vals (λ i. i) n)
unfolding vals count
vals_in x zero h = absurd (omega arith)
vals_in x (suc n) h = go (ℕ_discrete x n) (vals_in x n)
  where
    go : Dec (x ≡ n) → (x < n → 1 ≤ count x (vals (λ i. i) n)) → 1 ≤ bit (eqb x n) + count x (vals (λ i. i) n)
    go (yes p) f = let b : bit (eqb x n) ≡ 1 = rw (← p) (bit_refl x) in omega arith
    go (no p) f = let below : x < n = omega arith in let z = f below in omega arith

pub vals_has : (f : ℕ → ℕ) (n j x : ℕ) → j < n → x ≡ f j → 1 ≤ count x (vals f n)
unfolding vals count
vals_has f zero j x h q = absurd (omega arith)
vals_has f (suc n) j x h q = go (ℕ_discrete j n) (λ z. vals_has f n j x z q)
  where
    go : Dec (j ≡ n) → (j < n → 1 ≤ count x (vals f n)) → 1 ≤ count x (f n ∷ vals f n)
    go (yes p) i = let w : x ≡ f n = q ∙ ap f p in let b = bit_refl (f n) in rw w (omega arith)
    go (no p) i = let b = i (omega arith) in omega arith

-- F2
pub inj_bound : (g : ℕ → ℕ) (m n : ℕ) → ((i : ℕ) → i < m → g i < n) → ((i j : ℕ) → i < m → j < m → g i ≡ g j → i ≡ j)
    → m ≤ n
inj_bound g m n lo inj =
    let a = pigeon (vals g m) (vals (λ i. i) n) all_in in
    let b = length_vals g m in
    let d = length_vals (λ i. i) n in
    omega arith
  where
    all_in : (x : ℕ) → count x (vals g m) ≤ count x (vals (λ i. i) n)
    all_in x = go (dec_lt x n)
      where
        go : Dec (x < n) → count x (vals g m) ≤ count x (vals (λ i. i) n)
        go (yes p) = let a = vals_once g x m inj in let b = vals_in x n p in omega arith
        go (no p) = let a = vals_off g x m (λ i q (o : x ≡ g i). let w = lo i q in omega arith) in omega arith

module _ (g : ℕ → ℕ) (n : ℕ) (lo : (x : ℕ) → x < n → g x < n) (inj : (x y : ℕ) → g x ≡ g y → x ≡ y) where
  pub iter_lo : (i x : ℕ) → x < n → iter g i x < n
  unfolding iter
  iter_lo zero x h = h
  iter_lo (suc i) x h = lo (iter g i x) (iter_lo i x h)

  abbrev Apart : ℕ → ℕ → Type 0
  Apart x m = (i j : ℕ) → i < j → j ≤ m → iter g i x ≢ iter g j x

  abbrev Returns : ℕ → Type 0
  Returns x = (r : ℕ) × (iter g (suc r) x ≡ x)

  grow : (x m : ℕ) → iter g (suc m) x ≢ x → Apart x m → Apart x (suc m)
  unfolding iter
  grow x m h a zero j p q = elim_j (dec_lt m j)
    where
      elim_j : Dec (m < j) → x ≢ iter g j x
      elim_j (yes u) = λ o. let w : j ≡ suc m = omega arith in h (sym (rw w at o))
      elim_j (no u) = a zero j p (omega arith)
  grow x m h a (suc i) zero p q = absurd (omega arith)
  grow x m h a (suc i) (suc j) p q = λ o. a i j (omega arith) (omega arith) (inj (iter g i x) (iter g j x) o)

  search : (x m : ℕ) → Returns x ⊎ Apart x m
  search x zero = inr (λ i j p q. absurd (omega arith))
  search x (suc m) = go (search x m) (ℕ_discrete (iter g (suc m) x) x)
    where
      go : Returns x ⊎ Apart x m → Dec (iter g (suc m) x ≡ x) → Returns x ⊎ Apart x (suc m)
      go (inl z) d = inl z
      go (inr a) (yes p) = inl (m, p)
      go (inr a) (no p) = inr (grow x m p a)

  -- F3
  pub order : (x : ℕ) → x < n → (r : ℕ) × (iter g (suc r) x ≡ x)
  order x h = go (search x n)
    where
      go : Returns x ⊎ Apart x n → (r : ℕ) × (iter g (suc r) x ≡ x)
      go (inl z) = z
      go (inr a) =
          let b = inj_bound (λ i. iter g i x) (suc n) n (λ i q. iter_lo i x h) (λ i j p q o. same i j p q o) in
          absurd (omega arith)
        where
          same : (i j : ℕ) → i < suc n → j < suc n → iter g i x ≡ iter g j x → i ≡ j
          same i j p q o = pick3 (dec_lt i j) (dec_lt j i)
            where
              pick3 : Dec (i < j) → Dec (j < i) → i ≡ j
              pick3 (yes u) w = absurd (a i j u (omega arith) o)
              pick3 (no u) (yes w) = absurd (a j i w (omega arith) (sym o))
              pick3 (no u) (no w) = omega arith

pub vals_find : (f : ℕ → ℕ) (y n : ℕ) → 1 ≤ count y (vals f n) → (i : ℕ) × (i < n) × (f i ≡ y)
unfolding vals count
vals_find f y zero h = absurd (omega arith)
vals_find f y (suc n) h = go (ℕ_discrete y (f n)) (λ z. vals_find f y n z)
  where
    go : Dec (y ≡ f n) → (1 ≤ count y (vals f n) → (i : ℕ) × (i < n) × (f i ≡ y)) → (i : ℕ) × (i < suc n) × (f i ≡ y)
    go (yes q) k = (n, omega arith, sym q)
    go (no q) k = let z = bit_off y (f n) q in let m = k (omega arith) in (m.0, omega arith, m.2)

-- F4
pub onto : (f : ℕ → ℕ) (n : ℕ) → ((i : ℕ) → i < n → f i < n) → ((i j : ℕ) → i < n → j < n → f i ≡ f j → i ≡ j)
    → (y : ℕ) → y < n → (i : ℕ) × (i < n) × (f i ≡ y)
unfolding count
onto f n low inj y h = go (dec_lt 0 (count y (vals f n)))
  where
    all_in : count y (vals f n) ≡ 0 → (z : ℕ) → count z (y ∷ vals f n) ≤ count z (vals (λ i. i) n)
    all_in m z = at (dec_lt z n) (ℕ_discrete z y)
      where
        at : Dec (z < n) → Dec (z ≡ y) → count z (y ∷ vals f n) ≤ count z (vals (λ i. i) n)
        at (yes p) (yes q) =
            let a : bit (eqb z y) ≡ 1 = rw (← q) (bit_refl z) in
            let b : count z (vals f n) ≡ 0 = rw q m in
            let d = vals_in z n p in
            omega arith
        at (yes p) (no q) = let a = bit_off z y q in let b = vals_once f z n inj in let d = vals_in z n p in omega arith
        at (no p) q =
            let a = bit_off z y (λ (o : z ≡ y). omega arith) in
            let b = vals_off f z n (λ i k (o : z ≡ f i). let u = low i k in omega arith) in
            omega arith

    go : Dec (0 < count y (vals f n)) → (i : ℕ) × (i < n) × (f i ≡ y)
    go (yes m) = vals_find f y n m
    go (no m) =
        let p = pigeon (y ∷ vals f n) (vals (λ i. i) n) (all_in (omega arith)) in
        let a = length_vals f n in
        let b = length_vals (λ i. i) n in
        absurd (omega arith)
