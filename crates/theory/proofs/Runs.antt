-- The walk that skips waiting lefts seen meanwhile (`Run`). E7: where it has as many Es as Ss and one more, nothing is
-- skipped.
--
--   Drop pre st rest     rest is what is left of the waiting lefts st after dropping some that are seen
--   Run pre st x q       from corner x, with st waiting, the walk makes the steps q and ends
--   count_e count_s        the Es and Ss of some steps
--   loose                a run has at most one E more than Ss and waiting lefts
--   tight                if it has as many, it is the walk of document 01
--   Follows w x q        the steps q from corner x follow the word w
--   forest               such a run follows a word, and then one word for each waiting left
use mathlib.Core.Bool.{false, true}
use mathlib.Core.List.{List, [], ◌++◌, ◌∷◌, append_assoc}
use mathlib.Core.Path.{◌∙◌, ◌≡◌, ap, refl, sym}
use Prim.Native.Nat.{◌+◌, ◌≤◌, suc, zero, ℕ}
use native.Mathlib.Omega.{arith}
use lib.ListN.{length}
use Rattle.theory.specs.Corner.{left, right}
use Rattle.theory.specs.Walk.{Step, ◌＠◌, letter_at, seen, walk}
use Rattle.theory.specs.Word.{Word, w_c, w_e, w_l, w_r, w_s}
use Rattle.theory.specs.declared.Letter.{Letter}
use Rattle.theory.specs.declared.Letter.TheVariants.{C, E, L, R, S}

pub data Drop (pre : List Step) : List ℕ → List ℕ → Type 0 where
  stay : {st : List ℕ} → Drop pre st st
  skip : {d : ℕ} {st rest : List ℕ} → seen pre d ≡ true → Drop pre st rest → Drop pre (d ∷ st) rest

drop_length : {pre : List Step} {st rest : List ℕ} → Drop pre st rest → length rest ≤ length st
drop_length stay = omega arith
drop_length (skip h d) = let i = drop_length d in omega arith

drop_same : {pre : List Step} {st rest : List ℕ} → Drop pre st rest → length st ≤ length rest → st ≡ rest
drop_same stay h = refl
drop_same (skip q d) h = let i = drop_length d in absurd (omega arith)

module _ (lab opp : ℕ → ℕ) (g : ℕ) where
  pub data Run : List Step → List ℕ → ℕ → List Step → Type 0 where
    new : {pre : List Step} {st : List ℕ} {x : ℕ} {q : List Step} → letter_at lab opp g pre x ≡ C
        → Run ((C ＠ x) ∷ pre) st (right opp x) q → Run pre st x ((C ＠ x) ∷ q)
    left_done : {pre : List Step} {st : List ℕ} {x : ℕ} {q : List Step} → letter_at lab opp g pre x ≡ L
        → Run ((L ＠ x) ∷ pre) st (right opp x) q → Run pre st x ((L ＠ x) ∷ q)
    right_done : {pre : List Step} {st : List ℕ} {x : ℕ} {q : List Step} → letter_at lab opp g pre x ≡ R
        → Run ((R ＠ x) ∷ pre) st (left opp x) q → Run pre st x ((R ＠ x) ∷ q)
    split : {pre : List Step} {st : List ℕ} {x : ℕ} {q : List Step} → letter_at lab opp g pre x ≡ S
        → Run ((S ＠ x) ∷ pre) (left opp x ∷ st) (right opp x) q → Run pre st x ((S ＠ x) ∷ q)
    resume : {pre : List Step} {st rest : List ℕ} {x d : ℕ} {q : List Step} → letter_at lab opp g pre x ≡ E
        → Drop ((E ＠ x) ∷ pre) st (d ∷ rest) → seen ((E ＠ x) ∷ pre) d ≡ false
        → Run ((E ＠ x) ∷ pre) rest d q → Run pre st x ((E ＠ x) ∷ q)
    end : {pre : List Step} {st : List ℕ} {x : ℕ} → letter_at lab opp g pre x ≡ E → Drop ((E ＠ x) ∷ pre) st []
        → Run pre st x ((E ＠ x) ∷ [])

unfoldable pub count_e : List Step → ℕ
count_e [] = 0
count_e ((C ＠ d) ∷ q) = count_e q
count_e ((L ＠ d) ∷ q) = count_e q
count_e ((E ＠ d) ∷ q) = 1 + count_e q
count_e ((R ＠ d) ∷ q) = count_e q
count_e ((S ＠ d) ∷ q) = count_e q

unfoldable pub count_s : List Step → ℕ
count_s [] = 0
count_s ((C ＠ d) ∷ q) = count_s q
count_s ((L ＠ d) ∷ q) = count_s q
count_s ((E ＠ d) ∷ q) = count_s q
count_s ((R ＠ d) ∷ q) = count_s q
count_s ((S ＠ d) ∷ q) = 1 + count_s q

module _ (lab opp : ℕ → ℕ) (g : ℕ) where
  pub loose : {pre q : List Step} {st : List ℕ} {x : ℕ} → Run lab opp g pre st x q → count_e q ≤ count_s q + length st + 1
  unfolding count_e count_s
  loose (new h z) = loose z
  loose (left_done h z) = loose z
  loose (right_done h z) = loose z
  loose (split h z) = let i = loose z in omega arith
  loose (resume h d u z) = let i = loose z in let j = drop_length d in omega arith
  loose (end h d) = omega arith

  pub tight : {pre q : List Step} {st : List ℕ} {x : ℕ} → Run lab opp g pre st x q → count_e q ≡ count_s q + length st + 1
      → (n : ℕ) → length q ≤ n → walk lab opp g n pre st x ≡ q
  unfolding count_e count_s walk
  tight (new h z) t zero b = absurd (omega arith)
  tight (new h z) t (suc n) b = rw (h, walk, tight z t n (omega arith))
  tight (left_done h z) t zero b = absurd (omega arith)
  tight (left_done h z) t (suc n) b = rw (h, walk, tight z t n (omega arith))
  tight (right_done h z) t zero b = absurd (omega arith)
  tight (right_done h z) t (suc n) b = rw (h, walk, tight z t n (omega arith))
  tight (split h z) t zero b = absurd (omega arith)
  tight (split h z) t (suc n) b = rw (h, walk, tight z (omega arith) n (omega arith))
  tight (resume h d u z) t zero b = absurd (omega arith)
  tight (resume h d u z) t (suc n) b =
      let i = loose z in
      let j = drop_length d in
      let k = drop_same d (omega arith) in
      rw (h, walk, k, tight z (omega arith) n (omega arith))
  tight (end h d) t zero b = absurd (omega arith)
  tight (end h d) t (suc n) b = let k = drop_same d (omega arith) in rw (h, walk, k)

module _ (opp : ℕ → ℕ) where
  -- q is the letter a at x, and q₁ follows
  abbrev First : Letter → ℕ → List Step → List Step → Type 0
  First a x q₁ q = q ≡ (a ＠ x) ∷ q₁

  abbrev pub Follows : Word → ℕ → List Step → Type 0
  Follows w_e x q = First E x [] q
  Follows (w_c w) x q = (q₁ : List Step) × First C x q₁ q × Follows w (right opp x) q₁
  Follows (w_l w) x q = (q₁ : List Step) × First L x q₁ q × Follows w (right opp x) q₁
  Follows (w_r w) x q = (q₁ : List Step) × First R x q₁ q × Follows w (left opp x) q₁
  Follows (w_s a b) x q =
      (q₁ : List Step) × (q₂ : List Step) × First S x (q₁ ++ q₂) q × Follows a (right opp x) q₁ × Follows b
      (left opp x) q₂

  abbrev pub FollowAll : List Word → List ℕ → List Step → Type 0
  FollowAll [] [] q = q ≡ []
  FollowAll [] (x ∷ xs) q = ⊥
  FollowAll (w ∷ ws) [] q = ⊥
  FollowAll (w ∷ ws) (x ∷ xs) q =
      (q₁ : List Step) × (q₂ : List Step) × (q ≡ q₁ ++ q₂) × Follows w x q₁ × FollowAll ws xs q₂

  abbrev pub Forest : ℕ → List ℕ → List Step → Type 0
  Forest x st q = (w : Word) × (ws : List Word) × FollowAll (w ∷ ws) (x ∷ st) q

  abbrev put : Letter → ℕ → List Step → List Step
  put a x q = (a ＠ x) ∷ q

  -- one letter in front of a forest
  front_one : (a : Letter) (f : Word → Word) (x y : ℕ)
      → ((w : Word) (q : List Step) → Follows w y q → Follows (f w) x (put a x q))
      → (st : List ℕ) (q : List Step) → Forest y st q → Forest x st (put a x q)
  front_one a f x y g st q (w, ws, (q₁, q₂, h, k, m)) = (f w, ws, (put a x q₁, q₂, ap (put a x) h, g w q₁ k, m))

  front_s : (x : ℕ) (st : List ℕ) (q : List Step) → Forest (right opp x) (left opp x ∷ st) q → Forest x st (put S x q)
  front_s x st q (a, [], (q₁, q₂, h, k, m)) = absurd m
  front_s x st q (a, b ∷ ws, (q₁, q₂, h, k, (q₃, q₄, o, u, v))) =
      let e = h ∙ ap (λ (y : List Step). q₁ ++ y) o ∙ sym (append_assoc q₁ q₃ q₄) in
      (w_s a b, ws, (put S x (q₁ ++ q₃), q₄, ap (put S x) e, (q₁, q₃, refl, k, u), v))

  front_e : (x d : ℕ) (st : List ℕ) (q : List Step) → Forest d st q → Forest x (d ∷ st) (put E x q)
  front_e x d st q (w, ws, m) = (w_e, w ∷ ws, (put E x [], q, refl, refl, m))

module _ (lab opp : ℕ → ℕ) (g : ℕ) where
  pub forest : {pre q : List Step} {st : List ℕ} {x : ℕ} → Run lab opp g pre st x q
      → count_e q ≡ count_s q + length st + 1
      → Forest opp x st q
  unfolding count_e count_s
  forest (new {st = st} {x = x} {q = q} h z) t =
      front_one opp C w_c x (right opp x) (λ w r k. (r, refl, k)) st q (forest z t)
  forest (left_done {st = st} {x = x} {q = q} h z) t =
      front_one opp L w_l x (right opp x) (λ w r k. (r, refl, k)) st q (forest z t)
  forest (right_done {st = st} {x = x} {q = q} h z) t =
      front_one opp R w_r x (left opp x) (λ w r k. (r, refl, k)) st q (forest z t)
  forest (split {st = st} {x = x} {q = q} h z) t = front_s opp x st q (forest z (omega arith))
  forest (resume {st = st} {rest = rest} {x = x} {d = d} {q = q} h dr u z) t =
      let i = loose lab opp g z in
      let j = drop_length dr in
      let k = drop_same dr (omega arith) in
      rw k (front_e opp x d rest q (forest z (omega arith)))
  forest (end {x = x} h d) t = let k = drop_same d (omega arith) in rw k (w_e, [], ((E ＠ x) ∷ [], [], refl, refl, refl))
