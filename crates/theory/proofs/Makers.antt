-- Which corner makes a vertex: the tip of a C, in the order of the string (`makers`).
--
--   Makers f k nv w    f gives the corner that makes each of the word's new vertices
--   makers_at          a C stands in the string at each of them
--   born               that corner carries the vertex
use mathlib.Core.List.{List, [], ◌++◌, ◌∷◌, append_assoc}
use mathlib.Core.Path.{◌∙◌, ◌≡◌, ap, refl}
use Prim.Native.Nat.{◌*◌, ◌+◌, ◌<◌, ◌≤◌, ℕ}
use native.Mathlib.Omega.{arith}
use lib.ListN.{drop, get_or, length, length-append}
use Rattle.theory.proofs.Each.{EachN, each_n_append}
use Rattle.theory.proofs.Loops.{Tips, Up, up_more}
use Rattle.theory.proofs.TableRows.{at_head, at_part}
use Rattle.theory.proofs.WordLaws.{length_spell}
use Rattle.theory.specs.Letter.{byte}
use Rattle.theory.specs.Word.{Word, news, size, spell, w_c, w_e, w_l, w_r, w_s}
use Rattle.theory.specs.declared.Letter.TheVariants.{C, L, R, S}

-- the tips of the Cs of a word
unfoldable pub makers : ℕ → Word → List ℕ
makers k w_e = []
makers k (w_c w) = (3 * k) ∷ makers (k + 1) w
makers k (w_l w) = makers (k + 1) w
makers k (w_r w) = makers (k + 1) w
makers k (w_s a b) = makers (k + 1) a ++ makers (k + 1 + size a) b

pub length_makers : (k : ℕ) (w : Word) → length (makers k w) ≡ news w
unfolding makers news
length_makers k w_e = refl
length_makers k (w_c w) = let i = length_makers (k + 1) w in omega arith
length_makers k (w_l w) = length_makers (k + 1) w
length_makers k (w_r w) = length_makers (k + 1) w
length_makers k (w_s a b) =
    let i = length_makers (k + 1) a in
    let j = length_makers (k + 1 + size a) b in
    let p = length-append (makers (k + 1) a) (makers (k + 1 + size a) b) in
    omega arith

-- f gives the corner that makes each new vertex
abbrev pub Makers : (ℕ → ℕ) → ℕ → ℕ → Word → Type 0
Makers f k nv w_e = Unit {0}
Makers f k nv (w_c w) = (f nv ≡ 3 * k) × Makers f (k + 1) (nv + 1) w
Makers f k nv (w_l w) = Makers f (k + 1) nv w
Makers f k nv (w_r w) = Makers f (k + 1) nv w
Makers f k nv (w_s a b) = Makers f (k + 1) nv a × Makers f (k + 1 + size a) (nv + news a) b

pub makers_of : (xs : List ℕ) (k nv : ℕ) (w : Word) (rest : List ℕ) → drop nv xs ≡ makers k w ++ rest
    → Makers (λ y. get_or xs y 0) k nv w
unfolding makers
makers_of xs k nv w_e rest h = tt
makers_of xs k nv (w_c w) rest h =
    let i = at_head xs nv (3 * k) (makers (k + 1) w ++ rest) h in
    (i.0, makers_of xs (k + 1) (nv + 1) w rest i.1)
makers_of xs k nv (w_l w) rest h = makers_of xs (k + 1) nv w rest h
makers_of xs k nv (w_r w) rest h = makers_of xs (k + 1) nv w rest h
makers_of xs k nv (w_s a b) rest h =
    let ma = makers (k + 1) a in
    let mb = makers (k + 1 + size a) b in
    let j : drop nv xs ≡ ma ++ (mb ++ rest) = h ∙ append_assoc ma mb rest in
    let past = at_part xs nv (news a) ma (mb ++ rest) (length_makers (k + 1) a) j in
    (makers_of xs (k + 1) nv a (mb ++ rest) j, makers_of xs (k + 1 + size a) (nv + news a) b rest past)

-- c is the tip of a C of the string xs, at a position below t
abbrev pub AtC : List ℕ → ℕ → ℕ → Type 0
AtC xs t c = (k : ℕ) × (k < t) × (c ≡ 3 * k) × (get_or xs k 0 ≡ byte C)

-- in a string that goes on with the word
pub makers_at : (xs : List ℕ) (t k : ℕ) (w : Word) (rest : List ℕ) → k + size w ≤ t → drop k xs ≡ spell w ++ rest
    → EachN (AtC xs t) (makers k w)
unfolding makers spell size
makers_at xs t k w_e rest m h = tt
makers_at xs t k (w_c w) rest m h =
    let i = at_head xs k (byte C) (spell w ++ rest) h in
    ((k, omega arith, refl, i.0), makers_at xs t (k + 1) w rest (omega arith) i.1)
makers_at xs t k (w_l w) rest m h =
    makers_at xs t (k + 1) w rest (omega arith) (at_head xs k (byte L) (spell w ++ rest) h).1
makers_at xs t k (w_r w) rest m h =
    makers_at xs t (k + 1) w rest (omega arith) (at_head xs k (byte R) (spell w ++ rest) h).1
makers_at xs t k (w_s a b) rest m h =
    let i = at_head xs k (byte S) ((spell a ++ spell b) ++ rest) h in
    let j : drop (k + 1) xs ≡ spell a ++ (spell b ++ rest) = i.1 ∙ append_assoc (spell a) (spell b) rest in
    let past = at_part xs (k + 1) (size a) (spell a) (spell b ++ rest) (length_spell a) j in
    each_n_append (AtC xs t) (makers (k + 1) a) (makers (k + 1 + size a) b)
    (makers_at xs t (k + 1) a (spell b ++ rest) (omega arith) j)
    (makers_at xs t (k + 1 + size a) b rest (omega arith) past)

module _ (lab home : ℕ → ℕ) (t : ℕ) where
  abbrev pub Born : ℕ → Type 0
  Born y = (home y < 3 * t) × (lab (home y) ≡ y)

  born_at : (k nv : ℕ) → k < t → home nv ≡ 3 * k → lab (3 * k) ≡ nv → Born nv
  born_at k nv h p q = (rw p (omega arith), ap lab p ∙ q)

  pub born : (k nv : ℕ) (w : Word) → k + size w ≤ t → Makers home k nv w → Tips lab k nv w → Up Born nv
      → Up Born (nv + news w)
  unfolding size news
  born k nv w_e h n q u = λ y p. u y (omega arith)
  born k nv (w_c w) h n q u =
      let v = up_more Born nv u (born_at k nv (omega arith) n.0 q.0) in
      let i = born (k + 1) (nv + 1) w (omega arith) n.1 q.1 v in
      λ y p. i y (omega arith)
  born k nv (w_l w) h n q u = born (k + 1) nv w (omega arith) n q.1 u
  born k nv (w_r w) h n q u = born (k + 1) nv w (omega arith) n q.1 u
  born k nv (w_s a b) h n q u =
      let i = born (k + 1) nv a (omega arith) n.0 q.1 u in
      let j = born (k + 1 + size a) (nv + news a) b (omega arith) n.1 q.2 i in
      λ y p. j y (omega arith)
