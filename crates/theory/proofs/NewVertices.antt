-- The tips of the Cs of a word, in order: where N lists them from nv on, it names the new vertices (`names_of`).
use mathlib.Core.List.{List, [], ◌++◌, ◌∷◌}
use mathlib.Core.Path.{◌∙◌, ◌≡◌, ap, refl}
use Prim.Native.Nat.{◌*◌, ◌+◌, ◌<◌, suc, ℕ}
use native.Mathlib.Nat.{add-zero}
use native.Mathlib.Omega.{arith}
use lib.ListN.{get_or-append, get_or, length, length-append}
use lib.Seq.{get_or-append-add}
use Rattle.theory.proofs.LoopFits.{Names}
use Rattle.theory.specs.Word.{Word, news, size, w_c, w_e, w_l, w_r, w_s}

unfoldable pub tips_of : (ℕ → ℕ) → ℕ → Word → List ℕ
tips_of M k w_e = []
tips_of M k (w_c w) = M (3 * k) ∷ tips_of M (k + 1) w
tips_of M k (w_l w) = tips_of M (k + 1) w
tips_of M k (w_r w) = tips_of M (k + 1) w
tips_of M k (w_s a b) = tips_of M (k + 1) a ++ tips_of M (k + 1 + size a) b

length_tips : (M : ℕ → ℕ) (k : ℕ) (w : Word) → length (tips_of M k w) ≡ news w
unfolding tips_of news
length_tips M k w_e = refl
length_tips M k (w_c w) = ap suc (length_tips M (k + 1) w)
length_tips M k (w_l w) = length_tips M (k + 1) w
length_tips M k (w_r w) = length_tips M (k + 1) w
length_tips M k (w_s a b) =
    let i = length_tips M (k + 1) a in
    let j = length_tips M (k + 1 + size a) b in
    let m = length-append (tips_of M (k + 1) a) (tips_of M (k + 1 + size a) b) in
    omega arith

pub names_of : (M N : ℕ → ℕ) (w : Word) (k nv : ℕ) → ((i : ℕ) → i < news w → N (nv + i) ≡ get_or (tips_of M k w) i 0)
    → Names M N k nv w
unfolding tips_of news
names_of M N w_e k nv h = tt
names_of M N (w_c w) k nv h = (
  rw (add-zero nv) at (h 0 (omega arith)),
  names_of M N w (k + 1) (nv + 1)
      (λ i b. let u : nv + 1 + i ≡ nv + suc i = omega arith in rw u (h (suc i) (omega arith))),
)
names_of M N (w_l w) k nv h = names_of M N w (k + 1) nv h
names_of M N (w_r w) k nv h = names_of M N w (k + 1) nv h
names_of M N (w_s a b) k nv h = (names_of M N a (k + 1) nv one, names_of M N b (k + 1 + size a) (nv + news a) two)
  where
    one : (i : ℕ) → i < news a → N (nv + i) ≡ get_or (tips_of M (k + 1) a) i 0
    one i q =
        let n = length_tips M (k + 1) a in
        h i (omega arith) ∙ get_or-append (tips_of M (k + 1) a) (tips_of M (k + 1 + size a) b) 0 i (omega arith)

    two : (i : ℕ) → i < news b → N (nv + news a + i) ≡ get_or (tips_of M (k + 1 + size a) b) i 0
    two i q =
        let ta = tips_of M (k + 1) a in
        let tb = tips_of M (k + 1 + size a) b in
        let n = length_tips M (k + 1) a in
        let u : nv + news a + i ≡ nv + (length (tips_of M (k + 1) a) + i) = omega arith in
        rw u (h (length ta + i) (omega arith) ∙ get_or-append-add ta tb i 0)
