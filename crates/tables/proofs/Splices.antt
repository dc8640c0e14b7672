-- S before the words that stand in the work space: it makes one word of the first two (`standing_s`).
--
--   on_s off_s            the work space after an S, and the entries that it leaves
--   right_held left_held   the two branches as they stand then
use mathlib.Core.List.{List, [], ◌++◌, ◌∷◌}
use mathlib.Core.Logic.{◌≢◌}
use mathlib.Core.Path.{◌∙◌, ◌≡◌, refl, subst, sym}
use Prim.Native.Nat.{◌*◌, ◌+◌, ◌<◌, ◌≤◌, suc, ℕ}
use native.Mathlib.Omega.{arith}
use lib.ListN.{get_or, length, length-set, set}
use lib.Seq.{get_or-set_other, get_or-set_same}
use Rattle.tables.proofs.Chained.{chained_append, chained_same}
use Rattle.tables.proofs.Corners.{each_same, first_in, inner_in, inner_not_open, join_left, join_off, join_right, length_join, open_in, opens_once, rest_not_first, some_open}
use Rattle.tables.proofs.Held.{Held, Standing, Waits, held_same, recorded_same, waits_same}
use Rattle.tables.specs.Fold.{Fold, fold_s, spliced}
use Rattle.theory.proofs.Chain.{each_append}
use Rattle.theory.proofs.Counting.{count_tail}
use Rattle.theory.proofs.JoinLaws.{Join}
use Rattle.theory.proofs.Opens.{mates, opens}
use Rattle.theory.proofs.WordLaws.{size_one}
use Rattle.theory.specs.Corner.{opposite}
use Rattle.theory.specs.Lists.{back, head}
use Rattle.theory.specs.Tables.{join_at, links}
use Rattle.theory.specs.Word.{Word, size, w_s}

head_append : (cs bs : List ℕ) → 1 ≤ length cs → head (cs ++ bs) ≡ head cs
unfolding head
head_append [] bs h = absurd (omega arith)
head_append (x ∷ cs) bs h = refl

back_append : (cs bs : List ℕ) → 1 ≤ length bs → back (cs ++ bs) ≡ back bs
unfolding back
back_append [] bs h = refl
back_append (x ∷ []) [] h = absurd (omega arith)
back_append (x ∷ []) (y ∷ bs) h = refl
back_append (x ∷ (y ∷ cs)) bs h = back_append (y ∷ cs) bs h

module _ (t k : ℕ) (work : List ℕ) (a b : Word) (fits : 4 * t ≤ length work) (h : Held t work (k + 1) a)
    (i : Held t work (k + 1 + size a) b) where
  abbrev j : ℕ
  j = k + 1 + size a

  abbrev cs : List ℕ
  cs = opens (k + 1) a

  abbrev bs : List ℕ
  bs = opens j b

  abbrev noted : List ℕ
  noted = set (set work (3 * t + k) (back cs)) (head bs) (back cs)

  abbrev tipped : List ℕ
  tipped = join_at (3 * k + 2) (3 * j) noted

  abbrev on_s : List ℕ
  on_s = join_at (3 * k + 1) (3 * (k + 1)) tipped

  off_s : (x d : ℕ) → x ≢ 3 * k + 1 → x ≢ 3 * (k + 1) → x ≢ 3 * k + 2 → x ≢ 3 * j → x ≢ head bs → x ≢ 3 * t + k
      → get_or on_s x d ≡ get_or work x d
  off_s x d p q r s u v =
      join_off (3 * k + 1) (3 * (k + 1)) tipped x d p q ∙ join_off (3 * k + 2) (3 * j) noted x d r s
      ∙ get_or-set_other (set work (3 * t + k) (back cs)) (head bs) x (back cs) d u
      ∙ get_or-set_other work (3 * t + k) x (back cs) d v

  first_low : (3 * j < head bs) × (head bs < 3 * (j + size b))
  first_low = open_in j b i.sound (head bs) (first_in bs (some_open j b i.sound))

  length_s : length on_s ≡ length work
  length_s =
      length_join (3 * k + 1) (3 * (k + 1)) tipped ∙ length_join (3 * k + 2) (3 * j) noted
      ∙ length-set (set work (3 * t + k) (back cs)) (head bs) (back cs) ∙ length-set work (3 * t + k) (back cs)

  in_right : (x d : ℕ) → 3 * (k + 1) < x → x < 3 * j → get_or on_s x d ≡ get_or work x d
  in_right x d m n =
      let l = first_low.0 in
      let w = i.within in
      off_s x d (λ q. omega arith) (λ q. omega arith) (λ q. omega arith) (λ q. omega arith) (λ q. omega arith)
      (λ q. omega arith)

  in_left : (x d : ℕ) → 3 * j < x → x < 3 * t → x ≢ head bs → get_or on_s x d ≡ get_or work x d
  in_left x d m n p =
      off_s x d (λ q. omega arith) (λ q. omega arith) (λ q. omega arith) (λ q. omega arith) p (λ q. omega arith)

  in_notes : (n : ℕ) → k + 1 ≤ n → n < t → get_or on_s (3 * t + n) 0 ≡ get_or work (3 * t + n) 0
  in_notes n m l =
      let w = i.within in
      let u = first_low.1 in
      off_s (3 * t + n) 0 (λ q. omega arith) (λ q. omega arith) (λ q. omega arith) (λ q. omega arith)
      (λ q. omega arith) (λ q. omega arith)

  -- the two words as they stand now
  right_held : Held t on_s (k + 1) a
  right_held =
      let w = i.within in
      held_same t work on_s (k + 1) a in_right (λ n m l. in_notes n m (omega arith)) h

  first_entry : get_or on_s (head bs) 0 ≡ back cs
  first_entry =
      let l₀ = first_low.0 in
      let l₁ = first_low.1 in
      let w = i.within in
      let n = length-set work (3 * t + k) (back cs) in
      join_off (3 * k + 1) (3 * (k + 1)) tipped (head bs) 0 (λ q. omega arith) (λ q. omega arith)
      ∙ join_off (3 * k + 2) (3 * j) noted (head bs) 0 (λ q. omega arith) (λ q. omega arith)
      ∙ get_or-set_same (set work (3 * t + k) (back cs)) (head bs) (back cs) 0 (omega arith)

  left_held : Held t on_s j b
  left_held =
      let o = i.sound in
      let w = i.within in
      let some = some_open j b o in
      record {
        sound = o;
        within = w;
        linked =
            each_same work on_s (links j b) (λ x m.
            let r = inner_in j b o x (omega arith) in
            let r₁ = r.1 in
            in_left x x r.0 (omega arith) (inner_not_open j b o x (head bs) (omega arith) (first_in bs some)))
            i.linked;
        mated =
            each_same work on_s (mates j b) (λ x m.
            let r = inner_in j b o x (omega arith) in
            let r₁ = r.1 in
            in_left x x r.0 (omega arith) (inner_not_open j b o x (head bs) (omega arith) (first_in bs some)))
            i.mated;
        chain =
            chained_same work on_s bs (λ x m.
            let n = count_tail x bs in
            let r = open_in j b o x (omega arith) in
            let r₁ = r.1 in
            in_left x 0 r.0 (omega arith) (rest_not_first bs (opens_once j b o) x m)) i.chain;
        records = recorded_same t work on_s j b (λ n m l. in_notes n (omega arith) (omega arith)) i.records;
      }

  held_s : Held t on_s k (w_s a b)
  unfolding size links mates opens
  held_s =
      let w = i.within in
      let l₀ = first_low.0 in
      let l₁ = first_low.1 in
      let n₁ = length-set work (3 * t + k) (back cs) in
      let n₂ = length-set (set work (3 * t + k) (back cs)) (head bs) (back cs) in
      let n₃ = length_join (3 * k + 2) (3 * j) noted in
      let ne : 3 * k + 1 ≢ 3 * (k + 1) = λ q. omega arith in
      let one = size_one a in
      let nf : 3 * k + 2 ≢ 3 * j = λ q. omega arith in
      let J : ℕ → ℕ → Type 0 = Join (opposite on_s) in
      record {
        sound = (h.sound, i.sound);
        within = omega arith;
        linked = (
          (
            join_left (3 * k + 1) (3 * (k + 1)) tipped (3 * k + 1) (omega arith) ne,
            join_right (3 * k + 1) (3 * (k + 1)) tipped (3 * (k + 1)) (omega arith),
            ne,
          ),
          (
            (
              join_off (3 * k + 1) (3 * (k + 1)) tipped (3 * k + 2) (3 * k + 2) (λ q. omega arith) (λ q. omega arith)
                  ∙ join_left (3 * k + 2) (3 * j) noted (3 * k + 2) (omega arith) nf,
              join_off (3 * k + 1) (3 * (k + 1)) tipped (3 * j) (3 * j) (λ q. omega arith) (λ q. omega arith)
                  ∙ join_right (3 * k + 2) (3 * j) noted (3 * j) (omega arith),
              nf,
            ),
            each_append J (links (k + 1) a) (links j b) right_held.linked left_held.linked,
          ),
        );
        mated = each_append J (mates (k + 1) a) (mates j b) right_held.mated left_held.mated;
        chain =
            chained_append on_s cs bs (some_open (k + 1) a h.sound) right_held.chain left_held.chain
            first_entry;
        records = (
          join_off (3 * k + 1) (3 * (k + 1)) tipped (3 * t + k) 0 (λ q. omega arith) (λ q. omega arith)
              ∙ join_off (3 * k + 2) (3 * j) noted (3 * t + k) 0 (λ q. omega arith) (λ q. omega arith)
              ∙ get_or-set_other (set work (3 * t + k) (back cs)) (head bs) (3 * t + k) (back cs) 0 (λ q. omega arith)
              ∙ get_or-set_same work (3 * t + k) (back cs) 0 (omega arith),
          right_held.records,
          left_held.records,
        );
      }

  waits_s : (ws : List Word) (p : ℕ) → 4 * t ≤ p → Waits t work ws (j + size b) p
      → Waits t on_s ws (k + suc (size a + size b)) p
  waits_s ws p high v =
      let w = i.within in
      let l₀ = first_low.0 in
      let l₁ = first_low.1 in
      let e : j + size b ≡ k + suc (size a + size b) = omega arith in
      subst (λ (j : ℕ). Waits t on_s ws j p) e
      (waits_same t work on_s length_s ws (j + size b) p
      (λ x d m n. in_left x d (omega arith) n (λ q. omega arith))
      (λ n m l. in_notes n (omega arith) l)
      (λ x m. off_s x 0 (λ q. omega arith) (λ q. omega arith) (λ q. omega arith) (λ q. omega arith) (λ q. omega arith)
      (λ q. omega arith)) v)

pub standing_s : (t k : ℕ) (z : Fold) (a b : Word) (ws : List Word) → 4 * t ≤ length z.work → 4 * t ≤ z.top
    → Standing t z (a ∷ (b ∷ ws)) (k + 1) → Standing t (fold_s t k z) (w_s a b ∷ ws) k
unfolding fold_s spliced size opens
standing_s t k z a b ws fits high h =
    let j = k + 1 + size a in
    let cs = opens (k + 1) a in
    let bs = opens j b in
    let v = h.3 in
    let w = v.4 in
    let p = z.top in (
      rw (v.1, v.2, h.2) (held_s t k z.work a b fits h.0 w),
      h.1 ∙ sym (head_append cs bs (some_open (k + 1) a h.0.sound)),
      v.3 ∙ sym (back_append cs bs (some_open j b w.sound)),
      rw (v.1, v.2, h.2) (waits_s t k z.work a b fits h.0 w ws (p + 3) (omega arith) v.5),
    )
