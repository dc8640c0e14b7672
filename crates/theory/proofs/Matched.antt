-- E10 (`match`): in the word of a walk every C stands before width 3 or more, and its left side faces the last open
-- side behind it.
--
--   Matched k w   the word w from time k on is sound, its mates face each other, each of its Cs faces a corner of the
--                 word's own triangles, and its open sides look outward
--
-- The last open side behind a C starts at the C's tip, and only the C itself has this vertex so far (`found`).
use mathlib.Core.List.{List, [], ◌++◌, ◌∷◌}
use mathlib.Core.Logic.{◌≢◌, inl, inr}
use mathlib.Core.Path.{◌∙◌, ◌≡◌, ap, refl, sym}
use Prim.Native.Nat.{◌*◌, ◌+◌, ◌<◌, ◌≤◌, suc, ℕ}
use native.Mathlib.Decide.{dec_lt, ℕ_discrete}
use native.Mathlib.Omega.{arith}
use lib.ListN.{length, length-append}
use Rattle.theory.proofs.Carry.{carry, carry_inj}
use Rattle.theory.proofs.Chain.{Each, each_append, each_map, each_split}
use Rattle.theory.proofs.CornerLaws.{next_left, next_right, next_tip, previous_left, previous_right, previous_tip}
use Rattle.theory.proofs.Counting.{bit_refl, count, count_append, each_n_absent, tris_once}
use Rattle.theory.proofs.Each.{EachN, each_n_append, each_n_both, each_n_last, each_n_left, each_n_map}
use Rattle.theory.proofs.LetterLaws.{letters_differ}
use Rattle.theory.proofs.Linked.{Faces, Spells, faces_end, faces_ends, faces_turn}
use Rattle.theory.proofs.ListLaws.{snoc_view}
use Rattle.theory.proofs.Opens.{cover, length_opens, mates, opens, opens_low}
use Rattle.theory.proofs.Outward.{LeftOfC, Outward, SplitLeft, apart_at_lem, fresh_at, out_e, out_l, out_r}
use Rattle.theory.proofs.VertexChain.{Path, SameEnds, open_path, path_last}
use Rattle.theory.proofs.WholeRun.{Walked}
use Rattle.theory.proofs.WordLaws.{width_two}
use Rattle.theory.specs.Corner.{next}
use Rattle.theory.specs.Lists.{back, front}
use Rattle.theory.specs.Mesh.{Sphere}
use Rattle.theory.specs.Tables.{links}
use Rattle.theory.specs.Word.{Sound, Word, size, w_c, w_e, w_l, w_r, w_s, width}
use Rattle.theory.specs.declared.Letter.{Letter}
use Rattle.theory.specs.declared.Letter.TheVariants.{C, E, L, R, S}

module _ {lab opp : ℕ → ℕ} {t v g : ℕ} {mesh : Sphere lab opp t v g} {sp : ℕ → Letter} {co : ℕ → ℕ}
    (run : Walked mesh sp co) (lefts : SplitLeft opp sp co 0 t) where
  -- the vertex at a corner in the walk's numbers
  abbrev at : ℕ → ℕ
  at x = lab (carry co x)

  abbrev Meet : ℕ → ℕ → Type 0
  Meet = Faces opp co

  abbrev Out : ℕ → ℕ → Type 0
  Out = Outward opp sp co

  -- the Cs of the times k, .., k + n - 1 face corners below 3 (k + n)
  abbrev Held : ℕ → ℕ → Type 0
  Held n j = (b : ℕ) × Meet (3 * j + 2) b × (b < 3 * n)

  abbrev Inner : ℕ → ℕ → Type 0
  Inner k n = (j : ℕ) → k ≤ j → j < k + n → sp j ≡ C → Held (k + n) j

  inner_first : (k n : ℕ) → (sp k ≡ C → Held (k + suc n) k) → Inner (k + 1) n → Inner k (suc n)
  inner_first k n f i j a b q = go (ℕ_discrete j k)
    where
      go : Dec (j ≡ k) → Held (k + suc n) j
      go (yes m) = rw m (f (rw m at q))
      go (no m) = let u = i j (omega arith) (omega arith) q in (u.0, u.1, omega arith)

  inner_both : (k n m : ℕ) → Inner k n → Inner (k + n) m → Inner k (n + m)
  inner_both k n m f i j a b q = go (dec_lt j (k + n))
    where
      go : Dec (j < k + n) → Held (k + (n + m)) j
      go (yes l) = let u = f j a l q in (u.0, u.1, omega arith)
      go (no l) = let u = i j (omega arith) (omega arith) q in (u.0, u.1, omega arith)

  -- a corner of the word's triangles, not the first
  abbrev Own : ℕ → Word → ℕ → Type 0
  Own k w x = (3 * k < x) × (x < 3 * (k + size w))

  pub record Matched (k : ℕ) (w : Word) : Type 0 where
    pub sound : Sound w
    pub mates_face : Each Meet (mates k w)
    pub inner : Inner k (size w)
    pub opens_out : EachN (Out k) (opens k w)

  meet_inj : (x b y : ℕ) → Meet x y → Meet b y → x ≡ b
  meet_inj x b y p q =
      let turn = faces_turn mesh co in
      carry_inj run x b (sym (turn x y p) ∙ turn b y q)

  -- a side that looks outward from n on does so from k on, unless it faces a C between
  lower : (k n x : ℕ) → Out n x → ((j : ℕ) → k ≤ j → j < n → sp j ≡ C → Meet x (3 * j + 2) → ⊥) → Out k x
  lower k n x (y, q, u, inl z) f = (y, q, omega arith, inl z)
  lower k n x (y, q, u, inr (j, z, m)) f = (y, q, go (dec_lt j k), inr (j, z, m))
    where
      go : Dec (j < k) → y ≤ 3 * k
      go (yes a) = omega arith
      go (no a) = absurd (f j (omega arith) (omega arith) m (q ∙ ap (carry co) z))

  -- a letter that is no C
  lower_all : (k : ℕ) (bs : List ℕ) → (sp k ≡ C → ⊥) → EachN (Out (k + 1)) bs → EachN (Out k) bs
  lower_all k bs no-c h = each_n_map (Out (k + 1)) (Out k) (λ x o. lower k (k + 1) x o (λ j a b c e. bad j a b c)) bs h
    where
      bad : (j : ℕ) → k ≤ j → j < k + 1 → sp j ≡ C → ⊥
      bad j a b c = let m : j ≡ k = omega arith in no-c (rw m at c)

  found : (k y : ℕ) → sp k ≡ C → y ≤ 3 * (k + 1) → LeftOfC sp y → at (3 * k) ≡ at (next y) → y ≡ 3 * k + 2
  found k y c u (inl z) h =
      let a : next y ≡ 1 = ap next z ∙ next_tip 0 in
      absurd (fresh_at run k c 1 (omega arith) (λ (o : 1 ≡ 3 * k). omega arith) (sym (rw a at h)))
  found k y c u (inr (j, z, x)) h = go (dec_lt j k)
    where
      go : Dec (j < k) → y ≡ 3 * k + 2
      go (yes m) =
          let a : next y ≡ 3 * j = ap next z ∙ next_right j in
          absurd (fresh_at run k c (3 * j) (omega arith) (λ (o : 3 * j ≡ 3 * k). omega arith) (sym (rw a at h)))
      go (no m) = omega arith

  -- with no further open side the two ends of the C's edge were one vertex
  wide : (k b : ℕ) (bs : List ℕ) → sp k ≡ C → Path at (3 * (k + 1) + 2) bs (next b) → Meet b (3 * k + 2)
      → Meet (3 * k + 1) (3 * (k + 1)) → 1 ≤ length bs
  wide k b [] c h jn g0 =
      let a : at (3 * k + 1) ≡ at (next b) = rw previous_right at (faces_ends mesh co b (3 * k + 2) jn).1 in
      let d = rw (previous_tip, next_left) at (faces_ends mesh co (3 * k + 1) (3 * (k + 1)) g0).1 in
      absurd (apart_at_lem run k c (a ∙ h ∙ d))
  wide k b (x ∷ xs) c h jn g0 = omega arith

  -- an open side occurs once
  lone : (k : ℕ) (w : Word) (bs : List ℕ) (b : ℕ) → opens k w ≡ bs ++ (b ∷ []) → Sound w → EachN (λ x. x ≢ b) bs
  unfolding count
  lone k w bs b e o =
      let a = cover b k w o in
      let d = tris_once b (size w) k in
      let u = ap (count b) e ∙ count_append b bs (b ∷ []) in
      let z = bit_refl b in
      each_n_absent b bs (omega arith)

  module _ (k : ℕ) (w : Word) (c : sp k ≡ C) (begins : Meet (3 * k + 1) (3 * (k + 1)))
      (face : Each Meet (links (k + 1) w)) (i : Matched (k + 1) w) where
    -- the open sides behind the C are bs and then b
    close_at : (bs : List ℕ) (b : ℕ) → opens (k + 1) w ≡ bs ++ (b ∷ [])
        → (3 ≤ width w) × Meet b (3 * k + 2) × (b < 3 * (k + 1 + size w)) × EachN (Out k) bs
    close_at bs b e =
        let across = each_map Meet (SameEnds at) (faces_ends mesh co) in
        let mates_same = across (mates (k + 1) w) i.mates_face in
        let path = open_path at (k + 1) w i.sound (across (links (k + 1) w) face) mates_same in
        let last = path_last at (3 * (k + 1) + 2) bs b (3 * (k + 1) + 1) (rw e at path) in
        let o = each_n_last (Out (k + 1)) bs b (rw e at i.opens_out) in
        let tip = rw (previous_left, next_tip) at (faces_end mesh co (3 * k + 1) (3 * (k + 1)) begins) in
        let y = found k o.0 c o.2 o.3 (tip ∙ last.1 ∙ faces_end mesh co b o.0 o.1) in
        let jn : Meet b (3 * k + 2) = o.1 ∙ ap (carry co) y in
        let big = wide k b bs c last.0 jn begins in
        let n = length_opens (k + 1) w i.sound in
        let m = ap length e ∙ length-append bs (b ∷ []) in
        let own = each_n_last (Own (k + 1) w) bs b (rw e at (opens_low (k + 1) w i.sound)) in
        let others = each_n_left (Out (k + 1)) bs (b ∷ []) (rw e at i.opens_out) in
        let once = lone (k + 1) w bs b e i.sound in
        let out = each_n_both (Out (k + 1)) (λ x. x ≢ b) (Out k) (λ x p ne. below x b jn p ne) bs others once in
        (omega arith, jn, own.1, out)
      where
        below : (x b : ℕ) → Meet b (3 * k + 2) → Out (k + 1) x → x ≢ b → Out k x
        below x b jn p ne = lower k (k + 1) x p bad
          where
            bad : (j : ℕ) → k ≤ j → j < k + 1 → sp j ≡ C → Meet x (3 * j + 2) → ⊥
            bad j a d q f = let m : j ≡ k = omega arith in ne (meet_inj x b (3 * k + 2) (rw m at f) jn)

    close : Matched k (w_c w)
    unfolding mates opens size
    close = go (close_at (front (opens (k + 1) w)) (back (opens (k + 1) w)) parts)
      where
        parts : opens (k + 1) w ≡ front (opens (k + 1) w) ++ (back (opens (k + 1) w) ∷ [])
        parts =
            let n = length_opens (k + 1) w i.sound in
            let two = width_two w i.sound in
            snoc_view (opens (k + 1) w) (omega arith)

        go : (3 ≤ width w) × Meet (back (opens (k + 1) w)) (3 * k + 2) × (back (opens (k + 1) w) < 3 * (k + 1 + size w))
            × EachN (Out k) (front (opens (k + 1) w)) → Matched k (w_c w)
        go z =
            let b = back (opens (k + 1) w) in
            let turn = faces_turn mesh co b (3 * k + 2) z.1 in
            record {
              sound = (i.sound, z.0);
              mates_face = (z.1, i.mates_face);
              inner = inner_first k (size w) (λ q. (b, turn, omega arith)) i.inner;
              opens_out = z.3;
            }

  -- an open side of the left branch faces no C of the right branch
  over : (k : ℕ) (a : Word) (x : ℕ) → (sp k ≡ C → ⊥) → Inner (k + 1) (size a) → Out (k + 1 + size a) x
      → 3 * (k + 1 + size a) < x → Out k x
  over k a x no-c i o lo = lower k (k + 1 + size a) x o (λ j p q c f. go j p q c f (ℕ_discrete j k))
    where
      go : (j : ℕ) → k ≤ j → j < k + 1 + size a → sp j ≡ C → Meet x (3 * j + 2) → Dec (j ≡ k) → ⊥
      go j p q c f (yes m) = no-c (rw m at c)
      go j p q c f (no m) =
          let z = i j (omega arith) q c in
          let same = meet_inj x z.0 (3 * j + 2) f (faces_turn mesh co (3 * j + 2) z.0 z.1) in
          omega arith

  over_all : (k : ℕ) (a b : Word) → (sp k ≡ C → ⊥) → Inner (k + 1) (size a) → Matched (k + 1 + size a) b
      → EachN (Out k) (opens (k + 1 + size a) b)
  over_all k a b no-c i d =
      let n = k + 1 + size a in
      each_n_both (Out n) (Own n b) (Out k) (λ x o u. over k a x no-c i o u.0) (opens n b) d.opens_out
      (opens_low n b d.sound)

  -- E10
  pub match : (k : ℕ) (w : Word) → Spells sp k w → Each Meet (links k w) → Matched k w
  unfolding links mates opens size
  match k w_e s g = record {
    sound = tt;
    mates_face = tt;
    inner = inner_first k 0 (λ q. absurd (letters_differ E C refl (sym s ∙ q))) (λ j a b. absurd (omega arith));
    opens_out = ((out_e run lefts k s).0, ((out_e run lefts k s).1, tt));
  }
  match k (w_c w) s g = close k w s.0 g.0 g.1 (match (k + 1) w s.1 g.1)
  match k (w_l w) s g =
      let i = match (k + 1) w s.1 g.1 in
      let no-c : sp k ≡ C → ⊥ = λ q. letters_differ L C refl (sym s.0 ∙ q) in
      let os = opens (k + 1) w in
      record {
        sound = i.sound;
        mates_face = i.mates_face;
        inner = inner_first k (size w) (λ q. absurd (no-c q)) i.inner;
        opens_out =
            each_n_append (Out k) os ((3 * k + 2) ∷ []) (lower_all k os no-c i.opens_out)
            (out_l run lefts k s.0, tt);
      }
  match k (w_r w) s g =
      let i = match (k + 1) w s.1 g.1 in
      let no-c : sp k ≡ C → ⊥ = λ q. letters_differ R C refl (sym s.0 ∙ q) in
      record {
        sound = i.sound;
        mates_face = i.mates_face;
        inner = inner_first k (size w) (λ q. absurd (no-c q)) i.inner;
        opens_out = (out_r run lefts k s.0, lower_all k (opens (k + 1) w) no-c i.opens_out);
      }
  match k (w_s a b) s g =
      let parts = each_split Meet (links (k + 1) a) (links (k + 1 + size a) b) g.1.1 in
      let i = match (k + 1) a s.1 parts.0 in
      let d = match (k + 1 + size a) b s.2 parts.1 in
      let no-c : sp k ≡ C → ⊥ = λ q. letters_differ S C refl (sym s.0 ∙ q) in
      let inner = inner_both (k + 1) (size a) (size b) i.inner d.inner in
      let oa = opens (k + 1) a in
      let ob = opens (k + 1 + size a) b in
      record {
        sound = (i.sound, d.sound);
        mates_face = each_append Meet (mates (k + 1) a) (mates (k + 1 + size a) b) i.mates_face d.mates_face;
        inner = inner_first k (size a + size b) (λ q. absurd (no-c q)) inner;
        opens_out = each_n_append (Out k) oa ob (lower_all k oa no-c i.opens_out) (over_all k a b no-c i.inner d);
      }
