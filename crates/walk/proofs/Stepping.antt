-- The rows as answers of `step`, for what it has read: the tip's vertex u, left l and right r.
--
--   did_c did_s did_r did_l did_e
use mathlib.Core.List.{List}
use mathlib.Core.Logic.{◌≢◌}
use mathlib.Core.Path.{◌∙◌, ◌≡◌, refl}
use Prim.Native.Nat.{◌+◌, ◌-◌, ◌<◌, ◌≤◌, ℕ}
use native.Mathlib.Decide.{dec_lt}
use native.Mathlib.Omega.{arith}
use lib.ListN.{length, length-set, set}
use Rattle.theory.specs.Corner.{left, opposite, right, triangle, vertex}
use Rattle.theory.specs.declared.Letter.TheVariants.{C, E, L, R, S}
use Rattle.std.specs.Prelude.{None, Option, Some, option_map, slice_get}
use Rattle.std.proofs.lemmas.Option.{slice_get-get_or, slice_get_past}
use Rattle.walk.specs.declared.Spot.{Spot}
use Rattle.walk.proofs.Rows.{spot, row_c, row_e, row_l, row_r, row_s, row_end}
use Rattle.walk.proofs.TableLaws.{kept_high, kept_low}
use Rattle.walk.specs.Calls.{Steppable, Stepped}
use Rattle.walk.specs.Table.{entered, entry, kept_to}

module _
    {vs os : List ℕ}
    {t : ℕ}
    {here : Spot}
    {work : List ℕ}
    {u l r : ℕ}
    (h : Steppable vs os t here work)
    (eu : u ≡ vertex vs here.at)
    (el : l ≡ left (opposite os) here.at)
    (er : r ≡ right (opposite os) here.at) where
  abbrev c : ℕ
  c = here.at

  abbrev p : ℕ
  p = here.top

  entering : (m : ℕ) → kept_to t m (entered work c) ≡ kept_to t m work
  entering m = kept_low t m work (triangle c) 1 (omega (arith, h.inside))

  pub did_c : entry work c (t + u) ≡ 0
      → Stepped vs os t here work C (Some (spot r p)) (set (entered work c) (t + u) 1)
  did_c k =
      record {
        leads = λ v g steps st s. rw (eu, er) (row_c s h.room h.within (rw eu at k));
        keeps = λ m b. kept_low t m (entered work c) (t + u) 1 (omega (arith, eu, h.tip)) ∙ entering m;
        near = (omega arith, h.within);
      }

  module _ (k : entry work c (t + u) ≢ 0) where
    old : entry work c (t + vertex vs c) ≢ 0
    old = rw (← eu) k

    pub did_s : entry work c (triangle l) ≡ 0 → entry work c (triangle r) ≡ 0
        → Stepped vs os t here work S (Some (spot r (p - 1))) (set (entered work c) (p - 1) l)
    did_s a b =
        record {
          leads = λ v g steps st s. rw (el, er) (row_s s h.room h.within old (rw el at a) (rw er at b));
          keeps = λ m b. kept_high t m (entered work c) (p - 1) l (omega arith) ∙ entering m;
          near = (omega (arith, h.room), omega (arith, h.within));
        }

    pub did_r : entry work c (triangle l) ≡ 0 → entry work c (triangle r) ≢ 0
        → Stepped vs os t here work R (Some (spot l p)) (entered work c)
    did_r a b =
        record {
          leads = λ v g steps st s. rw el (row_r s h.room h.within old (rw el at a) (rw er at b));
          keeps = λ m b. entering m;
          near = (omega arith, h.within);
        }

    pub did_l : entry work c (triangle l) ≢ 0 → entry work c (triangle r) ≡ 0
        → Stepped vs os t here work L (Some (spot r p)) (entered work c)
    did_l a b =
        record {
          leads = λ v g steps st s. rw er (row_l s h.room h.within old (rw el at a) (rw er at b));
          keeps = λ m b. entering m;
          near = (omega arith, h.within);
        }

    module _ (a : entry work c (triangle l) ≢ 0) (b : entry work c (triangle r) ≢ 0) where
      did_on : (d : ℕ) → d ≡ entry work c p → p < length (entered work c)
          → Stepped vs os t here work E (Some (spot d (p + 1))) (entered work c)
      did_on d e w =
          record {
            leads = λ v g steps st s. rw e (row_e s h.room h.within old (rw el at a) (rw er at b) w);
            keeps = λ m b. entering m;
            near = (omega arith, omega (arith, length-set work (triangle c) 1));
          }

      did_end : length (entered work c) ≤ p → Stepped vs os t here work E None (entered work c)
      did_end w =
          record {
            leads = λ v g steps st s. row_end s h.room h.within old (rw el at a) (rw er at b) w;
            keeps = λ m b. entering m;
            near = tt;
          }

      pub did_e : {next : Option Spot} → next ≡ option_map (λ d. spot d (p + 1)) (slice_get (entered work c) p)
          → Stepped vs os t here work E next (entered work c)
      did_e {next} e = go (dec_lt p (length (entered work c)))
        where
          go : Dec (p < length (entered work c)) → Stepped vs os t here work E next (entered work c)
          go (yes w) = rw (e, slice_get-get_or (entered work c) p 0 w) (did_on (entry work c p) refl w)
          go (no w) = rw (e, slice_get_past (entered work c) p (omega arith)) (did_end (omega arith))
