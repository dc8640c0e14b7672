-- Each row of the letter table, in the work table: the entries that were read give the letter, and what is stored then
-- makes the table stand for one step more.
--
--   tip_fits left_met right_met      what a corner of the mesh leads to lies in the mesh, and is reached
--   row_c row_s row_r row_l          the four rows that go on at a neighbour
--   row_e row_end                    an E with a waiting left, and one without
use mathlib.Core.Bool.{Bool, false, true}
use mathlib.Core.List.{List, [], ◌∷◌}
use mathlib.Core.Logic.{◌≢◌, inl, inr}
use mathlib.Core.Path.{◌∙◌, ◌≡◌, ap, subst, sym}
use Prim.Native.Nat.{◌*◌, ◌+◌, ◌-◌, ◌<◌, ◌≤◌, suc, ℕ}
use native.Mathlib.Numerals.{add-one}
use native.Mathlib.Omega.{arith}
use lib.ListN.{drop, drop_of_length-le, length, length-set, set}
use lib.Seq.{drop-cons, drop-set-lt}
use Rattle.lent.proofs.Stacks.{push_set}
use Rattle.theory.proofs.CornerLaws.{next_low, previous_low, triangle_next, triangle_previous}
use Rattle.theory.proofs.WalkBack.{onward, take_left, walk_step}
use Rattle.theory.proofs.WalkLaws.{letter_new, letter_old}
use Rattle.theory.specs.Corner.{left, next, opposite, previous, right, triangle, vertex}
use Rattle.theory.specs.Mesh.{Reach, over}
use Rattle.theory.specs.Walk.{Step, ◌＠◌, by_sides, corners_of, letter_at, marks, tips, walk}
use Rattle.theory.specs.declared.Letter.{Letter}
use Rattle.theory.specs.declared.Letter.TheVariants.{C, E, L, R, S}
use Rattle.walk.specs.declared.Spot.{Spot}
use Rattle.walk.proofs.TableLaws.{mark, marked_past, off_is, on_is, visit, visited_past}
use Rattle.walk.specs.Table.{MarkedIn, Met, MetAll, Last, Onward, SeenIn, Standing, Told, entered, entry, on}

-- the walk at corner c, its stack's top at p
abbrev pub spot : ℕ → ℕ → Spot
spot c p = record { at = c; top = p }

module _
    {vs os : List ℕ}
    {t v g : ℕ}
    {steps : List Step}
    {st work : List ℕ}
    {here : Spot}
    (s : Standing vs os t v g steps st work here) where
  abbrev c : ℕ
  c = here.at

  abbrev p : ℕ
  p = here.top

  tip_below : vertex vs c < v
  tip_below = s.told.mesh.below c s.met.low

  pub tip_fits : vertex vs c < 2 * t
  tip_fits = omega (arith, s.told.mesh.few, tip_below)

  -- a corner of the same triangle leads to a neighbour
  across : (d : ℕ) → d < 3 * t → triangle d ≡ triangle c → Met (opposite os) t g (opposite os d)
  across d h e = record {
    low = s.told.mesh.inside d h;
    reach = over d (subst (Reach (opposite os) (triangle g)) (sym e) s.met.reach);
  }

  pub left_met : Met (opposite os) t g (left (opposite os) c)
  left_met = across (previous c) (previous_low t c s.met.low) (triangle_previous c)

  pub right_met : Met (opposite os) t g (right (opposite os) c)
  right_met = across (next c) (next_low t c s.met.low) (triangle_next c)

  module _ (room : 4 * t < p) (within : p ≤ length work) where
    long : length (entered work c) ≡ length work
    long = length-set work (triangle c) 1

    spare : t + v ≤ 3 * t
    spare = omega (arith, s.told.mesh.few)

    seen_now : (a : Letter) → SeenIn t ((a ＠ c) ∷ steps) (entered work c)
    seen_now a = visit t steps work s.told.visited a c s.met.low (omega arith)

    marked_now : MarkedIn vs t v g steps (entered work c)
    marked_now = marked_past vs t v g steps work s.told.marked (triangle c) 1 (inl (omega (arith, s.met.low)))

    waiting_now : drop p (entered work c) ≡ st
    waiting_now = drop-set-lt p work (triangle c) 1 (omega (arith, s.met.low)) ∙ s.waiting

    letter_now : (a b : Bool) → on (entered work c) (t + vertex vs c) ≡ true
        → on (entered work c) (triangle (left (opposite os) c)) ≡ a
        → on (entered work c) (triangle (right (opposite os) c)) ≡ b
        → letter_at (vertex vs) (opposite os) g steps c ≡ by_sides a b
    letter_now a b k el er =
        letter_old (vertex vs) (opposite os) g steps c a b (sym (marked_now (vertex vs c) tip_below) ∙ k)
        (sym (seen_now E (left (opposite os) c) left_met.low) ∙ el)
        (sym (seen_now E (right (opposite os) c) right_met.low) ∙ er)

    -- what a table tells after the step, and what stands where nothing more is stored
    told : (a : Letter) → MarkedIn vs t v g ((a ＠ c) ∷ steps) (entered work c)
        → Told vs os t v g ((a ＠ c) ∷ steps) (entered work c)
    unfolding corners_of
    told a k = record { mesh = s.told.mesh; made = (s.met, s.told.made); visited = seen_now a; marked = k }

    stand : (a : Letter) (d : ℕ) → MarkedIn vs t v g ((a ＠ c) ∷ steps) (entered work c) → Met (opposite os) t g d
        → Standing vs os t v g ((a ＠ c) ∷ steps) st (entered work c) (spot d p)
    stand a d k h = record { told = told a k; met = h; waiting = waiting_now; waits = s.waits }

    pub row_c : entry work c (t + vertex vs c) ≡ 0
        → Onward vs os t v g steps st c C (set (entered work c) (t + vertex vs c) 1) (spot (right (opposite os) c) p)
    unfolding onward corners_of
    row_c k =
        let new = letter_new (vertex vs) (opposite os) g steps c
        (sym (marked_now (vertex vs c) tip_below) ∙ off_is (entered work c) (t + vertex vs c) k) in
        record {
          lefts = st;
          stands = record {
            told = record {
              mesh = s.told.mesh;
              made = (s.met, s.told.made);
              visited =
                  visited_past t ((C ＠ c) ∷ steps) (entered work c) (seen_now C) (t + vertex vs c) 1 (omega arith);
              marked = mark vs t v g steps (entered work c) marked_now c tip_below (omega (arith, spare, long));
            };
            met = right_met;
            waiting =
                drop-set-lt p (entered work c) (t + vertex vs c) 1 (omega (arith, spare, tip_below)) ∙ waiting_now;
            waits = s.waits;
          };
          goes = λ n. walk_step (vertex vs) (opposite os) g C n steps st c new;
        }

    module _ (k : entry work c (t + vertex vs c) ≢ 0) where
      old : on (entered work c) (t + vertex vs c) ≡ true
      old = on_is (entered work c) (t + vertex vs c) k

      pub row_s : entry work c (triangle (left (opposite os) c)) ≡ 0
          → entry work c (triangle (right (opposite os) c)) ≡ 0
          → Onward vs os t v g steps st c S (set (entered work c) (p - 1) (left (opposite os) c))
          (spot (right (opposite os) c) (p - 1))
      unfolding marks tips by_sides onward corners_of
      row_s el er =
          let l = left (opposite os) c in
          let two = letter_now false false old (off_is (entered work c) _ el) (off_is (entered work c) _ er) in
          record {
            lefts = l ∷ st;
            stands = record {
              told = record {
                mesh = s.told.mesh;
                made = (s.met, s.told.made);
                visited = visited_past t ((S ＠ c) ∷ steps) (entered work c) (seen_now S) (p - 1) l (omega arith);
                marked = marked_past vs t v g steps (entered work c) marked_now (p - 1) l (inr (omega (arith, spare)));
              };
              met = right_met;
              waiting =
                  push_set (entered work c) p l (omega arith) (omega (arith, long))
                  ∙ ap (λ (y : List ℕ). l ∷ y) waiting_now;
              waits = (left_met, s.waits);
            };
            goes = λ n. walk_step (vertex vs) (opposite os) g S n steps st c two;
          }

      pub row_r : entry work c (triangle (left (opposite os) c)) ≡ 0
          → entry work c (triangle (right (opposite os) c)) ≢ 0
          → Onward vs os t v g steps st c R (entered work c) (spot (left (opposite os) c) p)
      unfolding marks tips by_sides onward
      row_r el er =
          let two = letter_now false true old (off_is (entered work c) _ el) (on_is (entered work c) _ er) in
          record {
            lefts = st;
            stands = stand R (left (opposite os) c) marked_now left_met;
            goes = λ n. walk_step (vertex vs) (opposite os) g R n steps st c two;
          }

      pub row_l : entry work c (triangle (left (opposite os) c)) ≢ 0
          → entry work c (triangle (right (opposite os) c)) ≡ 0
          → Onward vs os t v g steps st c L (entered work c) (spot (right (opposite os) c) p)
      unfolding marks tips by_sides onward
      row_l el er =
          let two = letter_now true false old (on_is (entered work c) _ el) (off_is (entered work c) _ er) in
          record {
            lefts = st;
            stands = stand L (right (opposite os) c) marked_now right_met;
            goes = λ n. walk_step (vertex vs) (opposite os) g L n steps st c two;
          }

      module _
          (el : entry work c (triangle (left (opposite os) c)) ≢ 0)
          (er : entry work c (triangle (right (opposite os) c)) ≢ 0) where
        ended : letter_at (vertex vs) (opposite os) g steps c ≡ E
        unfolding by_sides
        ended = letter_now true true old (on_is (entered work c) _ el) (on_is (entered work c) _ er)

        pub row_e : p < length (entered work c)
            → Onward vs os t v g steps st c E (entered work c) (spot (entry work c p) (p + 1))
        unfolding marks tips onward take_left corners_of
        row_e h =
            let under = drop (suc p) (entered work c) in
            let e : st ≡ entry work c p ∷ under = sym waiting_now ∙ drop-cons (entered work c) p 0 h in
            let b : MetAll (opposite os) t g (entry work c p ∷ under) = subst (MetAll (opposite os) t g) e s.waits in
            record {
              lefts = under;
              stands = record { told = told E marked_now; met = b.0; waiting = rw (add-one p); waits = b.1 };
              goes = λ n.
                  ap (λ (y : List ℕ). walk (vertex vs) (opposite os) g (suc n) steps y c) e
                  ∙ walk_step (vertex vs) (opposite os) g E n steps (entry work c p ∷ under) c ended;
            }

        pub row_end : length (entered work c) ≤ p → Last vs os t v g steps st c E (entered work c)
        unfolding marks tips onward take_left walk
        row_end h =
            let e : st ≡ [] = sym waiting_now ∙ drop_of_length-le (entered work c) h in
            record {
              told = told E marked_now;
              ends = λ n.
                  ap (λ (y : List ℕ). walk (vertex vs) (opposite os) g (suc n) steps y c) e
                  ∙ walk_step (vertex vs) (opposite os) g E n steps [] c ended;
            }
