-- The loop of the second pass: what is left to do makes, from what stands in the tables, what the whole pass makes.
--
--   Filling                                   the loop's invariant
--   filling_start filling_turn filling_end    before the loop, a turn, and after it
use mathlib.Core.List.{List}
use mathlib.Core.Path.{◌∙◌, ◌≡◌, ap, refl, sym}
use Prim.Native.Nat.{◌+◌, ◌<◌, ◌≤◌, suc, ℕ}
use native.Mathlib.Numerals.{add-one}
use native.Mathlib.Omega.{arith}
use lib.ListN.{drop, drop_of_length-le, get_or, length}
use lib.Seq.{drop-cons}
use Rattle.tables.specs.Fill.{Fill, at_left, at_right, fill_in, fill_run, fill_step, fill_v, resumed}
use Rattle.tables.specs.declared.labels.Sides.{Sides}
use Rattle.theory.specs.Letter.{letter}
use Rattle.theory.specs.declared.Letter.{Letter}
use Rattle.theory.specs.declared.Letter.TheVariants.{C, E, L, R, S}

new_low : (a : Letter) (k : ℕ) (ns os : List ℕ) (z : Fill) → (fill_step a k ns os z).new ≤ z.new + 1
unfolding fill_step at_right at_left resumed
new_low C k ns os z = omega arith
new_low L k ns os z = omega arith
new_low E k ns os z = omega arith
new_low R k ns os z = omega arith
new_low S k ns os z = omega arith

pub record Filling (s ns os vs₀ vs : List ℕ) (sides : Sides) (k : ℕ) : Type 0 where
  pub few : sides.new ≤ k + 2
  pub same : fill_v s ns os vs₀ ≡ (fill_run (drop k s) k ns os (fill_in vs sides)).vs

pub filling_start : {s ns os vs : List ℕ} → Filling s ns os vs vs (record { left = 0; right = 1; new = 2 }) 0
unfolding fill_v
filling_start = record { few = omega arith; same = refl }

module _ {s ns os vs₀ vs : List ℕ} {sides : Sides} {k : ℕ} (inv : Filling s ns os vs₀ vs sides k) where
  pub filling_turn : {a : Letter} {vs' : List ℕ} {sides' : Sides} → k < length s → a ≡ letter (get_or s k 0)
      → fill_in vs' sides' ≡ fill_step a k ns os (fill_in vs sides) → Filling s ns os vs₀ vs' sides' (k + 1)
  unfolding fill_run
  filling_turn {a} {vs'} {sides'} h is e =
      let z = fill_in vs sides in
      record {
        few = omega (arith, inv.few, new_low a k ns os z, ap (λ (y : Fill). y.new) e);
        same =
            inv.same
            ∙ ap (λ (x : List ℕ). (fill_run x k ns os z).vs) (drop-cons s k 0 h)
            ∙ ap (λ (x : Letter). (fill_run (drop (suc k) s) (k + 1) ns os (fill_step x k ns os z)).vs) (sym is)
            ∙ ap (λ (y : Fill). (fill_run (drop (suc k) s) (k + 1) ns os y).vs) (sym e)
            ∙ ap (λ (m : ℕ). (fill_run (drop m s) (k + 1) ns os (fill_in vs' sides')).vs) (sym (add-one k));
      }

  pub filling_end : length s ≤ k → vs ≡ fill_v s ns os vs₀
  unfolding fill_run
  filling_end h = sym (inv.same ∙ rw (drop_of_length-le s {i = k} h))
