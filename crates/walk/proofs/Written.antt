-- A table that is written from its front: k numbers of the whole are in it, the rest is still to come, and behind them
-- it is as it was.
--
--   write whole_is    a turn of a loop that writes it, and its end
use mathlib.Core.List.{List, [], ◌++◌, ◌∷◌, append-nil}
use mathlib.Core.Path.{◌∙◌, ◌≡◌, ap, sym}
use Prim.Native.Nat.{◌+◌, ◌<◌, ◌≤◌, suc, ℕ}
use native.Mathlib.Numerals.{add-one}
use native.Mathlib.Omega.{arith}
use lib.ListN.{drop, length, length-set, set, take, take-append-drop}
use lib.Seq.{append_snoc, drop-drop, drop-set-lt, length-take-le, take-suc-set}

pub record Written (whole coming out₀ out : List ℕ) (k : ℕ) : Type 0 where
  pub same : length out ≡ length out₀
  pub front : whole ≡ take k out ++ coming
  pub behind : drop k out ≡ drop k out₀

drop_more : (l m : List ℕ) (k : ℕ) → drop k l ≡ drop k m → drop (suc k) l ≡ drop (suc k) m
drop_more l m k e =
    let q : drop 1 (drop k l) ≡ drop 1 (drop k m) = ap (λ (y : List ℕ). drop 1 y) e in
    rw (← add-one k) (sym (drop-drop 1 k l) ∙ q ∙ drop-drop 1 k m)

module _ {whole out₀ out : List ℕ} {k : ℕ} where
  pub write : {x : ℕ} {l l' : List ℕ} → k < length out → l ≡ x ∷ l' → Written whole l out₀ out k
      → Written whole l' out₀ (set out k x) (k + 1)
  write {x} {l} {l'} h e w =
      rw (add-one k)
      (record {
        same = length-set out k x ∙ w.same;
        front =
            w.front ∙ ap (λ (y : List ℕ). take k out ++ y) e ∙ sym (append_snoc (take k out) x l')
            ∙ ap (λ (y : List ℕ). y ++ l') (sym (take-suc-set out k x h));
        behind = drop-set-lt (suc k) out k x (omega arith) ∙ drop_more out out₀ k w.behind;
      })

  pub whole_is : {l : List ℕ} → k ≤ length out → l ≡ [] → Written whole l out₀ out k
      → out ≡ whole ++ drop (length whole) out₀
  whole_is h n w =
      let e : whole ≡ take k out = w.front ∙ ap (λ (y : List ℕ). take k out ++ y) n ∙ append-nil (take k out) in
      let z : length whole ≡ k = ap length e ∙ length-take-le k out h in
      rw (z, e) (sym (take-append-drop k out) ∙ ap (λ (y : List ℕ). take k out ++ y) w.behind)
