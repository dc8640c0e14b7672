-- Two results of the code with one answer are one result: `answer` keeps everything.
--
--   number_one answer_one
--   refusal_at                the answer of a refusal that was made
--   answer_ok answer_no_err   a result that is Ok, and no Err, is done
--   answer_err answer_is_err answer_else     one that is not is refused
use mathlib.Core.List.{[], ◌∷◌}
use mathlib.Core.Path.{◌∙◌, ◌≡◌, ap, refl, sym}
use Prim.Native.Nat.{◌-◌, ◌<◌, ℕ}
use native.Mathlib.Omega.{arith}
use mathlib.Core.Bool.{false, true}
use mathlib.Core.Logic.{◌≢◌}
use Rattle.std.specs.Prelude.{Result, Ok, Err, is_err, is_ok, slice_index_or}
use Rattle.theory.proofs.TestLaws.{not_both}
use Rattle.theory.specs.Answer.{Answer, answer, number, refused}
use Rattle.theory.specs.declared.Counts.{Counts}
use Rattle.theory.specs.declared.Refusal.{Refusal}
use Rattle.theory.specs.declared.Rule.{Rule}
use Rattle.theory.specs.declared.Rule.TheVariants.{Count, Room, Letter, Unfinished, Extra, Pinch, Width, Gate, Vertex, Opposite, Edge, Twice, Ring, Reach, Handle, Line, Form, Length}

-- the rule of a number
abbrev rule_of : ℕ → Rule
rule_of n = slice_index_or (Count ∷ Room ∷ Letter ∷ Unfinished ∷ Extra ∷ Pinch ∷ Width ∷ Gate ∷ Vertex ∷ Opposite ∷ Edge ∷ Twice ∷ Ring ∷ Reach ∷ Handle ∷ Line ∷ Form ∷ Length ∷ []) (n - 1) Count

again : (r : Rule) → rule_of (number r) ≡ r
again Count = refl
again Room = refl
again Letter = refl
again Unfinished = refl
again Extra = refl
again Pinch = refl
again Width = refl
again Gate = refl
again Vertex = refl
again Opposite = refl
again Edge = refl
again Twice = refl
again Ring = refl
again Reach = refl
again Handle = refl
again Line = refl
again Form = refl
again Length = refl

pub number_one : (r s : Rule) → number r ≡ number s → r ≡ s
number_one r s e = sym (again r) ∙ ap rule_of e ∙ again s

some_number : (r : Rule) → 0 < number r
some_number Count = omega arith
some_number Room = omega arith
some_number Letter = omega arith
some_number Unfinished = omega arith
some_number Extra = omega arith
some_number Pinch = omega arith
some_number Width = omega arith
some_number Gate = omega arith
some_number Vertex = omega arith
some_number Opposite = omega arith
some_number Edge = omega arith
some_number Twice = omega arith
some_number Ring = omega arith
some_number Reach = omega arith
some_number Handle = omega arith
some_number Line = omega arith
some_number Form = omega arith
some_number Length = omega arith

counts_one : (c d : Counts) → c.t ≡ d.t → c.v ≡ d.v → c ≡ d
counts_one c d t v =
    let f : ℕ → Counts = λ x. record { t = x; v = c.v } in
    let g : ℕ → Counts = λ y. record { t = d.t; v = y } in
    ap f t ∙ ap g v

refusal_one : (c d : Refusal) → c.rule ≡ d.rule → c.place ≡ d.place → c ≡ d
refusal_one c d r p =
    let f : Rule → Refusal = λ x. record { rule = x; place = c.place } in
    let g : ℕ → Refusal = λ y. record { rule = d.rule; place = y } in
    ap f r ∙ ap g p

pub answer_one : (r s : Result Counts Refusal) → answer r ≡ answer s → r ≡ s
answer_one (Ok c) (Ok d) e =
    ap Ok (counts_one c d (ap (λ (a : Answer). a.t) e) (ap (λ (a : Answer). a.v) e))
answer_one (Ok c) (Err d) e =
    let n : 0 ≡ number d.rule = ap (λ (a : Answer). a.number) e in
    absurd (omega (arith, some_number d.rule))
answer_one (Err c) (Ok d) e =
    let n : number c.rule ≡ 0 = ap (λ (a : Answer). a.number) e in
    absurd (omega (arith, some_number c.rule))
answer_one (Err c) (Err d) e =
    let n : number c.rule ≡ number d.rule = ap (λ (a : Answer). a.number) e in
    ap Err (refusal_one c d (number_one c.rule d.rule n) (ap (λ (a : Answer). a.place) e))

pub refusal_at : {e : Refusal} (r : Rule) (at : ℕ) → e ≡ record { rule = r; place = at } → answer (Err e) ≡ refused (number r) at
refusal_at r at h = ap (λ (x : Refusal). refused (number x.rule) x.place) h

pub answer_ok : (r : Result Counts Refusal) → is_ok r ≡ true → (answer r).number ≡ 0
answer_ok (Ok c) e = refl
answer_ok (Err c) e = absurd (not_both true refl (sym e))

pub answer_err : (r : Result Counts Refusal) → is_ok r ≡ false → (answer r).number ≢ 0
answer_err (Ok c) e = absurd (not_both true refl e)
answer_err (Err c) e = λ q. omega (arith, some_number c.rule)

pub answer_no_err : (r : Result Counts Refusal) → is_err r ≡ false → (answer r).number ≡ 0
answer_no_err (Ok c) e = refl
answer_no_err (Err c) e = absurd (not_both true refl e)

pub answer_is_err : (r : Result Counts Refusal) → is_err r ≡ true → (answer r).number ≢ 0
answer_is_err (Ok c) e = absurd (not_both true refl (sym e))
answer_is_err (Err c) e = λ q. omega (arith, some_number c.rule)

pub answer_else : (r : Result Counts Refusal) → ((c : Counts) → r ≡ Ok c → ⊥) → (answer r).number ≢ 0
answer_else (Ok c) n = absurd (n c refl)
answer_else (Err c) n = λ q. omega (arith, some_number c.rule)
