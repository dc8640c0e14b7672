-- Two results of the code that are answered alike are one result: `opened_of`, `packed_of` and `head_in` keep
-- everything. A refusal and the counts are those of a result of theory's, which `answer_one` tells apart.
--
--   refusal_again counts_again      a refusal, and counts, from their answers
--   opened_one packed_one head_one
use mathlib.Core.Path.{◌∙◌, ◌≡◌, ap, refl, sym}
use Prim.Native.Nat.{ℕ}
use Rattle.record.specs.Calls.{Opened, Packed, opened_of, packed_of, plain_o, plain_p}
use Rattle.record.specs.Head.{Head, head_in}
use Rattle.record.specs.declared.Last.{Last}
use Rattle.record.specs.declared.Sym.{Sym}
use Rattle.record.specs.declared.Text.{Text}
use Rattle.std.specs.Prelude.{Result, Ok, Err}
use Rattle.theory.proofs.ResultLaws.{answer_err, answer_one}
use Rattle.theory.specs.Answer.{answer, refused}
use Rattle.theory.specs.declared.Counts.{Counts}
use Rattle.theory.specs.declared.Refusal.{Refusal}

refusal_again : (e f : Refusal) → answer (Err e) ≡ answer (Err f) → e ≡ f
refusal_again e f h = let same = answer_one (Err e) (Err f) h in cc

counts_again : (c d : Counts) → answer (Ok c) ≡ answer (Ok d) → c ≡ d
counts_again c d h = let same = answer_one (Ok c) (Ok d) h in cc

pub opened_one : (r s : Result Last Refusal) → opened_of r ≡ opened_of s → r ≡ s
opened_one (Ok r) (Ok s) h =
    let f : Counts → Last = λ c. record { counts = c; gate = r.gate } in
    let g : ℕ → Last = λ n. record { counts = s.counts; gate = n } in
    ap Ok (ap f (counts_again r.counts s.counts (ap plain_o h)) ∙ ap g (ap (λ (x : Opened). x.gate) h))
opened_one (Ok r) (Err f) h = absurd (answer_err (Err f) refl (sym (ap (λ (x : Opened). x.number) h)))
opened_one (Err e) (Ok s) h = absurd (answer_err (Err e) refl (ap (λ (x : Opened). x.number) h))
opened_one (Err e) (Err f) h = ap Err (refusal_again e f (ap plain_o h))

pub packed_one : (r s : Result Text Refusal) → packed_of r ≡ packed_of s → r ≡ s
packed_one (Ok r) (Ok s) h =
    let f : Counts → Text = λ c. record { counts = c; length = r.length } in
    let g : ℕ → Text = λ n. record { counts = s.counts; length = n } in
    ap Ok (ap f (counts_again r.counts s.counts (ap plain_p h)) ∙ ap g (ap (λ (x : Packed). x.length) h))
packed_one (Ok r) (Err f) h = absurd (answer_err (Err f) refl (sym (ap (λ (x : Packed). x.number) h)))
packed_one (Err e) (Ok s) h = absurd (answer_err (Err e) refl (ap (λ (x : Packed). x.number) h))
packed_one (Err e) (Err f) h = ap Err (refusal_again e f (ap plain_p h))

pub head_one : (r s : Result Sym Refusal) → head_in r ≡ head_in s → r ≡ s
head_one (Ok r) (Ok s) h =
    let f : ℕ → Sym = λ n. record { gate = n; start = r.start; len = r.len } in
    let g : ℕ → Sym = λ n. record { gate = s.gate; start = n; len = r.len } in
    let k : ℕ → Sym = λ n. record { gate = s.gate; start = s.start; len = n } in
    ap Ok (ap f (ap (λ (x : Head). x.gate) h) ∙ ap g (ap (λ (x : Head). x.start) h)
    ∙ ap k (ap (λ (x : Head). x.len) h))
head_one (Ok r) (Err f) h = absurd (answer_err (Err f) refl (sym (ap (λ (x : Head). x.number) h)))
head_one (Err e) (Ok s) h = absurd (answer_err (Err e) refl (ap (λ (x : Head). x.number) h))
head_one (Err e) (Err f) h = ap Err (refusal_again e f (ap (λ (x : Head). refused x.number x.place) h))
