-- Demand 2 for records, from the promises of the record part alone.
--
--   record_refused    nothing is promised of a record that is refused
--   record_room       an accepted record has room in the work space
--   head_refused      a head that is refused refuses the record
--   head_err          the same, of the refusal that the code hands on
--   head_letters      the part of the record that the head says is its letters
--   record_returned   a record read and its string and gate written
use mathlib.Core.Bool.{◌&&◌}
use mathlib.Core.List.{List}
use mathlib.Core.Logic.{◌≢◌}
use mathlib.Core.Path.{◌∙◌, ◌≡◌, ap, refl, sym}
use Prim.Native.Nat.{◌*◌, ◌+◌, ◌-◌, ◌≤◌, ℕ}
use native.Mathlib.Omega.{arith}
use lib.Dec.{leb}
use lib.ListN.{drop, length, length-replicate, replicate, take}
use borrow.Author.Tests.{leb-true}
use Rattle.promises.specs.Demands.{RecordReturned}
use Rattle.record.proofs.OpenLaws.{head_part, refused_opens}
use Rattle.record.proofs.RoundTrip.{read_written}
use Rattle.record.specs.Calls.{Opens, Packs, early, open_answer, open_rungs, opened, packed, plain_o, text_answer}
use Rattle.record.specs.Head.{Head, head_in, head_of}
use Rattle.record.specs.Lines.{letters}
use Rattle.record.specs.Calls.{Opened}
use Rattle.record.specs.Calls.{Packed}
use Rattle.theory.proofs.Passed.{Named, done_passed, passes_whole}
use Rattle.theory.proofs.TestLaws.{and_right}
use Rattle.std.specs.Prelude.{Err}
use Rattle.theory.proofs.ResultLaws.{answer_err}
use Rattle.theory.specs.Answer.{refused}
use Rattle.theory.specs.declared.Refusal.{Refusal}
use Rattle.theory.specs.Calls.{cleared}
use Rattle.theory.specs.Judge.{string_done}
use Rattle.theory.specs.Lists.{mem}

-- the part of the record that the head says
pub head_letters : (text : List ℕ) (h : Head) (e : ℕ) → h ≡ head_of text → h.number ≡ 0 → e ≡ h.start + h.len
    → take (e - h.start) (drop h.start text) ≡ letters text
head_letters text h e q z n = rw n (head_part text h q z)

module _ {text vs os work vs' os' work' : List ℕ} {r : Opened} (o : Opens text vs os work r vs' os' work') where
  pub record_refused : {out out' : List ℕ} {p : Packed} → r.number ≢ 0 → RecordReturned text vs os work out r p out'
  record_refused h = record { read = o.answer; returns = λ e l. absurd (h e) }

  pub head_refused : (h : Head) → h ≡ head_of text → h.number ≢ 0 → r.number ≢ 0
  unfolding opened
  head_refused h e n z =
      let a = refused h.number h.place in
      let same = refused_opens text vs os work h e n a refl (opened a 0) refl in
      n (ap (λ (x : Opened). x.number) (same.answer ∙ sym o.answer) ∙ z)

  pub head_err : (e : Refusal) → head_in (Err e) ≡ head_of text → r.number ≢ 0
  head_err e h = head_refused (head_in (Err e)) h (answer_err (Err e) refl)

  -- a record that is accepted has room in the work space
  pub record_room : r.number ≡ 0 → 12 * length (letters text) ≤ length work
  unfolding opened open_answer text_answer
  record_room z =
      let n = length (letters text) in
      let fits = leb (3 * n) (length vs) && (leb (3 * n) (length os) && leb (12 * n) (length work)) in
      let named : Named (open_rungs text fits) = (
        omega arith,
        (
          omega arith,
          (
            omega arith,
            (
              omega arith,
              (
                omega arith,
                (
                  omega arith,
                  (
                    omega arith,
                    (
                      omega arith,
                      (omega arith, (omega arith, (omega arith, tt))),
                    ),
                  ),
                ),
              ),
            ),
          ),
        ),
      ) in
      let zero = ap (λ (x : Opened). x.number) (sym o.answer) ∙ z in
      let p = done_passed (open_rungs text fits) (string_done (letters text)) named zero in
      let room = passes_whole 2 fits p.1.1.1.1.1.0 in
      let rest = and_right (leb (3 * n) (length vs)) (leb (3 * n) (length os) && leb (12 * n) (length work)) room in
      leb-true (12 * n) (length work) (and_right (leb (3 * n) (length os)) (leb (12 * n) (length work)) rest)

  -- the work space keeps its length
  space_same : r.number ≡ 0 → length work' ≡ length work
  unfolding cleared mem
  space_same h =
      let zeros : cleared early (plain_o r) work ≡ replicate (length work) 0 = rw h in
      ap length (o.space ∙ zeros) ∙ length-replicate {A = ℕ} (length work) 0

  pub record_returned :
      {out part out' work'' : List ℕ} {p : Packed} → part ≡ letters text → Packs part r.gate out work' p out' work''
      → RecordReturned text vs os work out r p out'
  record_returned {out} {part} {out'} {work''} {p} e packs = record { read = o.answer; returns = go }
    where
      go : r.number ≡ 0 → length text ≤ length out
          → (p ≡ packed (string_done (letters text)) (length text)) × (take (length text) out' ≡ text)
      go z l =
          let room = record_room z in
          let same = space_same z in
          let back =
          read_written text vs os work r vs' os' work' o z out work' p out' work'' (rw e at packs) l (omega arith) in
          (back.answer, back.same)
