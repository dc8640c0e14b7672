-- Reading a record: a head that is refused, and a head whose letters are passed on.
--
--   head_part head_inside   where the head is accepted its letters are the part that is passed on, which ends within
--                           the text
--   refused_opens           the call's promise after a head that is refused
--   open_refused            the same, of the refusal that the code hands on
--   open_done open_stopped  the call's promise after the string reader's
use mathlib.Core.Bool.{Bool, ◌&&◌, cond, true}
use mathlib.Core.List.{List, ◌∷◌}
use mathlib.Core.Logic.{◌≢◌}
use mathlib.Core.Path.{◌∙◌, ◌≡◌, ap, refl, subst, sym}
use Prim.Native.Nat.{◌*◌, ◌+◌, ◌-◌, ◌≤◌, ℕ}
use native.Mathlib.Decide.{ℕ_discrete}
use native.Mathlib.Omega.{arith}
use lib.Dec.{eqb, leb}
use lib.ListN.{drop, length, take}
use borrow.Author.Tests.{eq-eqb, ne_eqb}
use Rattle.record.proofs.Accepted.{Good, good_of, good_passes, letters_inside, letters_place}
use Rattle.record.proofs.RungLaws.{first_broken_append, plain_refusal, refused_append}
use Rattle.record.specs.Calls.{Opened, Opens, early, open_answer, opened, opened_of, plain_o, text_answer}
use Rattle.record.specs.Head.{Head, accepted_head, head_answer, head_in, head_of, refused_head}
use Rattle.record.specs.Lines.{head_rungs, letters}
use Rattle.std.specs.Prelude.{Err, Ok}
use Rattle.theory.proofs.AnswerLaws.{whole_passed}
use Rattle.theory.proofs.CallLaws.{filled_refused, rungs_keep}
use Rattle.theory.proofs.ResultLaws.{answer_err}
use Rattle.theory.specs.Answer.{Answer, answer, count_ok, count_rung, done, number, refused, room_rung}
use Rattle.theory.specs.Calls.{Reads, cleared, filled, judge_answer, read_answer, sizes}
use Rattle.theory.specs.Judge.{letter_rungs, string_answer, string_done}
use Rattle.theory.specs.Lists.{mem}
use Rattle.theory.specs.Tables.{table_o, table_v}
use Rattle.theory.specs.Word.{word_of}
use Rattle.theory.specs.declared.Counts.{Counts}
use Rattle.theory.specs.declared.Refusal.{Refusal}

-- the numbers that come before 2 leave the work space alone
abbrev pub Early : ℕ → Type 0
Early n = mem n early ≡ true

pub early_kept : (a : Answer) (work : List ℕ) → Early a.number → cleared early a work ≡ work
unfolding cleared
early_kept a work h = rw h

-- a string's own answers leave it alone where both calls do
pub string_cleared : (a : Answer) (work : List ℕ) → a.number ≤ 7 → cleared sizes a work ≡ cleared early a work
unfolding cleared mem
string_cleared a work h =
    rw (
      ne_eqb a.number 8 (λ e. omega arith),
      ne_eqb a.number 16 (λ e. omega arith),
      ne_eqb a.number 17 (λ e. omega arith),
      ne_eqb a.number 18 (λ e. omega arith),
    )

string_numbers : (s : List ℕ) (fits : Bool) → (string_answer s fits).number ≤ 7
unfolding string_answer
string_numbers s fits =
    rungs_keep (λ n. n ≤ 7) (count_rung (length s) ∷ room_rung fits ∷ letter_rungs s) (string_done s)
    (omega arith, (omega arith, (omega arith, (omega arith, (omega arith, (omega arith, (omega arith, tt)))))))
    (omega arith)

pub read_numbers : (s : List ℕ) (n m k : ℕ) → (read_answer s n m k).number ≤ 7
unfolding read_answer
read_numbers s n m k = string_numbers s (leb (3 * length s) n && (leb (3 * length s) m && leb (12 * length s) k))

pub judge_numbers : (s : List ℕ) (k : ℕ) → (judge_answer s k).number ≤ 7
unfolding judge_answer
judge_numbers s k = string_numbers s (leb (12 * length s) k)

module _ (text : List ℕ) where
  head_zero : (head_of text).number ≡ 0 → (head_answer text).number ≡ 0
  unfolding head_of
  head_zero z = go (ℕ_discrete (head_answer text).number 0) z
    where
      go : Dec ((head_answer text).number ≡ 0)
          → (cond (eqb (head_answer text).number 0) (accepted_head text) (refused_head (head_answer text))).number ≡ 0
          → (head_answer text).number ≡ 0
      go (yes e) z = e
      go (no n) z = subst (λ (b : Bool). (cond b (accepted_head text) (refused_head (head_answer text))).number ≡ 0)
          (ne_eqb (head_answer text).number 0 n) z

  pub head_good : (head_of text).number ≡ 0 → Good text
  unfolding head_answer
  head_good z = good_of text (done 0 0) (head_zero z)

  head_is : (head_of text).number ≡ 0 → head_of text ≡ accepted_head text
  unfolding head_of
  head_is z = rw (eq-eqb (head_answer text).number 0 (head_zero z))

  head_not : (head_of text).number ≢ 0 → (head_answer text).number ≢ 0
  unfolding head_of
  head_not n z = n (rw (eq-eqb (head_answer text).number 0 z))

  head_isnt : (head_of text).number ≢ 0 → head_of text ≡ refused_head (head_answer text)
  unfolding head_of
  head_isnt n = rw (ne_eqb (head_answer text).number 0 (head_not n))

  head_early : (head_answer text).number ≢ 0 → Early (head_answer text).number
  unfolding head_answer mem
  head_early =
      rungs_keep (λ n. n ≢ 0 → Early n) (head_rungs text) (done 0 0)
      ((λ n. refl), ((λ n. refl), ((λ n. refl), ((λ n. refl), ((λ n. refl), tt))))) (λ n. absurd (n refl))

module _ (text : List ℕ) (h : Head) (e : h ≡ head_of text) (z : h.number ≡ 0) where
  zero : (head_of text).number ≡ 0
  zero = ap (λ (x : Head). x.number) (sym e) ∙ z

  accepted : h ≡ accepted_head text
  accepted = e ∙ head_is text zero

  pub head_inside : h.start + h.len ≤ length text
  head_inside = rw accepted (letters_inside text (head_good text zero).lines)

  pub head_part : take (h.start + h.len - h.start) (drop h.start text) ≡ letters text
  head_part =
      let q : h.start + h.len - h.start ≡ h.len = omega arith in
      rw (q, accepted) (letters_place text (head_good text zero).lines)

-- a refusal is answered with no gate
opened_err : (e : Refusal) (gate : ℕ) → opened_of (Err e) ≡ opened (answer (Err e)) gate
unfolding opened
opened_err e gate = rw (ne_eqb (number e.rule) 0 (answer_err (Err e) refl))

module _ (text vs os work : List ℕ) where
  pub refused_opens : (h : Head) → h ≡ head_of text → h.number ≢ 0 → (a : Answer) → a ≡ refused h.number h.place
      → (r : Opened) → r ≡ opened a 0 → Opens text vs os work r vs os work
  unfolding head_answer open_answer text_answer opened
  refused_opens h e n a ea r er =
      let m : (head_of text).number ≢ 0 = λ z. n (ap (λ (x : Head). x.number) e ∙ z) in
      let b : a ≡ head_answer text =
      ea ∙ ap (λ (x : Head). refused x.number x.place) (e ∙ head_isnt text m) ∙ sym (plain_refusal (head_rungs text)) in
      let k : a.number ≢ 0 = λ z. head_not text m (ap (λ (x : Answer). x.number) (sym b) ∙ z) in
      let o : open_answer text (length vs) (length os) (length work) ≡ a =
      refused_append (head_rungs text) _ (done 0 0) (string_done (letters text)) refl (head_not text m) ∙ sym b in
      record {
        answer = er ∙ rw (o, ne_eqb a.number 0 k);
        vertices = rw er (sym (filled_refused a _ vs k));
        neighbours = rw er (sym (filled_refused a _ os k));
        space = rw er (sym (early_kept a work (subst (λ (x : Answer). Early x.number) (sym b)
            (head_early text (head_not text m)))));
      }

  pub open_refused : (e : Refusal) → head_in (Err e) ≡ head_of text
      → Opens text vs os work (opened_of (Err e)) vs os work
  open_refused e h = refused_opens (head_in (Err e)) h (answer_err (Err e) refl) _ refl _ (opened_err e 0)

  module _ (h : Head) (e : h ≡ head_of text) (z : h.number ≡ 0) {vs' os' work' : List ℕ} where
    read : (a : Answer) → Reads (take (h.start + h.len - h.start) (drop h.start text)) vs os work a vs' os' work'
        → (r : Opened) → plain_o r ≡ a → r ≡ opened a h.gate → Opens text vs os work r vs' os' work'
    unfolding open_answer text_answer read_answer string_answer
    read a reads r ea er =
        let es = head_part text h e z in
        let good = head_good text (zero text h e z) in
        let count : count_ok (length (letters text)) ≡ true = ap count_ok good.enough ∙ good.count in
        let b : a ≡ read_answer (letters text) (length vs) (length os) (length work) =
        reads.answer ∙ ap (λ (l : List ℕ). read_answer l (length vs) (length os) (length work)) es in
        let o : open_answer text (length vs) (length os) (length work) ≡ a =
        first_broken_append (head_rungs text) _ (string_done (letters text)) ∙ good_passes text good _
        ∙ sym (whole_passed 1 (count_ok (length (letters text))) _ (string_done (letters text)) count) ∙ sym b in
        record {
          answer = er ∙ rw (o, ap (λ (x : Head). x.gate) (accepted text h e z));
          vertices = rw ea (reads.vertices ∙ ap (λ (l : List ℕ). filled a (table_v (word_of l)) vs) es);
          neighbours = rw ea (reads.neighbours ∙ ap (λ (l : List ℕ). filled a (table_o (word_of l)) os) es);
          space = rw ea (reads.space ∙ string_cleared a work
              (rw b (read_numbers (letters text) (length vs) (length os) (length work))));
        }

-- the string reader's answer is the call's, with the gate
module _ (text : List ℕ) (gate start len : ℕ)
    (e : record { number = 0; place = 0; gate = gate; start = start; len = len } ≡ head_of text) where
  abbrev part : List ℕ
  part = take (start + len - start) (drop start text)

  pub part_inside : start + len ≤ length text
  part_inside = head_inside text _ e refl

  module _ (vs os work vs' os' work' : List ℕ) where
    pub open_done : (c : Counts) → Reads part vs os work (answer (Ok c)) vs' os' work'
        → Opens text vs os work (opened_of (Ok (record { counts = c; gate = gate }))) vs' os' work'
    unfolding opened
    open_done c reads = read text vs os work _ e refl _ reads _ refl refl

    pub open_stopped : (f : Refusal) → Reads part vs os work (answer (Err f)) vs' os' work'
        → Opens text vs os work (opened_of (Err f)) vs' os' work'
    open_stopped f reads = read text vs os work _ e refl _ reads _ refl (opened_err f gate)
