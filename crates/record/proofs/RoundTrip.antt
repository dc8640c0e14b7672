-- Reading and writing a record undo each other.
--
--   pack_packable   a string that is packed can stand in a record, and its letters are accepted
--   written_read    what write_record writes, read_record reads with the same string's tables, t, v and gate
--   read_written    a record that is accepted is, byte for byte, what write_record writes for its string and gate
use mathlib.Core.Bool.{Bool, ◌&&◌, true}
use mathlib.Core.List.{List, [], ◌++◌, ◌∷◌}
use mathlib.Core.Logic.{◌≢◌}
use mathlib.Core.Path.{◌∙◌, ◌≡◌, ap, refl, subst, sym}
use Prim.Native.Nat.{◌*◌, ◌<◌, ◌≤◌, suc, ℕ}
use native.Mathlib.Omega.{arith}
use lib.Dec.{leb, ltb}
use lib.ListN.{drop, get_or, length, take}
use lib.Seq.{take-append_seam}
use borrow.Author.Tests.{le-leb, leb-true, lt-ltb, ne_eqb}
use Rattle.record.proofs.Accepted.{Good, good_of, good_passes, lines_text}
use Rattle.record.proofs.PackLaws.{sizes_pass}
use Rattle.record.proofs.RungLaws.{first_broken_append, none_stops, zero_passed, zero_whole}
use Rattle.record.proofs.Written.{Packable, text_gate, text_good, text_letters}
use Rattle.record.specs.Calls.{Opened, Opens, Packed, Packs, open_answer, opened, pack_answer, pack_rungs, packed, plain_o, plain_p, text_answer, text_of}
use Rattle.record.specs.Lines.{gate_line, head_rungs, letters}
use Rattle.record.specs.Record.{record_text}
use Rattle.text.specs.Line.{lacks, line_end}
use Rattle.theory.proofs.AnswerLaws.{whole_passed}
use Rattle.theory.proofs.CallLaws.{EachRung, filled_done}
use Rattle.theory.proofs.LeastLaws.{least_below}
use Rattle.theory.proofs.Opens.{opens}
use Rattle.theory.proofs.TestLaws.{and_left, not_both}
use Rattle.theory.specs.Answer.{Answer, count_ok, each, first_broken, room_rung}
use Rattle.theory.specs.Judge.{letter_answer, letter_rungs, string_done}
use Rattle.theory.specs.Letter.{is_letter, letter}
use Rattle.theory.specs.Tables.{table_o, table_v}
use Rattle.theory.specs.Word.{word_of}

-- ---- the letters

end_other : (x : ℕ) → is_letter x ≡ true → x ≢ line_end
unfolding is_letter letter
end_other x h e = not_both (is_letter line_end) (ap is_letter (sym e) ∙ h) refl

all_letters : (s : List ℕ) → ((i : ℕ) → i < length s → is_letter (get_or s i 0) ≡ true) → lacks line_end s ≡ true
all_letters [] f = refl
all_letters (x ∷ s) f = rw (ne_eqb x line_end (end_other x (f 0 (omega arith))))
    (all_letters s (λ i h. f (suc i) (omega arith)))

letters_numbered : (s : List ℕ) → EachRung (λ n. n ≢ 0) (letter_rungs s)
letters_numbered s =
    ((λ e. omega arith), ((λ e. omega arith), ((λ e. omega arith), ((λ e. omega arith), ((λ e. omega arith), tt)))))

-- letters that nothing stops have no byte 10
letters_lack_end : (s : List ℕ) (a : Answer) → (first_broken (letter_rungs s) a).number ≡ 0 → lacks line_end s ≡ true
letters_lack_end s a z =
    let p = zero_passed (each 3 (λ i. is_letter (get_or s i 0)) (length s)) _ a (λ e. omega arith) z in
    all_letters s (λ i h. least_below (λ j. is_letter (get_or s j 0)) (length s) i (omega (arith, p.0)))

take_filled : (made old : List ℕ) → take (length made) (made ++ drop (length made) old) ≡ made
take_filled made old = take-append_seam made (drop (length made) old)

-- ---- a string that is packed

module _ (s : List ℕ) (gate n k : ℕ) (z : (pack_answer s gate n k).number ≡ 0) where
  abbrev fits : Bool
  fits = leb (length (text_of s gate)) n && leb (12 * length s) k

  past : (count_ok (length s) ≡ true) × (gate < 3 * length s)
      × ((first_broken (letter_rungs s) (string_done s)).number ≡ 0)
  unfolding pack_answer packed
  past =
      let p = sizes_pass s gate fits (letter_rungs s) (string_done s) z in
      (p.0, p.1, p.3)

  pub pack_packable : Packable s gate
  pack_packable = record { count = past.0; corner = past.1; no_end = letters_lack_end s (string_done s) past.2 }

  pub pack_letters : (a : Answer) → first_broken (letter_rungs s) a ≡ a
  pack_letters a = none_stops (letter_rungs s) (string_done s) a (letters_numbered s) past.2

  pub pack_is_done : pack_answer s gate n k ≡ string_done s
  unfolding pack_answer packed
  pack_is_done =
      none_stops (pack_rungs s gate fits) (string_done s) (string_done s)
      ((λ e. omega arith), ((λ e. omega arith), ((λ e. omega arith), letters_numbered s))) z

-- what reading answers where nothing but the room may stop it
pub record ReadBack (s : List ℕ) (gate : ℕ) (vs os : List ℕ) (r : Opened) (vs' os' : List ℕ) : Type 0 where
  pub answer : r ≡ opened (string_done s) gate
  pub vertices : vs' ≡ table_v (word_of s) ++ drop (length (table_v (word_of s))) vs
  pub neighbours : os' ≡ table_o (word_of s) ++ drop (length (table_o (word_of s))) os

module _ (s : List ℕ) (gate : ℕ) (out work : List ℕ) (p : Packed) (out' work' : List ℕ)
    (packs : Packs s gate out work p out' work') (z : p.number ≡ 0) where
  packed_zero : (pack_answer s gate (length out) (length work)).number ≡ 0
  unfolding packed
  packed_zero = sym (ap (λ (x : Packed). x.number) packs.answer) ∙ z

  packed_length : p.length ≡ length (text_of s gate)
  unfolding packed
  packed_length = ap (λ (x : Packed). x.length) packs.answer ∙ rw packed_zero

  pub written_text : take p.length out' ≡ text_of s gate
  written_text = rw (packed_length, packs.text, filled_done (plain_p p) (text_of s gate) out z)
      (take_filled (text_of s gate) out)

  pub written_read : (vs os space : List ℕ) (r : Opened) (vs' os' space' : List ℕ)
      → Opens (take p.length out') vs os space r vs' os' space'
      → 3 * length s ≤ length vs → 3 * length s ≤ length os → 12 * length s ≤ length space
      → ReadBack s gate vs os r vs' os'
  unfolding open_answer text_answer opened
  written_read vs os space r vs' os' space' opens hv ho hw =
      let packable = pack_packable s gate (length out) (length work) packed_zero in
      let q : letters (take p.length out') ≡ s = ap letters written_text ∙ text_letters s gate packable in
      let g : (gate_line (take p.length out')).value ≡ gate = ap (λ (l : List ℕ). (gate_line l).value) written_text
      ∙ text_gate s gate packable in
      let good : Good (take p.length out') = subst Good (sym written_text) (text_good s gate packable) in
      let room : leb (3 * length s) (length vs) &&
      (leb (3 * length s) (length os) && leb (12 * length s) (length space)) ≡ true =
      rw (
        le-leb (3 * length s) (length vs) hv,
        le-leb (3 * length s) (length os) ho,
        le-leb (12 * length s)
            (length space) hw,
      ) in
      let a : open_answer (take p.length out') (length vs) (length os) (length space) ≡ string_done s =
      first_broken_append (head_rungs (take p.length out')) _ (string_done (letters (take p.length out')))
      ∙ good_passes (take p.length out') good _
      ∙ ap (λ (l : List ℕ). first_broken
      (room_rung (leb (3 * length l) (length vs) &&
      (leb (3 * length l) (length os) && leb (12 * length l) (length space))) ∷ letter_rungs l) (string_done l)) q
      ∙ whole_passed 2 _ (letter_rungs s) (string_done s) room
      ∙ pack_letters s gate (length out) (length work) packed_zero (string_done s) in
      let zero : r.number ≡ 0 = ap (λ (x : Opened). x.number)
      (opens.answer ∙ ap (λ (x : Answer). opened x (gate_line (take p.length out')).value) a) in
      record {
        answer = opens.answer ∙ rw (a, g);
        vertices = opens.vertices ∙ filled_done (plain_o r) _ vs zero
            ∙ ap (λ (l : List ℕ). table_v (word_of l) ++ drop (length (table_v (word_of l))) vs) q;
        neighbours = opens.neighbours ∙ filled_done (plain_o r) _ os zero
            ∙ ap (λ (l : List ℕ). table_o (word_of l) ++ drop (length (table_o (word_of l))) os) q;
      }

-- ---- a record that is accepted

-- what writing answers for its string and gate
pub record WrittenBack (text : List ℕ) (p : Packed) (out' : List ℕ) : Type 0 where
  pub answer : p ≡ packed (string_done (letters text)) (length text)
  pub same : take (length text) out' ≡ text

module _ (text vs os work : List ℕ) (r : Opened) (vs' os' work' : List ℕ)
    (opens : Opens text vs os work r vs' os' work') (z : r.number ≡ 0) where
  opened_zero : (open_answer text (length vs) (length os) (length work)).number ≡ 0
  unfolding opened
  opened_zero = sym (ap (λ (x : Opened). x.number) opens.answer) ∙ z

  abbrev lent : Bool
  lent =
      leb (3 * length (letters text)) (length vs) &&
      (leb (3 * length (letters text)) (length os) && leb (12 * length (letters text)) (length work))

  behind_head : Answer
  behind_head = first_broken (room_rung lent ∷ letter_rungs (letters text)) (string_done (letters text))

  split_zero : (first_broken (head_rungs text) behind_head).number ≡ 0
  unfolding open_answer text_answer behind_head
  split_zero = ap (λ (x : Answer). x.number)
      (sym (first_broken_append (head_rungs text) _ (string_done (letters text)))) ∙ opened_zero

  pub read_good : Good text
  read_good = good_of text behind_head split_zero

  past_head : (lent ≡ true) × ((first_broken (letter_rungs (letters text)) (string_done (letters text))).number ≡ 0)
  unfolding behind_head
  past_head =
      zero_whole 2 lent (letter_rungs (letters text)) (string_done (letters text)) (λ e. omega arith)
      (ap (λ (x : Answer). x.number) (sym (good_passes text read_good behind_head)) ∙ split_zero)

  pub read_fits : 3 * length (letters text) ≤ length vs
  read_fits = leb-true (3 * length (letters text)) (length vs) (and_left _ _ past_head.0)

  pub read_letters : (letter_answer (letters text)).number ≡ 0
  unfolding letter_answer
  read_letters = past_head.1

  pub read_done : open_answer text (length vs) (length os) (length work) ≡ string_done (letters text)
  unfolding open_answer text_answer
  read_done =
      first_broken_append (head_rungs text) _ (string_done (letters text)) ∙ good_passes text read_good _
      ∙ whole_passed 2 lent (letter_rungs (letters text)) (string_done (letters text)) past_head.0
      ∙ none_stops (letter_rungs (letters text)) (string_done (letters text)) (string_done (letters text))
      (letters_numbered (letters text)) past_head.1

  pub read_gate : r.gate ≡ (gate_line text).value
  unfolding opened
  read_gate = ap (λ (x : Opened). x.gate) opens.answer ∙ rw opened_zero

  pub read_text : text ≡ text_of (letters text) r.gate
  unfolding text_of record_text
  read_text = lines_text text read_good.lines ∙ rw (read_good.one, read_good.enough, read_gate)

  pub read_written : (out space : List ℕ) (p : Packed) (out' space' : List ℕ)
      → Packs (letters text) r.gate out space p out' space'
      → length text ≤ length out → 12 * length (letters text) ≤ length space → WrittenBack text p out'
  unfolding pack_answer packed
  read_written out space p out' space' packs ht hw =
      let n : length (text_of (letters text) r.gate) ≡ length text = sym (ap length read_text) in
      let room : leb (length (text_of (letters text) r.gate)) (length out) && leb (12 * length (letters text))
      (length space) ≡ true =
      rw (
        le-leb (length (text_of (letters text) r.gate)) (length out) (omega (arith, n)),
        le-leb
            (12 * length (letters text)) (length space) hw,
      ) in
      let corner : r.gate < 3 * length (letters text) =
      omega (arith, read_good.corner, read_good.enough, read_gate) in
      let a : pack_answer (letters text) r.gate (length out) (length space) ≡ string_done (letters text) =
      whole_passed 1 (count_ok (length (letters text))) _ (string_done (letters text))
      (ap count_ok read_good.enough ∙ read_good.count)
      ∙ whole_passed 8 (ltb r.gate (3 * length (letters text))) _ (string_done (letters text))
      (lt-ltb r.gate (3 * length (letters text)) corner)
      ∙ whole_passed 2 _ (letter_rungs (letters text)) (string_done (letters text)) room
      ∙ none_stops (letter_rungs (letters text)) (string_done (letters text)) (string_done (letters text))
      (letters_numbered (letters text)) past_head.1 in
      let e : p ≡ packed (string_done (letters text)) (length text) = packs.answer ∙ rw (a, n) in
      let zero : p.number ≡ 0 = packed_number e in
      record {
        answer = e;
        same =
            rw (sym n, packs.text, filled_done (plain_p p) (text_of (letters text) r.gate) out zero)
            (take_filled (text_of (letters text) r.gate) out ∙ sym read_text);
      }
    where
      packed_number : {p : Packed} → p ≡ packed (string_done (letters text)) (length text) → p.number ≡ 0
      packed_number e = ap (λ (x : Packed). x.number) e
