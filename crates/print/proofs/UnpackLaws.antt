-- The program's answer and text.
--
--   ready_sizes ready_room   what is lent has the program's sizes
--   unpack_unready           nothing is printed or touched where it has not
--   unpack_long              over 2,048 bytes
--   unpack_refused           a refusal of the record's reader
--   unpack_done              a mesh is printed; done_few: it has at most 800 triangles
use mathlib.Core.Bool.{Bool, ◌&&◌, false, true}
use mathlib.Core.List.{List, ◌++◌}
use mathlib.Core.Logic.{◌≢◌}
use mathlib.Core.Path.{◌∙◌, ◌≡◌, ap, refl, sym}
use Prim.Native.Nat.{◌*◌, ◌+◌, ◌<◌, ◌≤◌, suc, zero, ℕ}
use native.Mathlib.Decide.{dec_le}
use native.Mathlib.Omega.{arith}
use lib.Dec.{eqb, leb}
use lib.ListN.{get_or-append, length}
use borrow.Author.Tests.{eq-eqb, eqb-true, le-leb, leb-true, lt-leb, ne_eqb}
use Rattle.print.specs.Printed.{counts_line, refusal_line, triangle_line, triangle_lines}
use Rattle.print.specs.Unpack.{Unpacks, answer_text, byte_limit, ready, reported, shown, text_room, triangle_limit, unpack_answer, unpack_text}
use Rattle.record.proofs.Filled.{Filled}
use Rattle.record.proofs.OpenLaws.{early_kept}
use Rattle.record.proofs.RoundTrip.{read_done, read_fits, read_gate, read_letters}
use Rattle.record.specs.Calls.{Opened, Opens, early, open_answer, open_rungs, opened, plain_o, text_answer}
use Rattle.record.specs.Lines.{gate_line, letters}
use Rattle.text.proofs.PutLaws.{put_none}
use Rattle.theory.proofs.AnswerLaws.{whole_passed, whole_stops}
use Rattle.theory.proofs.CallLaws.{filled_done, filled_refused}
use Rattle.theory.proofs.Closing.{answer_closes, closes_word}
use Rattle.theory.proofs.TestLaws.{and_left, and_right}
use Rattle.theory.proofs.WordLaws.{length_spell}
use Rattle.theory.proofs.WordTables.{length_o, length_v}
use Rattle.theory.specs.Answer.{Answer, first_broken, refused}
use Rattle.theory.specs.Calls.{cleared, filled}
use Rattle.theory.specs.Judge.{letter_answer, string_done}
use Rattle.theory.specs.Lists.{mem}
use Rattle.theory.specs.Tables.{table_o, table_v}
use Rattle.theory.specs.Word.{size, word_of}

pub ready_sizes : (n m k l : ℕ) → ready n m k l ≡ true → (n ≡ 2400) × (m ≡ 2400) × (k ≡ 9600) × (text_room ≤ l)
unfolding ready
ready_sizes n m k l h =
    let h1 = and_right (eqb n 2400) _ h in
    let h2 = and_right (eqb m 2400) _ h1 in (
      eqb-true n 2400 (and_left (eqb n 2400) _ h),
      eqb-true m 2400 (and_left (eqb m 2400) _ h1),
      eqb-true k 9600 (and_left (eqb k 9600) _ h2),
      leb-true text_room l (and_right (eqb k 9600) _ h2),
    )

pub ready_room : (n m k l : ℕ) → ready n m k l ≡ true → text_room ≤ l
ready_room n m k l h = (ready_sizes n m k l h).3

-- room for 800 triangles is what the tables and the work space give
limit_room : (n : ℕ) → leb (3 * n) 2400 && (leb (3 * n) 2400 && leb (12 * n) 9600) ≡ leb n triangle_limit
limit_room n = go (dec_le n triangle_limit)
  where
    go : Dec (n ≤ triangle_limit) → leb (3 * n) 2400 && (leb (3 * n) 2400 && leb (12 * n) 9600) ≡ leb n triangle_limit
    go (yes h) = rw (le-leb n triangle_limit h, le-leb (3 * n) 2400 (omega arith), le-leb (12 * n) 9600 (omega arith))
    go (no h) = rw (lt-leb n triangle_limit (omega arith), lt-leb (3 * n) 2400 (omega arith))

-- ---- tables that have more behind them print the same lines

line_same : (a b x y : List ℕ) (k : ℕ) → 3 * k + 3 ≤ length a → 3 * k + 3 ≤ length b
    → triangle_line (a ++ x) (b ++ y) k ≡ triangle_line a b k
unfolding triangle_line
line_same a b x y k ha hb =
    rw (
      get_or-append a x 0 (3 * k) (omega arith),
      get_or-append a x 0 (3 * k + 1) (omega arith),
      get_or-append a x 0 (3 * k + 2) (omega arith),
      get_or-append b y 0 (3 * k) (omega arith),
      get_or-append b y 0 (3 * k + 1) (omega arith),
      get_or-append b y 0 (3 * k + 2) (omega arith),
    )

lines_same : (k : ℕ) (a b x y : List ℕ) → 3 * k ≤ length a → 3 * k ≤ length b
    → triangle_lines (a ++ x) (b ++ y) k ≡ triangle_lines a b k
unfolding triangle_lines
lines_same zero a b x y ha hb = refl
lines_same (suc k) a b x y ha hb =
    rw (lines_same k a b x y (omega arith) (omega arith), line_same a b x y k (omega arith) (omega arith))

-- an accepted string is the whole of its word
word_size : (s : List ℕ) → (letter_answer s).number ≡ 0 → size (word_of s) ≡ length s
word_size s z =
    let closes = answer_closes s z in
    ap size (sym (closes_word s closes)) ∙ sym (length_spell closes.word) ∙ ap length closes.spelt

-- ---- the promise

abbrev lent_well : List ℕ → List ℕ → List ℕ → List ℕ → Bool
lent_well vs os work out = ready (length vs) (length os) (length work) (length out)

module _ (bytes vs os work out : List ℕ) where
  pub unpack_unready : lent_well vs os work out ≡ false → Unpacks bytes vs os work out 0 vs os work out
  unfolding shown reported mem
  unpack_unready h = record {
    size = rw h;
    text = rw h (sym (put_none out 0));
    vertices = rw h (sym (filled_refused (refused 2 0) (table_v (word_of (letters bytes))) vs (λ e. omega arith)));
    neighbours = rw h (sym (filled_refused (refused 2 0) (table_o (word_of (letters bytes))) os (λ e. omega arith)));
    space = rw h (sym (early_kept (refused 2 0) work refl));
    inside = omega arith;
  }

  module _ (well : lent_well vs os work out ≡ true) where
    made : (a : Answer) → unpack_answer bytes ≡ a → (text : List ℕ)
        → answer_text a (gate_line bytes).value (letters bytes) ≡ text
        → {out' vs' os' work' : List ℕ} {r : ℕ} → Filled out text out' r
        → vs' ≡ filled a (table_v (word_of (letters bytes))) vs → os' ≡ filled a (table_o (word_of (letters bytes))) os
        → work' ≡ cleared early a work
        → Unpacks bytes vs os work out r vs' os' work' out'
    unfolding shown reported unpack_text
    made a e text et f ev eo ew =
        let t : shown (lent_well vs os work out) bytes ≡ text = rw (well, e) et in
        let p : reported (lent_well vs os work out) bytes ≡ a = rw (well, e) in
        record {
          size = rw t f.size;
          text = rw t f.text;
          vertices = rw p ev;
          neighbours = rw p eo;
          space = rw p ew;
          inside = f.inside;
        }

    refused_text : (a : Answer) → a.number ≢ 0
        → answer_text a (gate_line bytes).value (letters bytes) ≡ refusal_line a.number a.place
    unfolding answer_text
    refused_text a n = rw (ne_eqb a.number 0 n)

    pub unpack_long : byte_limit < length bytes → {out' : List ℕ} {r : ℕ} → Filled out (refusal_line 2 0) out' r
        → Unpacks bytes vs os work out r vs os work out'
    unfolding unpack_answer mem
    unpack_long h f =
        made (refused 2 0) (whole_stops 2 (leb (length bytes) byte_limit) _ (string_done (letters bytes))
        (lt-leb (length bytes) byte_limit h)) (refusal_line 2 0)
        (refused_text (refused 2 0) (λ e. omega arith)) f
        (sym (filled_refused (refused 2 0) (table_v (word_of (letters bytes))) vs (λ e. omega arith)))
        (sym (filled_refused (refused 2 0) (table_o (word_of (letters bytes))) os (λ e. omega arith)))
        (sym (early_kept (refused 2 0) work refl))

    module _ (few : length bytes ≤ byte_limit) {r : Opened} {vs' os' work' : List ℕ}
        (opens : Opens bytes vs os work r vs' os' work') where
      plain_read : plain_o r ≡ open_answer bytes (length vs) (length os) (length work)
      unfolding opened
      plain_read = ap plain_o opens.answer

      answered : unpack_answer bytes ≡ plain_o r
      unfolding unpack_answer open_answer text_answer
      answered =
          let sizes = ready_sizes (length vs) (length os) (length work) (length out) well in
          whole_passed 2 (leb (length bytes) byte_limit) _ (string_done (letters bytes))
          (le-leb (length bytes) byte_limit few)
          ∙ ap (λ (b : Bool). first_broken (open_rungs bytes b) (string_done (letters bytes)))
          (sym (limit_room (length (letters bytes))))
          ∙ sym (plain_read ∙ rw (sizes.0, sizes.1, sizes.2))

      pub unpack_refused : r.number ≢ 0 → {out' : List ℕ} {p : ℕ} → Filled out (refusal_line r.number r.place) out' p
          → Unpacks bytes vs os work out p vs' os' work' out'
      unpack_refused n f =
          made (plain_o r) answered (refusal_line r.number r.place) (refused_text (plain_o r) n) f
          opens.vertices opens.neighbours opens.space

      module _ (z : r.number ≡ 0) where
        counts : plain_o r ≡ string_done (letters bytes)
        counts = plain_read ∙ read_done bytes vs os work r vs' os' work' opens z

        triangles_read : r.t ≡ length (letters bytes)
        triangles_read = ap (λ (a : Answer). a.t) counts

        pub done_few : r.t ≤ triangle_limit
        done_few =
            omega (
              arith,
              triangles_read,
              read_fits bytes vs os work r vs' os' work' opens z,
              (ready_sizes (length vs) (length os) (length work) (length out) well).0,
            )

        word_read : size (word_of (letters bytes)) ≡ r.t
        word_read = word_size (letters bytes) (read_letters bytes vs os work r vs' os' work' opens z)
            ∙ sym triangles_read

        lines_read : triangle_lines vs' os' r.t ≡ triangle_lines (table_v (word_of (letters bytes)))
            (table_o (word_of (letters bytes))) r.t
        lines_read =
            let w = word_of (letters bytes) in
            rw (
              opens.vertices ∙ filled_done (plain_o r) (table_v w) vs z,
              opens.neighbours
                  ∙ filled_done (plain_o r) (table_o w) os z,
            )
            (lines_same r.t (table_v w) (table_o w) _ _ (omega (arith, length_v w, word_read))
            (omega (arith, length_o w, word_read)))

        mesh_text_lem : answer_text (plain_o r) (gate_line bytes).value (letters bytes) ≡ counts_line r.t r.v
            r.gate ++ triangle_lines vs' os' r.t
        unfolding answer_text
        mesh_text_lem = rw (eq-eqb r.number 0 z, lines_read, read_gate bytes vs os work r vs' os' work' opens z)

        pub unpack_done : {out' : List ℕ} {q : ℕ}
            → Filled out (counts_line r.t r.v r.gate ++ triangle_lines vs' os' r.t) out' q
            → Unpacks bytes vs os work out q vs' os' work' out'
        unpack_done f =
            made (plain_o r) answered (counts_line r.t r.v r.gate ++ triangle_lines vs' os' r.t) mesh_text_lem f
            opens.vertices opens.neighbours opens.space
