-- A call's promise, from its answer and work space (`Outcome`) and what it left in its outputs.
--
--   judges checks                calls without outputs; short_answer, short_space: check 2
--   reads_kept reads_rest        read_string: a refusal before any work, and what its inner part answers
--   writes_kept writes_rest      the same for write_string
--   read_room write_room         what the checks 1 and 2 leave for the inner parts
--   letters_kept letters_made    the inner part of read_string: a refusal, and the tables built
--   walk_kept walk_made          the inner part of write_string; walk_left: the same of what is left in the outputs
use mathlib.Core.Bool.{Bool, ◌&&◌, true}
use mathlib.Core.List.{List, ◌++◌}
use mathlib.Core.Logic.{◌≢◌}
use mathlib.Core.Path.{◌∙◌, ◌≡◌, ap, sym}
use Prim.Native.Nat.{◌*◌, ◌/◌, ◌<◌, ◌≤◌, suc, ℕ}
use native.Mathlib.Omega.{arith}
use lib.Dec.{leb}
use lib.ListN.{drop, length, replicate}
use borrow.Author.Tests.{le-leb, leb-true, lt-leb}
use Rattle.conn.specs.Inner.{ReadLetters, ReadRoom, WriteLetters, WriteRoom}
use Rattle.sweep.specs.Judged.{Judges as SweepJudges}
use Rattle.tables.specs.Built.{Built}
use Rattle.theory.proofs.AnswerLaws.{count_few}
use Rattle.theory.proofs.Closing.{answer_closes, closes_answer}
use Rattle.theory.proofs.CallLaws.{Later, Outcome, cleared_later, cleared_second, filled_done, filled_refused, later_mesh, later_string, sized_rest, sized_second, went_on}
use Rattle.theory.proofs.TestLaws.{and_left, and_right}
use Rattle.theory.specs.Answer.{count_ok, done, first_broken, refused}
use Rattle.theory.specs.Calls.{Checks, Judges, Reads, Writes, check_answer, cleared, judge_answer, read_answer, sizes, write_answer}
use Rattle.theory.specs.Judge.{letter_answer, letter_rungs, string_answer, string_done}
use Rattle.theory.specs.Mesh.{mesh_answer, mesh_rungs, shape_ok}
use Rattle.theory.specs.Tables.{table_o, table_v}
use Rattle.theory.specs.Walk.{corners_of, letters_of, mesh_walk, walk}
use Rattle.theory.specs.Word.{Closes, word_of}
use Rattle.theory.specs.Answer.{Answer}
use Rattle.walk.proofs.Made.{corners_codes, letters_codes}
use Rattle.walk.specs.Calls.{Spelt, corners_in, letters_in}

-- a refusal is not number 0
pub refusal : {a : Answer} (n at : ℕ) → a ≡ refused (suc n) at → a.number ≢ 0
refusal n at e q = let z : suc n ≡ 0 = sym (ap (λ (r : Answer). r.number) e) ∙ q in omega arith

-- what three lengths that are enough say
all_enough : (a n b m w k : ℕ) → (leb a n && (leb b m && leb w k)) ≡ true → (a ≤ n) × (b ≤ m) × (w ≤ k)
all_enough a n b m w k h =
    let r = and_right (leb a n) (leb b m && leb w k) h in (
      leb-true a n (and_left (leb a n) (leb b m && leb w k) h),
      leb-true b m (and_left (leb b m) (leb w k) r),
      leb-true w k (and_right (leb b m) (leb w k) r),
    )

module _ {s work work' : List ℕ} {a : Answer} where
  pub judges_kept :
      Outcome (count_ok (length s)) (leb (12 * length s) (length work)) (letter_rungs s) (string_done s) work a work'
      → Judges s work a work'
  unfolding judge_answer string_answer
  judges_kept o = record { answer = o.answer; space = o.space }

  pub judges_rest :
      count_ok (length s) ≡ true → 12 * length s ≤ length work → a ≡ letter_answer s → work' ≡ replicate (length work) 0
      → Judges s work a work'
  unfolding letter_answer
  judges_rest ok room e z = judges_kept (went_on ok (le-leb _ _ room) e (rw e (later_string s)) z)

-- check 2 of judge_string, k the length of the work space: the answer, and that it leaves the work space alone
pub short_answer :
    (s : List ℕ) (k : ℕ) → count_ok (length s) ≡ true → k < 12 * length s → judge_answer s k ≡ refused 2 0
unfolding judge_answer string_answer
short_answer s k ok short = sized_second _ _ (letter_rungs s) (string_done s) ok (lt-leb _ _ short)

pub short_space : (work : List ℕ) → cleared sizes (refused 2 0) work ≡ work
short_space work = cleared_second work

-- ---- read_string

abbrev pub read_fits : List ℕ → List ℕ → List ℕ → List ℕ → Bool
read_fits s vs os work =
    leb (3 * length s) (length vs) && (leb (3 * length s) (length os) && leb (12 * length s) (length work))

module _ {s vs os work : List ℕ} {a : Answer} where
  pub reads_kept :
      {work' : List ℕ}
      → Outcome (count_ok (length s)) (read_fits s vs os work) (letter_rungs s) (string_done s) work a work'
      → a.number ≢ 0 → Reads s vs os work a vs os work'
  unfolding read_answer string_answer
  reads_kept o h =
      record {
        answer = o.answer;
        vertices = sym (filled_refused a (table_v (word_of s)) vs h);
        neighbours = sym (filled_refused a (table_o (word_of s)) os h);
        space = o.space;
      }

  pub reads_rest :
      {vs' os' work' : List ℕ} → count_ok (length s) ≡ true → read_fits s vs os work ≡ true
      → ReadLetters s vs os work a vs' os' work' → Reads s vs os work a vs' os' work'
  unfolding read_answer string_answer letter_answer
  reads_rest ok fits r =
      let later : Later a.number = rw r.answer (later_string s) in
      record {
        answer = r.answer ∙ sym (sized_rest _ _ (letter_rungs s) (string_done s) ok fits);
        vertices = r.vertices;
        neighbours = r.neighbours;
        space = r.space ∙ sym (cleared_later a work later);
      }

pub read_room : {s vs os work : List ℕ} → count_ok (length s) ≡ true → read_fits s vs os work ≡ true
    → ReadRoom s vs os work
read_room {s} {vs} {os} {work} ok fits =
    let r = all_enough (3 * length s) (length vs) (3 * length s) (length os) (12 * length s) (length work) fits in
    let c = count_few (length s) ok in
    record { some = c.1; few = c.2; vertices = r.0; neighbours = r.1; room = r.2 }

module _ {s vs os work work' : List ℕ} {a : Answer} where
  -- a string that does not close is refused
  pub letters_kept :
      a ≡ letter_answer s → (Closes s → ⊥) → work' ≡ replicate (length work) 0 → ReadLetters s vs os work a vs os work'
  letters_kept e n z =
      let h : a.number ≢ 0 = λ q. n (answer_closes s (sym (ap (λ (r : Answer). r.number) e) ∙ q)) in
      record {
        answer = e;
        vertices = sym (filled_refused a (table_v (word_of s)) vs h);
        neighbours = sym (filled_refused a (table_o (word_of s)) os h);
        space = z;
      }

  -- n entries of each table were lent and filled
  pub letters_made :
      {n : ℕ} {m o : List ℕ} → Closes s → a ≡ string_done s → Built s m o → length m ≡ n → length o ≡ n
      → work' ≡ replicate (length work) 0 → ReadLetters s vs os work a (m ++ drop n vs) (o ++ drop n os) work'
  letters_made {m = m} {o = o} c e b p q z =
      let h = ap (λ (r : Answer). r.number) e in
      record {
        answer = e ∙ sym (closes_answer s c);
        vertices = rw (← p, b.vertices) (sym (filled_done a (table_v (word_of s)) vs h));
        neighbours = rw (← q, b.neighbours) (sym (filled_done a (table_o (word_of s)) os h));
        space = z;
      }

-- ---- check_mesh

module _ {vs os work work' : List ℕ} {v g : ℕ} {a : Answer} where
  pub checks_kept :
      Outcome (shape_ok vs os) (leb (12 * (length vs / 3)) (length work)) (mesh_rungs vs os v g) (done (length vs / 3) v)
      work a work' → Checks vs os v g work a work'
  unfolding check_answer mesh_answer
  checks_kept o = record { answer = o.answer; space = o.space }

  pub checks_rest :
      shape_ok vs os ≡ true → 12 * (length vs / 3) ≤ length work
      → a ≡ first_broken (mesh_rungs vs os v g) (done (length vs / 3) v) → work' ≡ replicate (length work) 0
      → Checks vs os v g work a work'
  checks_rest ok room e z = checks_kept (went_on ok (le-leb _ _ room) e (rw e (later_mesh vs os v g)) z)

-- ---- write_string

abbrev pub write_fits : List ℕ → List ℕ → List ℕ → List ℕ → Bool
write_fits vs letters walk work =
    leb (length vs / 3) (length letters) && (leb (length vs / 3) (length walk) && leb (12 * (length vs / 3))
    (length work))

module _ {vs os letters walk work : List ℕ} {v g : ℕ} {a : Answer} where
  pub writes_kept :
      {work' : List ℕ}
      → Outcome (shape_ok vs os) (write_fits vs letters walk work) (mesh_rungs vs os v g) (done (length vs / 3) v)
      work a work'
      → a.number ≢ 0 → Writes vs os v g letters walk work a letters walk work'
  unfolding write_answer mesh_answer
  writes_kept o h =
      record {
        answer = o.answer;
        string = sym (filled_refused a (letters_of (mesh_walk vs os g)) letters h);
        table = sym (filled_refused a (corners_of (mesh_walk vs os g)) walk h);
        space = o.space;
      }

  pub writes_rest :
      {letters' walk' work' : List ℕ} → shape_ok vs os ≡ true → write_fits vs letters walk work ≡ true
      → WriteLetters vs os v g letters walk work a letters' walk' work'
      → Writes vs os v g letters walk work a letters' walk' work'
  unfolding write_answer mesh_answer
  writes_rest ok fits r =
      let later : Later a.number = rw r.answer (later_mesh vs os v g) in
      record {
        answer = r.answer ∙ sym (sized_rest _ _ (mesh_rungs vs os v g) (done (length vs / 3) v) ok fits);
        string = r.string;
        table = r.table;
        space = r.space ∙ sym (cleared_later a work later);
      }

pub write_room :
    {vs letters walk work : List ℕ} → write_fits vs letters walk work ≡ true → WriteRoom vs letters walk work
write_room {vs} {letters} {walk} {work} fits =
    let t = length vs / 3 in
    let r = all_enough t (length letters) t (length walk) (12 * t) (length work) fits in
    record { string = r.0; table = r.1; room = r.2 }

module _ {vs os letters walk work work' : List ℕ} {v g : ℕ} {a : Answer} where
  pub walk_kept :
      a ≡ first_broken (mesh_rungs vs os v g) (done (length vs / 3) v) → a.number ≢ 0
      → work' ≡ replicate (length work) 0 → WriteLetters vs os v g letters walk work a letters walk work'
  walk_kept e h z =
      record {
        answer = e;
        string = sym (filled_refused a (letters_of (mesh_walk vs os g)) letters h);
        table = sym (filled_refused a (corners_of (mesh_walk vs os g)) walk h);
        space = z;
      }

  -- the steps that were kept in work₁ are spelt out
  pub walk_made :
      {letters' walk' work₁ : List ℕ} → SweepJudges vs os v g a work₁ → a.number ≡ 0
      → Spelt work₁ (length vs / 3) letters walk letters' walk' → work' ≡ replicate (length work) 0
      → WriteLetters vs os v g letters walk work a letters' walk' work'
  walk_made {work₁ = work₁} e h r z =
      let q = mesh_walk vs os g in
      let ls = ap letters_in (e.keeps h) ∙ letters_codes q in
      let cs = ap corners_in (e.keeps h) ∙ corners_codes q in
      record {
        answer = e.answer;
        string =
            r.said ∙ ap (λ (y : List ℕ). y ++ drop (length y) letters) ls
            ∙ sym (filled_done a (letters_of q) letters h);
        table = r.went ∙ ap (λ (y : List ℕ). y ++ drop (length y) walk) cs ∙ sym (filled_done a (corners_of q) walk h);
        space = z;
      }

  pub walk_left :
      {letters₁ walk₁ letters₂ walk₂ : List ℕ} → letters₂ ≡ letters₁ → walk₂ ≡ walk₁
      → WriteLetters vs os v g letters walk work a letters₁ walk₁ work'
      → WriteLetters vs os v g letters walk work a letters₂ walk₂ work'
  walk_left e f r = record { answer = r.answer; string = e ∙ r.string; table = f ∙ r.table; space = r.space }
