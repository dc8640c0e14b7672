-- Calls that answer done: what that says of the input, and when it happens.
--
--   read_done read_goes      read_string answers done exactly if the string closes, its count is right and the tables
--                            have room
--   write_done write_goes    write_string answers done exactly if the mesh is accepted and the outputs have room
use mathlib.Core.Bool.{Bool, ◌&&◌, true}
use mathlib.Core.List.{List, ◌∷◌}
use mathlib.Core.Path.{◌∙◌, ◌≡◌, ap}
use Prim.Native.Nat.{◌*◌, ◌/◌, ◌≤◌, ℕ}
use native.Mathlib.Omega.{arith}
use lib.Dec.{leb}
use lib.ListN.{length}
use borrow.Author.Tests.{le-leb, leb-true}
use Rattle.theory.proofs.CallLaws.{sized_rest}
use Rattle.theory.proofs.Closing.{answer_closes, closes_answer}
use Rattle.theory.proofs.MeshMeaning.{accepted, judged_accepts, mesh_fits}
use Rattle.theory.proofs.Passed.{Named, done_passed, passed_done, passes_whole}
use Rattle.std.proofs.lemmas.Bool.{and_from}
use Rattle.theory.proofs.TestLaws.{and_left, and_right}
use Rattle.theory.specs.Answer.{Rung, count_ok, count_rung, done, room_rung}
use Rattle.theory.specs.Calls.{read_answer, write_answer}
use Rattle.theory.specs.Judge.{letter_answer, letter_rungs, string_answer, string_done}
use Rattle.theory.specs.Mesh.{Accepted, mesh_answer, mesh_rungs, shape_ok}
use Rattle.theory.specs.Word.{Closes}
use Rattle.theory.specs.Answer.{Answer}

module _ (s : List ℕ) (n m k : ℕ) where
  abbrev read_rungs : List Rung
  read_rungs =
      count_rung (length s)
      ∷ room_rung (leb (3 * length s) n && (leb (3 * length s) m && leb (12 * length s) k))
      ∷ letter_rungs s

  pub record ReadDone : Type 0 where
    pub count : count_ok (length s) ≡ true
    pub closes : Closes s
    pub answer : read_answer s n m k ≡ string_done s
    pub vertices : 3 * length s ≤ n
    pub neighbours : 3 * length s ≤ m
    pub room : 12 * length s ≤ k

  pub read_done : (read_answer s n m k).number ≡ 0 → ReadDone
  unfolding read_answer string_answer letter_answer
  read_done e =
      let named : Named read_rungs =
      (omega arith, (omega arith, (omega arith, (omega arith, (omega arith, (omega arith, (omega arith, tt))))))) in
      let p = done_passed read_rungs (string_done s) named e in
      let fits = passes_whole 2 (leb (3 * length s) n && (leb (3 * length s) m && leb (12 * length s) k)) p.1.0 in
      let rest = and_right (leb (3 * length s) n) (leb (3 * length s) m && leb (12 * length s) k) fits in
      record {
        count = passes_whole 1 (count_ok (length s)) p.0;
        closes =
            answer_closes s (ap (λ (a : Answer). a.number) (passed_done (letter_rungs s) (string_done s) p.1.1));
        answer = passed_done read_rungs (string_done s) p;
        vertices =
            leb-true (3 * length s) n (and_left (leb (3 * length s) n) (leb (3 * length s) m && leb (12 * length s) k)
            fits);
        neighbours = leb-true (3 * length s) m (and_left (leb (3 * length s) m) (leb (12 * length s) k) rest);
        room = leb-true (12 * length s) k (and_right (leb (3 * length s) m) (leb (12 * length s) k) rest);
      }

  pub read_goes : count_ok (length s) ≡ true → Closes s → 3 * length s ≤ n → 3 * length s ≤ m → 12 * length s ≤ k
      → read_answer s n m k ≡ string_done s
  unfolding read_answer string_answer letter_answer
  read_goes ok c p q r =
      let fits =
      and_from (leb (3 * length s) n) (leb (3 * length s) m && leb (12 * length s) k) (le-leb (3 * length s) n p)
      (and_from (leb (3 * length s) m) (leb (12 * length s) k) (le-leb (3 * length s) m q)
      (le-leb (12 * length s) k r)) in
      sized_rest (count_ok (length s)) (leb (3 * length s) n && (leb (3 * length s) m && leb (12 * length s) k))
      (letter_rungs s) (string_done s) ok fits
      ∙ closes_answer s c

module _ (vs os : List ℕ) (v g n m k : ℕ) where
  abbrev write_room : Bool
  write_room = leb (length vs / 3) n && (leb (length vs / 3) m && leb (12 * (length vs / 3)) k)

  pub record WriteDone : Type 0 where
    pub mesh : Accepted vs os v g
    pub answer : write_answer vs os v g n m k ≡ done (length vs / 3) v
    pub string : length vs / 3 ≤ n
    pub table : length vs / 3 ≤ m
    pub room : 12 * (length vs / 3) ≤ k

  pub write_goes : Accepted vs os v g → length vs / 3 ≤ n → length vs / 3 ≤ m → 12 * (length vs / 3) ≤ k
      → write_answer vs os v g n m k ≡ done (length vs / 3) v
  unfolding write_answer mesh_answer
  write_goes a p q r =
      let t = length vs / 3 in
      let fits = and_from (leb t n) (leb t m && leb (12 * t) k) (le-leb t n p)
      (and_from (leb t m) (leb (12 * t) k) (le-leb t m q) (le-leb (12 * t) k r)) in
      sized_rest (shape_ok vs os) write_room (mesh_rungs vs os v g) (done t v) a.shape fits ∙ judged_accepts vs os v g a

  pub write_done : (write_answer vs os v g n m k).number ≡ 0 → WriteDone
  unfolding write_answer
  write_done e =
      let t = length vs / 3 in
      let a = accepted vs os v g write_room e in
      let fits = mesh_fits vs os v g write_room e in
      let rest = and_right (leb t n) (leb t m && leb (12 * t) k) fits in
      let p = leb-true t n (and_left (leb t n) (leb t m && leb (12 * t) k) fits) in
      let q = leb-true t m (and_left (leb t m) (leb (12 * t) k) rest) in
      let r = leb-true (12 * t) k (and_right (leb t m) (leb (12 * t) k) rest) in
      record { mesh = a; answer = write_goes a p q r; string = p; table = q; room = r }
