-- The first pass, from the last letter to the first, in the lent work space: t triangles, corner c's entry of table O
-- at c, and the record of an S triangle k at 3t + k.
--
--   first last           the ends of the open sides of the word behind the letter; the entry of each of them but the
--                        first is the one before it, so that they are a list that is read from its last
--   top                  where the stack of the words behind that one stands: the tip, first and last of each, growing
--                        down
--   fold_in               what stands in the work space
--   fold_step a t k z     one letter more, at triangle k
--   Room k               room for a letter at triangle k: it and the ends lie in the work space, and a word fits on
--                        the stack
--   stops                the letter cannot stand there: words are missing, or a C stands before a word of width 2
--   halts                the same of a byte, which may be no letter
--   Foldable Folded      what the pass asks of a string, and what it answers and leaves
--   Recorded t work k w  the record of each S of w, its first triangle k: the last open side of its right branch
use Rattle.std.specs.Prelude.{Bool, ◌||◌, false, not, true, List, ◌≡◌, ◌*◌, ◌+◌, ◌-◌, ◌<◌, ◌≤◌, ℕ, eqb, ltb, get_or, length, set, take}
use Rattle.theory.proofs.Opens.{opens}
use Rattle.theory.specs.Letter.{is_letter, letter}
use Rattle.theory.specs.Lists.{back}
use Rattle.theory.specs.Tables.{join_at, table_o}
use Rattle.theory.specs.Word.{Closes, Word, size, w_c, w_e, w_l, w_r, w_s, word_of}
use Rattle.tables.specs.declared.Ends.{Ends}
use Rattle.theory.specs.declared.Letter.{Letter}
use Rattle.theory.specs.declared.Letter.TheVariants.{C, E, L, R, S}

pub record Fold : Type 0 where
  pub work : List ℕ
  pub first : ℕ
  pub last : ℕ
  pub top : ℕ

abbrev pub fold_in : List ℕ → Ends → Fold
fold_in work ends = record { work = work; first = ends.first; last = ends.last; top = ends.top }

-- C joins its left side to the last open one, which is open no more
unfoldable pub fold_c : ℕ → Fold → Fold
fold_c k z =
    record {
      work = join_at (3 * k + 1) (3 * (k + 1)) (join_at z.last (3 * k + 2) z.work);
      first = z.first;
      last = get_or z.work z.last 0;
      top = z.top;
    }

-- L leaves its left side open, behind the last
unfoldable pub fold_l : ℕ → Fold → Fold
fold_l k z =
    record {
      work = set (join_at (3 * k + 1) (3 * (k + 1)) z.work) (3 * k + 2) z.last;
      first = z.first;
      last = 3 * k + 2;
      top = z.top;
    }

-- R leaves its right side open, before the first
unfoldable pub fold_r : ℕ → Fold → Fold
fold_r k z =
    record {
      work = join_at (3 * k + 2) (3 * (k + 1)) (set z.work z.first (3 * k + 1));
      first = 3 * k + 1;
      last = z.last;
      top = z.top;
    }

-- the word behind goes on the stack, and E leaves both its sides open
unfoldable pub pushed : ℕ → ℕ → Fold → List ℕ
pushed k p z = set (set (set z.work p (3 * (k + 1))) (p + 1) z.first) (p + 2) z.last

unfoldable pub fold_e : ℕ → Fold → Fold
fold_e k z =
    record {
      work = set (pushed k (z.top - 3) z) (3 * k + 2) (3 * k + 1);
      first = 3 * k + 1;
      last = 3 * k + 2;
      top = z.top - 3;
    }

-- the right branch is the word behind S and the left branch the next: its tip, first and last open side are tip, f and
-- l
unfoldable pub spliced : ℕ → ℕ → ℕ → ℕ → ℕ → Fold → Fold
spliced t k tip f l z =
    record {
      work =
          join_at (3 * k + 1) (3 * (k + 1))
          (join_at (3 * k + 2) tip (set (set z.work (3 * t + k) z.last) f z.last));
      first = z.first;
      last = l;
      top = z.top + 3;
    }

unfoldable pub fold_s : ℕ → ℕ → Fold → Fold
fold_s t k z =
    spliced t k (get_or z.work z.top 0) (get_or z.work (z.top + 1) 0) (get_or z.work (z.top + 2) 0) z

unfoldable pub fold_step : Letter → ℕ → ℕ → Fold → Fold
fold_step C t k z = fold_c k z
fold_step L t k z = fold_l k z
fold_step E t k z = fold_e k z
fold_step R t k z = fold_r k z
fold_step S t k z = fold_s t k z

pub record Room (k : ℕ) (ends : Ends) (work : List ℕ) : Type 0 where
  pub few : k < 65536
  pub at : 3 * (k + 1) < length work
  pub first_low : ends.first < length work
  pub last_low : ends.last < length work
  pub some : 3 ≤ ends.top
  pub within : ends.top ≤ length work

-- what keeps the letter a from standing before the words behind it; deep is three times their number
unfoldable pub stops : Letter → Ends → ℕ → Bool
stops C ends deep = ltb deep 3 || eqb ends.first ends.last
stops L ends deep = ltb deep 3
stops E ends deep = false
stops R ends deep = ltb deep 3
stops S ends deep = ltb deep 6

-- what keeps the byte b from standing there as a letter
unfoldable pub halts : ℕ → Ends → ℕ → Bool
halts b ends deep = not (is_letter b) || stops (letter b) ends deep

pub record Foldable (s work : List ℕ) : Type 0 where
  pub some : 0 < length s
  pub few : length s ≤ 65536
  pub space : 12 * length s ≤ length work

module _ (t : ℕ) (work : List ℕ) where
  abbrev pub Recorded : ℕ → Word → Type 0
  Recorded k w_e = Unit {0}
  Recorded k (w_c w) = Recorded (k + 1) w
  Recorded k (w_l w) = Recorded (k + 1) w
  Recorded k (w_r w) = Recorded (k + 1) w
  Recorded k (w_s a b) =
      (get_or work (3 * t + k) 0 ≡ back (opens (k + 1) a)) × Recorded (k + 1) a × Recorded (k + 1 + size a) b

-- the work space holds table O of the string's word, and its records
pub record Joined (s work : List ℕ) : Type 0 where
  pub neighbours : take (3 * length s) work ≡ table_o (word_of s)
  pub records : Recorded (length s) work 0 (word_of s)

-- r says whether the string closes
pub record Folded (s : List ℕ) (r : Bool) (work : List ℕ) : Type 0 where
  pub closes : r ≡ true → Closes s
  pub refuses : r ≡ false → Closes s → ⊥
  pub made : r ≡ true → Joined s work
