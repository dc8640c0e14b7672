-- The marked examples of document 01, together: each holds by evaluating the definitions.
--
--   M1 M2 M5      tables of CE, CCRE, CCCSEE           M3 M4   CCRE's tables walked from gate 0 and from gate 7
--   M6 to M10     the five ways in which letters are refused     M11 M12   a vertex without a corner, a second sphere
use mathlib.Core.Path.{◌≡◌, refl}
use mathlib.Core.Bool.{true}
use mathlib.Core.List.{List, [], ◌∷◌}
use Prim.Native.Nat.{ℕ}
use Rattle.theory.specs.declared.Letter.TheVariants.{C, L, E, R, S}
use Rattle.theory.specs.Lists.{head, tail, front, back, mem, least, least_from, greatest, greatest_or, all, some, iter}
use Rattle.theory.specs.Answer.{done, refused, first_broken, count_ok}
use Rattle.theory.specs.Corner.{next, previous}
use Rattle.theory.specs.Letter.{byte, letter, is_letter}
use Rattle.theory.specs.Word.{size, news, width, words, before, first_word, word_of}
use Rattle.theory.specs.Judge.{wanted, words_end, pinched_at, string_answer}
use Rattle.theory.specs.Tables.{vertices, links, zips, joins, join_at, joined, table_v, table_o}
use Rattle.theory.specs.Mesh.{below_at, paired_at, glued_at, apart_at, first_corner, meets, ringed_at, touches, facing, reached, reached_at, shape_ok, mesh_answer}
use Rattle.theory.specs.Walk.{by_sides, seen, tips, marks, letter_at, walk, walk_from, mesh_walk, letters_of, corners_of}

-- CCRE's tables
unfoldable pub v2 : List ℕ
v2 = 2 ∷ 0 ∷ 1 ∷ 3 ∷ 2 ∷ 1 ∷ 0 ∷ 3 ∷ 1 ∷ 2 ∷ 3 ∷ 0 ∷ []

unfoldable pub o2 : List ℕ
o2 = 7 ∷ 3 ∷ 10 ∷ 1 ∷ 6 ∷ 11 ∷ 4 ∷ 0 ∷ 9 ∷ 8 ∷ 2 ∷ 5 ∷ []

-- ---- strings

pub m1_answer : string_answer (byte C ∷ byte E ∷ []) true ≡ done 2 3
unfolding string_answer first_broken count_ok least least_from greatest greatest_or is_letter letter words_end wanted
    pinched_at words before first_word width
m1_answer = refl

pub m1_vertices : table_v (word_of (byte C ∷ byte E ∷ [])) ≡ 2 ∷ 0 ∷ 1 ∷ 0 ∷ 2 ∷ 1 ∷ []
unfolding table_v table_o vertices joins joined join_at links zips head tail front back size news width words
    before first_word letter
m1_vertices = refl

pub m1_opposites : table_o (word_of (byte C ∷ byte E ∷ [])) ≡ 4 ∷ 3 ∷ 5 ∷ 1 ∷ 0 ∷ 2 ∷ []
unfolding table_v table_o vertices joins joined join_at links zips head tail front back size news width words
    before first_word letter
m1_opposites = refl

pub m2_answer : string_answer (byte C ∷ byte C ∷ byte R ∷ byte E ∷ []) true ≡ done 4 4
unfolding string_answer first_broken count_ok least least_from greatest greatest_or is_letter letter words_end wanted
    pinched_at words before first_word width
m2_answer = refl

pub m2_vertices : table_v (word_of (byte C ∷ byte C ∷ byte R ∷ byte E ∷ [])) ≡ 2 ∷ 0 ∷ 1 ∷ 3 ∷ 2 ∷ 1 ∷ 0 ∷ 3 ∷ 1 ∷ 2 ∷ 3 ∷ 0 ∷ []
unfolding table_v table_o vertices joins joined join_at links zips head tail front back size news width words
    before first_word letter
m2_vertices = refl

pub m2_opposites : table_o (word_of (byte C ∷ byte C ∷ byte R ∷ byte E ∷ [])) ≡ 7 ∷ 3 ∷ 10 ∷ 1 ∷ 6 ∷ 11 ∷ 4 ∷ 0 ∷ 9 ∷ 8 ∷ 2 ∷ 5 ∷ []
unfolding table_v table_o vertices joins joined join_at links zips head tail front back size news width words
    before first_word letter
m2_opposites = refl

pub m5_answer : string_answer (byte C ∷ byte C ∷ byte C ∷ byte S ∷ byte E ∷ byte E ∷ []) true ≡ done 6 5
unfolding string_answer first_broken count_ok least least_from greatest greatest_or is_letter letter words_end wanted
    pinched_at words before first_word width
m5_answer = refl

pub m5_vertices : table_v (word_of (byte C ∷ byte C ∷ byte C ∷ byte S ∷ byte E ∷ byte E ∷ [])) ≡ 2 ∷ 0 ∷ 1 ∷ 3 ∷ 2 ∷ 1 ∷ 4 ∷ 3 ∷ 1 ∷ 2 ∷ 4 ∷ 1 ∷ 0 ∷ 2 ∷ 1 ∷ 3 ∷ 4 ∷ 2 ∷ []
unfolding table_v table_o vertices joins joined join_at links zips head tail front back size news width words
    before first_word letter
m5_vertices = refl

pub m6 : string_answer (byte C ∷ byte C ∷ byte C ∷ byte E ∷ []) true ≡ refused 6 1
unfolding string_answer first_broken count_ok least least_from greatest greatest_or is_letter letter words_end wanted
    pinched_at words before first_word width
m6 = refl

pub m7 : string_answer (byte L ∷ byte E ∷ []) true ≡ refused 7 0
unfolding string_answer first_broken count_ok least least_from greatest greatest_or is_letter letter words_end wanted
    pinched_at words before first_word width
m7 = refl

pub m8 : string_answer (byte C ∷ byte C ∷ byte S ∷ byte E ∷ []) true ≡ refused 4 4
unfolding string_answer first_broken count_ok least least_from greatest greatest_or is_letter letter words_end wanted
    pinched_at words before first_word width
m8 = refl

pub m9 : string_answer (byte C ∷ byte E ∷ byte R ∷ byte E ∷ []) true ≡ refused 5 2
unfolding string_answer first_broken count_ok least least_from greatest greatest_or is_letter letter words_end wanted
    pinched_at words before first_word width
m9 = refl

pub m10 : string_answer (byte C ∷ byte C ∷ 120 ∷ byte E ∷ []) true ≡ refused 3 2
unfolding string_answer first_broken count_ok least least_from greatest greatest_or is_letter letter words_end wanted
    pinched_at words before first_word width
m10 = refl

-- ---- meshes

pub m3_answer : mesh_answer v2 o2 4 0 true ≡ done 4 4
unfolding v2 o2 mesh_answer first_broken shape_ok count_ok least least_from all some iter below_at paired_at glued_at
    apart_at first_corner meets ringed_at touches facing reached reached_at mem next previous
m3_answer = refl

pub m3_string : letters_of (mesh_walk v2 o2 0) ≡ byte C ∷ byte C ∷ byte R ∷ byte E ∷ []
unfolding v2 o2 mesh_walk walk_from walk letter_at marks tips seen by_sides mem next previous letters_of corners_of
m3_string = refl

pub m3_walk : corners_of (mesh_walk v2 o2 0) ≡ 0 ∷ 3 ∷ 6 ∷ 9 ∷ []
unfolding v2 o2 mesh_walk walk_from walk letter_at marks tips seen by_sides mem next previous letters_of corners_of
m3_walk = refl

pub m4_answer : mesh_answer v2 o2 4 7 true ≡ done 4 4
unfolding v2 o2 mesh_answer first_broken shape_ok count_ok least least_from all some iter below_at paired_at glued_at
    apart_at first_corner meets ringed_at touches facing reached reached_at mem next previous
m4_answer = refl

pub m4_string : letters_of (mesh_walk v2 o2 7) ≡ byte C ∷ byte C ∷ byte R ∷ byte E ∷ []
unfolding v2 o2 mesh_walk walk_from walk letter_at marks tips seen by_sides mem next previous letters_of corners_of
m4_string = refl

pub m4_walk : corners_of (mesh_walk v2 o2 7) ≡ 7 ∷ 9 ∷ 2 ∷ 3 ∷ []
unfolding v2 o2 mesh_walk walk_from walk letter_at marks tips seen by_sides mem next previous letters_of corners_of
m4_walk = refl

pub m11 : mesh_answer (2 ∷ 0 ∷ 1 ∷ 0 ∷ 2 ∷ 1 ∷ []) (4 ∷ 3 ∷ 5 ∷ 1 ∷ 0 ∷ 2 ∷ []) 4 0 true ≡ refused 13 3
unfolding mesh_answer first_broken shape_ok count_ok least least_from all some iter below_at paired_at glued_at
    apart_at first_corner meets ringed_at touches facing reached reached_at mem next previous
m11 = refl

pub m12 : mesh_answer (2 ∷ 0 ∷ 1 ∷ 0 ∷ 2 ∷ 1 ∷ 5 ∷ 3 ∷ 4 ∷ 3 ∷ 5 ∷ 4 ∷ []) (4 ∷ 3 ∷ 5 ∷ 1 ∷ 0 ∷ 2 ∷ 10 ∷ 9 ∷ 11 ∷ 7 ∷ 6 ∷ 8 ∷ []) 6 0 true ≡ refused 14 2
unfolding mesh_answer first_broken shape_ok count_ok least least_from all some iter below_at paired_at glued_at
    apart_at first_corner meets ringed_at touches facing reached reached_at mem next previous
m12 = refl

-- run only: letters that follow the first word
pub follows_one : string_answer (byte E ∷ byte C ∷ []) true ≡ refused 5 1
unfolding string_answer first_broken count_ok least least_from greatest greatest_or is_letter letter words_end wanted
    pinched_at words before first_word width
follows_one = refl

pub follows_three : string_answer (byte C ∷ byte C ∷ byte E ∷ byte E ∷ []) true ≡ refused 5 3
unfolding string_answer first_broken count_ok least least_from greatest greatest_or is_letter letter words_end wanted
    pinched_at words before first_word width
follows_three = refl
