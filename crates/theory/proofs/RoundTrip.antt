-- T3 (`round`): on an accepted mesh the walk takes exactly t steps, its string closes, and reading it back gives the
-- mesh renumbered by the walk table.
--
--   Round lab opp t v g steps   what is said of the steps of a walk:
--     long once met             t steps, each triangle met once
--     word spelt sound two      the string is the letters of a sound word of width 2 ..
--     sized counted             .. with t letters, and 2 + its Cs are the vertices
--     gate back low there here  by_walk is one to one from the corners read back to those of the mesh, back its inverse
--     name unname ..            likewise the vertices
--     neighbours vertices       by_walk and name carry tables O and V, read back, to those of the mesh
--   round_closes                so the string closes
--   round_renumbers             and the tables read back are the mesh but for its numbers
--
-- Rule 13's ring part is not used.
use mathlib.Core.List.{List}
use mathlib.Core.Path.{◌∙◌, ◌≡◌, ap, subst, sym}
use Prim.Native.Nat.{◌*◌, ◌+◌, ◌<◌, ℕ}
use lib.ListN.{length}
use Rattle.theory.proofs.Balanced.{literal, word_of}
use Rattle.theory.proofs.Carry.{by_walk_next, carry, carry_low, carry_uncarry, time_inj, uncarry, uncarry_carry, uncarry_low}
use Rattle.theory.proofs.Linked.{Worded, follows_length, follows_letters, linked}
use Rattle.theory.proofs.Naming.{carry_vertex, naming, naming_low, naming_unnaming, news_count, read_back_low, unnaming, unnaming_low, unnaming_naming}
use Rattle.theory.proofs.Runs.{Follows}
use Rattle.theory.proofs.WholeRun.{ahead_all, corner_of, letter_of, steps, steps_length, walked}
use Rattle.theory.proofs.WordCloses.{carry_opposite, word_sound, word_two}
use Rattle.theory.specs.Corner.{opposite, triangle, vertex}
use Rattle.theory.specs.Mesh.{Sphere}
use Rattle.theory.specs.Renumber.{Renumbering, by_walk, turned}
use Rattle.theory.specs.Tables.{table_o, table_v}
use Rattle.theory.specs.Walk.{Step, corners_of, letters_of, walk_from}
use Rattle.theory.specs.Word.{Closes, Sound, Word, news, size, spell, width}

pub record Round (lab opp : ℕ → ℕ) (t v g : ℕ) (steps : List Step) : Type 0 where
  pub long : length steps ≡ t
  -- each triangle is met once
  pub once : (i j : ℕ) → triangle (corner_of steps i) ≡ triangle (corner_of steps j) → i ≡ j
  pub met : (c : ℕ) → c < 3 * t → (k : ℕ) × (k < t) × (triangle c ≡ triangle (corner_of steps k))
  -- the string
  pub word : Word
  pub spelt : spell word ≡ letters_of steps
  pub sound : Sound word
  pub two : width word ≡ 2
  pub sized : size word ≡ t
  pub counted : 2 + news word ≡ v
  -- corners: by_walk and its inverse
  pub gate : by_walk (corners_of steps) 0 ≡ g
  pub back : ℕ → ℕ
  pub low : (x : ℕ) → x < 3 * t → by_walk (corners_of steps) x < 3 * t
  pub back_low : (c : ℕ) → c < 3 * t → back c < 3 * t
  pub there : (c : ℕ) → by_walk (corners_of steps) (back c) ≡ c
  pub here : (x : ℕ) → back (by_walk (corners_of steps) x) ≡ x
  -- vertices: name and its inverse
  pub name : ℕ → ℕ
  pub unname : ℕ → ℕ
  pub name_low : (u : ℕ) → u < v → name u < v
  pub unname_low : (u : ℕ) → u < v → unname u < v
  pub name_unname : (u : ℕ) → u < v → name (unname u) ≡ u
  pub unname_name : (u : ℕ) → u < v → unname (name u) ≡ u
  -- what is read back is the mesh
  pub read_low : (x : ℕ) → x < 3 * t → vertex (table_v word) x < v
  pub neighbours : (x : ℕ) → x < 3 * t
      → opp (by_walk (corners_of steps) x) ≡ by_walk (corners_of steps) (opposite (table_o word) x)
  pub vertices : (x : ℕ) → x < 3 * t → lab (by_walk (corners_of steps) x) ≡ name (vertex (table_v word) x)

module _ {lab opp : ℕ → ℕ} {t v g : ℕ} (mesh : Sphere lab opp t v g) where
  -- a walk that follows a word
  round_word : (d : Worded mesh (letter_of (steps mesh)) (corner_of (steps mesh)))
      → letters_of (steps mesh) ≡ spell d.word → Round lab opp t v g (steps mesh)
  unfolding by_walk carry turned
  round_word d e = record {
    long = steps_length mesh;
    once = time_inj d.run;
    met = d.run.seen_all;
    word = d.word;
    spelt = sym e;
    sound = word_sound d;
    two = word_two d;
    sized = d.sized;
    counted = news_count d;
    gate = d.run.start;
    back = uncarry d.run;
    low = carry_low d.run;
    back_low = uncarry_low d.run;
    there = carry_uncarry d.run;
    here = uncarry_carry d.run;
    name = naming d;
    unname = unnaming d;
    name_low = naming_low d;
    unname_low = unnaming_low d;
    name_unname = naming_unnaming d;
    unname_name = unnaming_naming d;
    read_low = read_back_low d;
    neighbours = carry_opposite d;
    vertices = carry_vertex d;
  }

  round_steps : Round lab opp t v g (steps mesh)
  round_steps = go (word_of mesh)
    where
      go : (w : Word) × Follows opp w g (steps mesh) → Round lab opp t v g (steps mesh)
      go (w, k) =
          let q = steps mesh in
          let r = walked mesh in
          let n : size w ≡ t = sym (follows_length opp w g q k) ∙ steps_length mesh in
          let li = linked opp (letter_of q) (corner_of q) w g 0 q k (ahead_all q) in
          let e = follows_letters opp w g q k in
          round_word (record { run = r; word = w; sized = n; spells = li.1; links_face = li.2 }) e

  -- T3
  pub round : Round lab opp t v g (walk_from lab opp t g)
  unfolding walk_from
  round = subst (Round lab opp t v g) (sym (literal mesh)) round_steps

-- its string closes
pub round_closes : {lab opp : ℕ → ℕ} {t v g : ℕ} {steps : List Step} → Round lab opp t v g steps
    → Closes (letters_of steps)
round_closes r = record { word = r.word; spelt = r.spelt; sound = r.sound; two = r.two }

-- the tables read back are the mesh but for its numbers
pub round_renumbers : {lab opp : ℕ → ℕ} {t v g : ℕ} {steps : List Step} (r : Round lab opp t v g steps)
    → Renumbering (vertex (table_v r.word)) (opposite (table_o r.word)) lab opp t v 0 g (by_walk (corners_of steps))
    r.name
round_renumbers {steps = steps} r = record {
  gate = r.gate;
  low = r.low;
  inj = λ x y p q e. sym (r.here x) ∙ ap r.back e ∙ r.here y;
  turning = λ x b. by_walk_next (corners_of steps) x;
  neighbour = λ x b. sym (r.neighbours x b);
  vertex = r.vertices;
  names_low = r.name_low;
  names_inj = λ u w p q e. sym (r.unname_name u p) ∙ ap r.unname e ∙ r.unname_name w q;
}
