-- T4: two accepted meshes have equal strings exactly if one is a renumbering of the other.
--
--   corner_map vertex_map   from one mesh by its walk table back to the tables read, and on by the other's walk table
--   corner_at             so the two walk tables show the corner map
--   same_t same_v         equal strings: as many triangles and vertices
--   renumbered            equal strings: a renumbering, by these maps
--   equal_strings         a renumbering: equal strings
--   only_corners only_vertices   every renumbering is this one
use mathlib.Core.List.{List, [], ◌++◌}
use mathlib.Core.Path.{◌∙◌, ◌≡◌, ap, sym}
use Prim.Native.Nat.{◌*◌, ◌+◌, ◌<◌, ℕ}
use native.Mathlib.Omega.{arith}
use Rattle.theory.proofs.CarriedWalk.{by_walk_map, same_letters}
use Rattle.theory.proofs.Carry.{by_walk_next, by_walk_tip}
use Rattle.theory.proofs.RoundTrip.{Round, round}
use Rattle.theory.proofs.WordLaws.{spell_injective}
use Rattle.theory.specs.Corner.{next, opposite, vertex}
use Rattle.theory.specs.Mesh.{Sphere}
use Rattle.theory.specs.Renumber.{Renumbering, by_walk}
use Rattle.theory.specs.Tables.{table_o, table_v}
use Rattle.theory.specs.Walk.{Step, corners_of, letters_of, walk_from}
use Rattle.theory.specs.Word.{Word, news, size}

module _ {lab opp lab' opp' : ℕ → ℕ} {t v g t' v' g' : ℕ} {steps steps' : List Step}
    (r : Round lab opp t v g steps) (r' : Round lab' opp' t' v' g' steps') where
  -- from the corners read back to those of the two meshes
  abbrev f : ℕ → ℕ
  f = by_walk (corners_of steps)

  abbrev f' : ℕ → ℕ
  f' = by_walk (corners_of steps')

  unfoldable pub corner_map : ℕ → ℕ
  corner_map c = by_walk (corners_of steps') (r.back c)

  unfoldable pub vertex_map : ℕ → ℕ
  vertex_map u = r'.name (r.unname u)

  pub corner_at : (x : ℕ) → corner_map (by_walk (corners_of steps) x) ≡ by_walk (corners_of steps') x
  unfolding corner_map
  corner_at x = ap f' (r.here x)

  corner_gate : corner_map g ≡ g'
  corner_gate = ap corner_map (sym r.gate) ∙ corner_at 0 ∙ r'.gate

  corner_next : (c : ℕ) → corner_map (next c) ≡ next (corner_map c)
  unfolding corner_map
  corner_next c =
      let x = r.back c in
      let a = ap next (sym (r.there c)) ∙ sym (by_walk_next (corners_of steps) x) in
      ap corner_map a ∙ corner_at (next x) ∙ by_walk_next (corners_of steps') x

  corner_inj : (c d : ℕ) → corner_map c ≡ corner_map d → c ≡ d
  unfolding corner_map
  corner_inj c d e =
      let a : r.back c ≡ r.back d = sym (r'.here (r.back c)) ∙ ap r'.back e ∙ r'.here (r.back d) in
      sym (r.there c) ∙ ap f a ∙ r.there d

  module _ (same : letters_of steps ≡ letters_of steps') where
    -- one string is one word, so as many triangles and vertices
    same_word : r.word ≡ r'.word
    same_word =
        let e = r.spelt ∙ same ∙ sym r'.spelt in
        spell_injective r.word r'.word [] [] (ap (λ (s : List ℕ). s ++ []) e)

    pub same_t : t ≡ t'
    same_t = sym r.sized ∙ ap size same_word ∙ r'.sized

    pub same_v : v ≡ v'
    same_v = sym r.counted ∙ ap (λ (w : Word). 2 + news w) same_word ∙ r'.counted

    -- the tables read back are the same
    read_opposite : (x : ℕ) → opposite (table_o r.word) x ≡ opposite (table_o r'.word) x
    read_opposite x = ap (λ (w : Word). opposite (table_o w) x) same_word

    read_vertex : (x : ℕ) → vertex (table_v r.word) x ≡ vertex (table_v r'.word) x
    read_vertex x = ap (λ (w : Word). vertex (table_v w) x) same_word

    corner_low : (c : ℕ) → c < 3 * t → corner_map c < 3 * t
    unfolding corner_map
    corner_low c b =
        let e = same_t in
        let l = r.back_low c b in
        let z = r'.low (r.back c) (omega arith) in
        omega arith

    corner_neighbour : (c : ℕ) → c < 3 * t → corner_map (opp c) ≡ opp' (corner_map c)
    unfolding corner_map
    corner_neighbour c b =
        let x = r.back c in
        let l = r.back_low c b in
        let e = same_t in
        let a = ap opp (sym (r.there c)) ∙ r.neighbours x l in
        ap corner_map a ∙ corner_at (opposite (table_o r.word) x) ∙ ap f' (read_opposite x)
        ∙ sym (r'.neighbours x (omega arith))

    corner_vertex : (c : ℕ) → c < 3 * t → lab' (corner_map c) ≡ vertex_map (lab c)
    unfolding corner_map vertex_map
    corner_vertex c b =
        let x = r.back c in
        let l = r.back_low c b in
        let e = same_t in
        let a = ap lab (sym (r.there c)) ∙ r.vertices x l in
        let d = ap r.unname a ∙ r.unname_name (vertex (table_v r.word) x) (r.read_low x l) in
        r'.vertices x (omega arith) ∙ ap r'.name (sym (read_vertex x) ∙ sym d)

    vertex_low : (u : ℕ) → u < v → vertex_map u < v
    unfolding vertex_map
    vertex_low u b =
        let e = same_v in
        let l = r.unname_low u b in
        let z = r'.name_low (r.unname u) (omega arith) in
        omega arith

    vertex_inj : (u w : ℕ) → u < v → w < v → vertex_map u ≡ vertex_map w → u ≡ w
    unfolding vertex_map
    vertex_inj u w p q e =
        let s = same_v in
        let lu = r.unname_low u p in
        let lw = r.unname_low w q in
        let un = r'.unname_name (r.unname u) (omega arith) in
        let wn = r'.unname_name (r.unname w) (omega arith) in
        sym (r.name_unname u p) ∙ ap r.name (sym un ∙ ap r'.unname e ∙ wn) ∙ r.name_unname w q

    -- T4, from strings to meshes
    pub renumbered : Renumbering lab opp lab' opp' t v g g' corner_map vertex_map
    renumbered = record {
      gate = corner_gate;
      low = corner_low;
      inj = λ c d p q e. corner_inj c d e;
      turning = λ c b. corner_next c;
      neighbour = corner_neighbour;
      vertex = corner_vertex;
      names_low = vertex_low;
      names_inj = vertex_inj;
    }

module _ {lab opp lab' opp' : ℕ → ℕ} {t v g t' v' g' : ℕ} (mesh : Sphere lab opp t v g)
    (mesh' : Sphere lab' opp' t' v' g') (e : t ≡ t')
    {h a : ℕ → ℕ} (iso : Renumbering lab opp lab' opp' t v g g' h a) where
  abbrev other : ℕ → List Step
  other n = walk_from lab' opp' n g'

  -- T4, from meshes to strings
  pub equal_strings : letters_of (walk_from lab opp t g) ≡ letters_of (walk_from lab' opp' t' g')
  equal_strings =
      sym (same_letters iso mesh.gate mesh.inside mesh.below) ∙ ap (λ (n : ℕ). letters_of (other n)) e

  -- there is only one renumbering
  pub only_corners : (c : ℕ) → c < 3 * t → h c ≡ corner_map (round mesh) (round mesh') c
  unfolding corner_map
  only_corners c b =
      let r = round mesh in
      let cs = corners_of (walk_from lab opp t g) in
      ap h (sym (r.there c))
      ∙ by_walk_map iso mesh.gate mesh.inside mesh.below t r.long
      (λ k l. rw (by_walk_tip cs k) at (r.low (3 * k) (omega arith))) (r.back c) (r.back_low c b)
      ∙ ap (λ (n : ℕ). by_walk (corners_of (other n)) (r.back c)) e

  pub only_vertices : (u : ℕ) → u < v → a u ≡ vertex_map (round mesh) (round mesh') u
  only_vertices u b =
      let p = mesh.present u b in
      let again = renumbered (round mesh) (round mesh') equal_strings in
      ap a (sym p.2) ∙ sym (iso.vertex p.0 p.1) ∙ ap lab' (only_corners p.0 p.1)
      ∙ again.vertex p.0 p.1
      ∙ ap (vertex_map (round mesh) (round mesh')) p.2
