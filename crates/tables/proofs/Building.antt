-- What both passes make of a string that closes: the tables of its word.
use mathlib.Core.List.{List}
use mathlib.Core.Path.{◌∙◌, ◌≡◌, ap, sym}
use Prim.Native.Nat.{◌*◌, ℕ}
use lib.ListN.{drop, length, take}
use Rattle.tables.proofs.Noted.{Noted, noted_recorded}
use Rattle.tables.proofs.Vertices.{fill_table}
use Rattle.tables.specs.Built.{Buildable, Built}
use Rattle.tables.specs.Fill.{fill_v}
use Rattle.theory.proofs.WordLaws.{length_spell, word_of_spell}
use Rattle.theory.specs.Tables.{table_o, table_v}
use Rattle.theory.specs.Word.{size, word_of}

pub built : {s work vs os front ns vs' os' : List ℕ} → Buildable s work vs os → front ≡ take (3 * length s) work
    → ns ≡ drop (3 * length s) work → os' ≡ front → vs' ≡ fill_v s ns os' vs → Built s vs' os'
built {s} {work} {vs} {os} {front} {ns} {vs'} {os'} h a b d g =
    let c = h.closes in
    let w = c.word in
    let ls : length s ≡ size w = ap length (sym c.spelt) ∙ length_spell w in
    let is : word_of s ≡ w = ap word_of (sym c.spelt) ∙ word_of_spell w in
    let lv : length vs ≡ 3 * size w = h.vertices ∙ ap (λ (n : ℕ). 3 * n) ls in
    let eo : os' ≡ table_o w =
    d ∙ a ∙ h.joined.neighbours ∙ ap table_o is in
    let noted : Noted ns 0 w = rw b (noted_recorded (length s) work 0 w (rw is at h.joined.records)) in
    record {
      vertices =
          g
          ∙ ap (λ (x : List ℕ). fill_v s ns x vs) eo
          ∙ ap (λ (x : List ℕ). fill_v x ns (table_o w) vs) (sym c.spelt)
          ∙ fill_table w c.sound c.two vs ns lv noted
          ∙ ap table_v (sym is);
      neighbours = eo ∙ ap table_o (sym is);
    }
