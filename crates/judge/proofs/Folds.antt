-- The letters read from the right, as words: what a byte before them makes of them, and when they close.
--
--   spells ws        the letters of some words, one word after the other
--   Sounds ws        each of them is sound
--   Folded t st      t is the letters of sound words of the widths st
--   folded_none      no letters
--   folded_before    a letter more, where the stack of widths takes it and a width of 2 or more comes of it
--   folded_wide      the widths are 2 or more
--   folded_closes    one word of width 2 closes
use mathlib.Core.List.{List, [], ◌++◌, ◌∷◌, append_assoc, append-nil}
use mathlib.Core.Path.{◌∙◌, ◌≡◌, ap, refl, sym}
use mathlib.Core.Bool.{true}
use Prim.Native.Nat.{◌≤◌, ◌-◌, ℕ}
use native.Mathlib.Omega.{arith}
use Rattle.judge.proofs.WidthLaws.{widths}
use Rattle.judge.specs.Widths.{Wide, widths_before}
use Rattle.theory.proofs.LetterLaws.{byte_letter}
use Rattle.theory.proofs.WordLaws.{width_two}
use Rattle.theory.specs.Letter.{byte, is_letter, letter}
use Rattle.theory.specs.Word.{Closes, Sound, Word, spell, w_c, w_e, w_l, w_r, w_s, width}
use Rattle.theory.specs.declared.Letter.{Letter}
use Rattle.theory.specs.declared.Letter.TheVariants.{C, E, L, R, S}

abbrev pub spells : List Word → List ℕ
spells [] = []
spells (w ∷ ws) = spell w ++ spells ws

abbrev pub Sounds : List Word → Type 0
Sounds [] = Unit {0}
Sounds (w ∷ ws) = Sound w × Sounds ws

pub record Folded (t st : List ℕ) : Type 0 where
  pub made : List Word
  pub spelt : spells made ≡ t
  pub sound : Sounds made
  pub wide : widths made ≡ st

pub folded_none : Folded [] []
folded_none = record { made = []; spelt = refl; sound = tt; wide = refl }

-- no stack is empty and not
none : {A : Type 0} {w : ℕ} {st : List ℕ} → w ∷ st ≡ [] → A
none e = absurd (let z : ◌≡◌ {A = ℕ} 0 1 = cc in omega arith)

grown : (a : Letter) (ws : List Word) (w : ℕ) (st : List ℕ) → Sounds ws → 2 ≤ w
    → w ∷ st ≡ widths_before a (widths ws) → Folded (byte a ∷ spells ws) (w ∷ st)
unfolding widths_before spell width
grown E ws w st h k e = record { made = w_e ∷ ws; spelt = refl; sound = (tt, h); wide = sym e }
grown C [] w st h k e = none e
grown C (v ∷ ws) w st h k e =
    let less : w ≡ width v - 1 = cc in
    record { made = w_c v ∷ ws; spelt = refl; sound = ((h.0, omega arith), h.1); wide = sym e }
grown L [] w st h k e = none e
grown L (v ∷ ws) w st h k e = record { made = w_l v ∷ ws; spelt = refl; sound = h; wide = sym e }
grown R [] w st h k e = none e
grown R (v ∷ ws) w st h k e = record { made = w_r v ∷ ws; spelt = refl; sound = h; wide = sym e }
grown S [] w st h k e = none e
grown S (v ∷ []) w st h k e = none e
grown S (u ∷ (v ∷ ws)) w st h k e =
    record {
      made = w_s u v ∷ ws;
      spelt = ap (λ (l : List ℕ). byte S ∷ l) (append_assoc (spell u) (spell v) (spells ws));
      sound = ((h.0, h.1.0), h.1.1);
      wide = sym e;
    }

pub folded_before : (b : ℕ) (t : List ℕ) {st st' : List ℕ} {w : ℕ} → Folded t st → is_letter b ≡ true → 2 ≤ w
    → w ∷ st' ≡ widths_before (letter b) st → Folded (b ∷ t) (w ∷ st')
folded_before b t f h k e =
    let more = grown (letter b) f.made _ _ f.sound k (rw f.wide e) in
    record {
      made = more.made;
      spelt = more.spelt ∙ rw (byte_letter b h, f.spelt);
      sound = more.sound;
      wide = more.wide;
    }

sounds_wide : (ws : List Word) → Sounds ws → Wide (widths ws)
sounds_wide [] h = tt
sounds_wide (w ∷ ws) h = (width_two w h.0, sounds_wide ws h.1)

pub folded_wide : {t st : List ℕ} → Folded t st → Wide st
folded_wide f = rw (← f.wide) (sounds_wide f.made f.sound)

pub folded_closes : {s : List ℕ} → Folded s (2 ∷ []) → Closes s
folded_closes f = go f.made f.spelt f.sound f.wide
  where
    go : {s : List ℕ} (ws : List Word) → spells ws ≡ s → Sounds ws → widths ws ≡ 2 ∷ [] → Closes s
    go [] p h e = none (sym e)
    go (w ∷ []) p h e = record { word = w; spelt = sym (append-nil (spell w)) ∙ p; sound = h.0; two = cc }
    go (v ∷ (w ∷ ws)) p h e = absurd (let z : ◌≡◌ {A = ℕ} 0 1 = cc in omega arith)
