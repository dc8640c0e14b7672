-- A record's text, piece by piece.
--
--   record_pieces   the text as it is written is the text of the four lines
--   record_length   how long it is
use mathlib.Core.List.{List, [], ◌++◌, ◌∷◌, append_assoc}
use mathlib.Core.Path.{◌∙◌, ◌≡◌, ap, refl, sym}
use Prim.Native.Nat.{◌+◌, ℕ}
use native.Mathlib.Omega.{arith}
use lib.ListN.{length, length-append}
use Rattle.record.specs.Head.{end_gate, end_sym, ended, form_tri, front_text}
use Rattle.record.specs.Record.{record_of, record_text}
use Rattle.text.specs.Decimal.{decimal, decimal_in}

pieces : (b c d e f g : List ℕ) → b ++ c ++ d ++ e ++ f ++ g ≡ b ++ (c ++ (d ++ (e ++ (f ++ g))))
pieces b c d e f g =
    append_assoc (b ++ c ++ d ++ e) f g ∙ append_assoc (b ++ c ++ d) e (f ++ g)
    ∙ append_assoc (b ++ c) d (e ++ (f ++ g))
    ∙ append_assoc b c (d ++ (e ++ (f ++ g)))

one : decimal 1 ≡ 49 ∷ []
unfolding decimal decimal_in
one = refl

pub record_pieces : (t gate : ℕ) (s : List ℕ) → front_text t gate ++ end_sym ++ s ++ ended ≡ record_text t gate s
unfolding front_text record_text record_of
record_pieces t gate s = rw one
    (ap (λ (r : List ℕ). form_tri ++ r) (pieces (decimal t) end_gate (decimal gate) end_sym s ended))

front_length : (t gate : ℕ) → length (front_text t gate) ≡ 17 + length (decimal t) + length (decimal gate)
unfolding front_text
front_length t gate =
    omega (
      arith,
      length-append (form_tri ++ decimal t ++ end_gate) (decimal gate),
      length-append (form_tri ++ decimal t) end_gate,
      length-append form_tri (decimal t),
    )

pub record_length : (t gate : ℕ) (s : List ℕ)
    → length (record_text t gate s) ≡ 23 + length (decimal t) + length (decimal gate) + length s
record_length t gate s =
    rw (sym (record_pieces t gate s))
    (omega (
      arith,
      front_length t gate,
      length-append (front_text t gate ++ end_sym ++ s) ended,
      length-append (front_text t gate ++ end_sym) s,
      length-append (front_text t gate) end_sym,
    ))
