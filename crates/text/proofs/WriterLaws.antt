-- Laws of a writer: how it is known what it wrote, and what it wrote in two steps.
--
--   writes_put      it kept its buffer and put a text
--   writes_nothing writes_append   nothing; one text behind another
use mathlib.Core.List.{List, [], ◌++◌}
use mathlib.Core.Path.{◌∙◌, ◌≡◌, ap, refl, sym}
use Prim.Native.Nat.{◌+◌, ℕ}
use native.Mathlib.Omega.{arith}
use lib.ListN.{length, length-append}
use Rattle.text.proofs.PutLaws.{length_put, put_append, put_none}
use Rattle.text.specs.Put.{Room, Writes, put}
use Rattle.text.specs.declared.Writer.{Writer}

pub writes_put : {v w : Writer} {s : List ℕ} → Room v s → w.out.ghost_name ≡ v.out.ghost_name
    → w.at ≡ v.at + length s → w.out.now ≡ put v.out.now v.at s → Writes v s w
writes_put {v} {w} {s} h b p t =
    let n : length w.out.now ≡ length v.out.now = ap length t ∙ length_put v.out.now v.at s h in record {
      same_buffer = b;
      same_length = n;
      inside = omega arith;
      wrote = record { place = p; text = t };
    }

pub writes_nothing : (w : Writer) → Room w [] → Writes w [] w
writes_nothing w h = record {
  same_buffer = refl;
  same_length = refl;
  inside = omega arith;
  wrote = record { place = omega arith; text = sym (put_none w.out.now w.at) };
}

pub writes_append : {u v w : Writer} {a b : List ℕ} → Writes u a v → Writes v b w → Writes u (a ++ b) w
writes_append {u} {v} {w} {a} {b} f s = record {
  same_buffer = s.same_buffer ∙ f.same_buffer;
  same_length = s.same_length ∙ f.same_length;
  inside = s.inside;
  wrote = record {
    place = omega (arith, length-append a b);
    text =
        s.wrote.text
        ∙ ap (λ (l : List ℕ). put l v.at b) f.wrote.text
        ∙ ap (λ (k : ℕ). put (put u.out.now u.at a) k b) f.wrote.place
        ∙ put_append u.out.now u.at a b (omega arith);
  };
}
