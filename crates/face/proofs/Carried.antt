-- What a call promises of its answer holds of the answer that its reply carries.
--
--   again                                          a reply carries the answer in it
--   checks_carried writes_carried reads_carried    the promises of the connectivity part
--   opens_carried packs_carried                    the promises of the record part
use mathlib.Core.List.{List}
use mathlib.Core.Path.{refl, subst, sym}
use Prim.Native.Nat.{ℕ}
use Rattle.face.specs.Reply.{Bare, WithGate, WithLength, answer_in, opened_in, packed_in}
use Rattle.face.specs.declared.Reply.{Reply}
use Rattle.record.specs.Calls.{Opens, Packs}
use Rattle.record.specs.Calls.{Opened}
use Rattle.record.specs.Calls.{Packed}
use Rattle.theory.specs.Calls.{Checks, Reads, Writes}
use Rattle.theory.specs.Answer.{Answer}

again : {a : Answer} {r : Reply} → Bare a r → Bare (answer_in r) r
again b = record { answer = refl; gate = b.gate; length = b.length }

pub checks_carried : {vs os work work' : List ℕ} {v g : ℕ} {a : Answer} {r : Reply}
    → Bare a r → Checks vs os v g work a work' → Bare (answer_in r) r × Checks vs os v g work (answer_in r) work'
checks_carried {vs} {os} {work} {work'} {v} {g} b p =
    (again b, subst (λ (a : Answer). Checks vs os v g work a work') (sym b.answer) p)

pub writes_carried : {vs os letters walk work letters' walk' work' : List ℕ} {v g : ℕ} {a : Answer} {r : Reply}
    → Bare a r → Writes vs os v g letters walk work a letters' walk' work'
    → Bare (answer_in r) r × Writes vs os v g letters walk work (answer_in r) letters' walk' work'
writes_carried {vs} {os} {letters} {walk} {work} {letters'} {walk'} {work'} {v} {g} b p =
    (again b, subst (λ (a : Answer). Writes vs os v g letters walk work a letters' walk' work') (sym b.answer) p)

pub reads_carried : {s vs os work vs' os' work' : List ℕ} {a : Answer} {r : Reply}
    → Bare a r → Reads s vs os work a vs' os' work'
    → Bare (answer_in r) r × Reads s vs os work (answer_in r) vs' os' work'
reads_carried {s} {vs} {os} {work} {vs'} {os'} {work'} b p =
    (again b, subst (λ (a : Answer). Reads s vs os work a vs' os' work') (sym b.answer) p)

pub opens_carried : {text vs os work vs' os' work' : List ℕ} {a : Opened} {r : Reply}
    → WithGate a r → Opens text vs os work a vs' os' work'
    → WithGate (opened_in r) r × Opens text vs os work (opened_in r) vs' os' work'
opens_carried {text} {vs} {os} {work} {vs'} {os'} {work'} b p = (
  record { answer = refl; length = b.length },
  subst (λ (a : Opened). Opens text vs os work a vs' os' work')
      (sym b.answer) p,
)

pub packs_carried : {s text work text' work' : List ℕ} {g : ℕ} {a : Packed} {r : Reply}
    → WithLength a r → Packs s g text work a text' work'
    → WithLength (packed_in r) r × Packs s g text work (packed_in r) text' work'
packs_carried {s} {text} {work} {text'} {work'} {g} b p = (
  record { answer = refl; gate = b.gate },
  subst (λ (a : Packed). Packs s g text work a text' work')
      (sym b.answer) p,
)
