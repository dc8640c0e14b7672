-- How the reply of a call carries the answer of the call behind it.
--
--   answer_in opened_in packed_in     the answer that a reply holds: of a mesh or string, of reading and of writing a
--                                  record
--   Bare a r           r carries the answer a, and neither gate nor length
--   WithGate a r       r carries the answer a of reading a record, and no length
--   WithLength a r     r carries the answer a of writing a record, and no gate
--   Refuses e r        r carries the refusal e, and nothing else
use Rattle.std.specs.Prelude.{◌≡◌}
use Rattle.theory.specs.Answer.{Answer, number, refused}
use Rattle.theory.specs.declared.Refusal.{Refusal}
use Rattle.record.specs.Calls.{Opened}
use Rattle.record.specs.Calls.{Packed}
use Rattle.face.specs.declared.Reply.{Reply}

abbrev pub answer_in : Reply → Answer
answer_in r = record { number = r.number; place = r.place; t = r.t; v = r.v }

abbrev pub opened_in : Reply → Opened
opened_in r = record { number = r.number; place = r.place; t = r.t; v = r.v; gate = r.gate }

abbrev pub packed_in : Reply → Packed
packed_in r = record { number = r.number; place = r.place; t = r.t; v = r.v; length = r.length }

pub record Bare (a : Answer) (r : Reply) : Type 0 where
  pub answer : answer_in r ≡ a
  pub gate : r.gate ≡ 0
  pub length : r.length ≡ 0

pub record WithGate (a : Opened) (r : Reply) : Type 0 where
  pub answer : opened_in r ≡ a
  pub length : r.length ≡ 0

pub record WithLength (a : Packed) (r : Reply) : Type 0 where
  pub answer : packed_in r ≡ a
  pub gate : r.gate ≡ 0

pub record Refuses (e : Refusal) (r : Reply) : Type 0 where
  pub answer : answer_in r ≡ refused (number e.rule) e.place
  pub gate : r.gate ≡ 0
  pub length : r.length ≡ 0
