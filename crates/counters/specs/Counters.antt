-- The counters of a port's page (30.7.3; M-100): what a receive and a fetch add to them, by their answers.
use Rattle.std.specs.Prelude.{ℕ, ◌+◌, Bool, true, false, cond, ◌||◌, eqb, Ok, Err}
use Rattle.machine.specs.Count.{counted}
use Rattle.control.specs.declared.answer.Accepted.TheVariants.{Done, Lacpdu, Marker}
use Rattle.control.specs.Accepted.{accepted, is_lacpdu}
use Rattle.control.specs.Answer.{Answer, answer_number}
use Rattle.counters.specs.declared.Counters.{Counters}

abbrev pub counted_if : Bool → ℕ → ℕ
counted_if b n = cond b (counted n) n

-- an accepted Marker
abbrev pub is_marker : Answer → Bool
is_marker (Ok Done) = false
is_marker (Ok Lacpdu) = false
is_marker (Ok Marker) = true
is_marker (Err r) = false

-- an accepted Response: no other receive is answered so
abbrev pub is_done : Answer → Bool
is_done (Ok Done) = true
is_done (Ok Lacpdu) = false
is_done (Ok Marker) = false
is_done (Err r) = false

-- which answers to a receive count where: 0 by the frame's kind, 5 as LACPDU, 9 as Marker, 12 as Response, 7 as unknown, 8 as illegal
abbrev pub as_lacpdu : Answer → Bool
as_lacpdu a = is_lacpdu a || eqb (answer_number a) 5

abbrev pub as_marker : Answer → Bool
as_marker a = is_marker a || eqb (answer_number a) 9

abbrev pub as_response : Answer → Bool
as_response a = is_done a || eqb (answer_number a) 12

abbrev pub as_unknown : Answer → Bool
as_unknown a = eqb (answer_number a) 7

abbrev pub as_illegal : Answer → Bool
as_illegal a = eqb (answer_number a) 8

-- after a receive; an accepted Marker is answered too
unfoldable pub received : Answer → Counters → Counters
received a c = record {
  lacpdus = counted_if (as_lacpdu a) c.lacpdus;
  markers = counted_if (as_marker a) c.markers;
  responses = counted_if (as_response a) c.responses;
  unknown = counted_if (as_unknown a) c.unknown;
  illegal = counted_if (as_illegal a) c.illegal;
  sent = c.sent;
  answered = counted_if (is_marker a) c.answered;
}

-- after a fetch
unfoldable pub fetched : Answer → Counters → Counters
fetched a c = record {
  lacpdus = c.lacpdus;
  markers = c.markers;
  responses = c.responses;
  unknown = c.unknown;
  illegal = c.illegal;
  sent = counted_if (accepted a) c.sent;
  answered = c.answered;
}

-- ---- what they add up to

-- the five that tell of received frames, together
abbrev pub all_received : Counters → ℕ
all_received c = c.lacpdus + (c.markers + (c.responses + (c.unknown + c.illegal)))

-- 1, 2, 3 and 6 count nowhere
abbrev pub counts_nowhere : ℕ → Bool
counts_nowhere n = eqb n 1 || (eqb n 2 || (eqb n 3 || eqb n 6))

-- what a receive with this answer adds to the five together: one, but for those
abbrev pub heard : Answer → ℕ
heard a = cond (counts_nowhere (answer_number a)) 0 1

-- none has been counted
abbrev pub none_counted : Counters
none_counted = record { lacpdus = 0; markers = 0; responses = 0; unknown = 0; illegal = 0; sent = 0; answered = 0 }
