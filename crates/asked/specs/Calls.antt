-- The calls of before on a table with what its ports asked for: each is the call on the front, and then the groups. A start makes them new, a tick makes their timers fall, a link
-- that falls cancels, and a Response that brings an awaited request back is accepted instead of answer 12.
use Rattle.std.specs.Prelude.{ℕ, ◌-◌, Bool, false, cond, not, ◌&&◌, List, ◌++◌, take, drop, eqb, Ok, Err}
use Rattle.machine.specs.declared.states.Line.{Line}
use Rattle.machine.specs.States.{same_line}
use Rattle.table.specs.Table.{count_in, port_at, ours}
use Rattle.asks.specs.declared.ask.Outcome.TheVariants.{Answered, Cancelled}
use Rattle.asks.specs.Groups.{ask_at, all_fallen, all_begun}
use Rattle.control.specs.declared.answer.Accepted.TheVariants.{Done}
use Rattle.control.specs.declared.answer.Reason.TheVariants as reason
use Rattle.control.specs.Accepted.{accepted}
use Rattle.control.specs.Answer.{Answer, answer_number}
use Rattle.control.specs.Call.{Call, start, receive, tick, line, configure, fetch, report, aggregator, due}
use Rattle.control.specs.After.{buffer_of}
use Rattle.whole.specs.Calls.{count_for}
use Rattle.asked.specs.Layer.{Layer}
use Rattle.asked.specs.Asked.{is_asked_room, has_asks, ended_at, brings_back}

-- the front and the groups, for a start by the count that it says
abbrev pub front_for : Layer → Call → List ℕ → List ℕ
front_for L c m = take (L.size (count_for c m)) m

abbrev pub groups_for : Layer → Call → List ℕ → List ℕ
groups_for L c m = drop (L.size (count_for c m)) m

-- what a call asks of the memory beyond what it asks of the front
abbrev pub room_for : Layer → Call → List ℕ → Bool
room_for L (start count system delay s) m = is_asked_room L m count
room_for L (receive n frame out) m = has_asks L m
room_for L tick m = has_asks L m
room_for L (line n l) m = has_asks L m
room_for L (configure n s) m = has_asks L m
room_for L (fetch n out) m = has_asks L m
room_for L (report n) m = has_asks L m
room_for L (aggregator k) m = has_asks L m
room_for L due m = has_asks L m

-- a link that was up falls, or its duplex changes
abbrev pub falls_from : Line → Line → Bool
falls_from before then = before.up && not (same_line then before)

-- whether a received frame, on front f with groups g, is a Response for which a port waits
abbrev pub is_ours : Layer → Call → List ℕ → List ℕ → Bool
is_ours L (start count system delay s) f g = false
is_ours L (receive n frame out) f g =
    eqb (answer_number (L.answers (receive n frame out) f)) 12 && brings_back n (ours (L.records f)).system.address frame (ask_at g (n - 1))
is_ours L tick f g = false
is_ours L (line n l) f g = false
is_ours L (configure n s) f g = false
is_ours L (fetch n out) f g = false
is_ours L (report n) f g = false
is_ours L (aggregator k) f g = false
is_ours L due f g = false

-- the groups afterwards
abbrev pub groups_after : Layer → Call → List ℕ → List ℕ → List ℕ
groups_after L (start count system delay s) f g = cond (accepted (L.answers (start count system delay s) f)) (all_begun count) g
groups_after L (receive n frame out) f g = cond (is_ours L (receive n frame out) f g) (ended_at Answered (n - 1) g) g
groups_after L tick f g = cond (accepted (L.answers tick f)) (all_fallen (count_in f) g) g
groups_after L (line n l) f g = cond (accepted (L.answers (line n l) f) && falls_from (port_at (L.records f) (n - 1)).line l) (ended_at Cancelled (n - 1) g) g
groups_after L (configure n s) f g = g
groups_after L (fetch n out) f g = g
groups_after L (report n) f g = g
groups_after L (aggregator k) f g = g
groups_after L due f g = g

-- ---- answer, table and buffer afterwards

unfoldable pub asked_answer : Layer → Call → List ℕ → Answer
asked_answer L c m =
    cond (room_for L c m) (cond (is_ours L c (front_for L c m) (groups_for L c m)) (Ok Done) (L.answers c (front_for L c m))) (Err reason.Table)

unfoldable pub asked_after : Layer → Call → List ℕ → List ℕ
asked_after L c m = cond (room_for L c m) (L.leaves c (front_for L c m) ++ groups_after L c (front_for L c m) (groups_for L c m)) m

unfoldable pub asked_outgoing : Layer → Call → List ℕ → List ℕ
asked_outgoing L c m = cond (room_for L c m) (L.sends c (front_for L c m)) (buffer_of c)
