-- What each call answers, and what it leaves in the table and in the outgoing buffer.
use Rattle.std.specs.Prelude.{ℕ, ◌-◌, List, [], Result, Ok, Err}
use Rattle.frame.specs.Class.{class_of}
use Rattle.port.specs.Transmit.{due as dueOn}
use Rattle.table.specs.State.{State}
use Rattle.table.specs.Table.{port_at, state_of, on_octets}
use Rattle.work.specs.Work.{after_start, after_received, after_tick, after_line, after_settings, after_send, lacpdu_of, response_of, written_over}
use Rattle.control.specs.declared.answer.Accepted.TheVariants.{Done, Lacpdu, Marker}
use Rattle.control.specs.declared.answer.Reason.{Reason}
use Rattle.control.specs.Answer.{Answer, on_table, on_port, with_room, with_default, frame_answer, due_answer, start_answer}
use Rattle.control.specs.Call.{Call, start, receive, tick, line, configure, fetch, report, aggregator, due}

-- what came before where the call is refused, and otherwise what comes then
abbrev pub unless : {T A : Type 0} → Result T Reason → A → A → A
unless (Ok a) before then = then
unless (Err r) before then = before

-- the tests of each call, in the order of R2.14
unfoldable pub answer : Call → List ℕ → Answer
answer (start count system delay s) t = start_answer t count s
answer (receive n frame out) t = on_port t n (with_room out (frame_answer (class_of frame) (port_at t (n - 1)).line (port_at t (n - 1)).phase.mux))
answer tick t = on_table t
answer (line n l) t = on_port t n (Ok Done)
answer (configure n s) t = on_port t n (with_default s (Ok Done))
answer (fetch n out) t = on_port t n (with_room out (due_answer (dueOn (port_at t (n - 1)))))
answer (report n) t = on_port t n (Ok Done)
answer (aggregator k) t = on_port t k (Ok Done)
answer due t = on_table t

-- a received frame: an accepted LACPDU changes records, and nothing else does
abbrev pub after_frame : Answer → ℕ → List ℕ → State → State
after_frame (Ok Done) i frame s = s
after_frame (Ok Lacpdu) i frame s = after_received i frame s
after_frame (Ok Marker) i frame s = s
after_frame (Err r) i frame s = s

-- what a call that is accepted, with this answer, makes of the table as a value
unfoldable pub effect : Call → Answer → State → State
effect (start count system delay x) a s = after_start (record { count = count; system = system; delay = delay }) x
effect (receive n frame out) a s = after_frame a (n - 1) frame s
effect tick a s = after_tick s
effect (line n l) a s = after_line (n - 1) l s
effect (configure n x) a s = after_settings (n - 1) x s
effect (fetch n out) a s = after_send (n - 1) s
effect (report n) a s = s
effect (aggregator k) a s = s
effect due a s = s

-- and of its octets
abbrev pub changed_by : Call → List ℕ → List ℕ
changed_by c t = on_octets (effect c (answer c t)) t

-- R2.16: after a refusal the table is what it was
unfoldable pub after : Call → List ℕ → List ℕ
after c t = unless (answer c t) t (changed_by c t)

-- ---- the outgoing buffer

-- as it came; calls that are lent none have none
abbrev pub buffer_of : Call → List ℕ
buffer_of (start count system delay s) = []
buffer_of (receive n frame out) = out
buffer_of tick = []
buffer_of (line n l) = []
buffer_of (configure n s) = []
buffer_of (fetch n out) = out
buffer_of (report n) = []
buffer_of (aggregator k) = []
buffer_of due = []

-- a received frame: an accepted Marker is answered, and nothing else writes
abbrev pub sent_for : Answer → State → ℕ → List ℕ → List ℕ → List ℕ
sent_for (Ok Done) s i frame out = out
sent_for (Ok Lacpdu) s i frame out = out
sent_for (Ok Marker) s i frame out = written_over (response_of s i frame) out
sent_for (Err r) s i frame out = out

unfoldable pub written_by : Call → List ℕ → List ℕ
written_by (start count system delay s) t = []
written_by (receive n frame out) t = sent_for (answer (receive n frame out) t) (state_of t) (n - 1) frame out
written_by tick t = []
written_by (line n l) t = []
written_by (configure n s) t = []
written_by (fetch n out) t = written_over (lacpdu_of (state_of t) (n - 1)) out
written_by (report n) t = []
written_by (aggregator k) t = []
written_by due t = []

-- a refusal leaves it as it came
unfoldable pub outgoing : Call → List ℕ → List ℕ
outgoing c t = unless (answer c t) (buffer_of c) (written_by c t)
