-- What a call promises: its answer, and every octet that it leaves. The contracts of the calls say no more and no less.
use Rattle.std.specs.Prelude.{ℕ, ◌≡◌, List}
use Rattle.octets.specs.Octets.{fitted}
use Rattle.frame.specs.Class.{class_of}
use Rattle.port.specs.Transmit.{due}
use Rattle.table.specs.Record.{encoded}
use Rattle.table.specs.Table.{port_at, state_of, on_octets}
use Rattle.work.specs.Work.{after_send, lacpdu_of, written_over}
use Rattle.control.specs.Answer.{Answer, with_room, frame_answer, due_answer}
use Rattle.control.specs.Call.{Call, report}
use Rattle.control.specs.After.{answer, after, outgoing, unless, after_frame, sent_for}
use Rattle.control.specs.Report.{port_report}

-- of a call on table t: the answer a, and the table u afterwards
abbrev pub Meets : Call → List ℕ → Answer → List ℕ → Type 0
Meets c t a u = (a ≡ answer c t) × (u ≡ after c t)

-- of a call that is lent an outgoing buffer, the buffer o afterwards too
abbrev pub MeetsOut : Call → List ℕ → Answer → List ℕ → List ℕ → Type 0
MeetsOut c t a u o = (a ≡ answer c t) × (u ≡ after c t) × (o ≡ outgoing c t)

-- of a report of port n, lent memory m: its record, as many octets as fit, from the front; r is the memory afterwards
abbrev pub MeetsPort : ℕ → List ℕ → List ℕ → Answer → List ℕ → Type 0
MeetsPort n t m a r = (a ≡ answer (report n) t) × (r ≡ fitted (encoded (port_report n t)) m)

-- ---- behind answers 1 and 2: port i, from 0, of a table in range

abbrev pub MeetsReceive : List ℕ → ℕ → List ℕ → List ℕ → Answer → List ℕ → List ℕ → Type 0
MeetsReceive t i frame out a u o =
    (a ≡ with_room out (frame_answer (class_of frame) (port_at t i).line (port_at t i).phase.mux))
    × (u ≡ unless a t (on_octets (after_frame a i frame) t))
    × (o ≡ sent_for a (state_of t) i frame out)

abbrev pub MeetsFetch : List ℕ → ℕ → List ℕ → Answer → List ℕ → List ℕ → Type 0
MeetsFetch t i out a u o =
    (a ≡ with_room out (due_answer (due (port_at t i)))) × (u ≡ unless a t (on_octets (after_send i) t)) × (o ≡ unless a out (written_over (lacpdu_of (state_of t) i) out))
