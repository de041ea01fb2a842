-- What a call promises: its answer, and every octet that it leaves. The contracts of the calls say no more and no less.
use Rattle.std.specs.Prelude.{ℕ, ◌≡◌, List}
use Rattle.control.specs.Answer.{Answer}
use Rattle.octets.specs.Octets.{fitted}
use Rattle.control.specs.Call.{Call, report}
use Rattle.whole.specs.Calls.{whole_answer, whole_after, whole_outgoing}
use Rattle.whole.specs.Report.{whole_record}

-- of a call on memory w: the answer a, and the memory u afterwards
abbrev pub Meets : Call → List ℕ → Answer → List ℕ → Type 0
Meets c w a u = (a ≡ whole_answer c w) × (u ≡ whole_after c w)

-- of a call that is lent an outgoing buffer, the buffer o afterwards too
abbrev pub MeetsOut : Call → List ℕ → Answer → List ℕ → List ℕ → Type 0
MeetsOut c w a u o = (a ≡ whole_answer c w) × (u ≡ whole_after c w) × (o ≡ whole_outgoing c w)

-- of a report of port n, lent memory m: its record, as many octets as fit, from the front; r is the memory afterwards
abbrev pub MeetsPort : ℕ → List ℕ → List ℕ → Answer → List ℕ → Type 0
MeetsPort n w m a r = (a ≡ whole_answer (report n) w) × (r ≡ fitted (whole_record n w) m)
