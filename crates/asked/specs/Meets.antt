-- What a call promises: its answer, and every octet that it leaves. The contracts of the calls and of the C functions say no more and no less.
use Rattle.std.specs.Prelude.{ℕ, ◌≡◌, List}
use Rattle.octets.specs.Octets.{fitted}
use Rattle.control.specs.Answer.{Answer, answer_number, length_sent}
use Rattle.control.specs.Call.{Call, report}
use Rattle.control.specs.Report.{sets_told, ports_told}
use Rattle.asked.specs.Layer.{new_layer}
use Rattle.asked.specs.Calls.{asked_answer, asked_after, asked_outgoing}
use Rattle.asked.specs.Ask.{Said, said_number, ask_answer, ask_after, ask_outgoing}
use Rattle.asked.specs.Report.{asked_record, asked_aggregator, asked_due}

-- of a call on memory m: the answer a, and the memory u afterwards
abbrev pub Meets : Call → List ℕ → Answer → List ℕ → Type 0
Meets c m a u = (a ≡ asked_answer new_layer c m) × (u ≡ asked_after new_layer c m)

-- of a call that is lent an outgoing buffer, the buffer o afterwards too
abbrev pub MeetsOut : Call → List ℕ → Answer → List ℕ → List ℕ → Type 0
MeetsOut c m a u o = (a ≡ asked_answer new_layer c m) × (u ≡ asked_after new_layer c m) × (o ≡ asked_outgoing new_layer c m)

-- of an ask on port n, to wait for so many ticks
abbrev pub MeetsAsk : ℕ → ℕ → List ℕ → List ℕ → Said → List ℕ → List ℕ → Type 0
MeetsAsk n wait out m a u o = (a ≡ ask_answer new_layer n wait out m) × (u ≡ ask_after new_layer n wait out m) × (o ≡ ask_outgoing new_layer n wait out m)

-- of a report of port n, lent memory l: its record, as many octets as fit, from the front; r is that memory afterwards
abbrev pub MeetsPort : ℕ → List ℕ → List ℕ → Answer → List ℕ → Type 0
MeetsPort n m l a r = (a ≡ asked_answer new_layer (report n) m) × (r ≡ fitted (asked_record n m) l)

-- ---- a C function: the answer's number n

abbrev pub MeetsNumber : Call → List ℕ → ℕ → List ℕ → Type 0
MeetsNumber c m n u = (n ≡ answer_number (asked_answer new_layer c m)) × (u ≡ asked_after new_layer c m)

abbrev pub MeetsNumberOut : Call → List ℕ → ℕ → List ℕ → List ℕ → Type 0
MeetsNumberOut c m n u o = (n ≡ answer_number (asked_answer new_layer c m)) × (u ≡ asked_after new_layer c m) × (o ≡ asked_outgoing new_layer c m)

-- and for a received frame the length k that was sent
abbrev pub MeetsFrame : Call → List ℕ → ℕ → List ℕ → List ℕ → ℕ → Type 0
MeetsFrame c m n u o k =
    (n ≡ answer_number (asked_answer new_layer c m)) × (u ≡ asked_after new_layer c m) × (o ≡ asked_outgoing new_layer c m) × (k ≡ length_sent (asked_answer new_layer c m))

abbrev pub MeetsAskNumber : ℕ → ℕ → List ℕ → List ℕ → ℕ → List ℕ → List ℕ → Type 0
MeetsAskNumber port wait out m n u o =
    (n ≡ said_number (ask_answer new_layer port wait out m)) × (u ≡ ask_after new_layer port wait out m) × (o ≡ ask_outgoing new_layer port wait out m)

-- the report of a port
abbrev pub MeetsRecord : ℕ → List ℕ → List ℕ → ℕ → List ℕ → Type 0
MeetsRecord port m l n r = (n ≡ answer_number (asked_answer new_layer (report port) m)) × (r ≡ fitted (asked_record port m) l)

-- the report of an aggregator: the sets of those that hold it, are attached and distribute, how many distribute and the lowest that does
abbrev pub MeetsAggregator : ℕ → List ℕ → ℕ → ℕ → ℕ → ℕ → ℕ → ℕ → Type 0
MeetsAggregator k m n holding attached distributing count lowest =
    (n ≡ answer_number (asked_aggregator k m))
    × (holding ≡ (sets_told (asked_aggregator k m)).holding)
    × (attached ≡ (sets_told (asked_aggregator k m)).attached)
    × (distributing ≡ (sets_told (asked_aggregator k m)).distributing)
    × (count ≡ (sets_told (asked_aggregator k m)).count)
    × (lowest ≡ (sets_told (asked_aggregator k m)).lowest)

-- which ports have something to send: their set
abbrev pub MeetsDue : List ℕ → ℕ → ℕ → Type 0
MeetsDue m n ports = (n ≡ answer_number (asked_due m)) × (ports ≡ ports_told (asked_due m))
