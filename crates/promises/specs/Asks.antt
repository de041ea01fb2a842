-- What comes of a Marker that a port asked for (43.5; M-102), and the numbers that Markers carry, along any run of the library.
use Rattle.std.specs.Prelude.{ℕ, ◌+◌, ◌-◌, ◌%◌, ◌≤◌, ◌<◌, ◌≡◌, Bool, true, false, cond, ◌&&◌, List, [], ◌∷◌, eqb}
use Rattle.octets.specs.Octets.{Octets}
use Rattle.frame.specs.Wire.{request_part}
use Rattle.table.specs.Table.{count_in, ours}
use Rattle.asks.specs.declared.ask.Outcome.{Outcome}
use Rattle.asks.specs.declared.ask.Outcome.TheVariants.{Nothing, Awaiting, Answered, TimedOut, Cancelled}
use Rattle.asks.specs.Ask.{is_awaiting}
use Rattle.control.specs.Accepted.{accepted}
use Rattle.control.specs.Call.{start, receive, tick, line, configure, fetch, report, aggregator, due, is_start}
use Rattle.asked.specs.Asked.{request_of}
use Rattle.asked.specs.Ask.{ask_outgoing}
use Rattle.promises.specs.Run.{Held, memory_of, call, forward, back}
use Rattle.promises.specs.Asked.{layer_of, table_in, ask_in, Deed, plain, ask, answer_to, said_to, agrees, done, AllTaken, DeedTakes, AskedMade, ask_by}

-- each step does to what a port asked for what `ask_by` says, and nothing else
abbrev pub AsksFollow : Type 0
AsksFollow = (h : Held) → AskedMade h → (d : Deed) → DeedTakes d → (i : ℕ) → i < count_in (table_in h) → ask_in i (done d h) ≡ ask_by i d h (ask_in i h)

-- ---- a Marker's end

-- the three ends
abbrev pub is_end : Outcome → Bool
is_end Nothing = false
is_end Awaiting = false
is_end Answered = true
is_end TimedOut = true
is_end Cancelled = true

-- what became of the Marker that port i, from 0, awaits: the first outcome that is none of awaiting. What the port asks for after that is another Marker
unfoldable pub fate : ℕ → Held → List Deed → Outcome
fate i h [] = (ask_in i h).outcome
fate i h (d ∷ ds) = cond (is_awaiting (ask_in i (done d h)).outcome) (fate i (done d h) ds) (ask_in i (done d h)).outcome

-- the accepted ticks of a run
abbrev pub tick_of : Deed → Held → ℕ
tick_of (plain (call (start count system delay s))) h = 0
tick_of (plain (call (receive n frame out))) h = 0
tick_of (plain (call tick)) h = cond (accepted (answer_to tick h)) 1 0
tick_of (plain (call (line n l))) h = 0
tick_of (plain (call (configure n s))) h = 0
tick_of (plain (call (fetch n out))) h = 0
tick_of (plain (call (report n))) h = 0
tick_of (plain (call (aggregator k))) h = 0
tick_of (plain (call due)) h = 0
tick_of (plain (forward u)) h = 0
tick_of (plain (back u)) h = 0
tick_of (ask n wait out) h = 0

unfoldable pub ticks_of : Held → List Deed → ℕ
ticks_of h [] = 0
ticks_of h (d ∷ ds) = tick_of d h + ticks_of (done d h) ds

-- no accepted start is among them
abbrev pub starts_by : Deed → Held → Bool
starts_by (plain (call c)) h = is_start c && accepted (answer_to c h)
starts_by (plain (forward u)) h = false
starts_by (plain (back u)) h = false
starts_by (ask n wait out) h = false

unfoldable pub NoStart : Held → List Deed → Type 0
NoStart h [] = Unit
NoStart h (d ∷ ds) = (starts_by d h ≡ false) × NoStart (done d h) ds

-- a Marker that was asked for with a time to wait has come to one of the three ends at the last tick of that time at the latest, if no start comes first
abbrev pub EndsInTime : Type 0
EndsInTime = (h : Held) → AskedMade h → (n wait : ℕ) (out : List ℕ) → Octets out → agrees (said_to n wait out h) ≡ true
    → (ds : List Deed) → AllTaken ds → NoStart (done (ask n wait out) h) ds → wait ≤ ticks_of (done (ask n wait out) h) ds
    → is_end (fate (n - 1) (done (ask n wait out) h) ds) ≡ true

-- ---- numbers

-- how many asks on port i, from 0, were accepted since the last accepted start, k of them before this step
abbrev pub count_ask : ℕ → Deed → Held → ℕ → ℕ
count_ask i (plain s) h k = cond (starts_by (plain s) h) 0 k
count_ask i (ask n wait out) h k = cond (eqb i (n - 1) && agrees (said_to n wait out h)) (k + 1) k

unfoldable pub count_asks : ℕ → Held → List Deed → ℕ → ℕ
count_asks i h [] k = k
count_asks i h (d ∷ ds) k = count_asks i (done d h) ds (count_ask i d h k)

abbrev pub asks_of : {h : Held} → AskedMade h → ℕ → ℕ
asks_of m i = count_asks i (done (plain (call m.start)) m.memory) m.deeds 0

-- an accepted ask carries the port's number, the table's system address, and as transaction how many were accepted before it since a start, in 32 bits
abbrev pub NumbersInOrder : Type 0
NumbersInOrder = (h : Held) (m : AskedMade h) (n wait : ℕ) (out : List ℕ) → agrees (said_to n wait out h) ≡ true
    → request_part (ask_outgoing (layer_of h) n wait out (memory_of h)) ≡ request_of n (ours (table_in h)).system.address (asks_of m (n - 1) % 4294967296)
