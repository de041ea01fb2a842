-- What is proved of moves, as one theorem (M-106): there and back, and that everything said of calls goes on through either move. Every theorem of `claims` is about a table
-- that calls made, and the records of a table are one (`records`), whatever moves came; those about a run of calls are said here of a run of calls and moves.
use Rattle.std.specs.Prelude.{ℕ, ◌-◌, ◌<◌, ◌≤◌, ◌≡◌, true, false, List, [], length, Ok}
use Rattle.machine.specs.declared.states.Line.{Line}
use Rattle.machine.specs.Time.{fast_periodic_time, aggregate_wait_time}
use Rattle.machine.specs.Mux.{waits}
use Rattle.table.specs.Layout.{table_size}
use Rattle.table.specs.Table.{count_in, port_at}
use Rattle.churn.specs.Whole.{whole_size}
use Rattle.control.specs.declared.answer.Accepted.TheVariants.{Done, Lacpdu}
use Rattle.control.specs.Accepted.{accepted}
use Rattle.control.specs.Call.{receive, fetch, line}
use Rattle.control.specs.After.{after}
use Rattle.whole.specs.Moves.{forward_answer, back_answer, ThereAndBack, BackAndThere}
use Rattle.claims.specs.Run.{Takes}
use Rattle.claims.specs.LivePartner.{NoneEnds, Live}
use Rattle.claims.specs.ThreeSends.{sends, Remembers, NoneStarts, ticks_in}
use Rattle.claims.specs.LineCall.{NoneRelines, Silent}
use Rattle.claims.specs.Moves.{Begins}
use Rattle.promises.specs.Run.{Held, Step, call, records_of, answer_in, stepped, through, AllStepsTake, calls_of, HeldMade, OldMade, WholeMade}
use Rattle.promises.specs.Whole.{HeldNeverStuck, BaseCalls, BaseRuns, BaseMade}

-- the records, and those after some steps
abbrev pub records_after : Held → List Step → List ℕ
records_after h ss = records_of (through h ss)

-- the sends on port n in the run that made a table (claims/specs/ThreeSends.antt)
abbrev pub sends_of : {h : Held} → HeldMade h → ℕ → List ℕ
sends_of m n = sends n (records_of (stepped (call m.start) m.memory)) (calls_of m.steps) []

pub record Through : Type 0 where
  pub there_and_back : ThereAndBack
  pub back-and-there : BackAndThere
  -- a table that a run made is moved if the target has its size
  pub forward-taken : (t : List ℕ) → OldMade t → (u : List ℕ) → length u ≡ whole_size (count_in t) → forward_answer t u ≡ Ok Done
  pub back-taken : (w : List ℕ) → WholeMade w → (u : List ℕ) → length u ≡ table_size (count_in w) → back_answer w u ≡ Ok Done
  -- never stuck, and the records are those that the calls alone make
  pub never_stuck : HeldNeverStuck
  pub calls : BaseCalls
  pub runs : BaseRuns
  pub records : BaseMade
  -- what a partner said of itself stays, along calls and moves none of which ends it
  pub live-partner : (h : Held) → HeldMade h → (n : ℕ) (frame out : List ℕ) → Takes (receive n frame out) → answer_in (receive n frame out) h ≡ Ok Lacpdu
      → (ss : List Step) → AllStepsTake ss → NoneEnds (after (receive n frame out) (records_of h)) (n - 1) (calls_of ss)
      → Live frame (port_at (records_after (stepped (call (receive n frame out)) h) ss) (n - 1))
  -- the sends of a run are remembered, and four of them span a Fast_Periodic_Time
  pub three-sends : (h : Held) (m : HeldMade h) (n : ℕ) → 1 ≤ n → n ≤ count_in (records_of h) → Remembers (sends_of m n) n (records_of h)
  pub four-sends-apart : (h : Held) → HeldMade h → (n : ℕ) (first last : List ℕ) → Takes (fetch n first) → answer_in (fetch n first) h ≡ Ok Done
      → (ss : List Step) → AllStepsTake ss → NoneStarts (after (fetch n first) (records_of h)) (calls_of ss)
      → length (sends n (after (fetch n first) (records_of h)) (calls_of ss) []) ≡ 2
      → Takes (fetch n last) → answer_in (fetch n last) (through (stepped (call (fetch n first)) h) ss) ≡ Ok Done → fast_periodic_time < ticks_in (calls_of ss)
  -- at half duplex a port stays silent until its line changes
  pub stays-silent : (h : Held) → HeldMade h → (n : ℕ) (l : Line) → accepted (answer_in (line n l) h) ≡ true → l.full ≡ false
      → (ss : List Step) → AllStepsTake ss → NoneRelines (calls_of ss) (n - 1) → Silent (records_after (stepped (call (line n l)) h) ss) n
  -- who begins to wait goes on waiting while fewer ticks pass than aggregate_wait_time has, and who does not wait after them holds what it held
  pub waits-on : (h : Held) → HeldMade h → (ss : List Step) → AllStepsTake ss → NoneStarts (records_of h) (calls_of ss) → ticks_in (calls_of ss) < aggregate_wait_time
      → (i : ℕ) → i < count_in (records_of h) → Begins (port_at (records_of h) i) → waits (port_at (records_after h ss) i).phase.mux ≡ true
  pub held : (h : Held) → HeldMade h → (ss : List Step) → AllStepsTake ss → NoneStarts (records_of h) (calls_of ss) → ticks_in (calls_of ss) < aggregate_wait_time
      → (i : ℕ) → i < count_in (records_of h) → waits (port_at (records_after h ss) i).phase.mux ≡ false
      → (port_at (records_after h ss) i).aggregator ≡ (port_at (records_of h) i).aggregator
