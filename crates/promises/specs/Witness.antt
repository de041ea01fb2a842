-- Two runs that have nothing in common but what the machines of one port look at, and their moves: other counts of ports, systems, settings, frames, refused calls, and
-- other calls while the table is of the old form. So `two_runs` is not empty: its premises are met here, by computation, and its conclusion is applied.
use Rattle.std.specs.Prelude.{ℕ, ◌≡◌, Bool, true, false, List, [], ◌∷◌, Option, Some, None, Ok}
use Rattle.frame.specs.Wire.{zeros}
use Rattle.machine.specs.States.{ticks}
use Rattle.table.specs.Layout.{table_size}
use Rattle.table.specs.Table.{count_in, port_at}
use Rattle.churn.specs.declared.Stage.{Stage}
use Rattle.churn.specs.declared.Stage.TheVariants.{Start, Tick, Other}
use Rattle.churn.specs.declared.watch.Monitors.{Monitors}
use Rattle.churn.specs.declared.watch.Churn.TheVariants.{Monitor}
use Rattle.churn.specs.Churn.{watch, monitors}
use Rattle.churn.specs.Whole.{whole_size}
use Rattle.control.specs.declared.answer.Accepted.TheVariants.{Lacpdu}
use Rattle.control.specs.Accepted.{accepted}
use Rattle.control.specs.Call.{Call, start, receive, tick, line, fetch, report}
use Rattle.control.specs.After.{after}
use Rattle.counters.specs.Counters.{none_counted}
use Rattle.claims.specs.LivePartner.{NoneEnds, Live}
use Rattle.claims.specs.Speakers.{system, no_delay, settings, keyed_settings, up_full, frame}
use Rattle.asked.specs.Layer.{new_layer}
use Rattle.asked.specs.Asked.{asked_size}
use Rattle.promises.specs.Run.{Held, new, Step, call, forward, back, records_of, answer_in, stepped, through, calls_of}
use Rattle.promises.specs.Asked.{Deed, plain}
use Rattle.promises.specs.Churn.{Seen, seen_in, churn_in, Happening, history, churns, shortened}
use Rattle.promises.specs.Counts.{counters_after, heard_on, all_of}
use Rattle.promises.specs.Through.{records_after}

-- one port, in memory of zeros; it hears a partner that is not in sync, goes back to the old form, ticks there and comes forward, has a further start, and is reported
abbrev pub memory : Held
memory = new (zeros (whole_size 1))

abbrev pub begin : Call
begin = start 1 (system 9) no_delay (settings false 0)

abbrev pub heard : Call
heard = receive 1 (frame 5 1 0x05 1 0x05) (zeros 124)

abbrev pub there_and_back : List Step
there_and_back = call tick ∷ back (zeros (table_size 1)) ∷ call tick ∷ forward (zeros (whole_size 1)) ∷ call tick ∷ []

abbrev pub steps : List Step
steps =
    call (line 1 up_full) ∷ call tick ∷ call heard ∷ call tick ∷ back (zeros (table_size 1)) ∷ call tick ∷ forward (zeros (whole_size 1)) ∷ call tick ∷ call begin ∷ call tick
    ∷ call (report 1) ∷ call (line 1 up_full) ∷ call tick ∷ []

-- the second of two ports, of another system and with other settings; a fetch without room, a move into memory that is too short, and a start of the wrong size
abbrev pub memory2 : Held
memory2 = new (zeros (whole_size 2))

abbrev pub begin2 : Call
begin2 = start 2 (system 8) no_delay (keyed_settings 7 true 0x18)

abbrev pub steps2 : List Step
steps2 =
    call (line 2 up_full) ∷ call tick ∷ call (fetch 1 []) ∷ call tick ∷ back (zeros (table_size 2)) ∷ forward (zeros (whole_size 1)) ∷ forward (zeros (whole_size 2)) ∷ call tick ∷ call begin2 ∷ call tick
    ∷ call (start 1 (system 8) no_delay (settings false 0)) ∷ call (line 2 up_full) ∷ call tick ∷ []

-- the same of it with steps left out
abbrev pub steps3 : List Step
steps3 =
    call (line 2 up_full) ∷ call tick ∷ call tick ∷ back (zeros (table_size 2)) ∷ forward (zeros (whole_size 2)) ∷ call tick ∷ call begin2 ∷ call tick ∷ call (line 2 up_full) ∷ call tick ∷ []

abbrev pub both : ℕ → Option Monitors
both n = Some (monitors (watch Monitor (ticks n) 0) (watch Monitor (ticks n) 0))

-- the table with its link up, before it hears
abbrev pub linked : Held
linked = through memory (call begin ∷ call (line 1 up_full) ∷ call tick ∷ [])

-- one port that is heard: an LACPDU, one that names a port that is not there, a frame that is foreign, one of a subtype for others and one cut short, and one without room for
-- an answer; then it sends, and has nothing more to send
abbrev pub slow : ℕ → List ℕ
slow subtype = 0x01 ∷ 0x80 ∷ 0xc2 ∷ 0 ∷ 0 ∷ 0x02 ∷ 0 ∷ 0 ∷ 0 ∷ 0 ∷ 0 ∷ 0 ∷ 0x88 ∷ 0x09 ∷ subtype ∷ []

abbrev pub on : Call → Deed
on c = plain (call c)

abbrev pub counted : List Deed
counted =
    on (line 1 up_full) ∷ on heard ∷ on (receive 2 (frame 5 1 0x05 1 0x05) (zeros 124)) ∷ on (receive 1 [] (zeros 124)) ∷ on (receive 1 (slow 5) (zeros 124)) ∷ on (receive 1 (slow 1) (zeros 124))
    ∷ on (receive 1 (slow 1) []) ∷ on (fetch 1 (zeros 124)) ∷ on (fetch 1 (zeros 124)) ∷ []

-- its memory has room for what ports ask for
abbrev pub room : Held
room = new (zeros (asked_size new_layer 1))

-- what happens to the port in both: what each step is, and the link, with neither Synchronization, where the table has monitors
abbrev pub sees : Bool → Option Seen
sees up = Some (record { up = up; actor = false; partner = false })

abbrev pub happens : Stage → Option Seen → Happening
happens e x = record { event = e; seen = x }

abbrev pub happened : List Happening
happened =
    happens Start (sees false) ∷ happens Other (sees true) ∷ happens Tick (sees true) ∷ happens Other (sees true) ∷ happens Tick (sees true) ∷ happens Other None ∷ happens Other None
    ∷ happens Start (sees true) ∷ happens Tick (sees true) ∷ happens Start (sees false) ∷ happens Tick (sees false) ∷ happens Other (sees false) ∷ happens Other (sees true) ∷ happens Tick (sees true) ∷ []

-- after the start, with steps left out
abbrev pub left : List Happening
left =
    happens Other (sees true) ∷ happens Tick (sees true) ∷ happens Tick (sees true) ∷ happens Other None ∷ happens Start (sees true) ∷ happens Tick (sees true) ∷ happens Start (sees false)
    ∷ happens Tick (sees false) ∷ happens Other (sees true) ∷ happens Tick (sees true) ∷ []

pub record Witness : Type 0 where
  pub accepted-one : accepted (answer_in begin memory) ≡ true
  pub accepted-two : accepted (answer_in begin2 memory2) ≡ true
  pub count-one : count_in (records_of (stepped (call begin) memory)) ≡ 1
  pub count-two : count_in (records_of (stepped (call begin2) memory2)) ≡ 2
  -- a start and thirteen steps
  pub history-one : history 0 memory (call begin ∷ steps) ≡ happened
  pub history-two : history 1 memory2 (call begin2 ∷ steps2) ≡ happened
  -- the monitors run while the link is up, stand at 600 where it is down, and begin afresh with the move forward
  pub runs : churns 0 memory (call begin ∷ steps)
      ≡ both 600 ∷ both 600 ∷ both 599 ∷ both 599 ∷ both 598 ∷ None ∷ None ∷ both 600 ∷ both 599 ∷ both 600 ∷ both 600 ∷ both 600 ∷ both 600 ∷ both 599 ∷ []
  -- a start and ten of them
  pub seen_one : seen_in 0 (stepped (call begin) memory) ≡ sees false
  pub seen-two : seen_in 1 (stepped (call begin2) memory2) ≡ sees false
  pub shorter_one : shortened (sees false) (history 0 (stepped (call begin) memory) steps) ≡ left
  pub shorter_two : shortened (sees false) (history 1 (stepped (call begin2) memory2) steps3) ≡ left
  -- what is counted, and what there was to count
  pub counts : counters_after 1 room (on begin ∷ counted) none_counted
      ≡ record { lacpdus = 1; markers = 0; responses = 0; unknown = 1; illegal = 1; sent = 1; answered = 0 }
  pub to-count : all_of (heard_on 1) room (on begin ∷ counted) ≡ 3
  -- an LACPDU is taken, and neither a tick nor a move ends what it said
  pub taken : answer_in heard linked ≡ Ok Lacpdu
  pub none-ends : NoneEnds (after heard (records_of linked)) 0 (calls_of there_and_back)

-- what follows by the theorems
pub record Applied : Type 0 where
  pub two_runs : churns 1 memory2 (call begin2 ∷ steps2) ≡ churns 0 memory (call begin ∷ steps)
  pub two_runs-shortened : churn_in 1 (through memory2 (call begin2 ∷ steps3)) ≡ churn_in 0 (through memory (call begin ∷ steps))
  pub live : Live (frame 5 1 0x05 1 0x05) (port_at (records_after (stepped (call heard) linked) there_and_back) 0)
