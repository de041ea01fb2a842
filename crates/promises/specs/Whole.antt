-- What every table that a run makes is like, and what a call is to its records: with the monitors dropped it is the call on the table without them, in each call and in
-- each run. So what `claims` proves of tables without monitors holds of the records of every table, whatever moves came before.
use Rattle.std.specs.Prelude.{ℕ, ◌<◌, ◌≡◌, true, List, Err}
use Rattle.octets.specs.Octets.{Octets}
use Rattle.table.specs.Table.{count_in, port_at}
use Rattle.churn.specs.Churn.{watching}
use Rattle.churn.specs.Whole.{base_of, monitors_at, has_monitors}
use Rattle.control.specs.declared.answer.Reason.{Reason}
use Rattle.control.specs.Call.{Call}
use Rattle.control.specs.After.{answer, after, buffer_of, outgoing}
use Rattle.control.specs.Report.{aggregator_report, due_report}
use Rattle.whole.specs.Report.{whole_aggregator, whole_due}
use Rattle.claims.specs.Run.{Takes, run, Made}
use Rattle.claims.specs.AtRest.{Sound}
use Rattle.promises.specs.Run.{Held, old, new, Step, call, records_of, answer_in, outgoing_in, stepped, through, AllStepsTake, calls_of, HeldMade, WholeMade}

-- one more run of both machines of port i, from 0, on what stands changes nothing
abbrev pub ChurnRests : List ℕ → ℕ → Type 0
ChurnRests w i = watching (port_at (base_of w) i) (monitors_at w i) ≡ monitors_at w i

-- a table that no call refuses with answer 1: records and monitors are in range; and all of it is at rest
pub record WholeSound (w : List ℕ) : Type 0 where
  pub ranged : has_monitors w ≡ true
  pub octets : Octets w
  pub base : Sound (base_of w)
  pub rest : (i : ℕ) → i < count_in w → ChurnRests w i

abbrev pub HeldSound : Held → Type 0
HeldSound (old t) = Sound t
HeldSound (new w) = WholeSound w

abbrev pub HeldNeverStuck : Type 0
HeldNeverStuck = (h : Held) → HeldMade h → HeldSound h

-- a refusal changes nothing, in any memory
pub record HeldRefused (c : Call) (h : Held) : Type 0 where
  pub table : stepped (call c) h ≡ h
  pub buffer : outgoing_in c h ≡ buffer_of c

abbrev pub HeldRefusals : Type 0
HeldRefusals = (h : Held) (c : Call) (r : Reason) → answer_in c h ≡ Err r → HeldRefused c h

-- what a call does to the records, it does in either form
pub record BaseCall (c : Call) (h : Held) : Type 0 where
  pub answers : answer_in c h ≡ answer c (records_of h)
  pub leaves : records_of (stepped (call c) h) ≡ after c (records_of h)
  pub sends : outgoing_in c h ≡ outgoing c (records_of h)

abbrev pub BaseCalls : Type 0
BaseCalls = (h : Held) → HeldMade h → (c : Call) → Takes c → BaseCall c h

-- so a run does to them what its calls do, moves or not, and what it leaves is a table that calls made
abbrev pub BaseRuns : Type 0
BaseRuns = (h : Held) → HeldMade h → (ss : List Step) → AllStepsTake ss → records_of (through h ss) ≡ run (records_of h) (calls_of ss)

abbrev pub BaseMade : Type 0
BaseMade = (h : Held) → HeldMade h → Made (records_of h)

-- and the reports of aggregators and of what is due are those of that table
pub record BaseReports (w : List ℕ) : Type 0 where
  pub aggregators : (k : ℕ) → whole_aggregator k w ≡ aggregator_report k (base_of w)
  pub due : whole_due w ≡ due_report (base_of w)

abbrev pub BaseReported : Type 0
BaseReported = (w : List ℕ) → WholeMade w → BaseReports w
