-- What holds of every table that calls can make, and of every call.
use Rattle.std.specs.Prelude.{ℕ, ◌<◌, ◌≡◌, true, false, List, map, ◌≢◌, Err}
use Rattle.machine.specs.Compare.{same_system}
use Rattle.machine.specs.Mux.{is_attached, distributes}
use Rattle.port.specs.Compared.{compared}
use Rattle.port.specs.Receive.{receive_run}
use Rattle.port.specs.Mux.{SaysMux}
use Rattle.table.specs.Table.{count_in, ports, port_at, ours}
use Rattle.trunk.specs.Selection.{shares_group, rule_of}
use Rattle.trunk.specs.Settled.{Chosen}
use Rattle.work.specs.Work.{worked}
use Rattle.control.specs.declared.answer.Reason.{Reason}
use Rattle.control.specs.declared.answer.Reason.TheVariants.{Table}
use Rattle.control.specs.Call.{Call, is_start}
use Rattle.control.specs.After.{answer, after, buffer_of, outgoing}
use Rattle.claims.specs.Run.{Made}
use Rattle.claims.specs.AtRest.{Sound}
use Rattle.claims.specs.Lag.{lag_at}

-- 0a: a table that calls made is in range, so no call ever refuses it with answer 1; and it is at rest
abbrev pub NeverStuck : Type 0
NeverStuck = (t : List ℕ) → Made t → Sound t

-- so answer 1 is never given again, but to a start, which is told the size of the memory
abbrev pub NoAnswerOne : Type 0
NoAnswerOne = (t : List ℕ) → Made t → (c : Call) → is_start c ≡ false → answer c t ≢ Err Table

-- 0b: a refusal changes nothing, in any memory: neither the table nor the outgoing buffer
pub record RefusedSilently (c : Call) (t : List ℕ) : Type 0 where
  pub table : after c t ≡ t
  pub buffer : outgoing c t ≡ buffer_of c

abbrev pub RefusalsSilent : Type 0
RefusalsSilent = (t : List ℕ) (c : Call) (r : Reason) → answer c t ≡ Err r → RefusedSilently c t

-- 1: every port holds what the selection rule gives afresh, and is SELECTED
pub record Ruled (t : List ℕ) (i : ℕ) : Type 0 where
  pub holds : (port_at t i).aggregator ≡ rule_of (ours t) (map compared (ports t)) i
  pub selected : Chosen (port_at t i)

abbrev pub RuleAfresh : Type 0
RuleAfresh = (t : List ℕ) → Made t → (i : ℕ) → i < count_in t → Ruled t i

-- 2: a port distributes only with its link up and its partner in sync and collecting, and shares its group, and so its Link Aggregation Group
-- Identifier, with every port that is attached to its aggregator
pub record Earned (t : List ℕ) (i : ℕ) : Type 0 where
  pub up : (port_at t i).line.up ≡ true
  pub synchronization : (port_at t i).partner.state.synchronization ≡ true
  pub collecting : (port_at t i).partner.state.collecting ≡ true
  pub group : (j : ℕ) → j < count_in t → is_attached (port_at t j).phase.mux ≡ true → (port_at t j).aggregator ≡ (port_at t i).aggregator
      → shares_group (ours t) (map compared (ports t)) i j ≡ true
  pub lag : (j : ℕ) → j < count_in t → is_attached (port_at t j).phase.mux ≡ true → (port_at t j).aggregator ≡ (port_at t i).aggregator → lag_at t i ≡ lag_at t j

abbrev pub DistributingEarned : Type 0
DistributingEarned = (t : List ℕ) → Made t → (i : ℕ) → i < count_in t → distributes (port_at t i).phase.mux ≡ true → Earned t i

-- and of every port the actor's three bits say what its mux state is
abbrev pub BitsTrue : Type 0
BitsTrue = (t : List ℕ) → Made t → (i : ℕ) → i < count_in t → SaysMux (port_at t i)

-- ports that share a group have one Link Aggregation Group Identifier (43.3.6), in any memory
abbrev pub GroupHasLag : Type 0
GroupHasLag = (t : List ℕ) (i j : ℕ) → i < count_in t → j < count_in t → shares_group (ours t) (map compared (ports t)) i j ≡ true → lag_at t i ≡ lag_at t j

-- and the other way round, but where the partner is our own system: two links from this system to itself may have one, and R10.1 keeps them apart
abbrev pub LagHasGroup : Type 0
LagHasGroup = (t : List ℕ) (i j : ℕ) → i < count_in t → j < count_in t → same_system (port_at t i).partner.system (ours t).system ≡ false
    → lag_at t i ≡ lag_at t j → shares_group (ours t) (map compared (ports t)) i j ≡ true

-- 4: steps 2 to 6 once more, the receive machine without an event, change nothing
abbrev pub StaysAtRest : Type 0
StaysAtRest = (t : List ℕ) → Made t → worked (ours t) (map receive_run (ports t)) ≡ ports t
