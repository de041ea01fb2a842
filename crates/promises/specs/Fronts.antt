-- The demands of fronts: tables without what their ports asked for, of either form (`Held` in Run.antt). Those of the library are in Demands.antt; what they say of records is
-- said here, and holds there because a run of the library is on its front a run of such calls and moves.
use Rattle.std.specs.Prelude.{ℕ, ◌-◌, ◌≤◌, ◌≡◌, ◌≢◌, Bool, true, false, List, map, Option, Ok, Err}
use Rattle.machine.specs.Mux.{is_attached, distributes}
use Rattle.port.specs.declared.record.Port.{Port}
use Rattle.port.specs.Compared.{compared}
use Rattle.port.specs.Receive.{receive_run}
use Rattle.table.specs.Table.{count_in, port_at, ports, ours}
use Rattle.trunk.specs.Selection.{rule_of, shares_group}
use Rattle.work.specs.Work.{worked}
use Rattle.churn.specs.declared.watch.Monitors.{Monitors}
use Rattle.churn.specs.Churn.{watching}
use Rattle.churn.specs.Whole.{monitors_at}
use Rattle.control.specs.declared.answer.Accepted.TheVariants.{Done}
use Rattle.control.specs.declared.answer.Reason.{Reason}
use Rattle.control.specs.declared.answer.Reason.TheVariants.{Table}
use Rattle.control.specs.Call.{Call, fetch, is_start}
use Rattle.control.specs.After.{buffer_of}
use Rattle.whole.specs.Moves.{forward_answer, forward_to, back_answer, back_to}
use Rattle.claims.specs.Run.{Takes}
use Rattle.claims.specs.Lag.{lag_at}
use Rattle.claims.specs.Locality.{touches}
use Rattle.claims.specs.ReadBack.{Reads}
use Rattle.promises.specs.Run.{Held, new, Step, call, records_of, answer_in, outgoing_in, stepped, StepTakes, HeldMade, WholeMade}
use Rattle.promises.specs.Churn.{churn_in}

-- ---- words: ports by their numbers

pub record IsPort (h : Held) (n : ℕ) : Type 0 where
  pub some : 1 ≤ n
  pub most : n ≤ count_in (records_of h)

-- a port's record, and the last group of it, its two monitors, where the form has them
abbrev pub record_of : Held → ℕ → Port
record_of h n = port_at (records_of h) (n - 1)

abbrev pub monitors_of : Held → ℕ → Option Monitors
monitors_of h n = churn_in (n - 1) h

abbrev pub carries : Held → ℕ → Bool
carries h n = distributes (record_of h n).phase.mux

abbrev pub attached : Held → ℕ → Bool
attached h n = is_attached (record_of h n).phase.mux

-- the aggregator that the selection rule gives port n, applied afresh to all records
abbrev pub rule_gives : Held → ℕ → ℕ
rule_gives h n = rule_of (ours (records_of h)) (map compared (ports (records_of h))) (n - 1)

abbrev pub in_one_group : Held → ℕ → ℕ → Bool
in_one_group h n m = shares_group (ours (records_of h)) (map compared (ports (records_of h))) (n - 1) (m - 1)

-- port m shares a group with port n neither before nor after the call
pub record Strangers (c : Call) (h : Held) (m n : ℕ) : Type 0 where
  pub before : in_one_group h m n ≡ false
  pub then : shares_group (ours (records_of h)) (map compared (ports (records_of (stepped (call c) h)))) (m - 1) (n - 1) ≡ false

-- a port is as it was, in every field
pub record AsItWas (c : Call) (h : Held) (m : ℕ) : Type 0 where
  pub fields : record_of (stepped (call c) h) m ≡ record_of h m
  pub monitors : monitors_of (stepped (call c) h) m ≡ monitors_of h m

-- ---- what holds of them

pub record Fronts : Type 0 where
  -- 1: a refused call leaves the table as it came, and the outgoing buffer too, in any memory; a refused move leaves its target
  pub refused-table : (h : Held) (c : Call) (r : Reason) → answer_in c h ≡ Err r → stepped (call c) h ≡ h
  pub refused-buffer : (h : Held) (c : Call) (r : Reason) → answer_in c h ≡ Err r → outgoing_in c h ≡ buffer_of c
  pub refused-forward : (t u : List ℕ) (r : Reason) → forward_answer t u ≡ Err r → forward_to t u ≡ u
  pub refused-back : (w u : List ℕ) (r : Reason) → back_answer w u ≡ Err r → back_to w u ≡ u
  -- 2: what a start, calls and moves made, a further one makes again, and no call but a start is refused for the table
  pub made : (h : Held) → HeldMade h → (s : Step) → StepTakes s → HeldMade (stepped s h)
  pub unfaulted : (h : Held) → HeldMade h → (c : Call) → is_start c ≡ false → answer_in c h ≢ Err Table
  -- and no work is left undone: the order of work once more, without an event, changes nothing, nor does one more run of a port's churn detection
  pub finished : (h : Held) → HeldMade h → worked (ours (records_of h)) (map receive_run (ports (records_of h))) ≡ ports (records_of h)
  pub watched : (w : List ℕ) → WholeMade w → (n : ℕ) → IsPort (new w) n → watching (record_of (new w) n) (monitors_at w (n - 1)) ≡ monitors_at w (n - 1)
  -- what a fetch sent reads back as the two blocks that it was written from
  pub reads-back : (h : Held) (n : ℕ) (out : List ℕ) → answer_in (fetch n out) h ≡ Ok Done → Reads (records_of h) n (outgoing_in (fetch n out) h)
  -- 3: every port holds the aggregator that the rule gives it now
  pub aggregator : (h : Held) → HeldMade h → (n : ℕ) → IsPort h n → (record_of h n).aggregator ≡ rule_gives h n
  -- who carries has a link that is up, and a partner in sync that collects
  pub up : (h : Held) → HeldMade h → (n : ℕ) → IsPort h n → carries h n ≡ true → (record_of h n).line.up ≡ true
  pub in_sync_lem : (h : Held) → HeldMade h → (n : ℕ) → IsPort h n → carries h n ≡ true → (record_of h n).partner.state.synchronization ≡ true
  pub collected : (h : Held) → HeldMade h → (n : ℕ) → IsPort h n → carries h n ≡ true → (record_of h n).partner.state.collecting ≡ true
  -- and whoever is attached to its aggregator is in one group with it: one Link Aggregation Group
  pub group : (h : Held) → HeldMade h → (n m : ℕ) → IsPort h n → IsPort h m → carries h n ≡ true → attached h m ≡ true
      → (record_of h m).aggregator ≡ (record_of h n).aggregator → (in_one_group h n m ≡ true) × (lag_at (records_of h) (n - 1) ≡ lag_at (records_of h) (m - 1))
  -- a call changes no record but of ports that share a group, before or after it, with one that it touches
  pub others_stay : (h : Held) → HeldMade h → (c : Call) → Takes c → (m : ℕ) → IsPort h m
      → ((n : ℕ) → IsPort h n → touches c (records_of h) (n - 1) ≡ true → Strangers c h m n) → AsItWas c h m
