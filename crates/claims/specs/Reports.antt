-- What the three reports say, against the records and against what a fetch would answer.
use Rattle.std.specs.Prelude.{ℕ, ◌+◌, ◌-◌, ◌<◌, ◌≤◌, ◌≡◌, Bool, true, false, ◌&&◌, List, eqb, length, Ok, Err, MatchResult}
use Rattle.machine.specs.Mux.{is_attached, distributes}
use Rattle.port.specs.declared.record.Port.{Port}
use Rattle.report.specs.declared.Sets.{Sets}
use Rattle.report.specs.Sets.{counted}
use Rattle.octets.specs.Sets.{member}
use Rattle.frame.specs.Class.{frame_size}
use Rattle.table.specs.Table.{count_in, ports, port_at}
use Rattle.control.specs.declared.answer.Accepted.TheVariants.{Done}
use Rattle.control.specs.Accepted.{accepted}
use Rattle.control.specs.Call.{report, aggregator, fetch}
use Rattle.control.specs.After.{answer}
use Rattle.control.specs.Report.{port_report, aggregator_report, due_report, ports_told}

-- 7: an accepted port report is the port's record
abbrev pub PortTrue : Type 0
PortTrue = (t : List ℕ) (n : ℕ) → answer (report n) t ≡ Ok Done → port_report n t ≡ port_at t (n - 1)

-- a port that holds aggregator k and distributes
abbrev pub sends_on : ℕ → Port → Bool
sends_on k p = eqb p.aggregator k && distributes p.phase.mux

-- an accepted aggregator report (R15.2 to R15.4): bit i of a set is what the record of port i says; the count is how many records hold it
-- and distribute, and the lowest the first of these, or 0
pub record SetsTrue (k : ℕ) (t : List ℕ) (s : Sets) : Type 0 where
  pub holding : (i : ℕ) → i < count_in t → member s.holding i ≡ eqb (port_at t i).aggregator k
  pub attached : (i : ℕ) → i < count_in t → member s.attached i ≡ (eqb (port_at t i).aggregator k && is_attached (port_at t i).phase.mux)
  pub distributing : (i : ℕ) → i < count_in t → member s.distributing i ≡ sends_on k (port_at t i)
  pub nobody : (i : ℕ) → count_in t ≤ i → (member s.holding i ≡ false) × (member s.attached i ≡ false) × (member s.distributing i ≡ false)
  pub count : s.count ≡ counted (sends_on k) (ports t)
  pub none : ((i : ℕ) → i < count_in t → sends_on k (port_at t i) ≡ false) → s.lowest ≡ 0
  pub least : (i : ℕ) → i < count_in t → sends_on k (port_at t i) ≡ true → ((j : ℕ) → j < i → sends_on k (port_at t j) ≡ false) → s.lowest ≡ i + 1

-- and a refused one has the reason of its answer
abbrev pub AggregatorTrue : Type 0
AggregatorTrue = (t : List ℕ) (k : ℕ) → MatchResult (aggregator_report k t) (λ s. SetsTrue k t s) (λ r. answer (aggregator k) t ≡ Err r)

-- of any memory: a port has something to send exactly if its fetch, lent room for a frame, would be answered 0
abbrev pub DueTrue : Type 0
DueTrue = (t : List ℕ) (i : ℕ) (out : List ℕ) → frame_size ≤ length out → member (ports_told (due_report t)) i ≡ accepted (answer (fetch (i + 1) out) t)
