-- What the three reports answer: the truth, or a refusal, and what C is told beside a refusal (R2.20).
use Rattle.std.specs.Prelude.{ℕ, ◌-◌, List, Result, Ok, Err}
use Rattle.port.specs.declared.record.Port.{Port}
use Rattle.port.specs.Absent.{no_port}
use Rattle.report.specs.declared.Sets.{Sets}
use Rattle.report.specs.Sets.{sets_of, due_of}
use Rattle.table.specs.Table.{port_at, ports}
use Rattle.control.specs.declared.answer.Reason.{Reason}
use Rattle.control.specs.Call.{report, aggregator, due}
use Rattle.control.specs.After.{answer, unless}

-- the port's record
unfoldable pub port_report : ℕ → List ℕ → Port
port_report n t = unless (answer (report n) t) no_port (port_at t (n - 1))

-- what an accepted call is answered with
abbrev pub answered_with : {T A : Type 0} → Result T Reason → A → Result A Reason
answered_with (Ok a) x = Ok x
answered_with (Err r) x = Err r

-- the ports that hold aggregator k, are attached to it and distribute
unfoldable pub aggregator_report : ℕ → List ℕ → Result Sets Reason
aggregator_report k t = answered_with (answer (aggregator k) t) (sets_of k (ports t))

-- the ports whose fetch would be answered 0 (law `due-fetched`)
unfoldable pub due_report : List ℕ → Result ℕ Reason
due_report t = answered_with (answer due t) (due_of (ports t))

-- ---- beside a refusal, zeros

abbrev pub no_sets : Sets
no_sets = record { holding = 0; attached = 0; distributing = 0; count = 0; lowest = 0 }

abbrev pub sets_told : Result Sets Reason → Sets
sets_told (Ok sets) = sets
sets_told (Err r) = no_sets

abbrev pub ports_told : Result ℕ Reason → ℕ
ports_told (Ok ports) = ports
ports_told (Err r) = 0
