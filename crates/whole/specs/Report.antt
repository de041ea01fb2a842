-- What the reports answer: the truth, or a refusal. A port's record is its octets as they lie, those of its
-- monitors behind the others.
use Rattle.std.specs.Prelude.{ℕ, ◌-◌, cond, List, ◌++◌, replicate, Result, Err}
use Rattle.octets.specs.Octets.{within}
use Rattle.table.specs.Layout.{most_ports}
use Rattle.table.specs.Record.{encoded}
use Rattle.churn.specs.Whole.{whole_size, base_of, group_at, has_monitors}
use Rattle.report.specs.declared.Sets.{Sets}
use Rattle.control.specs.declared.answer.Reason.{Reason}
use Rattle.control.specs.declared.answer.Reason.TheVariants as reason
use Rattle.control.specs.After.{unless}
use Rattle.control.specs.Call.{report}
use Rattle.control.specs.Report.{port_report, aggregator_report, due_report}
use Rattle.whole.specs.Calls.{whole_answer}

-- the octets of a record with its monitors
abbrev pub whole_record_size : ℕ
whole_record_size = 71

-- a port's record
unfoldable pub whole_record : ℕ → List ℕ → List ℕ
whole_record n w = unless (whole_answer (report n) w) (replicate whole_record_size 0) (encoded (port_report n (base_of w)) ++ group_at w (n - 1))

unfoldable pub whole_aggregator : ℕ → List ℕ → Result Sets Reason
whole_aggregator k w = cond (has_monitors w) (aggregator_report k (base_of w)) (Err reason.Table)

unfoldable pub whole_due : List ℕ → Result ℕ Reason
whole_due w = cond (has_monitors w) (due_report (base_of w)) (Err reason.Table)

-- the published size for each port count, 0 where there is no such table
abbrev pub whole_published : ℕ → ℕ
whole_published count = cond (within 1 count most_ports) (whole_size count) 0
