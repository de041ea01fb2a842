-- What the reports answer beside their number. A port's record is its octets as they lie: those of the front, and behind them its group.
use Rattle.std.specs.Prelude.{ℕ, ◌-◌, cond, List, ◌++◌, replicate, Result, Err}
use Rattle.octets.specs.Octets.{within}
use Rattle.octets.specs.Rows.{row_at}
use Rattle.table.specs.Layout.{most_ports}
use Rattle.asks.specs.Group.{group_size}
use Rattle.report.specs.declared.Sets.{Sets}
use Rattle.control.specs.declared.answer.Reason.{Reason}
use Rattle.control.specs.declared.answer.Reason.TheVariants as reason
use Rattle.control.specs.After.{unless}
use Rattle.control.specs.Call.{report}
use Rattle.whole.specs.Calls.{whole_answer}
use Rattle.whole.specs.Report.{whole_record, whole_aggregator, whole_due}
use Rattle.asked.specs.Layer.{Layer, new_layer}
use Rattle.asked.specs.Asked.{asked_size, front_of, groups_of, has_asks}

-- the octets of a port's record
abbrev pub asked_record_size : ℕ
asked_record_size = 78

unfoldable pub asked_record : ℕ → List ℕ → List ℕ
asked_record n m =
    cond (has_asks new_layer m)
    (whole_record n (front_of new_layer m)
    ++ unless (whole_answer (report n) (front_of new_layer m)) (replicate group_size 0) (row_at group_size (groups_of new_layer m) (n - 1)))
    (replicate asked_record_size 0)

unfoldable pub asked_aggregator : ℕ → List ℕ → Result Sets Reason
asked_aggregator k m = cond (has_asks new_layer m) (whole_aggregator k (front_of new_layer m)) (Err reason.Table)

unfoldable pub asked_due : List ℕ → Result ℕ Reason
asked_due m = cond (has_asks new_layer m) (whole_due (front_of new_layer m)) (Err reason.Table)

-- the published size for each port count, 0 where there is no such table
abbrev pub asked_published : Layer → ℕ → ℕ
asked_published L count = cond (within 1 count most_ports) (asked_size L count) 0
