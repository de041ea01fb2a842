-- `report_aggregator` meets its contract: the report of the front. Assumes nothing.
use mathlib.Core.Path.{sym, ap, ◌∙◌}
use lib.Seq.{length-take-le}
use Rattle.asked.specs.Report.{asked_aggregator}
use Rattle.std.specs.Prelude.{Err}
use Rattle.control.proofs.CallLaws.{passed-up}
use Rattle.asked.specs.Layer.{new_layer}
use Rattle.asked.proofs.AskedLaws.{found-front, found-none}
use Rattle.asked.proofs.report_aggregator.Goals as goal

pub returns-in_err-f : goal.returns-in_err-f
unfolding asked_aggregator
returns-in_err-f c =
    let none = found-none new_layer c.args.table.now (sym c.front_size.ensures.0 ∙ c.in_err-f.was) in
    rw (none.0, passed-up _ c.from_residual.ensures.1) (ap Err none.1)

pub slice_bounds-report_aggregator-end : goal.slice_bounds-report_aggregator-end
slice_bounds-report_aggregator-end c =
    let front = found-front new_layer c.args.table.now (sym c.front_size.ensures.0 ∙ c.in_ok-f.was) in
    sym (length-take-le c.in_ok-f.f c.args.table.now front.most)

pub returns : goal.returns
unfolding asked_aggregator
returns c =
    let front = found-front new_layer c.args.table.now (sym c.front_size.ensures.0 ∙ c.in_ok-f.was) in
    c.report_aggregator.ensures ∙ rw (front.has, front.is)
