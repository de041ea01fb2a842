-- `report_due` meets its contract: the base's report. Assumes nothing.
use Prim.Native.Nat.{ℕ}
use mathlib.Core.Path.{sym, ap, ◌∙◌}
use lib.ListN.{take}
use lib.Seq.{length-take-le}
use Rattle.churn.specs.Whole.{base_of}
use Rattle.control.specs.Report.{due_report}
use Rattle.whole.specs.Report.{whole_due}
use Rattle.std.specs.Prelude.{Err}
use Rattle.control.proofs.CallLaws.{passed-up}
use Rattle.whole.proofs.CallLaws.{found-base, found-none}
use Rattle.whole.proofs.report_due.Goals as goal

pub returns-in_err-b : goal.returns-in_err-b
unfolding whole_due
returns-in_err-b c =
    let none = found-none c.args.table.now (sym c.base_size.ensures.0 ∙ c.in_err-b.was) in
    rw (none.0, passed-up _ c.from_residual.ensures.1) (ap Err none.1)

pub slice_bounds-report_due-end : goal.slice_bounds-report_due-end
slice_bounds-report_due-end c =
    let base = found-base c.args.table.now (sym c.base_size.ensures.0 ∙ c.in_ok-b.was) in
    sym (length-take-le c.in_ok-b.b c.args.table.now base.most)

pub returns : goal.returns
unfolding whole_due base_of
returns c =
    let base = found-base c.args.table.now (sym c.base_size.ensures.0 ∙ c.in_ok-b.was) in
    rw base.has (c.report_due.ensures ∙ ap (λ (k : ℕ). due_report (take k c.args.table.now)) base.is)
