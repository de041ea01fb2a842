-- `find` meets its contract: a report of the port has answers 1 and 2, and its number is one at least where it is accepted. Assumes nothing.
use mathlib.Core.Path.{sym, ap, ◌∙◌}
use Rattle.std.specs.Prelude.{◌-◌}
use Rattle.control.specs.Accepted.{accepted}
use Rattle.control.specs.Answer.{Answer}
use Rattle.control.specs.Report.{answered_with}
use Rattle.control.proofs.CallLaws.{passed-up}
use Rattle.reasons.specs.Reasons.{port_found}
use Rattle.reasons.proofs.FoundLaws.{found}
use Rattle.reasons.proofs.find.Goals as goal

pub overflow_sub-i : goal.overflow_sub-i
overflow_sub-i c =
    let a = c.args in
    (found a.table.now a.n (ap accepted (sym c.report_port.ensures.0 ∙ c.in_ok-report_port.was))).some

pub returns-in_err-report_port : goal.returns-in_err-report_port
unfolding port_found
returns-in_err-report_port c =
    let a = c.args in
    passed-up _ c.from_residual.ensures.1 ∙ sym (ap (λ (x : Answer). answered_with x (a.n - 1)) (sym c.report_port.ensures.0 ∙ c.in_err-report_port.was))

pub returns : goal.returns
unfolding port_found
returns c =
    let a = c.args in
    sym (ap (λ (x : Answer). answered_with x (a.n - 1)) (sym c.report_port.ensures.0 ∙ c.in_ok-report_port.was))
