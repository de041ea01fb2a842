-- `control::report_due` meets its contract: answer 1 with no port, or the set. Assumes nothing.
use mathlib.Core.Path.{◌≡◌, sym}
use mathlib.Core.Bool.{true, false}
use Rattle.table.specs.Table.{table_in_range}
use Rattle.control.specs.After.{answer}
use Rattle.control.specs.Report.{due_report}
use Rattle.control.proofs.report_due.Goals as goal

pub returns-in_default : goal.returns-in_default
unfolding due_report answer
returns-in_default c =
    let none : table_in_range c.args.table.now ≡ false = sym (rw c.in_default.is at c.of.ensures.range) in
    rw none

pub returns : goal.returns
unfolding due_report answer
returns c =
    let is : table_in_range c.args.table.now ≡ true = sym (rw c.in-Some.is at c.of.ensures.range) in
    rw (is, c.due_ports.ensures, rw c.in-Some.is at c.of.ensures.table)
