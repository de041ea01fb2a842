-- `control::report_port` meets its contract: the record's octets as they lie in the table, or zeros beside a refusal. Assumes nothing.
use mathlib.Core.Path.{refl, sym, ◌∙◌}
use Rattle.table.proofs.RuleLaws.{absent_zeros}
use Rattle.std.specs.Prelude.{Ok}
use Rattle.control.specs.declared.answer.Accepted.TheVariants.{Done}
use Rattle.control.specs.After.{answer}
use Rattle.control.specs.Report.{port_report}
use Rattle.control.proofs.CallLaws.{found-refused, found-answers, found-table, found_inside, found-index}
use Rattle.control.proofs.report_port.Goals as goal

pub known-requires : goal.known-requires
known-requires c = found-table c.args.table.now _ (sym c.find.ensures ∙ c.in-Ok.is)

pub look-requires : goal.look-requires
look-requires c = rw c.known.ensures (found_inside c.args.table.now _ (sym c.find.ensures ∙ c.in-Ok.is))

pub returns-in-Err : goal.returns-in-Err
unfolding port_report answer
returns-in-Err c =
    let a = c.args in
    let here = sym c.find.ensures ∙ c.in-Err.is in
    rw (found-refused a.table.now a.n here (Ok Done), absent_zeros) (refl, c.put_fitting.ensures)

pub returns-in-Ok : goal.returns-in-Ok
unfolding port_report answer
returns-in-Ok c =
    let a = c.args in
    let here = sym c.find.ensures ∙ c.in-Ok.is in
    rw (found-answers a.table.now a.n here (Ok Done), ← found-index a.table.now a.n here, ← c.known.ensures, ← c.look.ensures.octets.1) (refl, c.put_fitting-in-Ok.ensures)
