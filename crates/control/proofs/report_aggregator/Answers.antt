-- `control::report_aggregator` meets its contract: answers 1 and 2, or the sets. Assumes nothing.
use Prim.Native.Nat.{◌≤◌}
use mathlib.Core.Path.{sym, ap, ◌∙◌}
use native.Mathlib.Omega.{arith}
use Rattle.std.specs.Prelude.{Ok}
use Rattle.report.specs.Sets.{sets_of}
use Rattle.table.specs.Layout.{most_ports}
use Rattle.table.specs.Table.{count_in, ports}
use Rattle.table.proofs.TableLaws.{in_range}
use Rattle.control.specs.declared.answer.Accepted.TheVariants.{Done}
use Rattle.control.specs.Answer.{Answer}
use Rattle.control.specs.After.{answer}
use Rattle.control.specs.Report.{aggregator_report, answered_with}
use Rattle.control.proofs.CallLaws.{passed-up, found-refused, found-answers, found-table, found_within}
use Rattle.control.proofs.report_aggregator.Goals as goal

pub overflow_cast-n : goal.overflow_cast-n
overflow_cast-n c =
    let a = c.args in
    let t = a.table.now in
    let here = sym c.find.ensures ∙ c.in_ok-find.was in
    let most : count_in t ≤ most_ports = (in_range t (found-table t a.n here)).most in
    let within = (found_within t a.n here).1 in
    omega arith

pub known-requires : goal.known-requires
known-requires c = found-table c.args.table.now _ (sym c.find.ensures ∙ c.in_ok-find.was)

pub returns-in_err-find : goal.returns-in_err-find
unfolding aggregator_report answer
returns-in_err-find c =
    let a = c.args in
    let refused = found-refused a.table.now a.n (sym c.find.ensures ∙ c.in_err-find.was) (Ok Done) in
    passed-up _ c.from_residual.ensures.1 ∙ sym (ap (λ (r : Answer). answered_with r (sets_of a.n (ports a.table.now))) refused)

pub returns : goal.returns
unfolding aggregator_report answer
returns c =
    let a = c.args in
    let here = sym c.find.ensures ∙ c.in_ok-find.was in
    rw (found-answers a.table.now a.n here (Ok Done), c.aggregator_of.ensures, c.known.ensures)
