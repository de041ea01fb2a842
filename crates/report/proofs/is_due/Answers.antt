-- `report::is_due` meets its contract: the tests of a fetch as one (`due-at_once`). Assumes nothing.
use mathlib.Core.Path.{sym}
use Rattle.port.proofs.TransmitLaws.{due-at_once}
use Rattle.table.specs.Record.{decoded}
use Rattle.report.proofs.is_due.Goals as goal

pub returns : goal.returns
unfolding decoded
returns c =
    let l = c.args.s.now in
    rw (c.is_barred.ensures, c.ntt_in.ensures, c.ages_in.ensures, c.line_in-line.ensures)
    (sym (due-at_once (decoded l)))
