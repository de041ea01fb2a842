-- `rests_at` meets its contract: record and group are those of port i. Assumes nothing.
use Rattle.churn.proofs.WholeLaws.{base-port}
use Rattle.churn.proofs.rests_at.Goals as goal

pub returns : goal.returns
returns c = rw (c.rests.ensures, c.group_at.ensures, c.record_at.ensures, base-port c.args.table.now c.args.i c.requires.1)
