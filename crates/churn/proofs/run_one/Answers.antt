-- `run_one` meets its contract: group i is read, run on record i, and written in its place. Assumes nothing.
use Rattle.churn.specs.Whole.{monitors_at, watched_at}
use Rattle.churn.proofs.WholeLaws.{base-port}
use Rattle.churn.proofs.run_one.Goals as goal

pub returns : goal.returns
unfolding watched_at monitors_at
returns c =
    rw (
      c.put.ensures,
      c.from.ensures,
      c.run_both-r.ensures,
      c.record_at.ensures,
      c.prepare-m.ensures,
      c.group_at.ensures,
      c.place_of.ensures,
      base-port c.args.table.now c.args.i c.requires.1,
    )
