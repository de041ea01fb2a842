-- `work::change` meets its contract: the record is stored, and the rest of the work done. Assumes nothing.
use Rattle.work.specs.Work.{after_one}
use Rattle.work.proofs.WorkLaws.{finished}
use Rattle.work.proofs.change.Goals as goal

pub returns : goal.returns
unfolding after_one
returns c = finished c.store.ensures c.finish.ensures
