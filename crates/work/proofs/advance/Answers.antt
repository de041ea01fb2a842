-- `work::advance` meets its contract: a tick of all ports, then the rest of the work. Assumes nothing.
use Rattle.work.specs.Work.{after_tick}
use Rattle.work.proofs.WorkLaws.{finished}
use Rattle.work.proofs.advance.Goals as goal

pub returns : goal.returns
unfolding after_tick
returns c = finished c.tick_all.ensures c.finish.ensures
