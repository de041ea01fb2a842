-- `trunk::ready::attach_all` meets its contract: every port attaches by the set of aggregators that were held back at first. Assumes nothing.
use Rattle.octets.proofs.ListLaws.{pointwise}
use Rattle.trunk.specs.Groups.{attached_unless}
use Rattle.trunk.proofs.ready.attach_all.Given as goal

abbrev pub ghost-sweep : goal.ghost-sweep
ghost-sweep a = pointwise (attached_unless a.step.0.now)
