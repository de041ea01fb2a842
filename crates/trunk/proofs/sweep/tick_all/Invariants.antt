-- `trunk::sweep::tick_all` meets its contract: every port advances. Assumes nothing.
use Rattle.octets.proofs.ListLaws.{pointwise}
use Rattle.port.specs.Transmit.{advanced}
use Rattle.trunk.proofs.sweep.tick_all.Given as goal

abbrev pub ghost-sweep : goal.ghost-sweep
ghost-sweep a = pointwise advanced
