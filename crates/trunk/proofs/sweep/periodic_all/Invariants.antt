-- `trunk::sweep::periodic_all` meets its contract: every port runs its periodic machine. Assumes nothing.
use Rattle.octets.proofs.ListLaws.{pointwise}
use Rattle.port.specs.Periodic.{periodic_run}
use Rattle.trunk.proofs.sweep.periodic_all.Given as goal

abbrev pub ghost-sweep : goal.ghost-sweep
ghost-sweep a = pointwise periodic_run
