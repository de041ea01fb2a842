-- `trunk::sweep::periodic_all` meets its contract: a sweep that does not look at the index is a map. Assumes nothing.
use Rattle.octets.proofs.ListLaws.{sweep_map}
use Rattle.port.specs.Periodic.{periodic_run}
use Rattle.trunk.proofs.TableWork.{told}
use Rattle.trunk.proofs.sweep.periodic_all.Goals as goal

pub returns : goal.returns
returns c = told (sweep_map periodic_run 0 _) c.sweep.ensures
