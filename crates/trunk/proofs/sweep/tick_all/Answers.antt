-- `trunk::sweep::tick_all` meets its contract: a sweep that does not look at the index is a map. Assumes nothing.
use Rattle.octets.proofs.ListLaws.{sweep_map}
use Rattle.port.specs.Transmit.{advanced}
use Rattle.trunk.proofs.TableWork.{told}
use Rattle.trunk.proofs.sweep.tick_all.Goals as goal

pub returns : goal.returns
returns c = told (sweep_map advanced 0 _) c.sweep.ensures
