-- `trunk::sweep::mux_all` meets its contract: a sweep that does not look at the index is a map. Assumes nothing.
use Rattle.octets.proofs.ListLaws.{sweep_map}
use Rattle.trunk.specs.Settled.{muxed}
use Rattle.trunk.proofs.TableWork.{told}
use Rattle.trunk.proofs.sweep.mux_all.Goals as goal

pub returns : goal.returns
returns c = told (sweep_map muxed 0 _) c.sweep.ensures
