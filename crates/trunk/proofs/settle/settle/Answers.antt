-- `trunk::settle::settle` meets its contract: steps 3 to 5, and 6. Assumes nothing.
use Rattle.trunk.specs.Settled.{settled}
use Rattle.trunk.proofs.TableWork.{then_all}
use Rattle.trunk.proofs.settle.settle.Goals as goal

pub returns : goal.returns
unfolding settled
returns c = then_all c.join_all.ensures c.mux_all.ensures
