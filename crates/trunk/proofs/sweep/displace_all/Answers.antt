-- `trunk::sweep::displace_all` meets its contract: every other port is displaced or left alone. Assumes nothing.
use Rattle.trunk.specs.Displaced.{displaced}
use Rattle.trunk.proofs.sweep.displace_all.Goals as goal

pub returns : goal.returns
unfolding displaced
returns c = c.sweep.ensures
