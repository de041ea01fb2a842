-- `trunk::sweep::displace_all` meets its contract: every other port is displaced or left alone. Assumes nothing.
use Rattle.trunk.specs.Displaced.{displaced_if}
use Rattle.trunk.proofs.sweep.displace_all.Given as goal

abbrev pub ghost-sweep : goal.ghost-sweep
ghost-sweep a = displaced_if a.step.0.now a.step.1.now
