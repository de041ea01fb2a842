-- `trunk::sweep::mux_all` meets its contract: every port runs its mux machine. Assumes nothing.
use Rattle.octets.proofs.ListLaws.{pointwise}
use Rattle.trunk.specs.Settled.{muxed}
use Rattle.trunk.proofs.sweep.mux_all.Given as goal

abbrev pub ghost-sweep : goal.ghost-sweep
ghost-sweep a = pointwise muxed
