-- `trunk::sweep::after_mux` meets its contract: the record is loaded, and the machine run on it. Assumes nothing.
use mathlib.Core.Path.{ap, ◌∙◌}
use Rattle.port.specs.Mux.{mux_run}
use Rattle.trunk.proofs.sweep.after_mux.Goals as goal

pub returns : goal.returns
returns c = c.mux.ensures ∙ ap mux_run c.load-p.ensures.0
