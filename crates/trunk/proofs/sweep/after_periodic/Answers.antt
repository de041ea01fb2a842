-- `trunk::sweep::after_periodic` meets its contract: the record is loaded, and the machine run on it. Assumes nothing.
use mathlib.Core.Path.{ap, ◌∙◌}
use Rattle.port.specs.Periodic.{periodic_run}
use Rattle.trunk.proofs.sweep.after_periodic.Goals as goal

pub returns : goal.returns
returns c = c.periodic.ensures ∙ ap periodic_run c.load-p.ensures.0
