-- `trunk::sweep::after_receive` meets its contract: the record is loaded, and the machine run on it. Assumes nothing.
use mathlib.Core.Path.{ap, ◌∙◌}
use Rattle.port.specs.Receive.{receive_run}
use Rattle.trunk.proofs.sweep.after_receive.Goals as goal

pub returns : goal.returns
returns c = c.receive.ensures ∙ ap receive_run c.load-p.ensures.0
