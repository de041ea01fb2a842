-- `report::due_ports` meets its contract: the set of the ports on which an LACPDU is due. Assumes nothing.
use Rattle.report.specs.Sets.{due_of}
use Rattle.report.proofs.due_ports.Goals as goal

pub returns : goal.returns
unfolding due_of
returns c = c.set_of.ensures
