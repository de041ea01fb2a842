-- `report::due_ports` meets its contract: the set of the ports on which an LACPDU is due. Assumes nothing.
use Rattle.port.specs.Transmit.{is_due}
use Rattle.report.proofs.due_ports.Given as goal

abbrev pub ghost-set_of : goal.ghost-set_of
ghost-set_of a = is_due
