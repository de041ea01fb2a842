-- `work::finish` meets its contract: the periodic machines of all ports, then steps 3 to 6. Assumes nothing.
use mathlib.Core.Path.{ap}
use mathlib.Core.List.{map}
use Rattle.port.specs.Periodic.{periodic_run}
use Rattle.table.specs.declared.layout.Header.{Header}
use Rattle.table.specs.Table.{ports}
use Rattle.trunk.specs.Settled.{settled}
use Rattle.trunk.proofs.TableWork.{told, then_all}
use Rattle.work.specs.Work.{worked}
use Rattle.work.proofs.finish.Goals as goal

pub returns : goal.returns
unfolding worked
returns c =
    let periodics = c.periodic_all.ensures in
    told (ap (λ (h : Header). settled h (map periodic_run (ports c.args.table.now.octets.now))) periodics.left.header) (then_all periodics c.settle.ensures)
