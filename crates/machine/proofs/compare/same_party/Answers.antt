-- `machine::compare::same_party` meets its contract: the definition, with what the comparisons of the parts give put in. Assumes nothing.
use mathlib.Core.Path.{◌≡◌}
use mathlib.Core.Bool.{◌&&◌}
use lib.Dec.{eqb}
use Rattle.machine.specs.Compare.{same_address, same_system, same_numbers, same_party}
use Rattle.machine.proofs.CompareLaws.{beq-alike}
use Rattle.machine.proofs.compare.same_party.Goals as goal

pub returns : goal.returns
unfolding same_address same_system same_numbers same_party
returns c =
    let x = c.args.x in
    let y = c.args.y in
    let system : c.eq.result ≡ same_system x.system y.system = c.eq.ensures in
    let port : c.eq-2.result ≡ (eqb x.port.priority y.port.priority && eqb x.port.number y.port.number) = c.eq-2.ensures in
    rw (system, port, beq-alike x.state.aggregation y.state.aggregation)
