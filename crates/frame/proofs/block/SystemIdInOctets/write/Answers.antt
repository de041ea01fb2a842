-- `write` of a system meets its contract: its priority, and its address behind it. Assumes nothing.
use Rattle.std.proofs.Common.{[], ◌∷◌, arith}
use Rattle.octets.specs.Octets.{number_octets}
use Rattle.octets.proofs.Laws.{puts-at}
use Rattle.frame.specs.Block.{address_octets}
use Rattle.frame.proofs.block.SystemIdInOctets.write.Goals as goal

pub returns : goal.returns
returns c =
    let s = c.args.self in
    rw (c.write.ensures, c.put_number.ensures)
    (puts-at c.args.at (number_octets s.priority ∷ address_octets s.address ∷ []) c.args.out.now (omega arith))
