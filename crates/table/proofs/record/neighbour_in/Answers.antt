-- `neighbour_in` meets its contract: octets 48 and 49 are octets 6 and 7 of the partner block. Assumes nothing.
use native.Mathlib.Omega.{arith}
use Rattle.table.proofs.RecordLaws.{in_partner}
use Rattle.table.proofs.record.neighbour_in.Goals as goal

pub returns : goal.returns
returns c =
    let l = c.args.s.now in
    rw (c.number.ensures, in_partner l 6 (omega arith), in_partner l 7 (omega arith))
