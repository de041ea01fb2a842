-- `partner_in` meets its contract: octet 56 is octet 14 of the partner block. Assumes nothing.
use native.Mathlib.Omega.{arith}
use Rattle.table.proofs.RecordLaws.{in_partner}
use Rattle.table.proofs.record.partner_in.Goals as goal

pub returns : goal.returns
returns c = rw (c.from.ensures, in_partner c.args.s.now 14 (omega arith))
