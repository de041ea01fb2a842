-- `write` of an address meets its contract: three numbers, written one after the other. Assumes nothing.
use Rattle.std.proofs.Common.{◌≡◌, ◌+◌, [], ◌∷◌, arith}
use Rattle.octets.specs.Octets.{number_octets}
use Rattle.octets.proofs.Laws.{puts-at}
use Rattle.frame.proofs.block.AddressInOctets.write.Goals as goal

pub returns : goal.returns
returns c =
    let a = c.args.self in
    let third : c.args.at + 2 + 2 ≡ c.args.at + 4 = omega arith in
    rw (c.put_number-3.ensures, c.put_number-2.ensures, c.put_number.ensures, ← third)
    (puts-at c.args.at (number_octets a.high ∷ number_octets a.middle ∷ number_octets a.low ∷ []) c.args.out.now (omega arith))
