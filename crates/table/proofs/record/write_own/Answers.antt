-- `write_own` meets its contract: four pieces, one after the other from octet 17 on, the last of them a lent part that comes
-- back as a block. Assumes nothing.
use mathlib.Core.Path.{refl, ◌∙◌}
use mathlib.Core.List.{[], ◌∷◌}
use native.Mathlib.Omega.{arith}
use Rattle.octets.specs.Octets.{put_at, number_octets}
use Rattle.octets.proofs.Laws.{put-part, puts-at}
use Rattle.frame.specs.Block.{address_octets, block_octets}
use Rattle.table.proofs.record.write_own.Goals as goal

pub returns : goal.returns
returns c =
    let o = c.args.own in
    let l = c.args.out.now in
    let front = put_at 25 (number_octets o.priority) (put_at 23 (number_octets o.key) (put_at 17 (address_octets o.address) l)) in
    rw (
      c.write-2.ensures,
      c.put_number-2.ensures,
      c.put_number.ensures,
      c.write.ensures,
    )
    (put-part 27 42 (block_octets o.default) front refl
    ∙ puts-at 17 (address_octets o.address ∷ number_octets o.key ∷ number_octets o.priority ∷ block_octets o.default ∷ []) l (omega arith))
