-- `put` meets its contract: the lent part comes back as the octets of the record, which are as many. Assumes nothing.
use mathlib.Core.Path.{refl}
use Prim.Native.Nat.{◌+◌}
use Rattle.octets.proofs.Laws.{put-part}
use Rattle.table.specs.Layout.{place, record_size}
use Rattle.table.specs.Record.{encoded}
use Rattle.table.proofs.put.Goals as goal

pub returns-clause-put : goal.returns-clause-put
unfolding encoded
returns-clause-put c =
    let a = c.args in
    rw (c.write_record.ensures, c.place_of-at.ensures)
    (put-part (place a.i) (place a.i + record_size) (encoded a.p) a.table.now refl)

pub returns-clause-octets : goal.returns-clause-octets
returns-clause-octets c = λ j. (c.type_inv.table j).fits
