-- `fill` meets its contract: a header, a first record, and that one repeated (`filled_holds`). Assumes nothing.
use Rattle.table.proofs.FillLaws.{room-is, filled_holds}
use Rattle.table.proofs.fill.Goals as goal

pub returns : goal.returns
returns c =
    let a = c.args in
    let e = c.requires in
    filled_holds a.header a.p a.table.now (room-is a.table.now a.header.count e.0) e.1 _
    (rw (c.put.ensures.put, c.write_header.ensures) at c.repeat_first.ensures)
