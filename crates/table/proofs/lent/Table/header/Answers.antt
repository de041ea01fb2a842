-- `header` meets its contract: a table has a header. Assumes nothing.
use Rattle.table.proofs.TableLaws.{headed}
use Rattle.table.proofs.lent.Table.header.Goals as goal

pub read_header-requires : goal.read_header-requires
read_header-requires c = headed _ c.self.invariant.0
