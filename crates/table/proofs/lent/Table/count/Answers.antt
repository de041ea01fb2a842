-- `count` meets its contract: a table has a header, and at most 32 ports. Assumes nothing.
use native.Mathlib.Omega.{arith}
use Rattle.table.proofs.TableLaws.{headed, in_range}
use Rattle.table.proofs.lent.Table.count.Goals as goal

pub bounds-self-inside-0 : goal.bounds-self-inside-0
bounds-self-inside-0 c = omega (arith, headed _ c.self.invariant.0)

pub returns-clause-few : goal.returns-clause-few
returns-clause-few c = rw c.from.ensures (in_range _ c.self.invariant.0).most
