-- `store` meets its contract: what is written at the record's place is in range. Assumes nothing.
use mathlib.Core.Path.{refl}
use Rattle.table.proofs.TableLaws.{lies}
use Rattle.table.proofs.LeavesLaws.{stored}
use Rattle.table.proofs.lent.TableMut.store.Goals as goal

pub put-requires : goal.put-requires
put-requires c = lies _ _ (c.args.self.now.in_range, c.requires.0)

pub invariant_of-self : goal.invariant_of-self
invariant_of-self c =
    let a = c.args in
    let left = stored a.self.now.octets.now a.i a.p (a.self.now.in_range, c.requires.0) c.requires.1 in
    record { in_range = rw c.put.ensures.put left.ranged; fits = c.put.ensures.octets }

pub returns : goal.returns
returns c =
    let a = c.args in
    record { memory = refl; left = rw c.put.ensures.put (stored a.self.now.octets.now a.i a.p (a.self.now.in_range, c.requires.0) c.requires.1) }
