-- `look` meets its contract: the octets of record i tell of port i, and are its octets. Assumes nothing.
use mathlib.Core.Path.{sym, ap, ◌∙◌}
use Rattle.table.specs.Record.{decoded}
use Rattle.table.specs.Table.{InTable, decoded_at}
use Rattle.table.proofs.GroupLaws.{record_is}
use Rattle.table.proofs.StoreLaws.{port-decoded}
use Rattle.table.proofs.TableLaws.{lies, ranged-at}
use Rattle.table.proofs.lent.Table.look.Goals as goal

pub record_at-requires : goal.record_at-requires
record_at-requires c = lies _ _ (c.self.invariant.0, rw c.self.view_is c.requires)

pub returns : goal.returns
unfolding decoded_at
returns c =
    let told = c.record_at.ensures in
    let at : InTable c.self.inside.octets.now c.args.i = (c.self.invariant.0, rw c.self.view_is c.requires) in
    let o = c.self.invariant.1 in
    rw (← c.self.view_is) (record {
      octets = (ap decoded told ∙ sym (port-decoded _ _ at.1), told ∙ record_is _ _ at o);
      in_range = (at.0, ranged-at _ at.0 o c.args.i at.1);
    })
