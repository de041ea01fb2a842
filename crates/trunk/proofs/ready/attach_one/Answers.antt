-- `trunk::ready::attach_one` meets its contract: a record that may attach is loaded, stepped and stored, and stays in range; any other is left alone. Assumes nothing.
use mathlib.Core.Path.{◌≡◌, sym, ap, ◌∙◌}
use mathlib.Core.Bool.{Bool, true, false, cond}
use Rattle.port.specs.Mux.{attached_if}
use Rattle.port.proofs.RangeLaws.{attached-ranged}
use Rattle.table.specs.Table.{port_at}
use Rattle.trunk.specs.Groups.{may_attach, attached_unless}
use Rattle.trunk.proofs.TableWork.{may_store, changed-at, left_be, told_at}
use Rattle.trunk.proofs.ready.attach_one.Goals as goal

pub store-requires : goal.store-requires
store-requires c = may_store (attached_if true) c.args.table.now c.args.i c.requires (attached-ranged _ true) (c.lent-then-may_attach.ensures, c.load-p.ensures) c.attach.ensures

pub returns-then-may_attach : goal.returns-then-may_attach
returns-then-may_attach c =
    let a = c.args in
    let p = port_at a.table.now.octets.now a.i in
    let told : may_attach a.held p ≡ true = rw c.lent.ensures at (sym c.may_attach.ensures ∙ c.if-may_attach.true) in
    told_at (attached_if true) (attached_unless a.held) a.i (ap (λ (x : Bool). cond x (attached_if true p) p) (sym told)) (changed-at (attached_if true) a.table.now a.i (c.lent-then-may_attach.ensures, c.load-p.ensures) c.attach.ensures c.store.ensures)

pub returns-else-may_attach : goal.returns-else-may_attach
returns-else-may_attach c =
    let a = c.args in
    let p = port_at a.table.now.octets.now a.i in
    let told : may_attach a.held p ≡ false = rw c.lent.ensures at (sym c.may_attach.ensures ∙ c.if-may_attach.false) in
    left_be (attached_unless a.held) a.table.now a.i c.requires (ap (λ (x : Bool). cond x (attached_if true p) p) told)
