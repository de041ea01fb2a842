-- `trunk::sweep::receive_one` meets its contract: the record is loaded, stepped and stored, and stays in range; where the machine rests it is left alone. Assumes nothing.
use mathlib.Core.Path.{◌≡◌, refl, sym, ap, ◌∙◌}
use mathlib.Core.Bool.{true}
use Rattle.port.specs.Receive.{receive_run, rests_receive}
use Rattle.port.proofs.GivesBack.{receive-gives-back}
use Rattle.port.proofs.RangeLaws.{receive-ranged}
use Rattle.table.specs.Table.{port_at}
use Rattle.trunk.proofs.TableWork.{found, may_store, changed-at, left_be}
use Rattle.trunk.proofs.sweep.receive_one.Goals as goal

pub store-requires : goal.store-requires
store-requires c =
    let a = c.args in
    may_store receive_run a.table.now a.i c.requires (receive-ranged _) (found a.table.now a.i c.requires refl) (rw c.lent-then-not-rests_receive.ensures at c.after_receive-p.ensures)

pub returns-then-not-rests_receive : goal.returns-then-not-rests_receive
returns-then-not-rests_receive c =
    let a = c.args in
    changed-at receive_run a.table.now a.i (found a.table.now a.i c.requires refl) (rw c.lent-then-not-rests_receive.ensures at c.after_receive-p.ensures) c.store.ensures

pub returns-else-not-rests_receive : goal.returns-else-not-rests_receive
returns-else-not-rests_receive c =
    let a = c.args in
    let p = port_at a.table.now.octets.now a.i in
    let rests : rests_receive p ≡ true = rw c.lent.ensures at (sym (c.rests_receive.ensures ∙ ap rests_receive c.look.ensures.octets.0) ∙ c.if-not-rests_receive.false) in
    left_be receive_run a.table.now a.i c.requires (receive-gives-back p rests)
