-- `trunk::sweep::periodic_one` meets its contract: the record is loaded, stepped and stored, and stays in range; where the machine rests it is left alone. Assumes nothing.
use mathlib.Core.Path.{◌≡◌, refl, sym, ap, ◌∙◌}
use mathlib.Core.Bool.{true}
use Rattle.port.specs.Periodic.{periodic_run, rests_periodic}
use Rattle.port.proofs.GivesBack.{periodic-gives-back}
use Rattle.port.proofs.RangeLaws.{periodic-ranged}
use Rattle.table.specs.Table.{port_at}
use Rattle.trunk.proofs.TableWork.{found, may_store, changed-at, left_be}
use Rattle.trunk.proofs.sweep.periodic_one.Goals as goal

pub store-requires : goal.store-requires
store-requires c =
    let a = c.args in
    may_store periodic_run a.table.now a.i c.requires (periodic-ranged _) (found a.table.now a.i c.requires refl) (rw c.lent-then-not-rests_periodic.ensures at c.after_periodic-p.ensures)

pub returns-then-not-rests_periodic : goal.returns-then-not-rests_periodic
returns-then-not-rests_periodic c =
    let a = c.args in
    changed-at periodic_run a.table.now a.i (found a.table.now a.i c.requires refl) (rw c.lent-then-not-rests_periodic.ensures at c.after_periodic-p.ensures) c.store.ensures

pub returns-else-not-rests_periodic : goal.returns-else-not-rests_periodic
returns-else-not-rests_periodic c =
    let a = c.args in
    let p = port_at a.table.now.octets.now a.i in
    let rests : rests_periodic p ≡ true = rw c.lent.ensures at (sym (c.rests_periodic.ensures ∙ ap rests_periodic c.look.ensures.octets.0) ∙ c.if-not-rests_periodic.false) in
    left_be periodic_run a.table.now a.i c.requires (periodic-gives-back p rests)
