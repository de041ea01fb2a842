-- `trunk::sweep::mux_one` meets its contract: what the machine made of the record has its NTT cleared and is stored, and stays in range; a settled one is left alone. Assumes nothing.
use mathlib.Core.Path.{◌≡◌, refl, sym, ap, ◌∙◌}
use mathlib.Core.Bool.{true}
use Rattle.port.specs.Transmit.{ntt_cleared, is_settled}
use Rattle.port.proofs.GivesBack.{step_6_gives-back}
use Rattle.table.specs.Table.{port_at}
use Rattle.trunk.specs.Settled.{muxed}
use Rattle.trunk.proofs.RangeKept.{muxed-ranged}
use Rattle.trunk.proofs.TableWork.{found, may_store, changed-at, left_be}
use Rattle.trunk.proofs.sweep.mux_one.Goals as goal

pub store-requires : goal.store-requires
unfolding muxed
store-requires c =
    let a = c.args in
    may_store muxed a.table.now a.i c.requires (muxed-ranged _) (found a.table.now a.i c.requires refl) (c.clear_ntt.ensures ∙ ap ntt_cleared (rw c.lent-then-not-is_settled.ensures at c.after_mux-p.ensures))

pub returns-then-not-is_settled : goal.returns-then-not-is_settled
unfolding muxed
returns-then-not-is_settled c =
    let a = c.args in
    changed-at muxed a.table.now a.i (found a.table.now a.i c.requires refl) (c.clear_ntt.ensures ∙ ap ntt_cleared (rw c.lent-then-not-is_settled.ensures at c.after_mux-p.ensures)) c.store.ensures

pub returns-else-not-is_settled : goal.returns-else-not-is_settled
unfolding muxed
returns-else-not-is_settled c =
    let a = c.args in
    let p = port_at a.table.now.octets.now a.i in
    let rests : is_settled p ≡ true = rw c.lent.ensures at (sym (c.is_settled.ensures ∙ ap is_settled c.look.ensures.octets.0) ∙ c.if-not-is_settled.false) in
    left_be muxed a.table.now a.i c.requires (step_6_gives-back p rests)
