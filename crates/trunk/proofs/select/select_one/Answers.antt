-- `trunk::select::select_one` meets its contract: a record that must move is loaded, stepped and stored, and stays in range; one that need not is what the rule makes of it. Assumes nothing.
use mathlib.Core.Path.{◌≡◌, sym, ap, ◌∙◌}
use mathlib.Core.Bool.{true, false}
use Rattle.port.specs.declared.record.Port.{Port}
use Rattle.port.specs.Mux.{detached, placed}
use Rattle.port.proofs.MuxLaws.{detached-is}
use Rattle.port.proofs.RangeLaws.{placed-ranged, detached-ranged}
use Rattle.table.specs.Table.{count_in, port_at}
use Rattle.trunk.specs.Settled.{must_move, reselected}
use Rattle.trunk.proofs.SelectLaws.{reselected-moves, reselected-unmoved}
use Rattle.trunk.proofs.TableWork.{may_store, changed-at, left_be, told_at}
use Rattle.trunk.proofs.select.select_one.Goals as goal

pub place-requires : goal.place-requires
place-requires c = ap (λ (x : Port). x.phase.mux) c.detach.ensures ∙ detached-is c.load-p.result

pub store-requires : goal.store-requires
store-requires c =
    let a = c.args in
    let n = count_in a.table.now.octets.now in
    may_store (λ p. placed a.k (detached p)) a.table.now a.i c.requires.0
    (λ p e. placed-ranged n a.k (detached p) c.requires.1 (detached-ranged n p e)) (c.lent-then-must_move.ensures, c.load-p.ensures)
    (c.place.ensures ∙ ap (λ (x : Port). placed a.k x) c.detach.ensures)

pub returns-then-must_move : goal.returns-then-must_move
returns-then-must_move c =
    let a = c.args in
    let p = port_at a.table.now.octets.now a.i in
    let move : must_move a.k p ≡ true = rw c.lent.ensures at (sym c.must_move.ensures ∙ c.if-must_move.true) in
    told_at (λ q. placed a.k (detached q)) (reselected a.k) a.i (sym (reselected-moves a.k p move))
    (changed-at (λ q. placed a.k (detached q)) a.table.now a.i (c.lent-then-must_move.ensures, c.load-p.ensures)
    (c.place.ensures ∙ ap (λ (x : Port). placed a.k x) c.detach.ensures) c.store.ensures)

pub returns-else-must_move : goal.returns-else-must_move
returns-else-must_move c =
    let a = c.args in
    let p = port_at a.table.now.octets.now a.i in
    let stay : must_move a.k p ≡ false = rw c.lent.ensures at (sym c.must_move.ensures ∙ c.if-must_move.false) in
    left_be (reselected a.k) a.table.now a.i c.requires.0 (reselected-unmoved a.k p stay)
