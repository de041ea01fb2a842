-- `trunk::sweep::pass_time` meets its contract: timers are written over those that were read, and then the ages grow. Assumes nothing.
use mathlib.Core.Path.{◌≡◌, refl, ap, ◌∙◌}
use Rattle.machine.specs.Ages.{ages_ticked}
use Rattle.machine.specs.Time.{timers_fallen}
use Rattle.port.specs.declared.record.Port.{Port}
use Rattle.port.specs.Record.{with_timers, with_ages}
use Rattle.port.specs.Range.{timers_in_range}
use Rattle.port.specs.Transmit.{ticked}
use Rattle.port.proofs.RangeLaws.{ranged, fallen-ranged}
use Rattle.table.specs.Record.{decoded}
use Rattle.table.specs.Table.{count_in, port_at}
use Rattle.trunk.proofs.TableWork.{found, still, became_then, told_at}
use Rattle.trunk.proofs.sweep.pass_time.Goals as goal

pub store_timers-requires : goal.store_timers-requires
unfolding decoded
store_timers-requires c =
    let a = c.args in
    let t = a.table.now.octets.now in
    let is : c.tick.result ≡ timers_fallen (port_at t a.i).timers =
    c.tick.ensures ∙ ap timers_fallen (c.timers_in-timers.ensures ∙ ap (λ (p : Port). p.timers) (rw c.lent.ensures at c.look.ensures.octets.0)) in
    let r = ranged (count_in t) (port_at t a.i) (found a.table.now a.i c.requires refl).1.1 in
    (c.requires, ap timers_in_range is ∙ fallen-ranged (port_at t a.i).timers r.timers)

pub age-requires : goal.age-requires
age-requires c = still _ c.requires c.store_timers.ensures

pub returns : goal.returns
unfolding ticked decoded
returns c =
    let a = c.args in
    let p = port_at a.table.now.octets.now a.i in
    let timers : c.tick.result ≡ timers_fallen p.timers =
    c.tick.ensures ∙ ap timers_fallen (c.timers_in-timers.ensures ∙ ap (λ (x : Port). x.timers) (rw c.lent.ensures at c.look.ensures.octets.0)) in
    told_at (λ x. with_ages (with_timers x c.tick.result) (ages_ticked x.ages)) ticked a.i (λ i. with_ages (with_timers p (timers i)) (ages_ticked p.ages))
    (became_then (λ x. with_timers x c.tick.result) (λ x. with_ages x (ages_ticked x.ages)) a.i c.requires c.store_timers.ensures c.age.ensures)
