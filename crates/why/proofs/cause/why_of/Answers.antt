-- `why::cause::why_of` meets its contract: somebody waits longest exactly if somebody holds the aggregator back. Assumes nothing.
use mathlib.Core.Path.{◌≡◌, ap, ap₂, ◌∙◌}
use Rattle.std.specs.Prelude.{Option, is_some}
use Rattle.port.specs.declared.record.Port.{Port}
use Rattle.table.specs.Table.{ports, port_at}
use Rattle.trunk.specs.Ready.{held_back}
use Rattle.why.specs.declared.cause.Hold.{Hold}
use Rattle.why.specs.Cause.{cause_of, longest, holder, ticks, why_of}
use Rattle.why.proofs.CauseLaws.{longest-holds}
use Rattle.why.proofs.cause.why_of.Goals as goal

pub returns : goal.returns
unfolding why_of
returns c =
    let a = c.args in
    let t = a.table.now in
    let p = c.load-p.ensures.0 in
    let holds = c.longest-hold.ensures in
    let held : is_some c.longest-hold.result ≡ held_back (port_at t a.i).aggregator (ports t) =
    ap (λ (h : Option Hold). is_some h) holds ∙ longest-holds c.load-p.result.aggregator 1 (ports t) ∙ ap (λ (x : Port). held_back x.aggregator (ports t)) p in
    let cause = c.cause_of-cause.ensures ∙ ap₂ cause_of (c.is_some.ensures ∙ held) p in
    let hold = holds ∙ ap (λ (x : Port). longest x.aggregator 1 (ports t)) p in
    let by = c.holder.ensures ∙ (λ j. holder (cause j) (hold j)) in
    let left = c.ticks.ensures ∙ (λ j. ticks (cause j) (p j).timers.wait.0 (hold j)) in
    λ j. record { cause = cause j; holder = by j; ticks = left j }
