-- `watch_one` meets its contract: where the machines rest, the group that is there is what they make of it. Assumes nothing.
use mathlib.Core.Path.{sym, ◌∙◌}
use Rattle.churn.proofs.RestLaws.{rest-left}
use Rattle.churn.proofs.watch_one.Goals as goal

pub returns-else-not-rests_at : goal.returns-else-not-rests_at
returns-else-not-rests_at c =
    let a = c.args in
    let pre = c.requires in
    rest-left a.stage a.table.now a.i pre.0 pre.1 (λ j. (c.slice_known-1.given j).fits)
    (sym c.begins.ensures ∙ c.if-begins.false) (sym c.rests_at.ensures ∙ c.if-not-rests_at.false)
