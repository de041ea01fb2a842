-- `is_group` meets its contract: where states and timers are 0 they are in range, and elsewhere they are tested one by one. Assumes nothing.
use Rattle.churn.proofs.RestLaws.{still-ranged}
use mathlib.Core.Path.{sym, ◌∙◌}
use mathlib.Core.Bool.{true}
use Rattle.churn.proofs.group.is_group.Goals as goal

pub returns-then-is_still : goal.returns-then-is_still
returns-then-is_still c =
    let is = c.if-is_still.true in
    is ∙ sym (still-ranged true true c.args.s.now c.fits-s (sym c.is_still.ensures ∙ is))
