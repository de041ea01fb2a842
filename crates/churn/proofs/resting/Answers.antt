-- `resting` meets its contract: the first i ports rest. Assumes nothing.
use mathlib.Core.Path.{refl, sym, ◌∙◌}
use native.Mathlib.Numerals.{add-one}
use Rattle.octets.proofs.RangeLaws.{both_true}
use Rattle.churn.specs.Rest.{rest_to}
use Rattle.churn.proofs.resting.Goals as goal

pub loop-i-init : goal.loop-i-init
unfolding rest_to
loop-i-init c = refl

pub loop-i-preserved : goal.loop-i-preserved
unfolding rest_to
loop-i-preserved c = rw add-one (both_true c.loop-i.invariant (sym c.rests_at.ensures ∙ c.if-not-rests_at.false))
