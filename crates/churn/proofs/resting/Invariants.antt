-- `resting` meets its contract: the first i ports rest; it ends early at one that does not. Assumes nothing.
use mathlib.Core.Path.{◌≡◌}
use mathlib.Core.Bool.{true}
use Rattle.churn.specs.Rest.{rest_to}
use Rattle.churn.proofs.resting.Given as goal

abbrev pub invariant-loop-i : goal.invariant-loop-i
invariant-loop-i l = rest_to l.i l.table ≡ true
