-- `first_to_run` meets its contract: none is passed over where the machines begin anew. Assumes nothing.
use mathlib.Core.Path.{refl}
use native.Mathlib.Omega.{arith}
use Rattle.churn.specs.Rest.{rest_to}
use Rattle.churn.proofs.first_to_run.Goals as goal

pub returns-then-begins : goal.returns-then-begins
unfolding rest_to
returns-then-begins c = (omega arith, refl, λ e. refl)
