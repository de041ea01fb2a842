-- `table::repeat_first` meets its contract. The loop's invariant: what lies in front is as it was, and behind it every octet below j is the one that stands a record before it.
-- Assumes nothing.
use native.Mathlib.Omega.{arith}
use Rattle.table.proofs.repeat_first.Goals as goal
use Rattle.table.proofs.repeat_first.Invariants.{begins, next, more}

pub loop-j-init : goal.loop-j-init
loop-j-init c = begins _

pub loop-j-preserved : goal.loop-j-preserved
unfolding next
loop-j-preserved c = more _ c.loop-j.j c.loop-j.table c.loop-j.invariant (omega arith) (omega arith)

pub returns : goal.returns
returns c =
    let d = c.loop-j.invariant in
    record { size = d.size; front = d.front; rest = λ k a b. d.rest k a (omega arith) }
