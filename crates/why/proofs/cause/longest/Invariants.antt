-- `why::cause::longest` meets its contract: from the top port down, the longest wait is that of the records from i on. Assumes nothing.
use Prim.Native.Nat.{◌+◌, ◌≤◌}
use mathlib.Core.Path.{◌≡◌}
use lib.ListN.{drop}
use Rattle.table.specs.Table.{count_in, ports}
use Rattle.why.specs.Cause.{longest}
use Rattle.why.proofs.cause.longest.Given as goal

abbrev pub invariant-loop-i : goal.invariant-loop-i
invariant-loop-i l = (l.i ≤ count_in l.table) × (l.hold ≡ longest l.k (l.i + 1) (drop l.i (ports l.table)))
