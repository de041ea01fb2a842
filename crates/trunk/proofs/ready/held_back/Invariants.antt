-- `trunk::ready::held_back` meets its contract: from the top port down, the set is that of the records from i on. Assumes nothing.
use Prim.Native.Nat.{ℕ, ◌+◌, ◌≤◌}
use mathlib.Core.Path.{◌≡◌}
use lib.ListN.{drop}
use Rattle.octets.specs.Sets.{member}
use Rattle.table.specs.Table.{count_in, ports}
use Rattle.trunk.specs.Ready.{held_back}
use Rattle.trunk.proofs.ready.held_back.Given as goal

abbrev pub invariant-loop-i : goal.invariant-loop-i
invariant-loop-i l = (l.i ≤ count_in l.table) × ((k : ℕ) → member l.set k ≡ held_back (k + 1) (drop l.i (ports l.table)))
