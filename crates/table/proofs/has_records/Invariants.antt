-- `has_records` meets its contract. The loop's invariant: the first i records are in range; it ends early at one that is not.
-- Assumes nothing.
use mathlib.Core.Path.{◌≡◌}
use mathlib.Core.Bool.{true}
use Rattle.table.specs.Table.{first_in_range}
use Rattle.table.proofs.has_records.Given as goal

abbrev pub invariant-loop-i : goal.invariant-loop-i
invariant-loop-i l = first_in_range l.count l.i l.table ≡ true
