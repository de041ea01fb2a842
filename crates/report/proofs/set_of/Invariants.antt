-- `report::set_of` meets its contract: from the top port down, the set is that of the records from i on, and it fits 32 bits since a table
-- has at most 32 ports. Assumes nothing.
use mathlib.Core.Path.{◌≡◌}
use lib.ListN.{drop}
use Rattle.table.specs.Table.{ports}
use Rattle.report.specs.Sets.{set_of}
use Rattle.report.proofs.set_of.Given as goal

abbrev pub invariant-loop-i : goal.invariant-loop-i
invariant-loop-i g l = l.set ≡ set_of g.test (drop l.i (ports l.table))
