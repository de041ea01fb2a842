-- `trunk::select::select_all` meets its contract: the groups whose lowest port is below i are done (`done_below`), and a turn does that of port i, if it is the lowest of one. Assumes nothing.
use Prim.Native.Nat.{ℕ}
use mathlib.Core.Path.{◌≡◌}
use mathlib.Core.List.{map}
use lib.Dec.{ltb}
use Rattle.octets.specs.Lists.{map_from}
use Rattle.octets.specs.Sets.{member}
use Rattle.port.specs.Compared.{compared}
use Rattle.table.specs.Table.{ports}
use Rattle.table.specs.Lent.{Swept}
use Rattle.trunk.specs.Selection.{lowest}
use Rattle.trunk.proofs.GroupSets.{done_below}
use Rattle.trunk.proofs.select.select_all.Given as goal

abbrev pub invariant-loop-i : goal.invariant-loop-i
invariant-loop-i l = ((m : ℕ) → member l.done m ≡ ltb (lowest l.ours (map compared (ports l.initial.table.octets.now)) m) l.i)
    × Swept l.initial.table l.table (map_from (done_below l.ours (ports l.initial.table.octets.now) l.i) 0)
