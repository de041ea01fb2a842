-- `trunk::select::group_of` meets its contract: an individual port is alone; else port i, and then each later port by what is compared. Assumes nothing.
use Prim.Native.Nat.{ℕ}
use mathlib.Core.Path.{◌≡◌}
use mathlib.Core.List.{map}
use Rattle.octets.specs.Sets.{member}
use Rattle.port.specs.Compared.{compared}
use Rattle.table.specs.Table.{ports}
use Rattle.trunk.proofs.GroupSets.{so_far}
use Rattle.trunk.proofs.select.group_of.Given as goal

abbrev pub invariant-loop-j : goal.invariant-loop-j
invariant-loop-j l = ((m : ℕ) → member l.set m ≡ so_far l.ours (map compared (ports l.table)) l.i l.j m)
