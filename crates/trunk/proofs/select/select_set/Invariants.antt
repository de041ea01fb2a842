-- `trunk::select::select_set` meets its contract: the loop has done the ports below j (`done_to`), and a turn does the next; those below i are in no such set, nor are those
-- from its end on. Assumes nothing.
use Prim.Native.Nat.{ℕ, ◌≤◌, ◌<◌, min}
use mathlib.Core.Path.{◌≡◌}
use mathlib.Core.Bool.{false}
use native.Mathlib.Omega.{arith}
use Rattle.octets.specs.Sets.{member}
use Rattle.octets.proofs.ListLaws.{done_to}
use Rattle.table.specs.Table.{count_in}
use Rattle.table.specs.Lent.{Swept}
use Rattle.trunk.specs.Groups.{placing}
use Rattle.trunk.proofs.select.select_set.Given as goal

-- where the loop ends: no later than the ports do, and from there on no port is in the set
pub record Bound (set n count : ℕ) : Type 0 where
  pub few : n ≤ count
  pub rest : (m : ℕ) → n ≤ m → m < count → member set m ≡ false

pub bound : (set count end : ℕ) → ((m : ℕ) → end ≤ m → member set m ≡ false) → Bound set (min count end) count
bound set count end none = record { few = omega arith; rest = λ m h k. none m (omega (arith, h, k)) }

abbrev pub invariant-loop-j : goal.invariant-loop-j
invariant-loop-j l = Bound l.set l.j-end (count_in l.initial.table.octets.now) × Swept l.initial.table l.table (done_to (placing l.set l.i) l.j)
