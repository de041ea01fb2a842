-- Sizes and constants, as the rules have them. Assumes nothing.
use Prim.Native.Nat.{ℕ, ◌≤◌}
use mathlib.Core.Path.{◌≡◌, refl}
use mathlib.Core.Bool.{true}
use mathlib.Core.List.{List}
use native.Mathlib.Omega.{arith}
use lib.ListN.{length, replicate}
use borrow.Author.Tests.{eq-eqb}
use Rattle.octets.proofs.RangeLaws.{both_true, within-is}
use Rattle.port.specs.Absent.{no_port}
use Rattle.table.specs.Layout.{most_ports, record_size, table_size}
use Rattle.table.specs.Record.{encoded}
use Rattle.table.specs.Table.{is_room}

-- R1.7: no table is larger than 32,768 octets, and memory of the size that its count asks for is room
pub size-most : (count : ℕ) → count ≤ 32 → table_size count ≤ 32768
size-most count h = omega arith

pub is_room_lem : (t : List ℕ) (count : ℕ) → 1 ≤ count → count ≤ 32 → length t ≡ table_size count → is_room t count ≡ true
is_room_lem t count some few e = both_true (within-is 1 count most_ports some few) (eq-eqb (length t) (table_size count) e)

-- R2.20: every octet of the port that stands beside a refusal is 0
pub absent_zeros : encoded no_port ≡ replicate record_size 0
unfolding encoded
absent_zeros = refl
