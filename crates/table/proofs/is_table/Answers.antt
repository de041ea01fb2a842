-- `is_table` meets its contract: the tests in the order of the definition, count and size by `is_room`. Assumes nothing.
use Prim.Native.Nat.{ℕ, ◌≤◌}
use mathlib.Core.Path.{◌≡◌, sym, ◌∙◌}
use mathlib.Core.Bool.{◌&&◌, and_assoc}
use mathlib.Core.List.{List}
use lib.Dec.{eqb}
use lib.ListN.{length}
use borrow.Author.Tests.{lt-leb, le-leb}
use Rattle.octets.specs.Octets.{within}
use Rattle.table.specs.Layout.{header_size, most_ports, table_size}
use Rattle.table.specs.Table.{count_in, is_room, first_in_range, table_in_range}
use Rattle.table.proofs.is_table.Goals as goal

-- behind a header's length, count and size come first, and then the records
tested : (t : List ℕ) → header_size ≤ length t → table_in_range t ≡ (is_room t (count_in t) && first_in_range (count_in t) (count_in t) t)
unfolding table_in_range
tested t h =
    let n = count_in t in
    rw (le-leb header_size (length t) h) (sym (and_assoc (within 1 n most_ports) (eqb (length t) (table_size n)) (first_in_range n n t)))

pub returns-then-table-lt-HEADER : goal.returns-then-table-lt-HEADER
unfolding table_in_range
returns-then-table-lt-HEADER c = rw (lt-leb header_size _ c.if-table-lt-HEADER.true)

pub returns-then-is_room : goal.returns-then-is_room
returns-then-is_room c =
    let room = rw c.from.ensures at (sym c.is_room.ensures ∙ c.if-is_room.true) in
    c.has_records.ensures ∙ sym (tested c.args.table.now c.if-table-lt-HEADER.false ∙ rw room)

pub returns-else-is_room : goal.returns-else-is_room
returns-else-is_room c =
    let room = rw c.from.ensures at (sym c.is_room.ensures ∙ c.if-is_room.false) in
    c.if-is_room.false ∙ sym (tested c.args.table.now c.if-table-lt-HEADER.false ∙ rw room)
