-- Where header and records lie in the lent memory. The sizes of header and record are each one definition.
use Rattle.std.specs.Prelude.{ℕ, ◌+◌, ◌*◌, cond, List, ◌∷◌, ◌++◌, get_or}
use Rattle.octets.specs.Octets.{number_at, number_octets, within}
use Rattle.frame.specs.Block.{address_at, address_octets}
use Rattle.table.specs.declared.layout.Header.{Header}

-- the octets of the header
abbrev pub header_size : ℕ
header_size = 11

-- the octets of a record
abbrev pub record_size : ℕ
record_size = 57

-- the most ports that a table has
abbrev pub most_ports : ℕ
most_ports = 32

-- where record i, from 0, begins
abbrev pub place : ℕ → ℕ
place i = header_size + record_size * i

-- the octets of a table of `count` ports: up to where the next record would begin
abbrev pub table_size : ℕ → ℕ
table_size count = place count

-- the published size for each port count, 0 where there is no such table
abbrev pub published_size : ℕ → ℕ
published_size count = cond (within 1 count most_ports) (table_size count) 0

-- ---- the header: port count, system priority, system address, CollectorMaxDelay

abbrev pub header_octets : Header → List ℕ
header_octets h = h.count ∷ (number_octets h.system.priority ++ (address_octets h.system.address ++ number_octets h.delay.0))

abbrev pub header_of : List ℕ → Header
header_of l = record {
  count = get_or l 0 0;
  system = record { priority = number_at l 1; address = address_at l 3 };
  delay = record { 0 = number_at l 9 };
}
