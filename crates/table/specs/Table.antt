-- The octets of a table: a header and one record for each port, both ways, and answer 1's check on any memory.
use Rattle.std.specs.Prelude.{ℕ, zero, suc, ◌+◌, ◌<◌, ◌≡◌, Bool, true, ◌&&◌, List, [], ◌∷◌, ◌++◌, length, take, drop, get_or, leb, eqb}
use Rattle.octets.specs.Octets.{Octets, within}
use Rattle.port.specs.declared.record.Port.{Port}
use Rattle.table.specs.declared.layout.Header.{Header}
use Rattle.table.specs.Layout.{header_size, record_size, most_ports, place, table_size, header_of, header_octets}
use Rattle.table.specs.Record.{encoded, decoded}
use Rattle.table.specs.Range.{record_in_range}
use Rattle.table.specs.State.{State, port_of, with_ports}

-- the port count in the header
abbrev pub count_in : List ℕ → ℕ
count_in t = get_or t 0 0

-- the octets of record i, from 0
unfoldable pub record_at : List ℕ → ℕ → List ℕ
record_at t i = take record_size (drop (place i) t)

-- and what they tell of
unfoldable pub decoded_at : List ℕ → ℕ → Port
decoded_at t i = decoded (record_at t i)

-- the n records from record i on
unfoldable pub ports_from : ℕ → ℕ → List ℕ → List Port
ports_from i zero t = []
ports_from i (suc n) t = decoded_at t i ∷ ports_from (i + 1) n t

-- the list of records that a table holds
unfoldable pub ports : List ℕ → List Port
ports t = ports_from 0 (count_in t) t

-- the octets of records one after the other
unfoldable pub records_octets : List Port → List ℕ
records_octets [] = []
records_octets (p ∷ ps) = encoded p ++ records_octets ps

-- the octets of a table
unfoldable pub table_octets : Header → List Port → List ℕ
table_octets h ps = header_octets h ++ records_octets ps

-- ---- state and octets

-- the state that octets tell of, and the octets of a state
abbrev pub state_of : List ℕ → State
state_of t = record { common = header_of t; ports = ports t }

abbrev pub octets_of : State → List ℕ
octets_of s = table_octets s.common s.ports

-- what is done to a state, done to its octets
abbrev pub on_octets : (State → State) → List ℕ → List ℕ
on_octets f t = octets_of (f (state_of t))

-- what belongs to the whole table
abbrev pub ours : List ℕ → Header
ours t = (state_of t).common

-- the same table with other records
abbrev pub again : List ℕ → List Port → List ℕ
again t ps = on_octets (with_ports ps) t

-- the record of port i, from 0
abbrev pub port_at : List ℕ → ℕ → Port
port_at t i = port_of (state_of t) i

-- whether the first n records are in range
unfoldable pub first_in_range : ℕ → ℕ → List ℕ → Bool
first_in_range count zero t = true
first_in_range count (suc n) t = first_in_range count n t && record_in_range count (record_at t n)

-- what answer 1 is not given for: a header, a count of 1 to 32, the exact size, and every record in range
unfoldable pub table_in_range : List ℕ → Bool
table_in_range t =
    leb header_size (length t)
    && (within 1 (count_in t) most_ports
    && (eqb (length t) (table_size (count_in t)) && first_in_range (count_in t) (count_in t) t))

-- memory of the size of a table of `count` ports
abbrev pub is_room : List ℕ → ℕ → Bool
is_room t count = within 1 count most_ports && eqb (length t) (table_size count)

-- a table in range, and one of its ports, from 0
abbrev pub InTable : List ℕ → ℕ → Type 0
InTable t i = (table_in_range t ≡ true) × (i < count_in t)

-- what holds of the octets of every table that is lent as one
abbrev pub IsTable : List ℕ → Type 0
IsTable t = (table_in_range t ≡ true) × Octets t
