-- Answer 1's ranges (R3.14 to R3.17) of a record's octets, and the header's numbers.
use Rattle.std.specs.Prelude.{ℕ, Bool, ◌&&◌, List, get_or}
use Rattle.octets.specs.Octets.{fits, within}
use Rattle.frame.specs.Block.{address_fits}
use Rattle.port.specs.Range.{values_in_range}
use Rattle.table.specs.declared.layout.Header.{Header}
use Rattle.table.specs.Record.{decoded}

-- the octets 0 to 3 and 5 to 7, states and flags: each is the code of something; any state octet is in range
unfoldable pub codes_in_range : List ℕ → Bool
codes_in_range l =
    within 0 (get_or l 0 0) 5
    && (within 0 (get_or l 1 0) 3
    && (within 0 (get_or l 2 0) 4
    && (within 0 (get_or l 3 0) 1
    && (within 0 (get_or l 5 0) 1 && (within 0 (get_or l 6 0) 1 && within 0 (get_or l 7 0) 1)))))

-- whether a record's octets are in range: the codes, and the values of which they tell
unfoldable pub record_in_range : ℕ → List ℕ → Bool
record_in_range count l = codes_in_range l && values_in_range count (decoded l)

-- the header's numbers; its count has a test of its own
unfoldable pub header_fits : Header → Bool
header_fits h = fits h.system.priority && (address_fits h.system.address && fits h.delay.0)
