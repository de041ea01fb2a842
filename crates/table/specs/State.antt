-- A table as a value: what belongs to the whole of it, and its ports. Calls are defined on it; `Table` has its octets.
use Rattle.std.specs.Prelude.{ℕ, Bool, ◌&&◌, List, length, get_or, set, eqb}
use Rattle.port.specs.declared.record.Port.{Port}
use Rattle.port.specs.Absent.{no_port}
use Rattle.table.specs.declared.layout.Header.{Header}
use Rattle.octets.specs.Octets.{within}
use Rattle.table.specs.Layout.{most_ports}
use Rattle.table.specs.Range.{header_fits}
use Rattle.port.specs.Range.{ports_in_range}

pub record State : Type 0 where
  pub common : Header
  pub ports : List Port

-- port i of these, from 0, and of a state
unfoldable pub port_in : List Port → ℕ → Port
port_in ps i = get_or ps i no_port

abbrev pub port_of : State → ℕ → Port
port_of s i = port_in s.ports i

-- the same table with other ports, and with another port i
abbrev pub with_ports : List Port → State → State
with_ports ps s = record { common = s.common; ports = ps }

abbrev pub with_port : ℕ → Port → State → State
with_port i p s = with_ports (set s.ports i p) s

-- the states of which octets can tell: 1 to 32 ports, as many as are said, with every value in range
unfoldable pub state_in_range : State → Bool
state_in_range s =
    within 1 (length s.ports) most_ports
    && (eqb s.common.count (length s.ports) && (header_fits s.common && ports_in_range (length s.ports) s.ports))
