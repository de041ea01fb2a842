-- An information block (R3.2): from octet 0 system priority, 2 system, 8 key, 10 port priority, 12 port, 14 state.
use Rattle.std.specs.Prelude.{ℕ, ◌+◌, Bool, ◌&&◌, List, [], ◌∷◌, ◌++◌, get_or}
use Rattle.octets.specs.Octets.{number_at, number_octets, fits}
use Rattle.frame.specs.declared.block.Address.{Address}
use Rattle.frame.specs.declared.block.Block.{Block}
use Rattle.frame.specs.declared.block.SystemId.{SystemId}
use Rattle.frame.specs.State.{state_octet, port_state_of}

abbrev pub address_at : List ℕ → ℕ → Address
address_at l i = record { high = number_at l i; middle = number_at l (i + 2); low = number_at l (i + 4) }

abbrev pub address_octets : Address → List ℕ
address_octets a = number_octets a.high ++ (number_octets a.middle ++ number_octets a.low)

abbrev pub system_at : List ℕ → ℕ → SystemId
system_at l i = record { priority = number_at l i; address = address_at l (i + 2) }

abbrev pub system_octets : SystemId → List ℕ
system_octets s = number_octets s.priority ++ address_octets s.address

abbrev pub block_of : List ℕ → Block
block_of l = record {
  system = system_at l 0;
  key = number_at l 8;
  port = record { priority = number_at l 10; number = number_at l 12 };
  state = port_state_of (get_or l 14 0);
}

abbrev pub block_octets : Block → List ℕ
block_octets b =
    number_octets b.system.priority ++ (address_octets b.system.address ++ (number_octets b.key
    ++ (number_octets b.port.priority ++ (number_octets b.port.number ++ (state_octet b.state ∷ [])))))

-- ---- whether its numbers fit their two octets

-- six octets, two at a time
abbrev pub address_fits : Address → Bool
address_fits a = fits a.high && (fits a.middle && fits a.low)

-- the numbers of a block
unfoldable pub block_fits : Block → Bool
block_fits b =
    fits b.system.priority
    && (address_fits b.system.address && (fits b.key && (fits b.port.priority && fits b.port.number)))
