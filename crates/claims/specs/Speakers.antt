-- Systems, blocks, settings, lines and frames of runs that are computed. We are system 9; all keys but those that are given are 1, and so is every
-- priority.
use Rattle.std.specs.Prelude.{ℕ, Bool, true, false, List}
use Rattle.frame.specs.declared.block.Address.{Address}
use Rattle.frame.specs.declared.block.Block.{Block}
use Rattle.frame.specs.declared.block.SystemId.{SystemId}
use Rattle.frame.specs.declared.wire.TensOfMicroseconds.{TensOfMicroseconds}
use Rattle.frame.specs.State.{port_state_of}
use Rattle.frame.specs.Wire.{lacpdu}
use Rattle.machine.specs.declared.states.Line.{Line}
use Rattle.settings.specs.declared.Settings.{Settings}

abbrev pub address : ℕ → Address
address n = record { high = 0; middle = 0; low = n }

-- system `s` with priority 1
abbrev pub system : ℕ → SystemId
system s = record { priority = 1; address = address s }

abbrev pub no_delay : TensOfMicroseconds
no_delay = record { 0 = 0 }

-- port `q` of system `s`, with key `k` and the state octet `o`
abbrev pub keyed_block : ℕ → ℕ → ℕ → ℕ → Block
keyed_block s k q o = record { system = system s; key = k; port = record { priority = 1; number = q }; state = port_state_of o }

abbrev pub block : ℕ → ℕ → ℕ → Block
block s q o = keyed_block s 1 q o

-- active and aggregatable, key `k`, short or long, with a default partner block that is all zeros but for its state octet
abbrev pub keyed_settings : ℕ → Bool → ℕ → Settings
keyed_settings k short o = record {
  address = address 9;
  key = k;
  priority = 1;
  activity = true;
  timeout = short;
  aggregation = true;
  default = record {
    system = record { priority = 0; address = address 0 };
    key = 0;
    port = record { priority = 0; number = 0 };
    state = port_state_of o;
  };
}

abbrev pub settings : Bool → ℕ → Settings
settings short o = keyed_settings 1 short o

-- link and duplex
abbrev pub up_full : Line
up_full = record { up = true; full = true }

abbrev pub up_half : Line
up_half = record { up = true; full = false }

abbrev pub down_full : Line
down_full = record { up = false; full = true }

abbrev pub down_half : Line
down_half = record { up = false; full = false }

-- an LACPDU of a port that says `a` of itself, to our port n, of which it says state octet v
abbrev pub frame_of : Block → ℕ → ℕ → List ℕ
frame_of a n v = lacpdu a.system.address a (block 9 n v) no_delay

-- an LACPDU of port q of system s with the state octet o, to port n, of which it says state octet v
abbrev pub frame : ℕ → ℕ → ℕ → ℕ → ℕ → List ℕ
frame s q o n v = frame_of (block s q o) n v
