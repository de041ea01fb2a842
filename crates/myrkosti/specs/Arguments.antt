-- What numbers and lent octets of the C interface say.
use Rattle.std.specs.Prelude.{ℕ, Bool, List}
use Rattle.frame.specs.declared.block.SystemId.{SystemId}
use Rattle.frame.specs.declared.wire.TensOfMicroseconds.{TensOfMicroseconds}
use Rattle.frame.specs.Block.{address_at, block_of}
use Rattle.settings.specs.declared.Settings.{Settings}

-- a port's settings (R3.4), in the order of the C arguments
abbrev pub settings_of : List ℕ → ℕ → ℕ → Bool → Bool → Bool → List ℕ → Settings
settings_of address key priority activity timeout aggregation partner = record {
  address = address_at address 0;
  key = key;
  priority = priority;
  activity = activity;
  timeout = timeout;
  aggregation = aggregation;
  default = block_of partner;
}

abbrev pub system_of : ℕ → List ℕ → SystemId
system_of priority address = record { priority = priority; address = address_at address 0 }

abbrev pub delay_of : ℕ → TensOfMicroseconds
delay_of n = record { 0 = n }
