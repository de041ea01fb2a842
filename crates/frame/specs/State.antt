-- The state octet (43.4.2.2, R3.3) and its eight bits, by their weights.
use Rattle.std.specs.Prelude.{ℕ, ◌+◌, ◌/◌, ◌%◌, Bool, true, false, eqb}
use Rattle.frame.specs.declared.state.PortState.{PortState}

-- what a bit that weighs n adds to an octet
abbrev pub weighed : Bool → ℕ → ℕ
weighed true n = n
weighed false n = 0

abbrev pub state_octet : PortState → ℕ
state_octet s =
    weighed s.activity 1 + weighed s.timeout 2 + weighed s.aggregation 4 + weighed s.synchronization 8
    + weighed s.collecting 16 + weighed s.distributing 32 + weighed s.defaulted 64 + weighed s.expired 128

-- whether the bit that weighs n is set in the octet o
abbrev pub bit : ℕ → ℕ → Bool
bit o n = eqb (o / n % 2) 1

abbrev pub port_state_of : ℕ → PortState
port_state_of o = record {
  activity = eqb (o % 2) 1;
  timeout = bit o 2;
  aggregation = bit o 4;
  synchronization = bit o 8;
  collecting = bit o 16;
  distributing = bit o 32;
  defaulted = bit o 64;
  expired = bit o 128;
}
