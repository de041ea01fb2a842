-- The calls with their arguments. A run folds `answer` and `after` over a list of them.
use Rattle.std.specs.Prelude.{ℕ, Bool, true, false, List}
use Rattle.frame.specs.declared.block.SystemId.{SystemId}
use Rattle.frame.specs.declared.wire.TensOfMicroseconds.{TensOfMicroseconds}
use Rattle.machine.specs.declared.states.Line.{Line}
use Rattle.settings.specs.declared.Settings.{Settings}

-- port and aggregator numbers as the caller names them, from 1; `out` is the outgoing buffer as it came
pub data Call : Type 0 where
  start : (count : ℕ) → SystemId → TensOfMicroseconds → Settings → Call
  receive : (port : ℕ) → (frame out : List ℕ) → Call
  tick : Call
  line : (port : ℕ) → Line → Call
  configure : (port : ℕ) → Settings → Call
  fetch : (port : ℕ) → (out : List ℕ) → Call
  report : (port : ℕ) → Call
  aggregator : (number : ℕ) → Call
  due : Call

-- a start makes the table anew, whatever the memory held
abbrev pub is_start : Call → Bool
is_start (start count system delay s) = true
is_start (receive n frame out) = false
is_start tick = false
is_start (line n l) = false
is_start (configure n s) = false
is_start (fetch n out) = false
is_start (report n) = false
is_start (aggregator k) = false
is_start due = false
