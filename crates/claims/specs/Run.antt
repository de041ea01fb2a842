-- Runs: what a table can become by calls. A table is made if some accepted start on some memory, and then any list of calls, leaves it:
-- refused calls and further starts included.
use Rattle.std.specs.Prelude.{ℕ, ◌≡◌, true, List, [], ◌∷◌}
use Rattle.octets.specs.Octets.{Octets}
use Rattle.frame.specs.declared.block.SystemId.{SystemId}
use Rattle.frame.specs.declared.wire.TensOfMicroseconds.{TensOfMicroseconds}
use Rattle.port.specs.Range.{own_fits}
use Rattle.settings.specs.declared.Settings.{Settings}
use Rattle.settings.specs.Settings.{own_of}
use Rattle.table.specs.Range.{header_fits}
use Rattle.control.specs.Call.{Call, start, receive, tick, line, configure, fetch, report, aggregator, due}
use Rattle.control.specs.After.{answer, after}
use Rattle.control.specs.Accepted.{accepted}

-- the arguments that the program's types can hold: octets are octets, and numbers fit their two octets
abbrev pub Takes : Call → Type 0
Takes (start count system delay s) =
    (header_fits (record { count = count; system = system; delay = delay }) ≡ true) × (own_fits (own_of s) ≡ true)
Takes (receive n frame out) = Octets frame × Octets out
Takes tick = Unit
Takes (line n l) = Unit
Takes (configure n s) = own_fits (own_of s) ≡ true
Takes (fetch n out) = Octets out
Takes (report n) = Unit
Takes (aggregator k) = Unit
Takes due = Unit

abbrev pub AllTake : List Call → Type 0
AllTake [] = Unit
AllTake (c ∷ cs) = Takes c × AllTake cs

-- call after call
unfoldable pub run : List ℕ → List Call → List ℕ
run t [] = t
run t (c ∷ cs) = run (after c t) cs

pub record Made (t : List ℕ) : Type 0 where
  pub memory : List ℕ
  pub octets : Octets memory
  pub count : ℕ
  pub system : SystemId
  pub delay : TensOfMicroseconds
  pub settings : Settings
  pub takes : Takes (start count system delay settings)
  pub starts : accepted (answer (start count system delay settings) memory) ≡ true
  pub calls : List Call
  pub all_take : AllTake calls
  pub gives : run (after (start count system delay settings) memory) calls ≡ t
