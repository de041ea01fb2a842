-- From an accepted LACPDU on, the partner information in force is what that frame said of its sender, until something ends it.
use Rattle.std.specs.Prelude.{ℕ, ◌-◌, ◌≡◌, Bool, true, false, not, ◌&&◌, ◌||◌, List, [], ◌∷◌, eqb, Ok}
use Rattle.frame.specs.declared.block.Block.{Block}
use Rattle.frame.specs.Block.{block_of}
use Rattle.frame.specs.Wire.{actor_part}
use Rattle.machine.specs.declared.states.Line.{Line}
use Rattle.machine.specs.declared.states.Receive.{Receive}
use Rattle.machine.specs.declared.states.Receive.TheVariants.{Initialize, PortDisabled, Expired, LacpDisabled, Defaulted, Current}
use Rattle.machine.specs.Bits.{with_timeout, with_synchronization}
use Rattle.machine.specs.States.{same_line}
use Rattle.port.specs.declared.record.Port.{Port}
use Rattle.port.specs.Receive.{with_state}
use Rattle.table.specs.Table.{port_at}
use Rattle.trunk.specs.Displaced.{is_displaced}
use Rattle.control.specs.declared.answer.Accepted.TheVariants.{Lacpdu}
use Rattle.control.specs.Call.{Call, start, receive, tick, line, configure, fetch, report, aggregator, due}
use Rattle.control.specs.After.{answer, after}
use Rattle.control.specs.Accepted.{is_lacpdu, accepted}
use Rattle.claims.specs.Run.{Takes, AllTake, run, Made}

-- every field and bit of a block but Synchronization and Timeout
abbrev pub lasting : Block → Block
lasting b = with_state b (with_timeout (with_synchronization b.state false) false)

-- the partner block in force is the frame's actor block but for these two bits, and the actor's Defaulted is clear
pub record Live (frame : List ℕ) (p : Port) : Type 0 where
  pub partner : lasting p.partner ≡ lasting (block_of (actor_part frame))
  pub defaulted : p.actor.defaulted ≡ false

abbrev pub is_expired : Receive → Bool
is_expired Initialize = false
is_expired PortDisabled = false
is_expired Expired = true
is_expired LacpDisabled = false
is_expired Defaulted = false
is_expired Current = false

-- a change from one line to another that is up at half duplex
abbrev pub to_half : Line → Line → Bool
to_half old new = not (same_line new old) && (new.up && not new.full)

-- what ends it for port i, from 0: an accepted start; an accepted LACPDU there, or one elsewhere that displaces it in PORT_DISABLED; the
-- tick at which its current-while timer runs out in EXPIRED; a line call that changes it to up at half duplex
abbrev pub ends : Call → List ℕ → ℕ → Bool
ends (start count system delay s) t i = accepted (answer (start count system delay s) t)
ends (receive n frame out) t i =
    is_lacpdu (answer (receive n frame out) t) && (eqb i (n - 1) || is_displaced (block_of (actor_part frame)) (port_at t i))
ends tick t i = is_expired (port_at t i).phase.receive && eqb (port_at t i).timers.current.0 1
ends (line n l) t i = accepted (answer (line n l) t) && (eqb i (n - 1) && to_half (port_at t i).line l)
ends (configure n s) t i = false
ends (fetch n out) t i = false
ends (report n) t i = false
ends (aggregator n) t i = false
ends due t i = false

-- no call of a run ends it
abbrev pub NoneEnds : List ℕ → ℕ → List Call → Type 0
NoneEnds t i [] = Unit
NoneEnds t i (c ∷ cs) = (ends c t i ≡ false) × NoneEnds (after c t) i cs

-- 6: an accepted LACPDU on port n makes its partner information live, and it stays so along any calls none of which ends it
abbrev pub LivePartner : Type 0
LivePartner = (t : List ℕ) → Made t → (n : ℕ) (frame out : List ℕ) → Takes (receive n frame out) → answer (receive n frame out) t ≡ Ok Lacpdu
    → (cs : List Call) → AllTake cs → NoneEnds (after (receive n frame out) t) (n - 1) cs
    → Live frame (port_at (run (after (receive n frame out) t) cs) (n - 1))
