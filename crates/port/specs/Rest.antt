-- A port at rest, as every call leaves each: its machines rest in the states that go with its link and duplex.
use Rattle.std.specs.Prelude.{◌≡◌, Bool, true, false, not, ◌&&◌, None}
use Rattle.machine.specs.declared.states.Line.{Line}
use Rattle.machine.specs.declared.states.Receive.{Receive}
use Rattle.machine.specs.declared.states.Receive.TheVariants.{Initialize, PortDisabled, Expired, LacpDisabled, Defaulted, Current}
use Rattle.port.specs.declared.record.Port.{Port}
use Rattle.port.specs.Receive.{receive_choice}
use Rattle.port.specs.Periodic.{periodic_step}
use Rattle.port.specs.Mux.{SaysMux}
use Rattle.port.specs.Timing.{CurrentTimed, PeriodicTimed, WaitTimed}

-- PORT_DISABLED exactly if the link is down, LACP_DISABLED exactly if it is up at half duplex, and never INITIALIZE
abbrev pub goes_with : Line → Receive → Bool
goes_with l Initialize = false
goes_with l PortDisabled = not l.up
goes_with l Expired = l.up && l.full
goes_with l LacpDisabled = l.up && not l.full
goes_with l Defaulted = l.up && l.full
goes_with l Current = l.up && l.full

-- the states whose entry clears the partner's Synchronization (43.4.12): PORT_DISABLED and EXPIRED
abbrev pub is_unheard : Receive → Bool
is_unheard Initialize = false
is_unheard PortDisabled = true
is_unheard Expired = true
is_unheard LacpDisabled = false
is_unheard Defaulted = false
is_unheard Current = false

pub record Resting (p : Port) : Type 0 where
  pub state : goes_with p.line p.phase.receive ≡ true
  -- in which it is clear as long as they last
  pub unheard : is_unheard p.phase.receive ≡ true → p.partner.state.synchronization ≡ false
  -- no step of the receive machine applies, and none of the periodic machine changes anything
  pub receive : receive_choice p ≡ None
  pub periodic : periodic_step p ≡ p
  pub says : SaysMux p
  -- a timer that its state does not use holds 0, and one that it uses is within its time
  pub current : CurrentTimed p
  pub pace : PeriodicTimed p
  pub wait : WaitTimed p
