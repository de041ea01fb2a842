-- A timer stands at 0 in a state that has no use for it, and within its time in one that has (R3.13, R3.15).
use Rattle.std.specs.Prelude.{ℕ, ◌≤◌, ◌≡◌, Bool, true, false}
use Rattle.machine.specs.declared.states.Receive.{Receive}
use Rattle.machine.specs.declared.states.Receive.TheVariants.{Initialize, PortDisabled, Expired, LacpDisabled, Defaulted, Current}
use Rattle.machine.specs.declared.states.Periodic.{Periodic}
use Rattle.machine.specs.declared.states.Periodic.TheVariants.{NoPeriodic, FastPeriodic, SlowPeriodic, PeriodicTx}
use Rattle.machine.specs.declared.states.Ticks.{Ticks}
use Rattle.machine.specs.Mux.{waits}
use Rattle.machine.specs.Time.{long_timeout_time, slow_periodic_time, aggregate_wait_time}
use Rattle.port.specs.declared.record.Port.{Port}

abbrev pub uses_current : Receive → Bool
uses_current Initialize = false
uses_current PortDisabled = false
uses_current Expired = true
uses_current LacpDisabled = false
uses_current Defaulted = false
uses_current Current = true

abbrev pub uses_periodic : Periodic → Bool
uses_periodic NoPeriodic = false
uses_periodic FastPeriodic = true
uses_periodic SlowPeriodic = true
uses_periodic PeriodicTx = false

-- a timer: whether its state uses it, its longest time, and what it holds
pub record Timed (used : Bool) (most : ℕ) (t : Ticks) : Type 0 where
  pub within : t.0 ≤ most
  pub stopped : used ≡ false → t.0 ≡ 0

abbrev pub CurrentTimed : Port → Type 0
CurrentTimed p = Timed (uses_current p.phase.receive) long_timeout_time p.timers.current

abbrev pub PeriodicTimed : Port → Type 0
PeriodicTimed p = Timed (uses_periodic p.phase.periodic) slow_periodic_time p.timers.periodic

abbrev pub WaitTimed : Port → Type 0
WaitTimed p = Timed (waits p.phase.mux) aggregate_wait_time p.timers.wait
