-- Timers stay within their times, and one that its state does not use holds 0: each machine keeps this of its own timer, and a tick of
-- all three. Assumes nothing.
use Prim.Native.Nat.{ℕ, ◌-◌, ◌≤◌}
use mathlib.Core.Path.{◌≡◌, refl}
use mathlib.Core.Bool.{Bool, true, false, cond, true≢false}
use native.Mathlib.Omega.{arith}
use Rattle.std.specs.Prelude.{Option, Some, None}
use Rattle.frame.specs.declared.block.Block.{Block}
use Rattle.frame.specs.declared.block.SystemId.{SystemId}
use Rattle.machine.specs.declared.states.Mux.{Mux}
use Rattle.machine.specs.declared.states.Periodic.{Periodic}
use Rattle.machine.specs.declared.states.Receive.{Receive}
use Rattle.machine.specs.declared.states.Receive.TheVariants.{Initialize, PortDisabled, Expired, LacpDisabled, Defaulted, Current}
use Rattle.machine.specs.declared.states.Line.{Line}
use Rattle.machine.specs.declared.states.Periodic.TheVariants.{NoPeriodic, FastPeriodic, SlowPeriodic, PeriodicTx}
use Rattle.machine.specs.declared.states.Mux.TheVariants.{Detached, Waiting, Attached, Collecting, Distributing}
use Rattle.machine.specs.declared.states.Ticks.{Ticks}
use Rattle.machine.specs.Time.{fallen, long_timeout_time}
use Rattle.machine.specs.States.{ticks}
use Rattle.port.specs.declared.record.Port.{Port}
use Rattle.port.specs.Timing.{Timed, CurrentTimed, PeriodicTimed, WaitTimed}
use Rattle.port.specs.Periodic.{periodic_taken, periodic_choice, periodic_step, periodic_run}
use Rattle.port.specs.Mux.{mux_taken, mux_choice, mux_step, mux_run}
use Rattle.port.specs.Receive.{record_default, initialized, port_disabled, expired, lacp_disabled, defaulted, current, receive_taken, receive_choice, receive_step, receive_run, received, moved, down, lined}
use Rattle.port.specs.Record.{with_line, actor_block}
use Rattle.port.specs.Transmit.{ticked}

-- a timer that is in use and within its time, and one that is stopped
running : (most : ℕ) (n : ℕ) → n ≤ most → Timed true most (ticks n)
running most n h = record { within = h; stopped = λ e. absurd (true≢false e) }

halted : (used : Bool) (most : ℕ) → Timed used most (ticks 0)
halted used most = record { within = omega arith; stopped = λ e. refl }

-- ---- the periodic timer

periodic_taken-timed : (k : Option Periodic) (p : Port) → PeriodicTimed p → PeriodicTimed (periodic_taken k p)
periodic_taken-timed None p h = h
periodic_taken-timed (Some NoPeriodic) p h = halted _ _
periodic_taken-timed (Some FastPeriodic) p h = running _ _ (omega arith)
periodic_taken-timed (Some SlowPeriodic) p h = running _ _ (omega arith)
periodic_taken-timed (Some PeriodicTx) p h = halted _ _

periodic_step-timed : (p : Port) → PeriodicTimed p → PeriodicTimed (periodic_step p)
unfolding periodic_step
periodic_step-timed p h = periodic_taken-timed (periodic_choice p) p h

pub periodic_run-timed : (p : Port) → PeriodicTimed p → PeriodicTimed (periodic_run p)
unfolding periodic_run
periodic_run-timed p h = periodic_step-timed (periodic_step p) (periodic_step-timed p h)

-- ---- the wait timer

wait-taken : (k : Option Mux) (p : Port) → WaitTimed p → WaitTimed (mux_taken k p)
wait-taken None p h = h
wait-taken (Some Detached) p h = halted _ _
wait-taken (Some Waiting) p h = running _ _ (omega arith)
wait-taken (Some Attached) p h = halted _ _
wait-taken (Some Collecting) p h = halted _ _
wait-taken (Some Distributing) p h = halted _ _

pub wait-step : (ready : Bool) (p : Port) → WaitTimed p → WaitTimed (mux_step ready p)
unfolding mux_step
wait-step ready p h = wait-taken (mux_choice ready p) p h

pub wait-run : (p : Port) → WaitTimed p → WaitTimed (mux_run p)
unfolding mux_run
wait-run p h = wait-step false (mux_step false p) (wait-step false p h)

-- ---- the current-while timer: each state says what it holds

initialized-timed : (p : Port) → CurrentTimed (initialized p)
unfolding initialized record_default
initialized-timed p = halted _ _

pub disabled_timed : (p : Port) → CurrentTimed (port_disabled p)
unfolding port_disabled
disabled_timed p = halted _ _

pub expired-timed : (p : Port) → CurrentTimed (expired p)
unfolding expired
expired-timed p = running _ _ (omega arith)

pub off_timed : (p : Port) → CurrentTimed (lacp_disabled p)
unfolding lacp_disabled record_default
off_timed p = halted _ _

pub defaulted-timed : (p : Port) → CurrentTimed (defaulted p)
unfolding defaulted record_default
defaulted-timed p = halted _ _

time-le : (b : Bool) → cond b 30 900 ≤ long_timeout_time
time-le true = omega arith
time-le false = omega arith

pub current-timed : (us a b : Block) (p : Port) → CurrentTimed (current us a b p)
unfolding current
current-timed us a b p = running _ _ (time-le p.actor.timeout)

-- so a step of the machine keeps it, and so do an LACPDU, a moved partner and a link or duplex change
receive-taken : (k : Option Receive) (p : Port) → CurrentTimed p → CurrentTimed (receive_taken k p)
receive-taken None p h = h
receive-taken (Some Initialize) p h = initialized-timed p
receive-taken (Some PortDisabled) p h = disabled_timed p
receive-taken (Some Expired) p h = expired-timed p
receive-taken (Some LacpDisabled) p h = off_timed p
receive-taken (Some Defaulted) p h = defaulted-timed p
receive-taken (Some Current) p h = h

receive_step-timed : (p : Port) → CurrentTimed p → CurrentTimed (receive_step p)
unfolding receive_step
receive_step-timed p h = receive-taken (receive_choice p) p h

pub receive_run-timed : (p : Port) → CurrentTimed p → CurrentTimed (receive_run p)
unfolding receive_run
receive_run-timed p h = receive_step-timed (receive_step p) (receive_step-timed p h)

pub received-timed : (system : SystemId) (number : ℕ) (a b : Block) (p : Port) → CurrentTimed (received system number a b p)
unfolding received
received-timed system number a b p = current-timed (actor_block system number p) a b p

moved-timed : (p : Port) → CurrentTimed (moved p)
unfolding moved
moved-timed p = disabled_timed (initialized p)

pub lined-timed : (l : Line) (p : Port) → CurrentTimed p → CurrentTimed (lined l p)
unfolding lined
lined-timed l p h =
    let q = receive_run (with_line p (down p.line)) in
    receive_run-timed (with_line q l) (receive_run-timed (with_line p (down p.line)) h)

-- ---- a tick

falls : (used : Bool) (most : ℕ) (t : Ticks) → Timed used most t → Timed used most (fallen t)
falls used most t h = record { within = less t.0 h.within; stopped = λ e. zero-stays t.0 (h.stopped e) }
  where
    less : (n : ℕ) → n ≤ most → n - 1 ≤ most
    less n k = omega arith

    zero-stays : (n : ℕ) → n ≡ 0 → n - 1 ≡ 0
    zero-stays n k = omega arith

pub ticked-timed : (p : Port) → (CurrentTimed p × PeriodicTimed p × WaitTimed p) → (CurrentTimed (ticked p) × PeriodicTimed (ticked p) × WaitTimed (ticked p))
unfolding ticked
ticked-timed p h = (falls _ _ _ h.0, falls _ _ _ h.1, falls _ _ _ h.2)
