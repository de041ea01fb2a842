-- The transitions of the Periodic Transmission machine (43.4.13, figure 43-11).
use Rattle.std.specs.Prelude.{Bool, true, false, not, ◌&&◌, Option, Some, None}
use Rattle.machine.specs.declared.states.Periodic.{Periodic}
use Rattle.machine.specs.declared.states.Periodic.TheVariants.{NoPeriodic, FastPeriodic, SlowPeriodic, PeriodicTx}
use Rattle.machine.specs.declared.states.Ticks.{Ticks}
use Rattle.machine.specs.States.{ticks}
use Rattle.machine.specs.Time.{fast_periodic_time, slow_periodic_time}

-- the transition that applies, if any, by whether the machine is to be quiet, the timer has run out and the partner's Timeout is short: the open-ended transition first, then a timer that ran out, then the partner's Timeout (short or not)
abbrev pub periodic_next : Periodic → Bool → Bool → Bool → Option Periodic
periodic_next s true out short = Some NoPeriodic
periodic_next NoPeriodic false out short = Some FastPeriodic
periodic_next FastPeriodic false true short = Some PeriodicTx
periodic_next FastPeriodic false false true = None
periodic_next FastPeriodic false false false = Some SlowPeriodic
periodic_next SlowPeriodic false true short = Some PeriodicTx
periodic_next SlowPeriodic false false true = Some PeriodicTx
periodic_next SlowPeriodic false false false = None
periodic_next PeriodicTx false out true = Some FastPeriodic
periodic_next PeriodicTx false out false = Some SlowPeriodic

-- the actions on entry: the timer that the state starts (0 stops it), and NTT in PERIODIC_TX
abbrev pub periodic_time : Periodic → Ticks
periodic_time NoPeriodic = ticks 0
periodic_time FastPeriodic = ticks fast_periodic_time
periodic_time SlowPeriodic = ticks slow_periodic_time
periodic_time PeriodicTx = ticks 0

abbrev pub is_tx : Periodic → Bool
is_tx NoPeriodic = false
is_tx FastPeriodic = false
is_tx SlowPeriodic = false
is_tx PeriodicTx = true

-- where it all stays, by the same: quiet in NO_PERIODIC with its timer stopped, or at the partner's pace with the timer running
abbrev pub periodic_rests : Periodic → Bool → Bool → Bool → Bool
periodic_rests NoPeriodic quiet out short = quiet && out
periodic_rests FastPeriodic quiet out short = not quiet && (not out && short)
periodic_rests SlowPeriodic quiet out short = not quiet && (not out && not short)
periodic_rests PeriodicTx quiet out short = false
