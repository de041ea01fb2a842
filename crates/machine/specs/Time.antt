-- Times in ticks (43.4.4, R3.11), and when a timer has run out (R3.12).
use Rattle.std.specs.Prelude.{ℕ, ◌-◌, Bool, cond, eqb}
use Rattle.machine.specs.declared.states.Ticks.{Ticks}
use Rattle.machine.specs.declared.states.Timers.{Timers}
use Rattle.machine.specs.States.{ticks, timers}

-- Fast_Periodic_Time
abbrev pub fast_periodic_time : ℕ
fast_periodic_time = 10

-- Slow_Periodic_Time
abbrev pub slow_periodic_time : ℕ
slow_periodic_time = 300

-- Short_Timeout_Time
abbrev pub short_timeout_time : ℕ
short_timeout_time = 30

-- Long_Timeout_Time
abbrev pub long_timeout_time : ℕ
long_timeout_time = 900

-- Aggregate_Wait_Time
abbrev pub aggregate_wait_time : ℕ
aggregate_wait_time = 20

-- the time of the current-while timer, by a Timeout bit (short or not)
abbrev pub timeout_time : Bool → Ticks
timeout_time short = ticks (cond short short_timeout_time long_timeout_time)

-- a timer that holds 0 in a state that uses it has run out
abbrev pub ran_out : Ticks → Bool
ran_out t = eqb t.0 0

-- a running timer falls by one; a stopped one stays at 0
abbrev pub fallen : Ticks → Ticks
fallen t = ticks (t.0 - 1)

abbrev pub timers_fallen : Timers → Timers
timers_fallen t = timers (fallen t.current) (fallen t.periodic) (fallen t.wait)
