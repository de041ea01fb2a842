-- The number that stands for each state in a record's octets, and the state that a number stands for: the first where there is none.
use Rattle.std.specs.Prelude.{ℕ, cond, eqb}
use Rattle.machine.specs.declared.states.Receive.{Receive}
use Rattle.machine.specs.declared.states.Receive.TheVariants.{Initialize, PortDisabled, Expired, LacpDisabled, Defaulted, Current}
use Rattle.machine.specs.declared.states.Periodic.{Periodic}
use Rattle.machine.specs.declared.states.Periodic.TheVariants.{NoPeriodic, FastPeriodic, SlowPeriodic, PeriodicTx}
use Rattle.machine.specs.declared.states.Mux.{Mux}
use Rattle.machine.specs.declared.states.Mux.TheVariants.{Detached, Waiting, Attached, Collecting, Distributing}
use Rattle.machine.specs.declared.states.Selection.{Selection}
use Rattle.machine.specs.declared.states.Selection.TheVariants.{Unselected, Selected}

-- the states of the receive machine (43.4.12)
abbrev pub receive_code : Receive → ℕ
receive_code Initialize = 0
receive_code PortDisabled = 1
receive_code Expired = 2
receive_code LacpDisabled = 3
receive_code Defaulted = 4
receive_code Current = 5

abbrev pub receive_of : ℕ → Receive
receive_of n =
    cond (eqb n 1) PortDisabled (cond (eqb n 2) Expired (cond (eqb n 3) LacpDisabled (cond (eqb n 4) Defaulted (cond (eqb n 5) Current Initialize))))

-- the states of the periodic machine (43.4.13)
abbrev pub periodic_code : Periodic → ℕ
periodic_code NoPeriodic = 0
periodic_code FastPeriodic = 1
periodic_code SlowPeriodic = 2
periodic_code PeriodicTx = 3

abbrev pub periodic_of : ℕ → Periodic
periodic_of n = cond (eqb n 1) FastPeriodic (cond (eqb n 2) SlowPeriodic (cond (eqb n 3) PeriodicTx NoPeriodic))

-- the states of the mux machine, independent control (43.4.15)
abbrev pub mux_code : Mux → ℕ
mux_code Detached = 0
mux_code Waiting = 1
mux_code Attached = 2
mux_code Collecting = 3
mux_code Distributing = 4

abbrev pub mux_of : ℕ → Mux
mux_of n = cond (eqb n 1) Waiting (cond (eqb n 2) Attached (cond (eqb n 3) Collecting (cond (eqb n 4) Distributing Detached)))

-- the variable Selected (43.4.8)
abbrev pub selected_code : Selection → ℕ
selected_code Unselected = 0
selected_code Selected = 1

abbrev pub selected_of : ℕ → Selection
selected_of n = cond (eqb n 1) Selected Unselected
