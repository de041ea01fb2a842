-- States and timers with one of them changed.
use Rattle.std.specs.Prelude.{ℕ, Bool, not, ◌&&◌, ◌||◌}
use Rattle.machine.specs.declared.states.Receive.{Receive}
use Rattle.machine.specs.declared.states.Periodic.{Periodic}
use Rattle.machine.specs.declared.states.Mux.{Mux}
use Rattle.machine.specs.declared.states.Selection.{Selection}
use Rattle.machine.specs.declared.states.Phase.{Phase}
use Rattle.machine.specs.declared.states.Line.{Line}
use Rattle.machine.specs.declared.states.Ticks.{Ticks}
use Rattle.machine.specs.declared.states.Timers.{Timers}
use Rattle.machine.specs.Bits.{alike}

abbrev pub phase : Receive → Periodic → Mux → Selection → Phase
phase r q m s = record { receive = r; periodic = q; mux = m; selected = s }

abbrev pub phase_receive : Receive → Phase → Phase
phase_receive r h = phase r h.periodic h.mux h.selected

abbrev pub phase_periodic : Periodic → Phase → Phase
phase_periodic q h = phase h.receive q h.mux h.selected

abbrev pub phase_mux : Mux → Phase → Phase
phase_mux m h = phase h.receive h.periodic m h.selected

abbrev pub phase_selected : Selection → Phase → Phase
phase_selected s h = phase h.receive h.periodic h.mux s

abbrev pub ticks : ℕ → Ticks
ticks n = record { 0 = n }

abbrev pub timers : Ticks → Ticks → Ticks → Timers
timers c q w = record { current = c; periodic = q; wait = w }

abbrev pub timers_current : Ticks → Timers → Timers
timers_current time t = timers time t.periodic t.wait

abbrev pub timers_periodic : Ticks → Timers → Timers
timers_periodic time t = timers t.current time t.wait

abbrev pub timers_wait : Ticks → Timers → Timers
timers_wait time t = timers t.current t.periodic time

-- LACP is not enabled, the port is not enabled, or both ends are passive
abbrev pub quiet_on : Line → Bool → Bool
quiet_on l passive = not l.full || (not l.up || passive)

-- LACP is not enabled, or the port is enabled and both ends are passive
abbrev pub silent_on : Line → Bool → Bool
silent_on l passive = not l.full || (l.up && passive)

abbrev pub same_line : Line → Line → Bool
same_line x y = alike x.up y.up && alike x.full y.full
