-- What a fetch needs of one port (43.4.16), the ages of its sends, and a tick of one port.
use Rattle.std.specs.Prelude.{Bool, true, false, cond, not, ◌&&◌, ◌||◌, Result, Ok, Err}
use Rattle.port.specs.declared.record.Port.{Port}
use Rattle.port.specs.declared.transmit.Undue.{Undue}
use Rattle.port.specs.declared.transmit.Undue.TheVariants.{Nothing, Barred}
use Rattle.port.specs.Record.{with_ntt, with_ages, with_timers}
use Rattle.machine.specs.States.{silent_on}
use Rattle.machine.specs.Time.{timers_fallen}
use Rattle.machine.specs.Ages.{sent_ages, barred, ages_ticked}
use Rattle.port.specs.Periodic.{both_passive}
use Rattle.port.specs.Mux.{rests_mux}
use Rattle.port.specs.Receive.{receive_run}

-- R2.10, then R2.11, then an LACPDU is due
unfoldable pub due : Port → Result (Unit {0}) Undue
due p = cond (not p.ntt || (not p.line.up || not p.line.full)) (Err Nothing) (cond (barred p.ages) (Err Barred) (Ok tt))

-- an LACPDU, and of a port: one is due
abbrev pub goes : Result (Unit {0}) Undue → Bool
goes (Err Nothing) = false
goes (Err Barred) = false
goes (Ok tt) = true

unfoldable pub is_due : Port → Bool
is_due p = goes (due p)

-- sending clears NTT and remembers the send
unfoldable pub sent : Port → Port
sent p = with_ntt (with_ages p (sent_ages p.ages)) false

-- where NTT is cleared (R4.9): LACP off, link up or down; and where the link is up and both are passive (43.4.16)
unfoldable pub silent : Port → Bool
silent p = silent_on p.line (both_passive p)

unfoldable pub ntt_cleared : Port → Port
ntt_cleared p = cond (silent p) (with_ntt p false) p

-- whether step 6 leaves the record as it is: no step of the mux machine applies, and there is no NTT to be cleared (law `step_6_gives-back`)
unfoldable pub is_settled : Port → Bool
is_settled p = rests_mux p && not (p.ntt && silent p)

-- step 1 of a tick (R4.1): timers and ages of sends
unfoldable pub ticked : Port → Port
ticked p = with_ages (with_timers p (timers_fallen p.timers)) (ages_ticked p.ages)

-- what a tick does to one port in steps 1 and 2, but for its periodic machine
unfoldable pub advanced : Port → Port
advanced p = receive_run (ticked p)
