-- The Periodic Transmission machine (43.4.13, figure 43-11).
use Rattle.std.specs.Prelude.{Bool, not, ◌&&◌, ◌||◌, Option, Some, None}
use Rattle.machine.specs.declared.states.Periodic.{Periodic}
use Rattle.port.specs.declared.record.Port.{Port}
use Rattle.machine.specs.States.{quiet_on}
use Rattle.machine.specs.Periodic.{periodic_next, periodic_rests, periodic_time, is_tx}
use Rattle.port.specs.Record.{with_periodic, with_periodic_timer, with_ntt}
use Rattle.machine.specs.Time.{ran_out}

-- Actor and Partner LACP_Activity both Passive
abbrev pub both_passive : Port → Bool
both_passive p = not p.actor.activity && not p.partner.state.activity

-- the machine is to be in NO_PERIODIC (43.4.13)
abbrev pub quiet : Port → Bool
quiet p = quiet_on p.line (both_passive p)

-- the actions on entry
abbrev pub periodic_entered : Periodic → Port → Port
periodic_entered s p = with_ntt (with_periodic_timer (with_periodic p s) (periodic_time s)) (is_tx s || p.ntt)

abbrev pub periodic_taken : Option Periodic → Port → Port
periodic_taken None p = p
periodic_taken (Some s) p = periodic_entered s p

unfoldable pub periodic_choice : Port → Option Periodic
periodic_choice p = periodic_next p.phase.periodic (quiet p) (ran_out p.timers.periodic) p.partner.state.timeout

unfoldable pub periodic_step : Port → Port
periodic_step p = periodic_taken (periodic_choice p) p

-- until no step applies: two steps lead to rest (law `periodic-rests`)
unfoldable pub periodic_run : Port → Port
periodic_run p = periodic_step (periodic_step p)

-- whether the machine leaves the record as it is (law `periodic-gives-back`)
unfoldable pub rests_periodic : Port → Bool
rests_periodic p = periodic_rests p.phase.periodic (quiet p) (ran_out p.timers.periodic) p.partner.state.timeout
