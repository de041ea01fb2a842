-- A port's settings: one set at start (R3.5), changed by a call (R12).
use Rattle.std.specs.Prelude.{Bool, true, false, cond, ◌&&◌, eqb}
use Rattle.frame.specs.declared.state.PortState.{PortState}
use Rattle.port.specs.declared.record.Own.{Own}
use Rattle.port.specs.declared.record.Port.{Port}
use Rattle.machine.specs.declared.states.Receive.TheVariants.{Initialize}
use Rattle.machine.specs.declared.states.Periodic.TheVariants.{NoPeriodic}
use Rattle.machine.specs.declared.states.Mux.TheVariants.{Detached}
use Rattle.machine.specs.declared.states.Selection.TheVariants.{Unselected}
use Rattle.settings.specs.declared.Settings.{Settings}
use Rattle.machine.specs.States.{phase, ticks, timers}
use Rattle.machine.specs.Ages.{no_send, ages}
use Rattle.port.specs.Record.{port, with_own, with_actor, with_ntt}
use Rattle.machine.specs.Bits.{state, alike}
use Rattle.machine.specs.Compare.{same_address, same_block}
use Rattle.port.specs.Receive.{unselected, moved}

abbrev pub own_of : Settings → Own
own_of s = record { address = s.address; key = s.key; priority = s.priority; default = s.default }

-- the actor's state with the settings' own Activity, Timeout and Aggregation
abbrev pub own_bits : Settings → PortState → PortState
own_bits s x =
    state s.activity s.timeout s.aggregation x.synchronization x.collecting x.distributing x.defaulted x.expired

-- key, port priority and Aggregation as they are: what does not make the port UNSELECTED
unfoldable pub same_grouping : Settings → Port → Bool
same_grouping s p = eqb s.key p.own.key && (eqb s.priority p.own.priority && alike s.aggregation p.actor.aggregation)

unfoldable pub same_settings : Settings → Port → Bool
same_settings s p =
    same_grouping s p
    && (same_address s.address p.own.address
    && (alike s.activity p.actor.activity
    && (alike s.timeout p.actor.timeout && same_block s.default p.own.default)))

unfoldable pub regrouped : Settings → Port → Port
regrouped s p = cond (same_grouping s p) p (unselected p)

-- other settings (R12.2, R12.3)
unfoldable pub configured : Settings → Port → Port
configured s p = with_ntt (with_actor (with_own (regrouped s p) (own_of s)) (own_bits s p.actor)) true

-- the test of answer 4 (R2.4)
unfoldable pub lawful : Settings → Bool
lawful s = alike s.default.state.collecting s.default.state.synchronization

-- the record before INITIALIZE (R3.9). Its aggregator is never read: the port is UNSELECTED, so step 4 gives it one.
unfoldable pub blank : Settings → Port
blank s =
    port (phase Initialize NoPeriodic Detached Unselected) 1 true (record { up = false; full = true })
    (own_bits s (state false false false false false false false false))
    (timers (ticks 0) (ticks 0) (ticks 0))
    (ages no_send no_send no_send) (own_of s) s.default

-- INITIALIZE and PORT_DISABLED, as for a partner that has moved (R3.9)
unfoldable pub started : Settings → Port
started s = moved (blank s)
