-- A record's 57 octets, group by group, both ways. The offsets of a record stand here and in src/record.rt alone.
use Rattle.std.specs.Prelude.{ℕ, ◌%◌, Bool, List, [], ◌∷◌, ◌++◌, get_or}
use Rattle.octets.specs.Octets.{number_at, number_octets}
use Rattle.frame.specs.declared.state.PortState.{PortState}
use Rattle.frame.specs.State.{state_octet, port_state_of}
use Rattle.frame.specs.Block.{address_at, address_octets, block_of, block_octets}
use Rattle.frame.specs.Wire.{part}
use Rattle.machine.specs.declared.states.Phase.{Phase}
use Rattle.machine.specs.declared.states.Line.{Line}
use Rattle.machine.specs.declared.states.Timers.{Timers}
use Rattle.machine.specs.declared.states.Ages.{Ages}
use Rattle.machine.specs.States.{phase, ticks, timers}
use Rattle.machine.specs.Ages.{ages}
use Rattle.port.specs.declared.record.Own.{Own}
use Rattle.port.specs.declared.record.Port.{Port}
use Rattle.port.specs.Record.{port}
use Rattle.machine.specs.Codes.{receive_code, receive_of, periodic_code, periodic_of, mux_code, mux_of, selected_code, selected_of}
use Rattle.table.specs.Codes.{flag_octet, flag_of, age_octet, age_of}

-- ---- octets 0 to 3: receive state, periodic state, mux state, Selected

abbrev pub phase_octets : Phase → List ℕ
phase_octets h = receive_code h.receive ∷ periodic_code h.periodic ∷ mux_code h.mux ∷ selected_code h.selected ∷ []

abbrev pub phase_in : List ℕ → Phase
phase_in l = phase (receive_of (get_or l 0 0)) (periodic_of (get_or l 1 0)) (mux_of (get_or l 2 0)) (selected_of (get_or l 3 0))

-- ---- octets 4 to 8: aggregator held, NTT, link, duplex, Actor_Oper_Port_State

abbrev pub status_octets : ℕ → Bool → Line → PortState → List ℕ
status_octets aggregator ntt line actor = aggregator ∷ flag_octet ntt ∷ flag_octet line.up ∷ flag_octet line.full ∷ state_octet actor ∷ []

abbrev pub line_in : List ℕ → Line
line_in l = record { up = flag_of (get_or l 6 0); full = flag_of (get_or l 7 0) }

-- ---- octets 9 to 13: current-while, periodic timer, and in one octet the wait timer, of which the low octet is kept

abbrev pub timers_octets : Timers → List ℕ
timers_octets t = number_octets t.current.0 ++ (number_octets t.periodic.0 ++ (t.wait.0 % 256 ∷ []))

abbrev pub timers_in : List ℕ → Timers
timers_in l = timers (ticks (number_at l 9)) (ticks (number_at l 11)) (ticks (get_or l 13 0))

-- ---- octets 14 to 16: ages of sends

abbrev pub ages_octets : Ages → List ℕ
ages_octets g = age_octet g.first ∷ age_octet g.second ∷ age_octet g.third ∷ []

abbrev pub ages_in : List ℕ → Ages
ages_in l = ages (age_of (get_or l 14 0)) (age_of (get_or l 15 0)) (age_of (get_or l 16 0))

-- ---- octets 17 to 41: own address, key, port priority, default partner block

abbrev pub own_octets : Own → List ℕ
own_octets o = address_octets o.address ++ (number_octets o.key ++ (number_octets o.priority ++ block_octets o.default))

abbrev pub own_in : List ℕ → Own
own_in l = record { address = address_at l 17; key = number_at l 23; priority = number_at l 25; default = block_of (part 27 42 l) }

-- ---- the record; octets 42 to 56 are the partner block in force

unfoldable pub encoded : Port → List ℕ
encoded p =
    phase_octets p.phase
    ++ (status_octets p.aggregator p.ntt p.line p.actor
    ++ (timers_octets p.timers
    ++ (ages_octets p.ages
    ++ (own_octets p.own ++ block_octets p.partner))))

unfoldable pub decoded : List ℕ → Port
decoded l =
    port (phase_in l) (get_or l 4 0) (flag_of (get_or l 5 0)) (line_in l) (port_state_of (get_or l 8 0)) (timers_in l) (ages_in l) (own_in l)
    (block_of (part 42 57 l))
