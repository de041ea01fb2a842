-- What an accepted call makes of a table as a value, step by step (R4): its own change and the receive machine, displaced ports,
-- periodic machines, then steps 3 to 6; and the frames that it sends. Ports are counted from 0 here.
use Rattle.std.specs.Prelude.{ℕ, ◌+◌, cond, List, ◌++◌, map, set, drop, replicate}
use Rattle.frame.specs.Class.{frame_size}
use Rattle.frame.specs.Block.{block_of}
use Rattle.frame.specs.Wire.{actor_part, partner_part, lacpdu, response}
use Rattle.machine.specs.declared.states.Line.{Line}
use Rattle.machine.specs.States.{same_line}
use Rattle.port.specs.declared.record.Port.{Port}
use Rattle.port.specs.Record.{actor_block}
use Rattle.port.specs.Receive.{received, lined}
use Rattle.port.specs.Periodic.{periodic_run}
use Rattle.port.specs.Transmit.{sent, advanced}
use Rattle.settings.specs.declared.Settings.{Settings}
use Rattle.settings.specs.Settings.{configured, same_settings, started}
use Rattle.table.specs.declared.layout.Header.{Header}
use Rattle.table.specs.State.{State, port_of, with_ports, with_port}
use Rattle.trunk.specs.Settled.{settled}
use Rattle.trunk.specs.Displaced.{displaced}

-- the end of step 2, and steps 3 to 6
unfoldable pub worked : Header → List Port → List Port
worked h ps = settled h (map periodic_run ps)

-- the same of a table whose ports have become these
abbrev working : List Port → State → State
working ps s = with_ports (worked s.common ps) s

-- port i becomes q, and everything settles
unfoldable pub after_one : ℕ → Port → State → State
after_one i q s = working (set s.ports i q) s

-- start: every port begins alike, and steps 3 to 6
unfoldable pub after_start : Header → Settings → State
after_start h x = record { common = h; ports = settled h (replicate h.count (started x)) }

-- what port i becomes by an accepted LACPDU: CURRENT
unfoldable pub received_at : ℕ → List ℕ → State → Port
received_at i frame s = received s.common.system (i + 1) (block_of (actor_part frame)) (block_of (partner_part frame)) (port_of s i)

-- an accepted LACPDU on port i, and the ports whose partner it shows to have moved
unfoldable pub after_received : ℕ → List ℕ → State → State
after_received i frame s = working (displaced i (block_of (actor_part frame)) (set s.ports i (received_at i frame s))) s

unfoldable pub after_tick : State → State
after_tick s = working (map advanced s.ports) s

-- link and duplex as they are change nothing
unfoldable pub after_line : ℕ → Line → State → State
after_line i l s = cond (same_line l (port_of s i).line) s (after_one i (lined l (port_of s i)) s)

-- equal settings change nothing
unfoldable pub after_settings : ℕ → Settings → State → State
after_settings i x s = cond (same_settings x (port_of s i)) s (after_one i (configured x (port_of s i)) s)

-- a fetch changes NTT and the ages of its port alone
unfoldable pub after_send : ℕ → State → State
after_send i s = with_port i (sent (port_of s i)) s

-- ---- the outgoing buffer: 124 octets are written, and those after them kept

-- the LACPDU of port i (43.4.16)
unfoldable pub lacpdu_of : State → ℕ → List ℕ
lacpdu_of s i = lacpdu (port_of s i).own.address (actor_block s.common.system (i + 1) (port_of s i)) (port_of s i).partner s.common.delay

-- port i's Response to a Marker
unfoldable pub response_of : State → ℕ → List ℕ → List ℕ
response_of s i frame = response (port_of s i).own.address frame

abbrev pub written_over : List ℕ → List ℕ → List ℕ
written_over frame out = frame ++ drop frame_size out
