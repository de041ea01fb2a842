-- One port's record: a builder, and what it is with one thing changed. antt has no record update, so everything else is made of these.
use Rattle.std.specs.Prelude.{ℕ, Bool}
use Rattle.frame.specs.declared.block.Block.{Block}
use Rattle.frame.specs.declared.block.SystemId.{SystemId}
use Rattle.frame.specs.declared.state.PortState.{PortState}
use Rattle.machine.specs.declared.states.Receive.{Receive}
use Rattle.machine.specs.declared.states.Periodic.{Periodic}
use Rattle.machine.specs.declared.states.Mux.{Mux}
use Rattle.machine.specs.declared.states.Selection.{Selection}
use Rattle.machine.specs.declared.states.Phase.{Phase}
use Rattle.machine.specs.declared.states.Line.{Line}
use Rattle.machine.specs.declared.states.Ticks.{Ticks}
use Rattle.machine.specs.declared.states.Timers.{Timers}
use Rattle.machine.specs.declared.states.Ages.{Ages}
use Rattle.machine.specs.States.{phase_receive, phase_periodic, phase_mux, phase_selected, timers_current, timers_periodic, timers_wait}
use Rattle.port.specs.declared.record.Own.{Own}
use Rattle.port.specs.declared.record.Port.{Port}

abbrev pub port : Phase → ℕ → Bool → Line → PortState → Timers → Ages → Own → Block → Port
port h a n l s t g o b = record { phase = h; aggregator = a; ntt = n; line = l; actor = s; timers = t; ages = g; own = o; partner = b }

-- ---- one group changed

abbrev pub with_phase : Port → Phase → Port
with_phase p h = port h p.aggregator p.ntt p.line p.actor p.timers p.ages p.own p.partner

abbrev pub with_aggregator : Port → ℕ → Port
with_aggregator p a = port p.phase a p.ntt p.line p.actor p.timers p.ages p.own p.partner

abbrev pub with_ntt : Port → Bool → Port
with_ntt p n = port p.phase p.aggregator n p.line p.actor p.timers p.ages p.own p.partner

abbrev pub with_line : Port → Line → Port
with_line p l = port p.phase p.aggregator p.ntt l p.actor p.timers p.ages p.own p.partner

abbrev pub with_actor : Port → PortState → Port
with_actor p s = port p.phase p.aggregator p.ntt p.line s p.timers p.ages p.own p.partner

abbrev pub with_timers : Port → Timers → Port
with_timers p t = port p.phase p.aggregator p.ntt p.line p.actor t p.ages p.own p.partner

abbrev pub with_ages : Port → Ages → Port
with_ages p g = port p.phase p.aggregator p.ntt p.line p.actor p.timers g p.own p.partner

abbrev pub with_own : Port → Own → Port
with_own p o = port p.phase p.aggregator p.ntt p.line p.actor p.timers p.ages o p.partner

abbrev pub with_partner : Port → Block → Port
with_partner p b = port p.phase p.aggregator p.ntt p.line p.actor p.timers p.ages p.own b

-- ---- one field of a group changed

abbrev pub with_receive : Port → Receive → Port
with_receive p r = with_phase p (phase_receive r p.phase)

abbrev pub with_periodic : Port → Periodic → Port
with_periodic p q = with_phase p (phase_periodic q p.phase)

abbrev pub with_mux : Port → Mux → Port
with_mux p m = with_phase p (phase_mux m p.phase)

abbrev pub with_selected : Port → Selection → Port
with_selected p s = with_phase p (phase_selected s p.phase)

abbrev pub with_current : Port → Ticks → Port
with_current p time = with_timers p (timers_current time p.timers)

abbrev pub with_periodic_timer : Port → Ticks → Port
with_periodic_timer p time = with_timers p (timers_periodic time p.timers)

abbrev pub with_wait : Port → Ticks → Port
with_wait p time = with_timers p (timers_wait time p.timers)

-- ---- what an LACPDU says of the port itself (43.4.16 a to d): it is port `number` of its system

abbrev pub actor_block : SystemId → ℕ → Port → Block
actor_block system number p = record {
  system = system;
  key = p.own.key;
  port = record { priority = p.own.priority; number = number };
  state = p.actor;
}
