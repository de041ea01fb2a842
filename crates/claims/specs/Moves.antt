-- What becomes of a port that a call moves: to another aggregator, or because its partner was seen on another port.
use Rattle.std.specs.Prelude.{ℕ, ◌-◌, ◌<◌, ◌≡◌, ◌≢◌, true, false, List, Ok}
use Rattle.frame.specs.declared.block.Block.{Block}
use Rattle.frame.specs.Block.{block_of}
use Rattle.frame.specs.Wire.{actor_part}
use Rattle.machine.specs.declared.states.Mux.{Mux}
use Rattle.machine.specs.Bits.{with_synchronization}
use Rattle.machine.specs.Mux.{waits}
use Rattle.machine.specs.Time.{aggregate_wait_time}
use Rattle.port.specs.declared.record.Port.{Port}
use Rattle.port.specs.Mux.{placed, descent, entered_all}
use Rattle.port.specs.Receive.{with_state, unselected}
use Rattle.port.specs.Transmit.{ntt_cleared}
use Rattle.table.specs.Table.{count_in, port_at}
use Rattle.trunk.specs.Displaced.{is_displaced}
use Rattle.control.specs.declared.answer.Accepted.TheVariants.{Lacpdu}
use Rattle.control.specs.Call.{Call, receive, is_start}
use Rattle.control.specs.After.{answer, after}
use Rattle.claims.specs.Run.{Takes, AllTake, run, Made}
use Rattle.claims.specs.ThreeSends.{ticks_in, NoneStarts}

-- a port begins to wait: it is not attached, and its timer has just been started
pub record Begins (p : Port) : Type 0 where
  pub waiting : waits p.phase.mux ≡ true
  pub whole : p.timers.wait.0 ≡ aggregate_wait_time

-- from a mux state, through every one that leads down, to the aggregator that the port holds now
pub record Descended (m : Mux) (q : Port) : Type 0 where
  pub from : Port
  pub state : from.phase.mux ≡ m
  pub through : q ≡ ntt_cleared (placed q.aggregator (entered_all (descent m) (unselected from)))

-- 13: a port that holds another aggregator after a call than before it waits, so no frame reaches two aggregators; and unless the call was a
-- start, which makes the table anew, it went through every state that leads down
pub record MovedOver (c : Call) (t : List ℕ) (i : ℕ) : Type 0 where
  pub begins : Begins (port_at (after c t) i)
  pub down : is_start c ≡ false → Descended (port_at t i).phase.mux (port_at (after c t) i)

abbrev pub OneAggregator : Type 0
OneAggregator = (t : List ℕ) → Made t → (c : Call) → Takes c → (i : ℕ) → i < count_in t
    → (port_at (after c t) i).aggregator ≢ (port_at t i).aggregator → MovedOver c t i

-- 17: along calls with fewer ticks among them than aggregate_wait_time has, who begins to wait goes on waiting; so who does not wait after them holds
-- what it held before them, and all along
pub record Unmoved (t : List ℕ) (cs : List Call) (i : ℕ) : Type 0 where
  pub waits-on : Begins (port_at t i) → waits (port_at (run t cs) i).phase.mux ≡ true
  pub held : waits (port_at (run t cs) i).phase.mux ≡ false → (port_at (run t cs) i).aggregator ≡ (port_at t i).aggregator

abbrev pub NoMoveUnseen : Type 0
NoMoveUnseen = (t : List ℕ) → Made t → (cs : List Call) → AllTake cs → NoneStarts t cs → ticks_in cs < aggregate_wait_time → (i : ℕ) → i < count_in t → Unmoved t cs i

-- ---- an accepted LACPDU, and the ports that it does not name

-- what is left of a port whose partner has moved: its default block without Synchronization, and it is selected anew
pub record Forgotten (p q : Port) : Type 0 where
  pub partner : q.partner ≡ with_state p.own.default (with_synchronization p.own.default.state false)
  pub defaulted : q.actor.defaulted ≡ true
  pub expired : q.actor.expired ≡ false
  pub begins : Begins q

-- steps 3 to 6 at most: everything but mux state, Selected, aggregator, wait timer, NTT and the three bits that say the mux state is as it was
pub record Resettled (p q : Port) : Type 0 where
  pub receive : q.phase.receive ≡ p.phase.receive
  pub periodic : q.phase.periodic ≡ p.phase.periodic
  pub line : q.line ≡ p.line
  pub current : q.timers.current ≡ p.timers.current
  pub pace : q.timers.periodic ≡ p.timers.periodic
  pub ages : q.ages ≡ p.ages
  pub own : q.own ≡ p.own
  pub partner : q.partner ≡ p.partner
  pub activity : q.actor.activity ≡ p.actor.activity
  pub timeout : q.actor.timeout ≡ p.actor.timeout
  pub aggregation : q.actor.aggregation ≡ p.actor.aggregation
  pub defaulted : q.actor.defaulted ≡ p.actor.defaulted
  pub expired : q.actor.expired ≡ p.actor.expired

-- 14: a disabled port whose partner an accepted LACPDU shows on port n forgets it, and any other port but n is settled anew at most
pub record Elsewhere (a : Block) (p q : Port) : Type 0 where
  pub displaced : is_displaced a p ≡ true → Forgotten p q
  pub others : is_displaced a p ≡ false → Resettled p q

abbrev pub MovedForgets : Type 0
MovedForgets = (t : List ℕ) → Made t → (n : ℕ) (frame out : List ℕ) → Takes (receive n frame out) → answer (receive n frame out) t ≡ Ok Lacpdu
    → (i : ℕ) → i < count_in t → i ≢ n - 1 → Elsewhere (block_of (actor_part frame)) (port_at t i) (port_at (after (receive n frame out) t) i)
