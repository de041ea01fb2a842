-- A record in range, taken apart into what each of its fields holds and put together again; and each step of a port keeps it so: timers are
-- started within their times and fall, ages rise up to the limit, and what is recorded as the partner is a block that fits. Assumes nothing.
use Prim.Native.Nat.{ℕ, ◌+◌, ◌-◌, ◌≤◌, ◌<◌}
use mathlib.Core.Path.{◌≡◌, refl}
use mathlib.Core.Bool.{Bool, true, false, cond, ◌&&◌}
use native.Mathlib.Omega.{arith}
use lib.Dec.{leb}
use borrow.Author.Tests.{leb-true, leb-false, le-leb, lt-ltb}
use Rattle.std.specs.Prelude.{Option, Some, None, is_none}
use Rattle.octets.specs.Octets.{within, fits}
use Rattle.octets.proofs.RangeLaws.{both, both_true}
use Rattle.frame.specs.declared.block.Block.{Block}
use Rattle.frame.specs.declared.block.SystemId.{SystemId}
use Rattle.frame.specs.Block.{address_fits, block_fits}
use Rattle.machine.specs.declared.states.Receive.{Receive}
use Rattle.machine.specs.declared.states.Receive.TheVariants.{Initialize, PortDisabled, Expired, LacpDisabled, Defaulted, Current}
use Rattle.machine.specs.declared.states.Periodic.{Periodic}
use Rattle.machine.specs.declared.states.Periodic.TheVariants.{NoPeriodic, FastPeriodic, SlowPeriodic, PeriodicTx}
use Rattle.machine.specs.declared.states.Mux.{Mux}
use Rattle.machine.specs.declared.states.Mux.TheVariants.{Detached, Waiting, Attached, Collecting, Distributing}
use Rattle.machine.specs.declared.states.Selection.{Selection}
use Rattle.machine.specs.declared.states.Selection.TheVariants.{Unselected, Selected}
use Rattle.machine.specs.declared.states.Line.{Line}
use Rattle.machine.specs.declared.states.Ticks.{Ticks}
use Rattle.machine.specs.declared.states.Timers.{Timers}
use Rattle.machine.specs.declared.states.Ages.{Ages}
use Rattle.machine.specs.Ages.{forgotten_age, no_send, ages, aged, ages_ticked, sent_ages}
use Rattle.machine.specs.Compare.{same_party, same_view}
use Rattle.machine.specs.Mux.{waits, wait_time}
use Rattle.machine.specs.Periodic.{periodic_time}
use Rattle.machine.specs.States.{ticks, timers_current, timers_periodic, timers_wait}
use Rattle.machine.specs.Time.{long_timeout_time, slow_periodic_time, aggregate_wait_time, timers_fallen, timeout_time}
use Rattle.port.specs.declared.record.Own.{Own}
use Rattle.port.specs.declared.record.Port.{Port}
use Rattle.port.specs.Record.{with_selected, with_aggregator, with_ntt, with_line, actor_block}
use Rattle.port.specs.Range.{timers_in_range, age_in_range, ages_in_range, values_in_range, own_fits, port_in_range}
use Rattle.port.specs.Mux.{mux_entered, mux_taken, mux_choice, mux_step, mux_run, detached, placed, attached_if}
use Rattle.port.specs.Periodic.{periodic_entered, periodic_taken, periodic_choice, periodic_step, periodic_run}
use Rattle.port.specs.Receive.{record_default, record_pdu, update_selected, update_default_selected, update_ntt, unselected, initialized, port_disabled, expired, lacp_disabled, defaulted, pdu_recorded, current, moved, received, down, lined, receive_taken, receive_choice, receive_step, receive_run}
use Rattle.port.specs.Transmit.{sent, silent, ntt_cleared, ticked, advanced}

-- ---- timers and ages

pub wait-fits : (t : Timers) → timers_in_range t ≡ true → t.wait.0 < 256
unfolding timers_in_range
wait-fits t e =
    let others = (both (leb t.current.0 long_timeout_time) (leb t.periodic.0 slow_periodic_time && leb t.wait.0 aggregate_wait_time) e).1 in
    let least = (both (leb t.periodic.0 slow_periodic_time) (leb t.wait.0 aggregate_wait_time) others).1 in
    let most : t.wait.0 ≤ aggregate_wait_time = leb-true t.wait.0 aggregate_wait_time least in
    omega arith

-- a timer anew
periodic-timer-ranged : (n : Ticks) (t : Timers) → leb n.0 slow_periodic_time ≡ true → timers_in_range t ≡ true → timers_in_range (timers_periodic n t) ≡ true
unfolding timers_in_range
periodic-timer-ranged n t h e =
    let a = both (leb t.current.0 long_timeout_time) _ e in
    let b = both (leb t.periodic.0 slow_periodic_time) _ a.1 in
    both_true a.0 (both_true h b.1)

pub currently_ranged : (n : Ticks) (t : Timers) → leb n.0 long_timeout_time ≡ true → timers_in_range t ≡ true → timers_in_range (timers_current n t) ≡ true
unfolding timers_in_range
currently_ranged n t h e = both_true h (both (leb t.current.0 long_timeout_time) _ e).1

waiting-ranged : (n : Ticks) (t : Timers) → leb n.0 aggregate_wait_time ≡ true → timers_in_range t ≡ true → timers_in_range (timers_wait n t) ≡ true
unfolding timers_in_range
waiting-ranged n t h e =
    let a = both (leb t.current.0 long_timeout_time) _ e in
    let b = both (leb t.periodic.0 slow_periodic_time) _ a.1 in
    both_true a.0 (both_true b.0 h)

-- a tick
falls : (n most : ℕ) → leb n most ≡ true → leb (n - 1) most ≡ true
falls n most e = let h : n ≤ most = leb-true n most e in le-leb (n - 1) most (omega arith)

pub fallen-ranged : (t : Timers) → timers_in_range t ≡ true → timers_in_range (timers_fallen t) ≡ true
unfolding timers_in_range
fallen-ranged t e =
    let a = both (leb t.current.0 long_timeout_time) _ e in
    let b = both (leb t.periodic.0 slow_periodic_time) _ a.1 in
    both_true (falls t.current.0 long_timeout_time a.0) (both_true (falls t.periodic.0 slow_periodic_time b.0) (falls t.wait.0 aggregate_wait_time b.1))

aged-ranged : (a : Option ℕ) → age_in_range (aged a) ≡ true
aged-ranged None = refl
aged-ranged (Some n) = by (leb (forgotten_age - 1) n) refl
  where
    by : (b : Bool) → leb (forgotten_age - 1) n ≡ b → age_in_range (cond b no_send (Some (n + 1))) ≡ true
    by true e = refl
    by false e = let h : n < forgotten_age - 1 = leb-false (forgotten_age - 1) n e in rw (lt-ltb (n + 1) forgotten_age (omega arith))

pub ages-ranged : (g : Ages) → ages_in_range (ages_ticked g) ≡ true
unfolding ages_in_range
ages-ranged g = both_true (aged-ranged g.first) (both_true (aged-ranged g.second) (aged-ranged g.third))

-- a send: what is remembered moves, and the new one has age 0
sent-ages : (g : Ages) → ages_in_range g ≡ true → ages_in_range (sent_ages g) ≡ true
unfolding ages_in_range
sent-ages g e = by (is_none g.first) (is_none g.second)
  where
    by : (a b : Bool)
        → ages_in_range (cond a (ages (Some 0) g.second g.third) (cond b (ages (Some 0) g.first g.third) (ages (Some 0) g.first g.second))) ≡ true
    by true b = (both (age_in_range g.first) _ e).1
    by false true = both_true (both (age_in_range g.first) _ e).0 (both (age_in_range g.second) _ (both (age_in_range g.first) _ e).1).1
    by false false = both_true (both (age_in_range g.first) _ e).0 (both (age_in_range g.second) _ (both (age_in_range g.first) _ e).1).0

-- the times with which the machines start them
periodic_time-le : (s : Periodic) → leb (periodic_time s).0 slow_periodic_time ≡ true
periodic_time-le NoPeriodic = refl
periodic_time-le FastPeriodic = refl
periodic_time-le SlowPeriodic = refl
periodic_time-le PeriodicTx = refl

pub time-le : (b : Bool) → leb (timeout_time b).0 long_timeout_time ≡ true
time-le true = refl
time-le false = refl

wait_time-le : (m : Mux) → leb (wait_time m).0 aggregate_wait_time ≡ true
wait_time-le Detached = refl
wait_time-le Waiting = refl
wait_time-le Attached = refl
wait_time-le Collecting = refl
wait_time-le Distributing = refl

-- ---- settings

pub default-fits : (o : Own) → own_fits o ≡ true → block_fits o.default ≡ true
unfolding own_fits
default-fits o e = (both (fits o.priority) _ (both (fits o.key) _ (both (address_fits o.address) _ e).1).1).1

-- ---- a record

pub record Ranged (count : ℕ) (p : Port) : Type 0 where
  pub aggregator : within 1 p.aggregator count ≡ true
  pub timers : timers_in_range p.timers ≡ true
  pub ages : ages_in_range p.ages ≡ true
  pub own : own_fits p.own ≡ true
  pub partner : block_fits p.partner ≡ true

pub ranged : (count : ℕ) (p : Port) → port_in_range count p ≡ true → Ranged count p
unfolding port_in_range values_in_range
ranged count p h =
    let e = both (values_in_range count p) (own_fits p.own && block_fits p.partner) h in
    let v = both (within 1 p.aggregator count) (timers_in_range p.timers && ages_in_range p.ages) e.0 in
    let t = both (timers_in_range p.timers) (ages_in_range p.ages) v.1 in
    let f = both (own_fits p.own) (block_fits p.partner) e.1 in
    record { aggregator = v.0; timers = t.0; ages = t.1; own = f.0; partner = f.1 }

pub ranged-is : (count : ℕ) (p : Port) → Ranged count p → port_in_range count p ≡ true
unfolding port_in_range values_in_range
ranged-is count p r = both_true (both_true r.aggregator (both_true r.timers r.ages)) (both_true r.own r.partner)

pub ranged-values : (count : ℕ) (p : Port) → port_in_range count p ≡ true → values_in_range count p ≡ true
unfolding port_in_range
ranged-values count p e = (both (values_in_range count p) _ e).0

-- ---- each step of a port keeps its record in range

module _ (count : ℕ) where
  pub if-ranged : (b : Bool) (q p : Port) → port_in_range count q ≡ true → port_in_range count p ≡ true → port_in_range count (cond b q p) ≡ true
  if-ranged true q p h e = h
  if-ranged false q p h e = e

  -- ---- the mux machine

  taken-ranged : (k : Option Mux) (p : Port) → port_in_range count p ≡ true → port_in_range count (mux_taken k p) ≡ true
  taken-ranged None p e = e
  taken-ranged (Some m) p e =
      let r = ranged count p e in
      ranged-is count (mux_entered m p) (record {
        aggregator = r.aggregator;
        timers = waiting-ranged (wait_time m) p.timers (wait_time-le m) r.timers;
        ages = r.ages;
        own = r.own;
        partner = r.partner;
      })

  step-ranged : (ready : Bool) (p : Port) → port_in_range count p ≡ true → port_in_range count (mux_step ready p) ≡ true
  unfolding mux_step
  step-ranged ready p e = taken-ranged (mux_choice ready p) p e

  pub mux-ranged : (p : Port) → port_in_range count p ≡ true → port_in_range count (mux_run p) ≡ true
  unfolding mux_run
  mux-ranged p e = step-ranged false (mux_step false p) (step-ranged false p e)

  selected-ranged : (s : Selection) (p : Port) → port_in_range count p ≡ true → port_in_range count (with_selected p s) ≡ true
  unfolding port_in_range values_in_range
  selected-ranged s p e = e

  aggregator-ranged : (k : ℕ) (p : Port) → within 1 k count ≡ true → port_in_range count p ≡ true → port_in_range count (with_aggregator p k) ≡ true
  aggregator-ranged k p h e =
      let r = ranged count p e in
      ranged-is count (with_aggregator p k) (record { aggregator = h; timers = r.timers; ages = r.ages; own = r.own; partner = r.partner })

  pub detached-ranged : (p : Port) → port_in_range count p ≡ true → port_in_range count (detached p) ≡ true
  unfolding detached
  detached-ranged p e =
      let q = with_selected p Unselected in
      step-ranged false (mux_step false (mux_step false q)) (step-ranged false (mux_step false q) (step-ranged false q (selected-ranged Unselected p e)))

  pub placed-ranged : (k : ℕ) (p : Port) → within 1 k count ≡ true → port_in_range count p ≡ true → port_in_range count (placed k p) ≡ true
  unfolding placed
  placed-ranged k p h e =
      step-ranged false (with_selected (with_aggregator p k) Selected) (selected-ranged Selected (with_aggregator p k) (aggregator-ranged k p h e))

  pub attached-ranged : (ready : Bool) (p : Port) → port_in_range count p ≡ true → port_in_range count (attached_if ready p) ≡ true
  unfolding attached_if
  attached-ranged ready p e = if-ranged (waits p.phase.mux) (mux_step ready p) p (step-ranged ready p e) e

  -- ---- a tick, a send, and NTT

  pub ticked-ranged : (p : Port) → port_in_range count p ≡ true → port_in_range count (ticked p) ≡ true
  unfolding ticked
  ticked-ranged p e =
      let r = ranged count p e in
      ranged-is count (ticked p) (record {
        aggregator = r.aggregator;
        timers = fallen-ranged p.timers r.timers;
        ages = ages-ranged p.ages;
        own = r.own;
        partner = r.partner;
      })

  pub sent-ranged : (p : Port) → port_in_range count p ≡ true → port_in_range count (sent p) ≡ true
  unfolding sent
  sent-ranged p e =
      let r = ranged count p e in
      ranged-is count (sent p) (record { aggregator = r.aggregator; timers = r.timers; ages = sent-ages p.ages r.ages; own = r.own; partner = r.partner })

  ntt-ranged : (b : Bool) (p : Port) → port_in_range count p ≡ true → port_in_range count (with_ntt p b) ≡ true
  unfolding port_in_range values_in_range
  ntt-ranged b p e = e

  pub cleared_ranged : (p : Port) → port_in_range count p ≡ true → port_in_range count (ntt_cleared p) ≡ true
  unfolding ntt_cleared
  cleared_ranged p e = if-ranged (silent p) (with_ntt p false) p (ntt-ranged false p e) e

  -- ---- the periodic machine

  periodic_taken-ranged : (k : Option Periodic) (p : Port) → port_in_range count p ≡ true → port_in_range count (periodic_taken k p) ≡ true
  periodic_taken-ranged None p e = e
  periodic_taken-ranged (Some s) p e =
      let r = ranged count p e in
      ranged-is count (periodic_entered s p) (record {
        aggregator = r.aggregator;
        timers = periodic-timer-ranged (periodic_time s) p.timers (periodic_time-le s) r.timers;
        ages = r.ages;
        own = r.own;
        partner = r.partner;
      })

  pub periodic-ranged : (p : Port) → port_in_range count p ≡ true → port_in_range count (periodic_run p) ≡ true
  unfolding periodic_run periodic_step
  periodic-ranged p e =
      let q = periodic_taken (periodic_choice p) p in
      periodic_taken-ranged (periodic_choice q) q (periodic_taken-ranged (periodic_choice p) p e)

  -- ---- the receive machine

  disabled_ranged : (p : Port) → port_in_range count p ≡ true → port_in_range count (port_disabled p) ≡ true
  unfolding port_disabled block_fits
  disabled_ranged p e =
      let r = ranged count p e in
      ranged-is count (port_disabled p) (record {
        aggregator = r.aggregator;
        timers = currently_ranged (ticks 0) p.timers refl r.timers;
        ages = r.ages;
        own = r.own;
        partner = r.partner;
      })

  expired-ranged : (p : Port) → port_in_range count p ≡ true → port_in_range count (expired p) ≡ true
  unfolding expired block_fits
  expired-ranged p e =
      let r = ranged count p e in
      ranged-is count (expired p) (record {
        aggregator = r.aggregator;
        timers = currently_ranged (ticks 30) p.timers refl r.timers;
        ages = r.ages;
        own = r.own;
        partner = r.partner;
      })

  initialized-ranged : (p : Port) → port_in_range count p ≡ true → port_in_range count (initialized p) ≡ true
  unfolding initialized record_default
  initialized-ranged p e =
      let r = ranged count p e in
      ranged-is count (initialized p) (record {
        aggregator = r.aggregator;
        timers = currently_ranged (ticks 0) p.timers refl r.timers;
        ages = r.ages;
        own = r.own;
        partner = default-fits p.own r.own;
      })

  off_ranged : (p : Port) → port_in_range count p ≡ true → port_in_range count (lacp_disabled p) ≡ true
  unfolding lacp_disabled record_default block_fits
  off_ranged p e =
      let r = ranged count p e in
      ranged-is count (lacp_disabled p) (record {
        aggregator = r.aggregator;
        timers = currently_ranged (ticks 0) p.timers refl r.timers;
        ages = r.ages;
        own = r.own;
        partner = default-fits p.own r.own;
      })

  recorded-ranged : (p : Port) → port_in_range count p ≡ true → port_in_range count (record_default p) ≡ true
  unfolding record_default
  recorded-ranged p e =
      let r = ranged count p e in
      ranged-is count (record_default p) (record {
        aggregator = r.aggregator;
        timers = r.timers;
        ages = r.ages;
        own = r.own;
        partner = default-fits p.own r.own;
      })

  pub if-unselected : (b : Bool) (p : Port) → port_in_range count p ≡ true → port_in_range count (cond b p (unselected p)) ≡ true
  unfolding port_in_range values_in_range
  if-unselected true p e = e
  if-unselected false p e = e

  defaulted-ranged : (p : Port) → port_in_range count p ≡ true → port_in_range count (defaulted p) ≡ true
  unfolding defaulted update_default_selected update_selected
  defaulted-ranged p e =
      let q = record_default (cond (same_party p.own.default p.partner) p (unselected p)) in
      let r = ranged count q (recorded-ranged _ (if-unselected (same_party p.own.default p.partner) p e)) in
      ranged-is count (defaulted p) (record {
        aggregator = r.aggregator;
        timers = currently_ranged (ticks 0) q.timers refl r.timers;
        ages = r.ages;
        own = r.own;
        partner = r.partner;
      })

  receive-taken : (k : Option Receive) (p : Port) → port_in_range count p ≡ true → port_in_range count (receive_taken k p) ≡ true
  receive-taken None p e = e
  receive-taken (Some Initialize) p e = initialized-ranged p e
  receive-taken (Some PortDisabled) p e = disabled_ranged p e
  receive-taken (Some Expired) p e = expired-ranged p e
  receive-taken (Some LacpDisabled) p e = off_ranged p e
  receive-taken (Some Defaulted) p e = defaulted-ranged p e
  receive-taken (Some Current) p e = e

  pub receive-ranged : (p : Port) → port_in_range count p ≡ true → port_in_range count (receive_run p) ≡ true
  unfolding receive_run receive_step
  receive-ranged p e =
      let q = receive_taken (receive_choice p) p in
      receive-taken (receive_choice q) q (receive-taken (receive_choice p) p e)

  pub advanced-ranged : (p : Port) → port_in_range count p ≡ true → port_in_range count (advanced p) ≡ true
  unfolding advanced
  advanced-ranged p e = receive-ranged (ticked p) (ticked-ranged p e)

  pub moved-ranged : (p : Port) → port_in_range count p ≡ true → port_in_range count (moved p) ≡ true
  unfolding moved port_disabled initialized record_default block_fits
  moved-ranged p e =
      let r = ranged count p e in
      ranged-is count (moved p) (record {
        aggregator = r.aggregator;
        timers = currently_ranged (ticks 0) p.timers refl r.timers;
        ages = r.ages;
        own = r.own;
        partner = default-fits p.own r.own;
      })

  -- ---- an accepted LACPDU records the frame's block

  pdu_ranged : (us a b : Block) (p : Port) → block_fits a ≡ true → port_in_range count p ≡ true → port_in_range count (pdu_recorded us a b p) ≡ true
  unfolding pdu_recorded record_pdu update_ntt update_selected block_fits
  pdu_ranged us a b p h e =
      let q = cond (same_party a p.partner) p (unselected p) in
      let s = if-unselected (same_party a p.partner) p e in
      let r = ranged count (cond (same_view b us) q (with_ntt q true)) (if-ranged (same_view b us) q (with_ntt q true) s (ntt-ranged true q s)) in
      ranged-is count (pdu_recorded us a b p) (record { aggregator = r.aggregator; timers = r.timers; ages = r.ages; own = r.own; partner = h })

  pub received-ranged : (system : SystemId) (n : ℕ) (a b : Block) (p : Port) → block_fits a ≡ true → port_in_range count p ≡ true
      → port_in_range count (received system n a b p) ≡ true
  unfolding received current
  received-ranged system n a b p h e =
      let us = actor_block system n p in
      let r = ranged count (pdu_recorded us a b p) (pdu_ranged us a b p h e) in
      ranged-is count (received system n a b p) (record {
        aggregator = r.aggregator;
        timers = currently_ranged (timeout_time p.actor.timeout) (pdu_recorded us a b p).timers (time-le p.actor.timeout) r.timers;
        ages = r.ages;
        own = r.own;
        partner = r.partner;
      })

  -- ---- a link or duplex change

  line-ranged : (l : Line) (p : Port) → port_in_range count p ≡ true → port_in_range count (with_line p l) ≡ true
  unfolding port_in_range values_in_range
  line-ranged l p e = e

  pub lined-ranged : (l : Line) (p : Port) → port_in_range count p ≡ true → port_in_range count (lined l p) ≡ true
  unfolding lined
  lined-ranged l p e =
      let fell = receive_run (with_line p (down p.line)) in
      receive-ranged (with_line fell l) (line-ranged l fell (receive-ranged (with_line p (down p.line)) (line-ranged (down p.line) p e)))
