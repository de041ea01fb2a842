-- What a call does to one port in steps 1 and 2 leaves its receive machine at rest in a state that goes with its link and duplex, and its
-- mux part as it was. By cases on the receive state, the link, the duplex and the timer. Assumes nothing.
use Prim.Native.Nat.{ℕ}
use mathlib.Core.Path.{◌≡◌, refl, sym, ap, ◌∙◌, subst}
use mathlib.Core.Bool.{Bool, true, false, cond, not, ◌&&◌, ◌||◌, true≢false, false≢true}
use borrow.Author.Tests.{not-true}
use Rattle.std.specs.Prelude.{Option, Some, None}
use Rattle.octets.proofs.RangeLaws.{both_true}
use Rattle.frame.specs.declared.block.Block.{Block}
use Rattle.frame.specs.declared.block.SystemId.{SystemId}
use Rattle.machine.specs.declared.states.Ages.{Ages}
use Rattle.machine.specs.declared.states.Line.{Line}
use Rattle.machine.specs.declared.states.Mux.{Mux}
use Rattle.machine.specs.declared.states.Periodic.{Periodic}
use Rattle.machine.specs.declared.states.Ticks.{Ticks}
use Rattle.machine.specs.declared.states.Receive.{Receive}
use Rattle.machine.specs.declared.states.Receive.TheVariants.{Initialize, PortDisabled, Expired, LacpDisabled, Defaulted, Current}
use Rattle.machine.specs.Ages.{ages_ticked}
use Rattle.machine.specs.Compare.{same_party, same_view}
use Rattle.machine.specs.Receive.{is_disabled, receive_next}
use Rattle.machine.specs.Time.{slow_periodic_time, ran_out, timeout_time, fallen}
use Rattle.port.specs.declared.record.Port.{Port}
use Rattle.port.specs.Record.{with_line, with_ntt, actor_block}
use Rattle.port.specs.Receive.{record_default, record_pdu, update_selected, update_default_selected, update_ntt, unselected, initialized, port_disabled, expired, lacp_disabled, defaulted, pdu_recorded, current, receive_entered, receive_taken, receive_choice, receive_step, receive_run, moved, received, down, lined}
use Rattle.port.specs.Rest.{goes_with, is_unheard, Resting}
use Rattle.port.specs.Timing.{Timed, uses_periodic, CurrentTimed}
use Rattle.port.specs.Transmit.{sent, ticked, advanced}
use Rattle.port.proofs.TimerLaws.{disabled_timed, expired-timed, off_timed, defaulted-timed, current-timed, ticked-timed}
use Rattle.port.proofs.RestParts.{receive_part, MuxPart, mux_part, ReceiveRests, MuxAgrees, Standing, resting-is, standing, calm_rests, rests_calm}

-- ---- what the receive machine leaves alone

-- the mux part and the aggregator, the periodic machine's state and timer, and the ages of sends
pub record AsidePart : Type 0 where
  pub mux : MuxPart
  pub aggregator : ℕ
  pub state : Periodic
  pub timer : Ticks
  pub ages : Ages

abbrev pub aside : Port → AsidePart
aside p = record { mux = mux_part p; aggregator = p.aggregator; state = p.phase.periodic; timer = p.timers.periodic; ages = p.ages }

default-aside : (b : Bool) (p : Port) → aside (record_default (cond b p (unselected p))) ≡ aside p
unfolding record_default
default-aside true p = refl
default-aside false p = refl

entered-aside : (s : Receive) (p : Port) → aside (receive_entered s p) ≡ aside p
entered-aside Initialize p = unfold initialized record_default in refl
entered-aside PortDisabled p = unfold port_disabled in refl
entered-aside Expired p = unfold expired in refl
entered-aside LacpDisabled p = unfold lacp_disabled record_default in refl
entered-aside Defaulted p = unfold defaulted update_default_selected update_selected in default-aside (same_party p.own.default p.partner) p
entered-aside Current p = refl

taken_aside : (k : Option Receive) (p : Port) → aside (receive_taken k p) ≡ aside p
taken_aside None p = refl
taken_aside (Some s) p = entered-aside s p

run-aside : (p : Port) → aside (receive_run p) ≡ aside p
unfolding receive_run receive_step
run-aside p = taken_aside (receive_choice (receive_step p)) (receive_step p) ∙ taken_aside (receive_choice p) p

-- the rest of a port whose receive machine is at rest
unfoldable pub Steady : AsidePart → Type 0
Steady v = MuxAgrees v.mux × Timed (uses_periodic v.state) slow_periodic_time v.timer

steady : (p : Port) → Standing p → Steady (aside p)
unfolding Steady
steady p s = (s.mux, s.timed)

pub standing-is : (q : Port) → ReceiveRests (receive_part q) → Steady (aside q) → Standing q
unfolding Steady
standing-is q r s = record { receive = r; timed = s.1; mux = s.0 }

pub aside-standing : (p q : Port) → aside q ≡ aside p → Standing p → ReceiveRests (receive_part q) → Standing q
aside-standing p q a s r = standing-is q r (subst Steady (sym a) (steady p s))

-- ---- the states that the receive machine enters

-- where no step applies, a run changes nothing
pub stays-idle : (p : Port) → ReceiveRests (receive_part p) → receive_step p ≡ p
unfolding receive_step receive_choice
stays-idle p r = rw r.stays

-- one step to x, at which the machine rests
entered : (p x : Port) → receive_step p ≡ x → ReceiveRests (receive_part x) → ReceiveRests (receive_part (receive_run p))
unfolding receive_run
entered p x e r = subst ReceiveRests (ap (λ (y : Port). receive_part y) (sym (ap receive_step e ∙ stays-idle x r))) r

disabled_rests : (p : Port) → p.line.up ≡ false → ReceiveRests (receive_part (port_disabled p))
unfolding port_disabled
disabled_rests p u = record { state = rw u; unheard = λ e. refl; stays = rw u; timed = disabled_timed p }

expired-rests : (p : Port) → p.line.up ≡ true → p.line.full ≡ true → ReceiveRests (receive_part (expired p))
unfolding expired
expired-rests p u f = record { state = rw (u, f); unheard = λ e. refl; stays = rw u; timed = expired-timed p }

off_rests : (p : Port) → p.line.up ≡ true → p.line.full ≡ false → ReceiveRests (receive_part (lacp_disabled p))
unfolding lacp_disabled record_default
off_rests p u f = record { state = rw (u, f); unheard = λ e. absurd (false≢true e); stays = rw u; timed = off_timed p }

default-line : (b : Bool) (p : Port) → (record_default (cond b p (unselected p))).line ≡ p.line
unfolding record_default
default-line true p = refl
default-line false p = refl

defaulted-line : (p : Port) → (defaulted p).line ≡ p.line
unfolding defaulted update_default_selected update_selected
defaulted-line p = default-line (same_party p.own.default p.partner) p

defaulted-state : (p : Port) → (defaulted p).phase.receive ≡ Defaulted
unfolding defaulted
defaulted-state p = refl

defaulted-rests : (p : Port) → p.line.up ≡ true → p.line.full ≡ true → ReceiveRests (receive_part (defaulted p))
defaulted-rests p u f =
    let a : (defaulted p).line.up ≡ true = ap (λ (l : Line). l.up) (defaulted-line p) ∙ u in
    let b : (defaulted p).line.full ≡ true = ap (λ (l : Line). l.full) (defaulted-line p) ∙ f in
    record {
      state = rw (defaulted-state p, a, b);
      unheard = λ e. absurd (false≢true (sym (ap is_unheard (defaulted-state p)) ∙ e));
      stays = rw (defaulted-state p, a);
      timed = defaulted-timed p;
    }

-- ---- a run of the receive machine

-- from where it leads to rest: not from INITIALIZE; from PORT_DISABLED with the partner's Synchronization clear; else from a state that goes with the line, EXPIRED with it clear, or
-- with the link down
abbrev leads : Receive → Bool → Bool → Bool → Bool
leads Initialize up full synced = false
leads PortDisabled up full synced = not synced
leads Expired up full synced = not up || (full && not synced)
leads LacpDisabled up full synced = not up || not full
leads Defaulted up full synced = not up || full
leads Current up full synced = not up || full

step_is : (p : Port) (s : Receive) (up full out : Bool) → p.phase.receive ≡ s → p.line.up ≡ up → p.line.full ≡ full → ran_out p.timers.current ≡ out
    → receive_step p ≡ receive_taken (receive_next s up full out) p
unfolding receive_step receive_choice
step_is p s up full out a b c d = rw (a, b, c, d)

-- at rest as it is
here : (p : Port) (s : Receive) (up full out : Bool) → p.phase.receive ≡ s → p.line.up ≡ up → p.line.full ≡ full → ran_out p.timers.current ≡ out
    → goes_with (record { up = up; full = full }) s ≡ true → (is_unheard s ≡ true → p.partner.state.synchronization ≡ false)
    → receive_next s up full out ≡ None → CurrentTimed p → ReceiveRests (receive_part (receive_run p))
here p s up full out a b c d g u n t =
    let r : ReceiveRests (receive_part p) = record { state = rw (a, b, c) g; unheard = λ e. u (ap is_unheard (sym a) ∙ e); stays = rw (a, b, c, d) n; timed = t } in
    entered p p (stays-idle p r) r

run-rests : (p : Port) (s : Receive) (up full out : Bool) → p.phase.receive ≡ s → p.line.up ≡ up → p.line.full ≡ full → ran_out p.timers.current ≡ out
    → leads s up full p.partner.state.synchronization ≡ true → CurrentTimed p → ReceiveRests (receive_part (receive_run p))
run-rests p Initialize up full out a b c d l t = absurd (false≢true l)
run-rests p PortDisabled false full out a b c d l t =
    here p PortDisabled false full out a b c d refl (λ e. not-true p.partner.state.synchronization l) refl t
run-rests p PortDisabled true true out a b c d l t = entered p (expired p) (step_is p PortDisabled true true out a b c d) (expired-rests p b c)
run-rests p PortDisabled true false out a b c d l t = entered p (lacp_disabled p) (step_is p PortDisabled true false out a b c d) (off_rests p b c)
run-rests p Expired false full out a b c d l t = entered p (port_disabled p) (step_is p Expired false full out a b c d) (disabled_rests p b)
run-rests p Expired true false out a b c d l t = absurd (false≢true l)
run-rests p Expired true true true a b c d l t = entered p (defaulted p) (step_is p Expired true true true a b c d) (defaulted-rests p b c)
run-rests p Expired true true false a b c d l t = here p Expired true true false a b c d refl (λ e. not-true p.partner.state.synchronization l) refl t
run-rests p LacpDisabled false full out a b c d l t = entered p (port_disabled p) (step_is p LacpDisabled false full out a b c d) (disabled_rests p b)
run-rests p LacpDisabled true true out a b c d l t = absurd (false≢true l)
run-rests p LacpDisabled true false out a b c d l t = here p LacpDisabled true false out a b c d refl (λ e. absurd (false≢true e)) refl t
run-rests p Defaulted false full out a b c d l t = entered p (port_disabled p) (step_is p Defaulted false full out a b c d) (disabled_rests p b)
run-rests p Defaulted true false out a b c d l t = absurd (false≢true l)
run-rests p Defaulted true true out a b c d l t = here p Defaulted true true out a b c d refl (λ e. absurd (false≢true e)) refl t
run-rests p Current false full out a b c d l t = entered p (port_disabled p) (step_is p Current false full out a b c d) (disabled_rests p b)
run-rests p Current true false out a b c d l t = absurd (false≢true l)
run-rests p Current true true true a b c d l t = entered p (expired p) (step_is p Current true true true a b c d) (expired-rests p b c)
run-rests p Current true true false a b c d l t = here p Current true true false a b c d refl (λ e. absurd (false≢true e)) refl t

abbrev leads_from : Port → Bool
leads_from p = leads p.phase.receive p.line.up p.line.full p.partner.state.synchronization

-- a run on a port whose other parts are steady
run-standing : (p : Port) → Steady (aside p) → leads_from p ≡ true → CurrentTimed p → Standing (receive_run p)
run-standing p s l t =
    standing-is (receive_run p)
    (run-rests p p.phase.receive p.line.up p.line.full (ran_out p.timers.current) refl refl refl refl l t)
    (subst Steady (sym (run-aside p)) s)

-- a port at rest leads to rest
rest-leads : (s : Receive) (up full synced : Bool) → goes_with (record { up = up; full = full }) s ≡ true → (is_unheard s ≡ true → synced ≡ false) → leads s up full synced ≡ true
rest-leads Initialize up full synced g u = absurd (false≢true g)
rest-leads PortDisabled true full synced g u = absurd (false≢true g)
rest-leads PortDisabled false full synced g u = ap not (u refl)
rest-leads Expired false full synced g u = refl
rest-leads Expired true full synced g u = both_true g (ap not (u refl))
rest-leads LacpDisabled false full synced g u = refl
rest-leads LacpDisabled true full synced g u = g
rest-leads Defaulted false full synced g u = refl
rest-leads Defaulted true full synced g u = g
rest-leads Current false full synced g u = refl
rest-leads Current true full synced g u = g

leads-rest : (p : Port) → ReceiveRests (receive_part p) → leads_from p ≡ true
leads-rest p r = rest-leads p.phase.receive p.line.up p.line.full p.partner.state.synchronization r.state r.unheard

-- ---- a tick

ticked-leads : (p : Port) → ReceiveRests (receive_part p) → leads_from (ticked p) ≡ true
unfolding ticked
ticked-leads p r = leads-rest p r

ticked-steady : (p : Port) → CurrentTimed p → Standing p → Steady (aside (ticked p))
unfolding Steady ticked
ticked-steady p c s =
    let t = ticked-timed p (c, s.timed, s.mux.timed) in
    (record { says = s.mux.says; timed = t.2 }, t.1)

pub advanced-standing : (p : Port) → Standing p → Standing (advanced p)
unfolding advanced
advanced-standing p s =
    run-standing (ticked p) (ticked-steady p s.receive.timed s) (ticked-leads p s.receive) (ticked-timed p (s.receive.timed, s.timed, s.mux.timed)).0

-- ---- an accepted LACPDU

abbrev noted : Bool → Bool → Port → Port
noted t v p = cond v (cond t p (unselected p)) (with_ntt (cond t p (unselected p)) true)

recorded-aside : (us a b : Block) (t v : Bool) (p : Port) → aside (record_pdu us a b (noted t v p)) ≡ aside p
unfolding record_pdu
recorded-aside us a b true true p = refl
recorded-aside us a b true false p = refl
recorded-aside us a b false true p = refl
recorded-aside us a b false false p = refl

recorded-line : (us a b : Block) (t v : Bool) (p : Port) → (record_pdu us a b (noted t v p)).line ≡ p.line
unfolding record_pdu
recorded-line us a b true true p = refl
recorded-line us a b true false p = refl
recorded-line us a b false true p = refl
recorded-line us a b false false p = refl

runs : (b : Bool) → ran_out (timeout_time b) ≡ false
runs true = refl
runs false = refl

pdu_aside : (us a b : Block) (p : Port) → aside (pdu_recorded us a b p) ≡ aside p
unfolding pdu_recorded update_ntt update_selected
pdu_aside us a b p = recorded-aside us a b (same_party a p.partner) (same_view b us) p

pub pdu_line : (us a b : Block) (p : Port) → (pdu_recorded us a b p).line ≡ p.line
unfolding pdu_recorded update_ntt update_selected
pdu_line us a b p = recorded-line us a b (same_party a p.partner) (same_view b us) p

current-rests : (us a b : Block) (p : Port) → p.line.up ≡ true → p.line.full ≡ true → ReceiveRests (receive_part (current us a b p))
unfolding current
current-rests us a b p u f =
    let x : (pdu_recorded us a b p).line.up ≡ true = ap (λ (l : Line). l.up) (pdu_line us a b p) ∙ u in
    let y : (pdu_recorded us a b p).line.full ≡ true = ap (λ (l : Line). l.full) (pdu_line us a b p) ∙ f in
    record {
      state = rw (x, y);
      unheard = λ e. absurd (false≢true e);
      stays = rw (x, runs p.actor.timeout);
      timed = current-timed us a b p;
    }

current-aside : (us a b : Block) (p : Port) → aside (current us a b p) ≡ aside p
unfolding current
current-aside us a b p = pdu_aside us a b p

pub received-standing : (system : SystemId) (n : ℕ) (a b : Block) (p : Port) → p.line.up ≡ true → p.line.full ≡ true → Standing p
    → Standing (received system n a b p)
unfolding received
received-standing system n a b p u f s =
    let us = actor_block system n p in
    aside-standing p (current us a b p) (current-aside us a b p) s (current-rests us a b p u f)

-- ---- a moved partner

pub moved-aside : (p : Port) → aside (moved p) ≡ aside p
unfolding moved port_disabled initialized record_default
moved-aside p = refl

initialized-line : (p : Port) → (initialized p).line ≡ p.line
unfolding initialized record_default
initialized-line p = refl

pub moved-rests : (p : Port) → p.line.up ≡ false → ReceiveRests (receive_part (moved p))
unfolding moved
moved-rests p u = disabled_rests (initialized p) (ap (λ (l : Line). l.up) (initialized-line p) ∙ u)

pub moved-standing : (p : Port) → p.line.up ≡ false → Standing p → Standing (moved p)
moved-standing p u s = aside-standing p (moved p) (moved-aside p) s (moved-rests p u)

both-up : (up other : Bool) → up && other ≡ true → up ≡ false → ⊥
both-up true other e u = true≢false u
both-up false other e u = false≢true e

-- a port at rest is in PORT_DISABLED with its link down
pub disabled_down : (l : Line) (s : Receive) → goes_with l s ≡ true → is_disabled s ≡ true → l.up ≡ false
disabled_down l Initialize g e = absurd (false≢true e)
disabled_down l PortDisabled g e = not-true l.up g
disabled_down l Expired g e = absurd (false≢true e)
disabled_down l LacpDisabled g e = absurd (false≢true e)
disabled_down l Defaulted g e = absurd (false≢true e)
disabled_down l Current g e = absurd (false≢true e)

-- and with its link down it is in PORT_DISABLED
pub down_disabled : (l : Line) (s : Receive) → goes_with l s ≡ true → l.up ≡ false → s ≡ PortDisabled
down_disabled l Initialize g u = absurd (false≢true g)
down_disabled l PortDisabled g u = refl
down_disabled l Expired g u = absurd (both-up l.up l.full g u)
down_disabled l LacpDisabled g u = absurd (both-up l.up (not l.full) g u)
down_disabled l Defaulted g u = absurd (both-up l.up l.full g u)
down_disabled l Current g u = absurd (both-up l.up l.full g u)

-- ---- a link or duplex change

entered-line : (s : Receive) (p : Port) → (receive_entered s p).line ≡ p.line
entered-line Initialize p = initialized-line p
entered-line PortDisabled p = unfold port_disabled in refl
entered-line Expired p = unfold expired in refl
entered-line LacpDisabled p = unfold lacp_disabled record_default in refl
entered-line Defaulted p = defaulted-line p
entered-line Current p = refl

taken-line : (k : Option Receive) (p : Port) → (receive_taken k p).line ≡ p.line
taken-line None p = refl
taken-line (Some s) p = entered-line s p

pub run-line : (p : Port) → (receive_run p).line ≡ p.line
unfolding receive_run receive_step
run-line p = taken-line (receive_choice (receive_step p)) (receive_step p) ∙ taken-line (receive_choice p) p

down-leads : (s : Receive) (up full synced : Bool) → leads s up full synced ≡ true → leads s false full synced ≡ true
down-leads Initialize up full synced e = e
down-leads PortDisabled up full synced e = e
down-leads Expired up full synced e = refl
down-leads LacpDisabled up full synced e = refl
down-leads Defaulted up full synced e = refl
down-leads Current up full synced e = refl

module _ (p : Port) (s : Standing p) where
  -- the link goes down
  fell : Port
  fell = receive_run (with_line p (down p.line))

  fell-standing : Standing fell
  unfolding fell
  fell-standing =
      run-standing (with_line p (down p.line)) (steady p s)
      (down-leads p.phase.receive p.line.up p.line.full p.partner.state.synchronization (leads-rest p s.receive)) s.receive.timed

  fell-down : fell.line.up ≡ false
  unfolding fell
  fell-down = ap (λ (l : Line). l.up) (run-line (with_line p (down p.line)))

  fell_disabled : fell.phase.receive ≡ PortDisabled
  fell_disabled = down_disabled fell.line fell.phase.receive fell-standing.receive.state fell-down

  pub lined-falls : (receive_run (with_line p (down p.line))).phase.receive ≡ PortDisabled
  unfolding fell
  lined-falls = fell_disabled

  -- and comes to its new values
  rises : (l : Line) → Standing (receive_run (with_line fell l))
  rises l =
      run-standing (with_line fell l) (steady fell fell-standing)
      (rw fell_disabled (ap not (fell-standing.receive.unheard (ap is_unheard fell_disabled)))) fell-standing.receive.timed

  pub lined-standing : (l : Line) → Standing (lined l p)
  unfolding lined fell
  lined-standing l = rises l

-- ---- a send

pub sent-resting : (p : Port) → Resting p → Resting (sent p)
unfolding sent
sent-resting p r =
    let s = standing p r in
    resting-is (sent p) (record { receive = s.receive; timed = s.timed; mux = s.mux }) (calm_rests (sent p) (rests_calm p r.periodic))

-- ---- the ages of sends: a tick makes them older, and nothing else in steps 1 and 2 touches them

pub aside-ages : (p q : Port) → aside q ≡ aside p → q.ages ≡ p.ages
aside-ages p q e = ap (λ (v : AsidePart). v.ages) e

ticked-ages : (p : Port) → (ticked p).ages ≡ ages_ticked p.ages
unfolding ticked
ticked-ages p = refl

pub advanced-ages : (p : Port) → (advanced p).ages ≡ ages_ticked p.ages
unfolding advanced
advanced-ages p = aside-ages (ticked p) (receive_run (ticked p)) (run-aside (ticked p)) ∙ ticked-ages p

pub received-aside : (system : SystemId) (n : ℕ) (a b : Block) (p : Port) → aside (received system n a b p) ≡ aside p
unfolding received
received-aside system n a b p = current-aside (actor_block system n p) a b p

pub received-ages : (system : SystemId) (n : ℕ) (a b : Block) (p : Port) → (received system n a b p).ages ≡ p.ages
received-ages system n a b p = aside-ages p (received system n a b p) (received-aside system n a b p)

pub moved-ages : (p : Port) → (moved p).ages ≡ p.ages
moved-ages p = aside-ages p (moved p) (moved-aside p)

pub lined-aside : (l : Line) (p : Port) → aside (lined l p) ≡ aside p
unfolding lined
lined-aside l p = run-aside (with_line (receive_run (with_line p (down p.line))) l) ∙ run-aside (with_line p (down p.line))

pub lined-ages : (l : Line) (p : Port) → (lined l p).ages ≡ p.ages
lined-ages l p = aside-ages p (lined l p) (lined-aside l p)

-- ---- where a port is: its mux state and the aggregator it holds, which steps 1 and 2 leave

pub record Seat : Type 0 where
  pub mux : Mux
  pub aggregator : ℕ

abbrev pub seat : Port → Seat
seat p = record { mux = p.phase.mux; aggregator = p.aggregator }

abbrev seat_of : AsidePart → Seat
seat_of v = record { mux = v.mux.state; aggregator = v.aggregator }

pub aside-seat : (p q : Port) → aside q ≡ aside p → seat q ≡ seat p
aside-seat p q e = ap (λ (v : AsidePart). seat_of v) e

-- nor do they touch the wait timer, but for a tick
pub aside-wait : (p q : Port) → aside q ≡ aside p → q.timers.wait ≡ p.timers.wait
aside-wait p q e = ap (λ (v : AsidePart). v.mux.timer) e

ticked-wait : (p : Port) → (ticked p).timers.wait ≡ fallen p.timers.wait
unfolding ticked
ticked-wait p = refl

pub advanced-wait : (p : Port) → (advanced p).timers.wait ≡ fallen p.timers.wait
unfolding advanced
advanced-wait p = aside-wait (ticked p) (receive_run (ticked p)) (run-aside (ticked p)) ∙ ticked-wait p

ticked-seat : (p : Port) → seat (ticked p) ≡ seat p
unfolding ticked
ticked-seat p = refl

pub advanced-seat : (p : Port) → seat (advanced p) ≡ seat p
unfolding advanced
advanced-seat p = aside-seat (ticked p) (receive_run (ticked p)) (run-aside (ticked p)) ∙ ticked-seat p
