-- What rest of one port looks at: the receive machine's part of a record, the periodic machine's, and the mux's. A step that leaves a
-- part as it was leaves its rest; a step of the periodic machine leaves the parts of the others, and one of the mux keeps its own. Assumes nothing.
use mathlib.Core.Path.{◌≡◌, refl, sym, ap, ◌∙◌, subst}
use mathlib.Core.Bool.{Bool, true, false, not, ◌&&◌, true≢false, false≢true}
use borrow.Author.Tests.{eqb-true}
use Rattle.std.specs.Prelude.{None}
use Rattle.machine.specs.declared.states.Line.{Line}
use Rattle.machine.specs.declared.states.Ticks.{Ticks}
use Rattle.machine.specs.declared.states.Receive.{Receive}
use Rattle.machine.specs.declared.states.Periodic.{Periodic}
use Rattle.machine.specs.declared.states.Periodic.TheVariants.{NoPeriodic, FastPeriodic, SlowPeriodic, PeriodicTx}
use Rattle.machine.specs.declared.states.Mux.{Mux}
use Rattle.machine.specs.Receive.{receive_next}
use Rattle.machine.specs.Periodic.{periodic_next, periodic_rests}
use Rattle.machine.specs.Mux.{waits}
use Rattle.machine.specs.States.{quiet_on, ticks}
use Rattle.machine.specs.Time.{ran_out, long_timeout_time, slow_periodic_time, aggregate_wait_time}
use Rattle.port.specs.declared.record.Port.{Port}
use Rattle.port.specs.Receive.{receive_choice}
use Rattle.port.specs.Periodic.{quiet, periodic_taken, periodic_entered, periodic_choice, periodic_step, periodic_run}
use Rattle.port.specs.Mux.{mux_step, BitsAgree}
use Rattle.port.specs.Rest.{goes_with, is_unheard, Resting}
use Rattle.port.specs.Timing.{Timed, uses_current, uses_periodic}
use Rattle.port.proofs.PeriodicLaws.{periodic-rests, periodic-keeps}
use Rattle.port.proofs.MuxLaws.{bits_kept}
use Rattle.port.proofs.TimerLaws.{periodic_run-timed, wait-step}

-- ---- the three parts

pub record ReceivePart : Type 0 where
  pub line : Line
  pub state : Receive
  pub timer : Ticks
  pub synced : Bool

abbrev pub receive_part : Port → ReceivePart
receive_part p = record { line = p.line; state = p.phase.receive; timer = p.timers.current; synced = p.partner.state.synchronization }

pub record PeriodicPart : Type 0 where
  pub line : Line
  pub state : Periodic
  pub timer : Ticks
  pub active : Bool
  pub partner_active : Bool
  pub short : Bool

abbrev pub periodic_part : Port → PeriodicPart
periodic_part p = record {
  line = p.line;
  state = p.phase.periodic;
  timer = p.timers.periodic;
  active = p.actor.activity;
  partner_active = p.partner.state.activity;
  short = p.partner.state.timeout;
}

pub record MuxPart : Type 0 where
  pub state : Mux
  pub timer : Ticks
  pub synchronization : Bool
  pub collecting : Bool
  pub distributing : Bool

abbrev pub mux_part : Port → MuxPart
mux_part p = record {
  state = p.phase.mux;
  timer = p.timers.wait;
  synchronization = p.actor.synchronization;
  collecting = p.actor.collecting;
  distributing = p.actor.distributing;
}

-- ---- rest of each part

pub record ReceiveRests (v : ReceivePart) : Type 0 where
  pub state : goes_with v.line v.state ≡ true
  pub unheard : is_unheard v.state ≡ true → v.synced ≡ false
  pub stays : receive_next v.state v.line.up v.line.full (ran_out v.timer) ≡ None
  pub timed : Timed (uses_current v.state) long_timeout_time v.timer

abbrev pub PeriodicPartTimed : PeriodicPart → Type 0
PeriodicPartTimed v = Timed (uses_periodic v.state) slow_periodic_time v.timer

pub record MuxAgrees (v : MuxPart) : Type 0 where
  pub says : BitsAgree v.state v.synchronization v.collecting v.distributing
  pub timed : Timed (waits v.state) aggregate_wait_time v.timer

-- where the periodic machine is at rest
abbrev pub calm_part : PeriodicPart → Bool
calm_part v = periodic_rests v.state (quiet_on v.line (not v.active && not v.partner_active)) (ran_out v.timer) v.short

-- all of them but for a periodic machine at rest
pub record Standing (p : Port) : Type 0 where
  pub receive : ReceiveRests (receive_part p)
  pub timed : PeriodicPartTimed (periodic_part p)
  pub mux : MuxAgrees (mux_part p)

-- ---- the periodic machine is at rest exactly where its part is calm

calm_if : (p : Port) (s : Periodic) (q out short : Bool) → p.phase.periodic ≡ s → ran_out p.timers.periodic ≡ out
    → periodic_taken (periodic_next s q out short) p ≡ p → periodic_rests s q out short ≡ true
calm_if p NoPeriodic true true short h t e = refl
calm_if p NoPeriodic true false short h t e =
    absurd (true≢false (ap (λ (x : Port). ran_out x.timers.periodic) e ∙ t))
calm_if p NoPeriodic false out short h t e = let x : FastPeriodic ≡ NoPeriodic = ap (λ (x : Port). x.phase.periodic) e ∙ h in cc
calm_if p FastPeriodic true out short h t e = let x : NoPeriodic ≡ FastPeriodic = ap (λ (x : Port). x.phase.periodic) e ∙ h in cc
calm_if p FastPeriodic false true short h t e = let x : PeriodicTx ≡ FastPeriodic = ap (λ (x : Port). x.phase.periodic) e ∙ h in cc
calm_if p FastPeriodic false false true h t e = refl
calm_if p FastPeriodic false false false h t e = let x : SlowPeriodic ≡ FastPeriodic = ap (λ (x : Port). x.phase.periodic) e ∙ h in cc
calm_if p SlowPeriodic true out short h t e = let x : NoPeriodic ≡ SlowPeriodic = ap (λ (x : Port). x.phase.periodic) e ∙ h in cc
calm_if p SlowPeriodic false true short h t e = let x : PeriodicTx ≡ SlowPeriodic = ap (λ (x : Port). x.phase.periodic) e ∙ h in cc
calm_if p SlowPeriodic false false true h t e = let x : PeriodicTx ≡ SlowPeriodic = ap (λ (x : Port). x.phase.periodic) e ∙ h in cc
calm_if p SlowPeriodic false false false h t e = refl
calm_if p PeriodicTx true out short h t e = let x : NoPeriodic ≡ PeriodicTx = ap (λ (x : Port). x.phase.periodic) e ∙ h in cc
calm_if p PeriodicTx false out true h t e = let x : FastPeriodic ≡ PeriodicTx = ap (λ (x : Port). x.phase.periodic) e ∙ h in cc
calm_if p PeriodicTx false out false h t e = let x : SlowPeriodic ≡ PeriodicTx = ap (λ (x : Port). x.phase.periodic) e ∙ h in cc

pub rests_calm : (p : Port) → periodic_step p ≡ p → calm_part (periodic_part p) ≡ true
unfolding periodic_step periodic_choice
rests_calm p e = calm_if p p.phase.periodic (quiet p) (ran_out p.timers.periodic) p.partner.state.timeout refl refl e

-- a port in NO_PERIODIC with its timer stopped
entered-same : (p : Port) → p.phase.periodic ≡ NoPeriodic → p.timers.periodic.0 ≡ 0 → periodic_entered NoPeriodic p ≡ p
entered-same p h t = λ i. record {
  phase = record { receive = p.phase.receive; periodic = sym h i; mux = p.phase.mux; selected = p.phase.selected };
  aggregator = p.aggregator;
  ntt = p.ntt;
  line = p.line;
  actor = p.actor;
  timers = record { current = p.timers.current; periodic = ticks (sym t i); wait = p.timers.wait };
  ages = p.ages;
  own = p.own;
  partner = p.partner;
}

calm_then : (p : Port) (s : Periodic) (q out short : Bool) → p.phase.periodic ≡ s → ran_out p.timers.periodic ≡ out
    → periodic_rests s q out short ≡ true → periodic_taken (periodic_next s q out short) p ≡ p
calm_then p NoPeriodic true true short h t e = entered-same p h (eqb-true p.timers.periodic.0 0 t)
calm_then p NoPeriodic true false short h t e = absurd (false≢true e)
calm_then p NoPeriodic false out short h t e = absurd (false≢true e)
calm_then p FastPeriodic true out short h t e = absurd (false≢true e)
calm_then p FastPeriodic false true short h t e = absurd (false≢true e)
calm_then p FastPeriodic false false true h t e = refl
calm_then p FastPeriodic false false false h t e = absurd (false≢true e)
calm_then p SlowPeriodic true out short h t e = absurd (false≢true e)
calm_then p SlowPeriodic false true short h t e = absurd (false≢true e)
calm_then p SlowPeriodic false false true h t e = absurd (false≢true e)
calm_then p SlowPeriodic false false false h t e = refl
calm_then p PeriodicTx q out short h t e = absurd (false≢true e)

pub calm_rests : (p : Port) → calm_part (periodic_part p) ≡ true → periodic_step p ≡ p
unfolding periodic_step periodic_choice
calm_rests p e = calm_then p p.phase.periodic (quiet p) (ran_out p.timers.periodic) p.partner.state.timeout refl refl e

-- ---- rest of a port, taken apart and put together

pub resting-is : (p : Port) → Standing p → periodic_step p ≡ p → Resting p
unfolding receive_choice
resting-is p s e = record {
  state = s.receive.state;
  unheard = s.receive.unheard;
  receive = s.receive.stays;
  periodic = e;
  says = s.mux.says;
  current = s.receive.timed;
  pace = s.timed;
  wait = s.mux.timed;
}

pub standing : (p : Port) → Resting p → Standing p
unfolding receive_choice
standing p r = record {
  receive = record { state = r.state; unheard = r.unheard; stays = r.receive; timed = r.current };
  timed = r.pace;
  mux = record { says = r.says; timed = r.wait };
}

-- ---- the periodic machine leaves the other parts

pub periodic-standing : (p : Port) → Standing p → Resting (periodic_run p)
periodic-standing p s =
    resting-is (periodic_run p)
    (record {
      receive = subst ReceiveRests (sym (ap (λ (x : Port). receive_part x) (periodic-keeps p))) s.receive;
      timed = periodic_run-timed p s.timed;
      mux = subst MuxAgrees (sym (ap (λ (x : Port). mux_part x) (periodic-keeps p))) s.mux;
    })
    (periodic-rests p)

-- ---- a step of the mux keeps its part's bits and timer

pub step-agrees : (r : Bool) (p : Port) → MuxAgrees (mux_part p) → MuxAgrees (mux_part (mux_step r p))
step-agrees r p h = record { says = bits_kept r p h.says; timed = wait-step r p h.timed }
