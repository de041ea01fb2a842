-- The Periodic Transmission machine comes to rest after two steps, and touches its own state, its timer and NTT alone. By cases on
-- what the transitions look at: the state, whether the machine is to be quiet, the timer, the partner's Timeout. Assumes nothing.
use mathlib.Core.Path.{◌≡◌, refl, ap, ◌∙◌}
use mathlib.Core.Bool.{Bool, true, false}
use Rattle.std.specs.Prelude.{Option, Some, None}
use Rattle.machine.specs.declared.states.Periodic.{Periodic}
use Rattle.machine.specs.declared.states.Periodic.TheVariants.{NoPeriodic, FastPeriodic, SlowPeriodic, PeriodicTx}
use Rattle.machine.specs.Periodic.{periodic_next, periodic_time}
use Rattle.machine.specs.States.{ticks}
use Rattle.machine.specs.Time.{ran_out}
use Rattle.port.specs.declared.record.Port.{Port}
use Rattle.port.specs.Record.{with_ntt, with_periodic_timer, with_periodic}
use Rattle.port.specs.Periodic.{quiet, periodic_entered, periodic_taken, periodic_choice, periodic_step, periodic_run}

-- what the transitions look at
record Seen (p : Port) (s : Periodic) (q out short : Bool) : Type 0 where
  state : p.phase.periodic ≡ s
  silence : quiet p ≡ q
  timer : ran_out p.timers.periodic ≡ out
  partner : p.partner.state.timeout ≡ short

step : {p : Port} {s : Periodic} {q out short : Bool} → Seen p s q out short → periodic_step p ≡ periodic_taken (periodic_next s q out short) p
unfolding periodic_step periodic_choice
step h = rw (h.state, h.silence, h.timer, h.partner)

-- entering a state changes the state and the timer that is seen
enters : {p : Port} {s : Periodic} {q out short : Bool} (t : Periodic) → Seen p s q out short → Seen (periodic_entered t p) t q (ran_out (periodic_time t)) short
enters t h = record { state = refl; silence = h.silence; timer = refl; partner = h.partner }

-- a step that enters a state, and one that stays
moves : {p : Port} {s : Periodic} {q out short : Bool} (t : Periodic) → Seen p s q out short → periodic_next s q out short ≡ Some t → periodic_step p ≡ periodic_entered t p
moves {p} t h e = step h ∙ ap (λ (k : Option Periodic). periodic_taken k p) e

stays : {p : Port} {s : Periodic} {q out short : Bool} → Seen p s q out short → periodic_next s q out short ≡ None → periodic_step p ≡ p
stays {p} h e = step h ∙ ap (λ (k : Option Periodic). periodic_taken k p) e

-- two steps from p by way of x to y, at which the machine stays
resting : (p x y : Port) → periodic_step p ≡ x → periodic_step x ≡ y → periodic_step y ≡ y → periodic_step (periodic_run p) ≡ periodic_run p
unfolding periodic_run
resting p x y a b c = rw (a, b, c)

-- entering FAST_PERIODIC with a short partner, or SLOW_PERIODIC with a long one, is rest
fast : {p : Port} {s : Periodic} {out : Bool} → Seen p s false out true → periodic_step (periodic_entered FastPeriodic p) ≡ periodic_entered FastPeriodic p
fast h = stays (enters FastPeriodic h) refl

slow : {p : Port} {s : Periodic} {out : Bool} → Seen p s false out false → periodic_step (periodic_entered SlowPeriodic p) ≡ periodic_entered SlowPeriodic p
slow h = stays (enters SlowPeriodic h) refl

-- by way of PERIODIC_TX
by_tx : {p : Port} {s : Periodic} {out : Bool} (short : Bool) → Seen p s false out short → periodic_next s false out short ≡ Some PeriodicTx → periodic_step (periodic_run p) ≡ periodic_run p
by_tx {p} true h e =
    let x = enters PeriodicTx h in
    resting p (periodic_entered PeriodicTx p) (periodic_entered FastPeriodic (periodic_entered PeriodicTx p)) (moves PeriodicTx h e) (moves FastPeriodic x refl) (fast x)
by_tx {p} false h e =
    let x = enters PeriodicTx h in
    resting p (periodic_entered PeriodicTx p) (periodic_entered SlowPeriodic (periodic_entered PeriodicTx p)) (moves PeriodicTx h e) (moves SlowPeriodic x refl) (slow x)

at_rest : {p : Port} (s : Periodic) (q out short : Bool) → Seen p s q out short → periodic_step (periodic_run p) ≡ periodic_run p
at_rest {p} s true out short h =
    let x = enters NoPeriodic h in
    let y = enters NoPeriodic x in
    resting p (periodic_entered NoPeriodic p) (periodic_entered NoPeriodic p) (moves NoPeriodic h refl) (moves NoPeriodic x refl) (moves NoPeriodic y refl)
at_rest {p} NoPeriodic false out true h =
    let x = enters FastPeriodic h in
    resting p (periodic_entered FastPeriodic p) (periodic_entered FastPeriodic p) (moves FastPeriodic h refl) (fast h) (fast h)
at_rest {p} NoPeriodic false out false h =
    let x = enters FastPeriodic h in
    resting p (periodic_entered FastPeriodic p) (periodic_entered SlowPeriodic (periodic_entered FastPeriodic p)) (moves FastPeriodic h refl) (moves SlowPeriodic x refl) (slow x)
at_rest FastPeriodic false true short h = by_tx short h refl
at_rest {p} FastPeriodic false false true h = resting p p p (stays h refl) (stays h refl) (stays h refl)
at_rest {p} FastPeriodic false false false h = resting p (periodic_entered SlowPeriodic p) (periodic_entered SlowPeriodic p) (moves SlowPeriodic h refl) (slow h) (slow h)
at_rest SlowPeriodic false true short h = by_tx short h refl
at_rest SlowPeriodic false false true h = by_tx true h refl
at_rest {p} SlowPeriodic false false false h = resting p p p (stays h refl) (stays h refl) (stays h refl)
at_rest {p} PeriodicTx false out true h = resting p (periodic_entered FastPeriodic p) (periodic_entered FastPeriodic p) (moves FastPeriodic h refl) (fast h) (fast h)
at_rest {p} PeriodicTx false out false h = resting p (periodic_entered SlowPeriodic p) (periodic_entered SlowPeriodic p) (moves SlowPeriodic h refl) (slow h) (slow h)

seen : (p : Port) → Seen p p.phase.periodic (quiet p) (ran_out p.timers.periodic) p.partner.state.timeout
seen p = record { state = refl; silence = refl; timer = refl; partner = refl }

-- until no step applies: one more step changes nothing
pub periodic-rests : (p : Port) → periodic_step (periodic_run p) ≡ periodic_run p
periodic-rests p = at_rest p.phase.periodic (quiet p) (ran_out p.timers.periodic) p.partner.state.timeout (seen p)

periodic-twice : (p : Port) → periodic_run (periodic_run p) ≡ periodic_run p
unfolding periodic_run
periodic-twice p = ap periodic_step (periodic-rests p) ∙ periodic-rests p

-- where the machine is at rest, a run changes nothing
pub periodic-idle : (p : Port) → periodic_step p ≡ p → periodic_run p ≡ p
unfolding periodic_run
periodic-idle p e = ap periodic_step e ∙ e

-- everything but its own state, its timer and NTT is as it was
abbrev pub beside_periodic : Port → Port
beside_periodic p = with_ntt (with_periodic_timer (with_periodic p NoPeriodic) (ticks 0)) false

taken-keeps : (k : Option Periodic) (p : Port) → beside_periodic (periodic_taken k p) ≡ beside_periodic p
taken-keeps None p = refl
taken-keeps (Some s) p = refl

step_keeps : (p : Port) → beside_periodic (periodic_step p) ≡ beside_periodic p
unfolding periodic_step
step_keeps p = taken-keeps (periodic_choice p) p

pub periodic-keeps : (p : Port) → beside_periodic (periodic_run p) ≡ beside_periodic p
unfolding periodic_run
periodic-keeps p = step_keeps (periodic_step p) ∙ step_keeps p
