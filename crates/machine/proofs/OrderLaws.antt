-- The order in which the Periodic Transmission machine looks (43.4.13): first whether it is to be quiet, then whether its timer has run out, then
-- at the partner's Timeout. By the table of its transitions. Assumes nothing.
use mathlib.Core.Path.{◌≡◌, refl}
use mathlib.Core.Bool.{Bool, true, false}
use Rattle.std.specs.Prelude.{Some, None}
use Rattle.machine.specs.declared.states.Periodic.{Periodic}
use Rattle.machine.specs.declared.states.Periodic.TheVariants.{NoPeriodic, FastPeriodic, SlowPeriodic, PeriodicTx}
use Rattle.machine.specs.Periodic.{periodic_next}

-- quiet: whatever else holds
pub quiet-first : (s : Periodic) (out short : Bool) → periodic_next s true out short ≡ Some NoPeriodic
quiet-first NoPeriodic out short = refl
quiet-first FastPeriodic out short = refl
quiet-first SlowPeriodic out short = refl
quiet-first PeriodicTx out short = refl

-- the timer, in the states that have it: whatever the partner's Timeout
pub out-second : (short : Bool) → (periodic_next FastPeriodic false true short ≡ Some PeriodicTx) × (periodic_next SlowPeriodic false true short ≡ Some PeriodicTx)
out-second short = (refl, refl)

-- the partner's Timeout, while it runs: long leads from fast to slow, short from slow to a frame at once
pub short-last : (periodic_next FastPeriodic false false true ≡ None) × (periodic_next SlowPeriodic false false true ≡ Some PeriodicTx)
short-last = (refl, refl)

pub long-last : (periodic_next FastPeriodic false false false ≡ Some SlowPeriodic) × (periodic_next SlowPeriodic false false false ≡ None)
long-last = (refl, refl)

-- a machine that is no longer quiet begins fast, and after a frame goes on by the partner's Timeout, timer or not
pub fast-begins : (out short : Bool) → periodic_next NoPeriodic false out short ≡ Some FastPeriodic
fast-begins out short = refl

pub sent-goes_on : (out : Bool) → (periodic_next PeriodicTx false out true ≡ Some FastPeriodic) × (periodic_next PeriodicTx false out false ≡ Some SlowPeriodic)
sent-goes_on out = (refl, refl)
