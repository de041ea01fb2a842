-- What a send, a tick and the clearing of NTT leave alone. Assumes nothing.
use mathlib.Core.Path.{◌≡◌, refl, sym, ap}
use mathlib.Core.Bool.{Bool, true, false, cond, not, ◌&&◌, ◌||◌, true≢false}
use Rattle.std.specs.Prelude.{Ok, Err}
use Rattle.machine.specs.Ages.{no_send, ages, barred}
use Rattle.machine.specs.States.{timers, ticks}
use Rattle.port.specs.declared.record.Port.{Port}
use Rattle.port.specs.Record.{with_ntt, with_ages, with_timers}
use Rattle.port.specs.declared.transmit.Undue.TheVariants.{Nothing, Barred}
use Rattle.port.specs.Transmit.{due, goes, is_due, sent, silent, ntt_cleared, ticked}

-- a send touches NTT and the ages alone
abbrev pub beside_sends : Port → Port
beside_sends p = with_ntt (with_ages p (ages no_send no_send no_send)) false

pub sent-keeps : (p : Port) → beside_sends (sent p) ≡ beside_sends p
unfolding sent
sent-keeps p = refl

-- a tick touches the timers and the ages alone
abbrev pub beside_time : Port → Port
beside_time p = with_ages (with_timers p (timers (ticks 0) (ticks 0) (ticks 0))) (ages no_send no_send no_send)

pub ticked-keeps : (p : Port) → beside_time (ticked p) ≡ beside_time p
unfolding ticked
ticked-keeps p = refl

-- the clearing of NTT touches NTT alone, and clears once
if-keeps : (b : Bool) (p : Port) → with_ntt (cond b (with_ntt p false) p) false ≡ with_ntt p false
if-keeps true p = refl
if-keeps false p = refl

pub cleared_keeps : (p : Port) → with_ntt (ntt_cleared p) false ≡ with_ntt p false
unfolding ntt_cleared
cleared_keeps p = if-keeps (silent p) p

if-twice : (b : Bool) (p : Port) → silent p ≡ b → ntt_cleared (cond b (with_ntt p false) p) ≡ cond b (with_ntt p false) p
unfolding ntt_cleared silent
if-twice true p e = rw e
if-twice false p e = rw e

pub cleared_twice : (p : Port) → ntt_cleared (ntt_cleared p) ≡ ntt_cleared p
unfolding ntt_cleared
cleared_twice p = if-twice (silent p) p refl

-- where there is no NTT to be cleared, nothing is
pub cleared_idle : (p : Port) → p.ntt && silent p ≡ false → ntt_cleared p ≡ p
unfolding ntt_cleared
cleared_idle p e = by p.ntt (silent p) refl e
  where
    by : (n s : Bool) → p.ntt ≡ n → n && s ≡ false → cond s (with_ntt p false) p ≡ p
    by n false x h = refl
    by false true x h = ap (with_ntt p) (sym x)
    by true true x h = absurd (true≢false h)

-- an LACPDU is due where NTT is set, the link up, LACP on, and three sends do not bar it: as one test
pub due-at_once : (p : Port) → is_due p ≡ (p.ntt && (p.line.up && (p.line.full && not (barred p.ages))))
unfolding is_due due
due-at_once p = by p.ntt p.line.up p.line.full (barred p.ages)
  where
    by : (n u f b : Bool) → goes (cond (not n || (not u || not f)) (Err Nothing) (cond b (Err Barred) (Ok tt))) ≡ (n && (u && (f && not b)))
    by false u f b = refl
    by true false f b = refl
    by true true false b = refl
    by true true true true = refl
    by true true true false = refl
