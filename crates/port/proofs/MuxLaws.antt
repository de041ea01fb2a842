-- The Mux machine on a SELECTED port comes to rest after two steps, leads an UNSELECTED one to DETACHED in three, touches its own
-- state, its timer, NTT and the actor's three bits alone, and keeps those bits in agreement with its state. By cases on what the
-- transitions look at. Assumes nothing.
use Prim.Native.Nat.{ℕ}
use mathlib.Core.Path.{◌≡◌, refl, ap, ◌∙◌}
use mathlib.Core.Bool.{Bool, true, false, cond}
use Rattle.std.specs.Prelude.{Option, Some, None}
use Rattle.machine.specs.declared.states.Mux.{Mux}
use Rattle.machine.specs.declared.states.Mux.TheVariants.{Detached, Waiting, Attached, Collecting, Distributing}
use Rattle.machine.specs.declared.states.Selection.{Selection}
use Rattle.machine.specs.declared.states.Selection.TheVariants.{Unselected, Selected}
use Rattle.machine.specs.States.{ticks}
use Rattle.machine.specs.Mux.{mux_next, waits, is_attached, collects, distributes}
use Rattle.machine.specs.Bits.{with_synchronization, with_collecting, with_distributing}
use Rattle.port.specs.declared.record.Port.{Port}
use Rattle.port.specs.Record.{with_ntt, with_wait, with_mux, with_actor, with_aggregator, with_selected}
use Rattle.port.specs.Mux.{mux_entered, mux_taken, mux_choice, mux_step, mux_run, detached, placed, attached_if, descent, entered_all, SaysMux}

-- what the transitions look at, beside Ready
record Seen (p : Port) (m : Mux) (s : Selection) (sync coll : Bool) : Type 0 where
  state : p.phase.mux ≡ m
  selected : p.phase.selected ≡ s
  synchronization : p.partner.state.synchronization ≡ sync
  collecting : p.partner.state.collecting ≡ coll

seen : (p : Port) → Seen p p.phase.mux p.phase.selected p.partner.state.synchronization p.partner.state.collecting
seen p = record { state = refl; selected = refl; synchronization = refl; collecting = refl }

step : {p : Port} {m : Mux} {s : Selection} {sync coll : Bool} (ready : Bool) → Seen p m s sync coll
    → mux_step ready p ≡ mux_taken (mux_next m s ready sync coll) p
unfolding mux_step mux_choice
step ready h = rw (h.state, h.selected, h.synchronization, h.collecting)

enters : {p : Port} {m : Mux} {s : Selection} {sync coll : Bool} (n : Mux) → Seen p m s sync coll → Seen (mux_entered n p) n s sync coll
enters n h = record { state = refl; selected = h.selected; synchronization = h.synchronization; collecting = h.collecting }

-- a step without Ready that enters a state, and one that stays
moves : {p : Port} {m : Mux} {s : Selection} {sync coll : Bool} (n : Mux) → Seen p m s sync coll → mux_next m s false sync coll ≡ Some n
    → mux_step false p ≡ mux_entered n p
moves {p} n h e = step false h ∙ ap (λ (k : Option Mux). mux_taken k p) e

stays : {p : Port} {m : Mux} {s : Selection} {sync coll : Bool} → Seen p m s sync coll → mux_next m s false sync coll ≡ None → mux_step false p ≡ p
stays {p} h e = step false h ∙ ap (λ (k : Option Mux). mux_taken k p) e

-- ---- rest

resting : (p x y : Port) → mux_step false p ≡ x → mux_step false x ≡ y → mux_step false y ≡ y → mux_step false (mux_run p) ≡ mux_run p
unfolding mux_run
resting p x y a b c = rw (a, b, c)

idle : (p : Port) → mux_step false p ≡ p → mux_step false (mux_run p) ≡ mux_run p
idle p e = resting p p p e e e

one : (p x : Port) → mux_step false p ≡ x → mux_step false x ≡ x → mux_step false (mux_run p) ≡ mux_run p
one p x a b = resting p x x a b b

at_rest : {p : Port} (m : Mux) (sync coll : Bool) → Seen p m Selected sync coll → mux_step false (mux_run p) ≡ mux_run p
at_rest {p} Detached sync coll h = one p (mux_entered Waiting p) (moves Waiting h refl) (stays (enters Waiting h) refl)
at_rest {p} Waiting sync coll h = idle p (stays h refl)
at_rest {p} Attached true true h =
    let x = enters Collecting h in
    resting p (mux_entered Collecting p) (mux_entered Distributing (mux_entered Collecting p)) (moves Collecting h refl) (moves Distributing x refl)
    (stays (enters Distributing x) refl)
at_rest {p} Attached true false h = one p (mux_entered Collecting p) (moves Collecting h refl) (stays (enters Collecting h) refl)
at_rest {p} Attached false coll h = idle p (stays h refl)
at_rest {p} Collecting true true h = one p (mux_entered Distributing p) (moves Distributing h refl) (stays (enters Distributing h) refl)
at_rest {p} Collecting true false h = idle p (stays h refl)
at_rest {p} Collecting false coll h = one p (mux_entered Attached p) (moves Attached h refl) (stays (enters Attached h) refl)
at_rest {p} Distributing true true h = idle p (stays h refl)
at_rest {p} Distributing true false h = one p (mux_entered Collecting p) (moves Collecting h refl) (stays (enters Collecting h) refl)
at_rest {p} Distributing false coll h =
    let x = enters Collecting h in
    resting p (mux_entered Collecting p) (mux_entered Attached (mux_entered Collecting p)) (moves Collecting h refl) (moves Attached x refl)
    (stays (enters Attached x) refl)

-- until no step applies: on a SELECTED port one more step changes nothing
pub mux-rests : (p : Port) → p.phase.selected ≡ Selected → mux_step false (mux_run p) ≡ mux_run p
mux-rests p e =
    at_rest p.phase.mux p.partner.state.synchronization p.partner.state.collecting
    (record { state = refl; selected = e; synchronization = refl; collecting = refl })

-- where the machine is at rest, a run changes nothing
pub mux-idle : (p : Port) → mux_step false p ≡ p → mux_run p ≡ p
unfolding mux_run
mux-idle p e = ap (mux_step false) e ∙ e

-- ---- what is kept

-- everything but its own state, its timer, NTT and the actor's three bits
abbrev pub beside_mux : Port → Port
beside_mux p =
    with_mux (with_wait (with_ntt (with_actor p (with_synchronization (with_collecting (with_distributing p.actor false) false) false)) false) (ticks 0)) Detached

taken-keeps : (k : Option Mux) (p : Port) → beside_mux (mux_taken k p) ≡ beside_mux p
taken-keeps None p = refl
taken-keeps (Some Detached) p = refl
taken-keeps (Some Waiting) p = refl
taken-keeps (Some Attached) p = refl
taken-keeps (Some Collecting) p = refl
taken-keeps (Some Distributing) p = refl

pub mux_step-keeps : (ready : Bool) (p : Port) → beside_mux (mux_step ready p) ≡ beside_mux p
unfolding mux_step
mux_step-keeps ready p = taken-keeps (mux_choice ready p) p

pub mux-keeps : (p : Port) → beside_mux (mux_run p) ≡ beside_mux p
unfolding mux_run
mux-keeps p = mux_step-keeps false (mux_step false p) ∙ mux_step-keeps false p

pub detached-keeps : (p : Port) → beside_mux (detached p) ≡ beside_mux (with_selected p Unselected)
unfolding detached
detached-keeps p =
    let q = with_selected p Unselected in
    mux_step-keeps false (mux_step false (mux_step false q)) ∙ mux_step-keeps false (mux_step false q) ∙ mux_step-keeps false q

pub placed-keeps : (k : ℕ) (p : Port) → beside_mux (placed k p) ≡ beside_mux (with_selected (with_aggregator p k) Selected)
unfolding placed
placed-keeps k p = mux_step-keeps false (with_selected (with_aggregator p k) Selected)

if-keeps : (b ready : Bool) (p : Port) → beside_mux (cond b (mux_step ready p) p) ≡ beside_mux p
if-keeps true ready p = mux_step-keeps ready p
if-keeps false ready p = refl

pub attached-keeps : (ready : Bool) (p : Port) → beside_mux (attached_if ready p) ≡ beside_mux p
unfolding attached_if
attached-keeps ready p = if-keeps (waits p.phase.mux) ready p

-- ---- down to DETACHED, and from there to WAITING

three : (q x y z : Port) → mux_step false q ≡ x → mux_step false x ≡ y → mux_step false y ≡ z → mux_step false (mux_step false (mux_step false q)) ≡ z
three q x y z a b c = rw (a, b, c)

-- an UNSELECTED port enters every state that leads down
down : {q : Port} (m : Mux) {sync coll : Bool} → Seen q m Unselected sync coll → mux_step false (mux_step false (mux_step false q)) ≡ entered_all (descent m) q
unfolding entered_all
down {q} Detached h = three q q q q (stays h refl) (stays h refl) (stays h refl)
down {q} Waiting h = let x = enters Detached h in three q _ _ (mux_entered Detached q) (moves Detached h refl) (stays x refl) (stays x refl)
down {q} Attached h = let x = enters Detached h in three q _ _ (mux_entered Detached q) (moves Detached h refl) (stays x refl) (stays x refl)
down {q} Collecting h =
    let x = enters Attached h in
    three q _ _ (mux_entered Detached (mux_entered Attached q)) (moves Attached h refl) (moves Detached x refl) (stays (enters Detached x) refl)
down {q} Distributing h =
    let x = enters Collecting h in
    let y = enters Attached x in
    three q _ _ (mux_entered Detached (mux_entered Attached (mux_entered Collecting q))) (moves Collecting h refl) (moves Attached x refl) (moves Detached y refl)

pub detached_descends : (p : Port) → detached p ≡ entered_all (descent p.phase.mux) (with_selected p Unselected)
unfolding detached
detached_descends p = down p.phase.mux (record { state = refl; selected = refl; synchronization = refl; collecting = refl })

-- and ends in DETACHED
ends-detached : (m : Mux) (q : Port) → q.phase.mux ≡ m → (entered_all (descent m) q).phase.mux ≡ Detached
unfolding entered_all
ends-detached Detached q e = e
ends-detached Waiting q e = refl
ends-detached Attached q e = refl
ends-detached Collecting q e = refl
ends-detached Distributing q e = refl

pub detached-is : (p : Port) → (detached p).phase.mux ≡ Detached
detached-is p = ap (λ (r : Port). r.phase.mux) (detached_descends p) ∙ ends-detached p.phase.mux (with_selected p Unselected) refl

-- a detached port that is placed waits, with the timer started
pub placed-is : (k : ℕ) (p : Port) → p.phase.mux ≡ Detached → placed k p ≡ mux_entered Waiting (with_selected (with_aggregator p k) Selected)
unfolding placed
placed-is k p e = moves Waiting (record { state = e; selected = refl; synchronization = refl; collecting = refl }) refl

-- ---- the actor's bits agree with the state

-- what entering a state asks of the bits that it does not set
to-waiting : (p : Port) → p.actor.synchronization ≡ false → p.actor.collecting ≡ false → p.actor.distributing ≡ false → SaysMux (mux_entered Waiting p)
to-waiting p s c d = record { synchronization = s; collecting = c; distributing = d }

to-attached : (p : Port) → p.actor.distributing ≡ false → SaysMux (mux_entered Attached p)
to-attached p d = record { synchronization = refl; collecting = refl; distributing = d }

to-collecting : (p : Port) → p.actor.synchronization ≡ true → SaysMux (mux_entered Collecting p)
to-collecting p s = record { synchronization = s; collecting = refl; distributing = refl }

to-distributing : (p : Port) → p.actor.synchronization ≡ true → p.actor.collecting ≡ true → SaysMux (mux_entered Distributing p)
to-distributing p s c = record { synchronization = s; collecting = c; distributing = refl }

to-detached : (p : Port) → SaysMux (mux_entered Detached p)
to-detached p = record { synchronization = refl; collecting = refl; distributing = refl }

module _ (p : Port) {m : Mux} (at : p.phase.mux ≡ m) (h : SaysMux p) where
  sync_is : p.actor.synchronization ≡ is_attached m
  sync_is = h.synchronization ∙ ap is_attached at

  coll_is : p.actor.collecting ≡ collects m
  coll_is = h.collecting ∙ ap collects at

  dist_is : p.actor.distributing ≡ distributes m
  dist_is = h.distributing ∙ ap distributes at

agrees : (p : Port) (m : Mux) (s : Selection) (ready sync coll : Bool) → p.phase.mux ≡ m → SaysMux p → SaysMux (mux_taken (mux_next m s ready sync coll) p)
agrees p Detached Unselected ready sync coll e h = h
agrees p Detached Selected ready sync coll e h = to-waiting p (sync_is p e h) (coll_is p e h) (dist_is p e h)
agrees p Waiting Unselected ready sync coll e h = to-detached p
agrees p Waiting Selected true sync coll e h = to-attached p (dist_is p e h)
agrees p Waiting Selected false sync coll e h = h
agrees p Attached Unselected ready sync coll e h = to-detached p
agrees p Attached Selected ready true coll e h = to-collecting p (sync_is p e h)
agrees p Attached Selected ready false coll e h = h
agrees p Collecting Unselected ready sync coll e h = to-attached p (dist_is p e h)
agrees p Collecting Selected ready true true e h = to-distributing p (sync_is p e h) (coll_is p e h)
agrees p Collecting Selected ready true false e h = h
agrees p Collecting Selected ready false coll e h = to-attached p (dist_is p e h)
agrees p Distributing Unselected ready sync coll e h = to-collecting p (sync_is p e h)
agrees p Distributing Selected ready true true e h = h
agrees p Distributing Selected ready true false e h = to-collecting p (sync_is p e h)
agrees p Distributing Selected ready false coll e h = to-collecting p (sync_is p e h)

pub bits_kept : (ready : Bool) (p : Port) → SaysMux p → SaysMux (mux_step ready p)
unfolding mux_step mux_choice
bits_kept ready p h =
    agrees p p.phase.mux p.phase.selected ready p.partner.state.synchronization p.partner.state.collecting refl h

run-agrees : (p : Port) → SaysMux p → SaysMux (mux_run p)
unfolding mux_run
run-agrees p h = bits_kept false (mux_step false p) (bits_kept false p h)
