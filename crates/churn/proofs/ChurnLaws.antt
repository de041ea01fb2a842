-- Laws of the churn detection machine: a run leads to rest, whatever the memory held; it keeps the ranges; and a group and its octets fix each other.
-- By the cases of the figures. Assumes nothing.
use Prim.Native.Nat.{ℕ, ◌≤◌, ◌<◌}
use mathlib.Core.Path.{◌≡◌, refl, sym, ap, ◌∙◌}
use mathlib.Core.Bool.{Bool, true, false}
use mathlib.Core.List.{List}
use native.Mathlib.Omega.{arith}
use lib.ListN.{get_or}
use lib.Dec.{leb, ltb}
use borrow.Author.Tests.{leb-true, le-leb, lt-ltb, ltb-true}
use Rattle.std.specs.Prelude.{Option, Some, None}
use Rattle.octets.specs.Octets.{Octets, number_at, joined, high, low, long_at}
use Rattle.octets.proofs.Laws.{number-back}
use Rattle.octets.proofs.LongLaws.{long-back, long-fits}
use Rattle.octets.proofs.RangeLaws.{both, both_true}
use Rattle.machine.specs.States.{ticks}
use Rattle.machine.specs.Time.{ran_out}
use Rattle.port.specs.declared.record.Port.{Port}
use Rattle.churn.specs.declared.watch.Churn.{Churn as State}
use Rattle.churn.specs.declared.watch.Churn.TheVariants.{NoChurn, Monitor, Churn}
use Rattle.churn.specs.declared.Stage.{Stage}
use Rattle.churn.specs.declared.Stage.TheVariants.{Start, Tick, Other}
use Rattle.churn.specs.declared.watch.Watch.{Watch}
use Rattle.churn.specs.declared.watch.Monitors.{Monitors}
use Rattle.churn.specs.Churn.{churn_detection_time, watch, monitors, churn_next, churn_entered, churn_taken, churn_choice, watched, watching, watch_fallen, monitors_fallen, both_begun}
use Rattle.churn.specs.Group.{churn_code, churn_of, group_octets, group_of, group_in_range, watch_fits, monitors_fit}
use Rattle.churn.specs.Whole.{prepared}

-- ---- a run leads to rest

run-twice : (up : Bool) (s : State) (sync out : Bool) (w : Watch) → w.state ≡ s → ran_out w.timer ≡ out
    → watched up sync (churn_taken (churn_next up s sync out) w) ≡ churn_taken (churn_next up s sync out) w
unfolding watched churn_choice
run-twice false s sync out w e o = refl
run-twice true NoChurn true out w e o = rw e
run-twice true NoChurn false out w e o = refl
run-twice true Monitor true out w e o = refl
run-twice true Monitor false true w e o = refl
run-twice true Monitor false false w e o = rw (e, o)
run-twice true Churn true out w e o = refl
run-twice true Churn false out w e o = rw e

pub watched-twice : (up sync : Bool) (w : Watch) → watched up sync (watched up sync w) ≡ watched up sync w
watched-twice up sync w =
    ap (λ (x : Watch). watched up sync x) (is w) ∙ run-twice up w.state sync (ran_out w.timer) w refl refl ∙ sym (is w)
  where
    is : (x : Watch) → watched up sync x ≡ churn_taken (churn_next up x.state sync (ran_out x.timer)) x
    is x = unfold watched churn_choice in refl

pub watching-twice : (p : Port) (m : Monitors) → watching p (watching p m) ≡ watching p m
unfolding watching
watching-twice p m =
    λ i. monitors (watched-twice p.line.up p.actor.synchronization m.actor i) (watched-twice p.line.up p.partner.state.synchronization m.partner i)

-- ---- ranges

record Fits (w : Watch) : Type 0 where
  timer : w.timer.0 ≤ churn_detection_time
  count : w.count < 4294967296

fits : (w : Watch) → watch_fits w ≡ true → Fits w
fits w e =
    let h = both (leb w.timer.0 churn_detection_time) (ltb w.count 4294967296) e in
    record { timer = leb-true w.timer.0 churn_detection_time h.0; count = ltb-true w.count 4294967296 h.1 }

fits-is : (w : Watch) → Fits w → watch_fits w ≡ true
fits-is w f = both_true (le-leb w.timer.0 churn_detection_time f.timer) (lt-ltb w.count 4294967296 f.count)

entered-fits : (s : State) (w : Watch) → Fits w → Fits (churn_entered s w)
entered-fits NoChurn w f = record { timer = omega arith; count = f.count }
entered-fits Monitor w f = record { timer = omega arith; count = f.count }
entered-fits Churn w f = record { timer = omega arith; count = omega arith }

pub watched-fits : (up sync : Bool) (w : Watch) → watch_fits w ≡ true → watch_fits (watched up sync w) ≡ true
unfolding watched
watched-fits up sync w e = by (churn_choice up sync w)
  where
    by : (k : Option State) → watch_fits (churn_taken k w) ≡ true
    by None = e
    by (Some s) = fits-is (churn_entered s w) (entered-fits s w (fits w e))

fallen-fits : (w : Watch) → watch_fits w ≡ true → watch_fits (watch_fallen w) ≡ true
fallen-fits w e = let f = fits w e in let t = f.timer in fits-is (watch_fallen w) (record { timer = omega (arith, t); count = f.count })

pub watching-fit : (p : Port) (m : Monitors) → monitors_fit m ≡ true → monitors_fit (watching p m) ≡ true
unfolding watching monitors_fit
watching-fit p m e =
    let h = both (watch_fits m.actor) (watch_fits m.partner) e in
    both_true (watched-fits p.line.up p.actor.synchronization m.actor h.0) (watched-fits p.line.up p.partner.state.synchronization m.partner h.1)

pub fallen-fit : (m : Monitors) → monitors_fit m ≡ true → monitors_fit (monitors_fallen m) ≡ true
unfolding monitors_fallen monitors_fit
fallen-fit m e = let h = both (watch_fits m.actor) (watch_fits m.partner) e in both_true (fallen-fits m.actor h.0) (fallen-fits m.partner h.1)

pub begun-fit : monitors_fit both_begun ≡ true
unfolding monitors_fit
begun-fit = refl

pub prepared-fit : (s : Stage) (m : Monitors) → monitors_fit m ≡ true → monitors_fit (prepared s m) ≡ true
prepared-fit Start m e = begun-fit
prepared-fit Tick m e = fallen-fit m e
prepared-fit Other m e = e

-- ---- a group and its octets

code-back : (s : State) → churn_of (churn_code s) ≡ s
code-back NoChurn = refl
code-back Monitor = refl
code-back Churn = refl

code-small : (s : State) → leb (churn_code s) 2 ≡ true
code-small NoChurn = refl
code-small Monitor = refl
code-small Churn = refl

pub group-back : (m : Monitors) → group_of (group_octets m) ≡ m
unfolding group_of group_octets
group-back m =
    λ i. monitors
    (watch (code-back m.actor.state i) (ticks (number-back m.actor.timer.0 i)) (long-back m.actor.count i))
    (watch (code-back m.partner.state i) (ticks (number-back m.partner.timer.0 i)) (long-back m.partner.count i))

pub group-ranged : (m : Monitors) → monitors_fit m ≡ true → group_in_range (group_octets m) ≡ true
unfolding group_in_range group_octets monitors_fit
group-ranged m e =
    let h = both (watch_fits m.actor) (watch_fits m.partner) e in
    let a = fits m.actor h.0 in
    let p = fits m.partner h.1 in
    both_true (code-small m.actor.state) (both_true (code-small m.partner.state)
    (both_true (timed m.actor.timer.0 a.timer) (timed m.partner.timer.0 p.timer)))
  where
    timed : (n : ℕ) → n ≤ churn_detection_time → leb (joined (high n) (low n)) churn_detection_time ≡ true
    timed n k = ap (λ (x : ℕ). leb x churn_detection_time) (number-back n) ∙ le-leb n churn_detection_time k

-- what octets in range tell of fits
pub group-fits : (l : List ℕ) → Octets l → group_in_range l ≡ true → monitors_fit (group_of l) ≡ true
unfolding group_in_range group_of monitors_fit
group-fits l o e =
    let h = both (leb (get_or l 0 0) 2) _ e in
    let g = both (leb (get_or l 1 0) 2) _ h.1 in
    let t = both (leb (number_at l 2) churn_detection_time) (leb (number_at l 4) churn_detection_time) g.1 in
    both_true (both_true t.0 (counts 6)) (both_true t.1 (counts 10))
  where
    counts : (i : ℕ) → ltb (long_at l i) 4294967296 ≡ true
    counts i = lt-ltb (long_at l i) 4294967296 (long-fits l o i)
