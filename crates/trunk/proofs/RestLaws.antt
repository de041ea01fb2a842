-- Steps 3 to 6 done twice are done once. After them every port holds what the rule gives, no port waits for a Ready aggregator (either
-- its own timer was just started, or the port that held the aggregator back still does), and the Mux machine is at rest. Assumes nothing.
use Prim.Native.Nat.{ℕ, zero, suc, ◌<◌}
use mathlib.Core.Path.{◌≡◌, refl, sym, ap, ◌∙◌}
use mathlib.Core.Bool.{Bool, true, false, cond, not, ◌&&◌, ◌||◌, or-true, and-false, and-eq-true_iff, false≢true}
use mathlib.Core.List.{List, [], ◌∷◌, map}
use native.Mathlib.Omega.{arith}
use lib.ListN.{length, get_or, length-map}
use lib.Seq.{ext_get_or}
use lib.Dec.{eqb}
use borrow.Author.Tests.{eq-eqb, not-false}
use Rattle.std.specs.Prelude.{None}
use Rattle.octets.specs.Lists.{map_from}
use Rattle.octets.proofs.ListLaws.{map_at}
use Rattle.machine.specs.declared.states.Mux.{Mux}
use Rattle.machine.specs.declared.states.Mux.TheVariants.{Detached, Waiting, Attached, Collecting, Distributing}
use Rattle.machine.specs.declared.states.Selection.{Selection}
use Rattle.machine.specs.declared.states.Selection.TheVariants.{Unselected, Selected}
use Rattle.machine.specs.Mux.{mux_next, waits, is_attached}
use Rattle.machine.specs.Time.{ran_out}
use Rattle.port.specs.declared.record.Port.{Port}
use Rattle.port.specs.Record.{with_ntt}
use Rattle.port.specs.Compared.{compared}
use Rattle.port.specs.Mux.{mux_entered, mux_taken, mux_choice, mux_step, mux_run, attached_if}
use Rattle.port.specs.Transmit.{silent, ntt_cleared}
use Rattle.port.proofs.MuxLaws.{mux-rests, mux-idle, mux_step-keeps}
use Rattle.port.proofs.TransmitLaws.{cleared_keeps, cleared_twice}
use Rattle.table.specs.declared.layout.Header.{Header}
use Rattle.trunk.specs.Selection.{rule_of}
use Rattle.trunk.specs.Ready.{waits_for, has_waiting, holds_back, held_back, ready}
use Rattle.trunk.specs.Settled.{selected_all, attached_all, muxed, settled, Chosen}
use Rattle.trunk.proofs.ReadyLaws.{waits-waiting, attached-other, attached-stays, attached-enters, some-waits, waits-own, holds_kept}
use Rattle.trunk.proofs.SettledLaws.{chosen-kept, reselected-stays, attached-holds, muxed-holds, attached-length, attached-at, selected-length, selected-at, selected-chosen, settled-length, settled-from, settled-chosen, settled-rule}

-- ---- one port at rest

-- no transition enters the state that it leaves
no_loop : (m : Mux) (s : Selection) (ready sync coll : Bool) (p : Port) → p.phase.mux ≡ m → mux_taken (mux_next m s ready sync coll) p ≡ p
    → mux_next m s ready sync coll ≡ None
no_loop Detached Unselected ready sync coll p h e = refl
no_loop Detached Selected ready sync coll p h e = let x : Waiting ≡ Detached = ap (λ (q : Port). q.phase.mux) e ∙ h in cc
no_loop Waiting Unselected ready sync coll p h e = let x : Detached ≡ Waiting = ap (λ (q : Port). q.phase.mux) e ∙ h in cc
no_loop Waiting Selected true sync coll p h e = let x : Attached ≡ Waiting = ap (λ (q : Port). q.phase.mux) e ∙ h in cc
no_loop Waiting Selected false sync coll p h e = refl
no_loop Attached Unselected ready sync coll p h e = let x : Detached ≡ Attached = ap (λ (q : Port). q.phase.mux) e ∙ h in cc
no_loop Attached Selected ready true coll p h e = let x : Collecting ≡ Attached = ap (λ (q : Port). q.phase.mux) e ∙ h in cc
no_loop Attached Selected ready false coll p h e = refl
no_loop Collecting Unselected ready sync coll p h e = let x : Attached ≡ Collecting = ap (λ (q : Port). q.phase.mux) e ∙ h in cc
no_loop Collecting Selected ready true true p h e = let x : Distributing ≡ Collecting = ap (λ (q : Port). q.phase.mux) e ∙ h in cc
no_loop Collecting Selected ready true false p h e = refl
no_loop Collecting Selected ready false coll p h e = let x : Attached ≡ Collecting = ap (λ (q : Port). q.phase.mux) e ∙ h in cc
no_loop Distributing Unselected ready sync coll p h e = let x : Collecting ≡ Distributing = ap (λ (q : Port). q.phase.mux) e ∙ h in cc
no_loop Distributing Selected ready true true p h e = refl
no_loop Distributing Selected ready true false p h e = let x : Collecting ≡ Distributing = ap (λ (q : Port). q.phase.mux) e ∙ h in cc
no_loop Distributing Selected ready false coll p h e = let x : Collecting ≡ Distributing = ap (λ (q : Port). q.phase.mux) e ∙ h in cc

-- a port at rest takes no step
pub rest_chooses : (p : Port) → mux_step false p ≡ p → mux_choice false p ≡ None
unfolding mux_step mux_choice
rest_chooses p e =
    no_loop p.phase.mux p.phase.selected false p.partner.state.synchronization p.partner.state.collecting p refl e

-- nor does it with NTT cleared
if-rests : (b : Bool) (p : Port) → mux_choice false p ≡ None → mux_step false (cond b (with_ntt p false) p) ≡ cond b (with_ntt p false) p
unfolding mux_step mux_choice
if-rests true p e = rw e
if-rests false p e = rw e

cleared_rests : (p : Port) → mux_step false p ≡ p → mux_step false (ntt_cleared p) ≡ ntt_cleared p
unfolding ntt_cleared
cleared_rests p e = if-rests (silent p) p (rest_chooses p e)

-- a SELECTED port is at rest after the mux machine
pub chosen-rests : (p : Port) → Chosen p → mux_step false (mux_run p) ≡ mux_run p
unfolding Chosen
chosen-rests p s = mux-rests p s

-- and step 6 done twice is done once
pub muxed-twice : (p : Port) → Chosen p → muxed (muxed p) ≡ muxed p
unfolding muxed
muxed-twice p s =
    let y = mux_run p in
    let rest : mux_step false (ntt_cleared y) ≡ ntt_cleared y = cleared_rests y (chosen-rests p s) in
    ap ntt_cleared (mux-idle (ntt_cleared y) rest) ∙ cleared_twice y

-- ---- one port in step 6

-- a SELECTED port that waits goes on waiting
pub waiting-muxed : (p : Port) → waits p.phase.mux ≡ true → Chosen p → muxed p ≡ ntt_cleared p
unfolding muxed
waiting-muxed p w s = ap ntt_cleared (mux-idle p (stays p w s))
  where
    stays : (p : Port) → waits p.phase.mux ≡ true → Chosen p → mux_step false p ≡ p
    stays p w s = unfold mux_step mux_choice Chosen in rw (waits-waiting p.phase.mux w, s)

holds-waits : (k : ℕ) (p : Port) → holds_back k p ≡ true → waits p.phase.mux ≡ true
unfolding holds_back waits_for
holds-waits k p e =
    ((and-eq-true_iff (eqb p.aggregator k) (waits p.phase.mux)).0 ((and-eq-true_iff (eqb p.aggregator k && waits p.phase.mux) (not (ran_out p.timers.wait))).0 e).0).1

cleared_holds : (k : ℕ) (p : Port) → holds_back k (ntt_cleared p) ≡ holds_back k p
unfolding holds_back waits_for
cleared_holds k p = ap (λ (x : Port). holds_back k x) (cleared_keeps p)

-- one that holds an aggregator back goes on doing so
muxed-back : (k : ℕ) (p : Port) → Chosen p → holds_back k p ≡ true → holds_back k (muxed p) ≡ true
muxed-back k p s e = ap (holds_back k) (waiting-muxed p (holds-waits k p e) s) ∙ cleared_holds k p ∙ e

-- one that is detached starts to
first_step : (p : Port) → Chosen p → p.phase.mux ≡ Detached → mux_step false p ≡ mux_entered Waiting p
unfolding mux_step mux_choice Chosen
first_step p s e = rw (e, s)

second-step : (p : Port) → Chosen p → mux_step false (mux_entered Waiting p) ≡ mux_entered Waiting p
unfolding mux_step mux_choice Chosen
second-step p s = rw s

detached-run : (p : Port) → Chosen p → p.phase.mux ≡ Detached → mux_run p ≡ mux_entered Waiting p
unfolding mux_run
detached-run p s e = ap (mux_step false) (first_step p s e) ∙ second-step p s

pub entered-holds : (p : Port) → holds_back p.aggregator (mux_entered Waiting p) ≡ true
unfolding holds_back waits_for
entered-holds p = rw (eq-eqb p.aggregator p.aggregator refl)

detached-back : (p : Port) → Chosen p → p.phase.mux ≡ Detached → holds_back p.aggregator (muxed p) ≡ true
unfolding muxed
detached-back p s e =
    ap (λ (x : Port). holds_back p.aggregator (ntt_cleared x)) (detached-run p s e) ∙ cleared_holds p.aggregator (mux_entered Waiting p) ∙ entered-holds p

-- one that is attached does not wait
taken-attached : (m : Mux) (sync coll : Bool) (p : Port) → p.phase.mux ≡ m → is_attached m ≡ true
    → is_attached (mux_taken (mux_next m Selected false sync coll) p).phase.mux ≡ true
taken-attached Detached sync coll p h e = absurd (false≢true e)
taken-attached Waiting sync coll p h e = absurd (false≢true e)
taken-attached Attached true coll p h e = refl
taken-attached Attached false coll p h e = rw h
taken-attached Collecting true true p h e = refl
taken-attached Collecting true false p h e = rw h
taken-attached Collecting false coll p h e = refl
taken-attached Distributing true true p h e = rw h
taken-attached Distributing true false p h e = refl
taken-attached Distributing false coll p h e = refl

step-attached : (p : Port) → Chosen p → is_attached p.phase.mux ≡ true → is_attached (mux_step false p).phase.mux ≡ true
unfolding mux_step mux_choice Chosen
step-attached p s e =
    let sync = p.partner.state.synchronization in
    let coll = p.partner.state.collecting in
    ap (λ (t : Selection). is_attached (mux_taken (mux_next p.phase.mux t false sync coll) p).phase.mux) s
    ∙ taken-attached p.phase.mux sync coll p refl e

attached-waits : (m : Mux) → is_attached m ≡ true → waits m ≡ false
attached-waits Detached e = refl
attached-waits Waiting e = absurd (false≢true e)
attached-waits Attached e = refl
attached-waits Collecting e = refl
attached-waits Distributing e = refl

attached-muxed : (p : Port) → Chosen p → is_attached p.phase.mux ≡ true → waits (muxed p).phase.mux ≡ false
unfolding muxed mux_run
attached-muxed p s e =
    let x = mux_step false p in
    let t : Chosen x = chosen-kept p x (ap (λ (y : Port). y.phase.selected) (mux_step-keeps false p)) s in
    ap (λ (y : Port). waits y.phase.mux) (cleared_keeps (mux_step false x))
    ∙ attached-waits (mux_step false x).phase.mux (step-attached x t (step-attached p s e))

-- ---- all ports

-- a member that holds an aggregator back
pub some_holds : (k : ℕ) (ps : List Port) (i : ℕ) (d : Port) → i < length ps → holds_back k (get_or ps i d) ≡ true → held_back k ps ≡ true
unfolding held_back
some_holds k [] i d h e = absurd (omega arith)
some_holds k (p ∷ ps) zero d h e = rw e
some_holds k (p ∷ ps) (suc i) d h e = rw (some_holds k ps i d (omega arith) e, or-true (holds_back k p))

-- where each port that holds k back goes on doing so, k is still held back
held-map : (k : ℕ) (f : Port → Port) (ps : List Port) (d : Port)
    → ((j : ℕ) → j < length ps → holds_back k (get_or ps j d) ≡ true → holds_back k (f (get_or ps j d)) ≡ true) → held_back k ps ≡ true → held_back k (map f ps) ≡ true
unfolding held_back
held-map k f [] d keeps e = e
held-map k f (p ∷ ps) d keeps e =
    by (holds_back k p) refl e (λ x. held-map k f ps d (λ j h. keeps (suc j) (omega arith)) x)
  where
    by : (b : Bool) → holds_back k p ≡ b → b || held_back k ps ≡ true → (held_back k ps ≡ true → held_back k (map f ps) ≡ true)
        → holds_back k (f p) || held_back k (map f ps) ≡ true
    by true q x r = rw (keeps 0 (omega arith) q)
    by false q x r = rw (r x, or-true (holds_back k (f p)))

-- an aggregator that is held back is not Ready; one with a waiting port that is not Ready is held back
pub held-unready : (k : ℕ) (ps : List Port) → held_back k ps ≡ true → ready k ps ≡ false
unfolding ready
held-unready k ps e = rw (e, and-false (has_waiting k ps))

unready-held : (k : ℕ) (ps : List Port) → has_waiting k ps ≡ true → ready k ps ≡ false → held_back k ps ≡ true
unfolding ready
unready-held k ps w e = not-false (held_back k ps) (rw w at e)

module _ (ss : List Port) (d : Port) (chosen : (j : ℕ) → j < length ss → Chosen (get_or ss j d)) where
  -- steps 5 and 6 on ports that are all SELECTED
  after : List Port
  after = map muxed (attached_all ss)

  after-length : length after ≡ length ss
  unfolding after
  after-length = length-map (attached_all ss) muxed ∙ attached-length ss

  -- such a port of them that holds an aggregator back does so to the end
  held_after : (k : ℕ) → held_back k ss ≡ true → held_back k after ≡ true
  unfolding after attached_all
  held_after k e =
      held-map k muxed (map f ss) d
      (λ j h x.
      let here : j < length ss = rw (length-map ss f) at h in
      muxed-back k (get_or (map f ss) j d) (rw (map_at f ss j d d here)
      (chosen-kept (get_or ss j d) (f (get_or ss j d)) (attached-holds (ready (get_or ss j d).aggregator ss) (get_or ss j d)).0 (chosen j here))) x)
      (held-map k f ss d (λ j h x. holds_kept ss d k j h (chosen j h) ∙ x) e)
    where
      f : Port → Port
      f p = attached_if (ready p.aggregator ss) p

  module _ (i : ℕ) (h : i < length ss) where
    was : Port
    was = get_or ss i d

    then : Port
    then = attached_if (ready was.aggregator ss) was

    after-at : get_or after i d ≡ muxed then
    unfolding after then was
    after-at = map_at muxed (attached_all ss) i d d (rw (attached-length ss) h) ∙ ap muxed (attached-at ss i d h)

    then-chosen : Chosen then
    unfolding then was
    then-chosen = chosen-kept was then (attached-holds (ready was.aggregator ss) was).0 (chosen i h)

    then-holds : then.aggregator ≡ was.aggregator
    unfolding then
    then-holds = (attached-holds (ready was.aggregator ss) was).1

    -- one that still waits before step 6 is held back
    waits-held : then.phase.mux ≡ Waiting → held_back was.aggregator after ≡ true
    unfolding then was
    waits-held e = by (waits was.phase.mux) (ready was.aggregator ss) refl refl
      where
        by : (w r : Bool) → waits was.phase.mux ≡ w → ready was.aggregator ss ≡ r → held_back was.aggregator after ≡ true
        by false r w x =
            absurd (false≢true (sym w ∙ ap (λ (q : Port). waits q.phase.mux) (sym (attached-other (ready was.aggregator ss) was w)) ∙ ap waits e))
        by true true w x =
            let is : then ≡ mux_entered Attached was = rw x (attached-enters was w (chosen i h)) in
            absurd (false≢true (ap (λ (q : Port). waits q.phase.mux) (sym is) ∙ ap waits e))
        by true false w x = held_after was.aggregator (unready-held was.aggregator ss (some-waits was.aggregator ss i d h (waits-own was w)) x)

    waits-then : waits (muxed then).phase.mux ≡ true → (m : Mux) → then.phase.mux ≡ m → held_back was.aggregator after ≡ true
    waits-then w Detached e =
        some_holds was.aggregator after i d (rw after-length h) (rw (after-at, ← then-holds) (detached-back then then-chosen e))
    waits-then w Waiting e = waits-held e
    waits-then w Attached e = absurd (false≢true (sym (attached-muxed then then-chosen (ap is_attached e)) ∙ w))
    waits-then w Collecting e = absurd (false≢true (sym (attached-muxed then then-chosen (ap is_attached e)) ∙ w))
    waits-then w Distributing e = absurd (false≢true (sym (attached-muxed then then-chosen (ap is_attached e)) ∙ w))

    none-ready-after : waits (get_or after i d).phase.mux ≡ true → ready (get_or after i d).aggregator after ≡ false
    none-ready-after w =
        let k : (get_or after i d).aggregator ≡ was.aggregator = ap (λ (q : Port). q.aggregator) after-at ∙ (muxed-holds then).1 ∙ then-holds in
        rw k (held-unready was.aggregator after (waits-then (rw after-at at w) then.phase.mux refl))

-- ---- steps 3 to 6 are at rest after themselves

module _ (ours : Header) (ps : List Port) where
  -- no port waits for a Ready aggregator after them
  pub none-ready : (i : ℕ) (d : Port) → i < length ps → waits (get_or (settled ours ps) i d).phase.mux ≡ true
      → ready (get_or (settled ours ps) i d).aggregator (settled ours ps) ≡ false
  unfolding settled after
  none-ready i d h w =
      none-ready-after (selected_all ours ps) d (λ j k. selected-chosen ours ps j d (rw (selected-length ours ps) at k)) i (rw (selected-length ours ps) h) w

  module _ (d : Port) where
    -- so each of them changes nothing more: steps 3 and 4
    rest-selected : selected_all ours (settled ours ps) ≡ settled ours ps
    rest-selected =
        let qs = settled ours ps in
        ext_get_or d (selected_all ours qs) qs (selected-length ours qs)
        (λ i k. let h : i < length qs = rw (selected-length ours qs) at k in
        let g : i < length ps = rw (settled-length ours ps) at h in
        selected-at ours qs i d h
        ∙ reselected-stays (rule_of ours (map compared qs) i) (get_or qs i d) (settled-chosen ours ps i d g) (settled-rule ours ps i d g))

    -- step 5
    rest-attached : attached_all (settled ours ps) ≡ settled ours ps
    rest-attached =
        let qs = settled ours ps in
        ext_get_or d (attached_all qs) qs (attached-length qs)
        (λ i k. let h : i < length qs = rw (attached-length qs) at k in
        attached-at qs i d h ∙ by i (rw (settled-length ours ps) at h) (waits (get_or qs i d).phase.mux) refl)
      where
        by : (i : ℕ) → i < length ps → (b : Bool) → waits (get_or (settled ours ps) i d).phase.mux ≡ b
            → attached_if (ready (get_or (settled ours ps) i d).aggregator (settled ours ps)) (get_or (settled ours ps) i d) ≡ get_or (settled ours ps) i d
        by i h true w = rw (none-ready i d h w) (attached-stays (get_or (settled ours ps) i d) w (settled-chosen ours ps i d h))
        by i h false w = attached-other (ready (get_or (settled ours ps) i d).aggregator (settled ours ps)) (get_or (settled ours ps) i d) w

    -- step 6
    rest-muxed : map muxed (settled ours ps) ≡ settled ours ps
    rest-muxed =
        let qs = settled ours ps in
        ext_get_or d (map muxed qs) qs (length-map qs muxed)
        (λ i k. let h : i < length qs = rw (length-map qs muxed) at k in
        let g : i < length ps = rw (settled-length ours ps) at h in
        let a = get_or (attached_all (selected_all ours ps)) i d in
        let e : get_or qs i d ≡ muxed a = settled-from ours ps i d g in
        let s : Chosen a =
        chosen-kept (get_or qs i d) a (sym (muxed-holds a).0 ∙ sym (ap (λ (x : Port). x.phase.selected) e)) (settled-chosen ours ps i d g) in
        map_at muxed qs i d d h ∙ ap muxed e ∙ muxed-twice a s ∙ sym e)

    rest-settled : settled ours (settled ours ps) ≡ settled ours ps
    unfolding settled
    rest-settled = ap (λ (l : List Port). map muxed (attached_all l)) rest-selected ∙ ap (map muxed) rest-attached ∙ rest-muxed

-- done twice is done once
pub settled-twice : (ours : Header) (ps : List Port) → settled ours (settled ours ps) ≡ settled ours ps
settled-twice ours [] = unfold settled attached_all selected_all map_from in refl
settled-twice ours (p ∷ ps) = rest-settled ours (p ∷ ps) p
