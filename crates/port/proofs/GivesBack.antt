-- Where a test of a few fields says so, and only there, a step gives the record back, so that a look at them is enough. By cases on what the
-- machine looks at: where a transition applies, the state that it leads to is another. Assumes nothing.
use mathlib.Core.Path.{◌≡◌, refl, sym, ap, ◌∙◌}
use mathlib.Core.Bool.{Bool, true, false, cond, not, ◌&&◌, false≢true}
use borrow.Author.Tests.{not-true}
use Rattle.std.specs.Prelude.{Option, Some, None, is_none, unwrap_or}
use Rattle.octets.proofs.RangeLaws.{both, both_true}
use Rattle.machine.specs.declared.states.Receive.{Receive}
use Rattle.machine.specs.declared.states.Receive.TheVariants.{Initialize, PortDisabled, Expired, LacpDisabled, Defaulted, Current}
use Rattle.machine.specs.declared.states.Mux.{Mux}
use Rattle.machine.specs.declared.states.Mux.TheVariants.{Detached, Waiting, Attached, Collecting, Distributing}
use Rattle.machine.specs.declared.states.Selection.{Selection}
use Rattle.machine.specs.declared.states.Selection.TheVariants.{Unselected, Selected}
use Rattle.machine.specs.Mux.{mux_next}
use Rattle.machine.specs.Receive.{receive_next}
use Rattle.machine.specs.Time.{ran_out}
use Rattle.port.specs.declared.record.Port.{Port}
use Rattle.port.specs.Record.{with_ntt}
use Rattle.port.specs.Receive.{initialized, port_disabled, expired, lacp_disabled, defaulted, receive_taken, receive_choice, receive_step, receive_run, rests_receive}
use Rattle.port.specs.Periodic.{periodic_step, periodic_run, rests_periodic}
use Rattle.port.specs.Mux.{mux_taken, mux_choice, mux_step, mux_run, rests_mux}
use Rattle.port.specs.Transmit.{silent, ntt_cleared, is_settled}
use Rattle.port.proofs.ReceiveLaws.{receive-rests, run-stays}
use Rattle.port.proofs.PeriodicLaws.{periodic-rests, periodic-idle}
use Rattle.port.proofs.RestParts.{calm_rests, rests_calm}
use Rattle.port.proofs.TransmitLaws.{cleared_idle, cleared_keeps}

-- ---- the receive machine

none-is : {A : Type 0} (k : Option A) → is_none k ≡ true → k ≡ None
none-is None e = refl
none-is (Some s) e = absurd (false≢true e)

pub receive-gives-back : (p : Port) → rests_receive p ≡ true → receive_run p ≡ p
unfolding rests_receive
receive-gives-back p e = run-stays p (none-is (receive_choice p) e)

-- a state that is entered is another
receive_other : (s : Receive) (up full out : Bool) (p : Port) → p.phase.receive ≡ s → receive_taken (receive_next s up full out) p ≡ p
    → is_none (receive_next s up full out) ≡ true
unfolding initialized port_disabled expired lacp_disabled defaulted
receive_other Initialize up full out p h e = let x : PortDisabled ≡ Initialize = ap (λ (q : Port). q.phase.receive) e ∙ h in cc
receive_other PortDisabled false full out p h e = refl
receive_other PortDisabled true true out p h e = let x : Expired ≡ PortDisabled = ap (λ (q : Port). q.phase.receive) e ∙ h in cc
receive_other PortDisabled true false out p h e = let x : LacpDisabled ≡ PortDisabled = ap (λ (q : Port). q.phase.receive) e ∙ h in cc
receive_other Expired false full out p h e = let x : PortDisabled ≡ Expired = ap (λ (q : Port). q.phase.receive) e ∙ h in cc
receive_other Expired true full true p h e = let x : Defaulted ≡ Expired = ap (λ (q : Port). q.phase.receive) e ∙ h in cc
receive_other Expired true full false p h e = refl
receive_other LacpDisabled false full out p h e = let x : PortDisabled ≡ LacpDisabled = ap (λ (q : Port). q.phase.receive) e ∙ h in cc
receive_other LacpDisabled true full out p h e = refl
receive_other Defaulted false full out p h e = let x : PortDisabled ≡ Defaulted = ap (λ (q : Port). q.phase.receive) e ∙ h in cc
receive_other Defaulted true full out p h e = refl
receive_other Current false full out p h e = let x : PortDisabled ≡ Current = ap (λ (q : Port). q.phase.receive) e ∙ h in cc
receive_other Current true full true p h e = let x : Expired ≡ Current = ap (λ (q : Port). q.phase.receive) e ∙ h in cc
receive_other Current true full false p h e = refl

pub receive-given_back : (p : Port) → receive_run p ≡ p → rests_receive p ≡ true
unfolding rests_receive receive_step receive_choice
receive-given_back p e =
    receive_other p.phase.receive p.line.up p.line.full (ran_out p.timers.current) p refl (ap receive_step (sym e) ∙ receive-rests p ∙ e)

-- ---- the periodic machine

pub periodic-gives-back : (p : Port) → rests_periodic p ≡ true → periodic_run p ≡ p
unfolding rests_periodic
periodic-gives-back p e = periodic-idle p (calm_rests p e)

pub periodic-given_back : (p : Port) → periodic_run p ≡ p → rests_periodic p ≡ true
unfolding rests_periodic
periodic-given_back p e = rests_calm p (ap periodic_step (sym e) ∙ periodic-rests p ∙ e)

-- ---- the mux machine, and step 6

mux-gives-back : (p : Port) → rests_mux p ≡ true → mux_run p ≡ p
unfolding rests_mux mux_run mux_step
mux-gives-back p e = let stays = none-is (mux_choice false p) e in rw (stays, stays)

-- the state in which a step ends, and two
lands : Mux → Selection → Bool → Bool → Mux
lands m s sync coll = unwrap_or (mux_next (unwrap_or (mux_next m s false sync coll) m) s false sync coll) (unwrap_or (mux_next m s false sync coll) m)

-- what the transitions look at beside the state, a step keeps
record Looked (p q : Port) (m : Mux) : Type 0 where
  state : q.phase.mux ≡ m
  selected : q.phase.selected ≡ p.phase.selected
  synchronization : q.partner.state.synchronization ≡ p.partner.state.synchronization
  collecting : q.partner.state.collecting ≡ p.partner.state.collecting

taken-lands : (k : Option Mux) (p : Port) → Looked p (mux_taken k p) (unwrap_or k p.phase.mux)
taken-lands None p = record { state = refl; selected = refl; synchronization = refl; collecting = refl }
taken-lands (Some m) p = record { state = refl; selected = refl; synchronization = refl; collecting = refl }

run-lands : (p : Port) → (mux_run p).phase.mux ≡ lands p.phase.mux p.phase.selected p.partner.state.synchronization p.partner.state.collecting
unfolding mux_run mux_step mux_choice lands
run-lands p =
    let k = mux_next p.phase.mux p.phase.selected false p.partner.state.synchronization p.partner.state.collecting in
    let q = mux_taken k p in
    let h = taken-lands k p in
    (taken-lands (mux_choice false q) q).state ∙ rw (h.state, h.selected, h.synchronization, h.collecting)

-- where a transition applies, that is another than the state in which it began
mux-other : (m : Mux) (s : Selection) (sync coll : Bool) → lands m s sync coll ≡ m → is_none (mux_next m s false sync coll) ≡ true
unfolding lands
mux-other Detached Unselected sync coll e = refl
mux-other Detached Selected sync coll e = let x : Waiting ≡ Detached = e in cc
mux-other Waiting Unselected sync coll e = let x : Detached ≡ Waiting = e in cc
mux-other Waiting Selected sync coll e = refl
mux-other Attached Unselected sync coll e = let x : Detached ≡ Attached = e in cc
mux-other Attached Selected true true e = let x : Distributing ≡ Attached = e in cc
mux-other Attached Selected true false e = let x : Collecting ≡ Attached = e in cc
mux-other Attached Selected false coll e = refl
mux-other Collecting Unselected sync coll e = let x : Detached ≡ Collecting = e in cc
mux-other Collecting Selected true true e = let x : Distributing ≡ Collecting = e in cc
mux-other Collecting Selected true false e = refl
mux-other Collecting Selected false coll e = let x : Attached ≡ Collecting = e in cc
mux-other Distributing Unselected sync coll e = let x : Attached ≡ Distributing = e in cc
mux-other Distributing Selected true true e = refl
mux-other Distributing Selected true false e = let x : Collecting ≡ Distributing = e in cc
mux-other Distributing Selected false coll e = let x : Attached ≡ Distributing = e in cc

mux-given_back : (p : Port) → (mux_run p).phase.mux ≡ p.phase.mux → rests_mux p ≡ true
unfolding rests_mux mux_choice
mux-given_back p e =
    mux-other p.phase.mux p.phase.selected p.partner.state.synchronization p.partner.state.collecting (sym (run-lands p) ∙ e)

pub step_6_gives-back : (p : Port) → is_settled p ≡ true → ntt_cleared (mux_run p) ≡ p
unfolding is_settled
step_6_gives-back p e =
    let h = both (rests_mux p) (not (p.ntt && silent p)) e in
    ap ntt_cleared (mux-gives-back p h.0) ∙ cleared_idle p (not-true (p.ntt && silent p) h.1)

no_ntt : (p : Port) → ntt_cleared p ≡ p → not (p.ntt && silent p) ≡ true
unfolding ntt_cleared
no_ntt p e = by p.ntt (silent p) refl e
  where
    by : (n s : Bool) → p.ntt ≡ n → cond s (with_ntt p false) p ≡ p → not (n && s) ≡ true
    by false s h x = refl
    by true false h x = refl
    by true true h x = absurd (false≢true (ap (λ (q : Port). q.ntt) x ∙ h))

pub step_6_given_back : (p : Port) → ntt_cleared (mux_run p) ≡ p → is_settled p ≡ true
unfolding is_settled
step_6_given_back p e =
    let kept : (mux_run p).phase.mux ≡ p.phase.mux = ap (λ (q : Port). q.phase.mux) (sym (cleared_keeps (mux_run p)) ∙ ap (λ (q : Port). with_ntt q false) e) in
    let rests = mux-given_back p kept in
    both_true rests (no_ntt p (ap ntt_cleared (sym (mux-gives-back p rests)) ∙ e))
