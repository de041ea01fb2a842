-- A port that distributes goes on doing so unless it is SELECTED no longer, its partner is out of sync or does not collect, or the rule gives
-- it another aggregator; and each of these has a cause in the call. By cases on what the call makes of the port. Assumes nothing.
use Prim.Native.Nat.{ℕ, zero, suc, ◌+◌, ◌-◌, ◌<◌}
use mathlib.Core.Path.{◌≡◌, refl, sym, ap, ◌∙◌, subst}
use mathlib.Core.Logic.{◌⊎◌, inl, inr}
use mathlib.Core.Bool.{Bool, true, false, cond, or-true, true≢false, false≢true}
use mathlib.Core.List.{List, [], map}
use native.Mathlib.Omega.{arith}
use lib.ListN.{get_or, replicate}
use lib.Dec.{eqb}
use borrow.Author.Tests.{eqb-true, eq-eqb, ne_eqb}
use Rattle.std.specs.Prelude.{Ok, Err, Some, None}
use Rattle.octets.proofs.RangeLaws.{both}
use Rattle.frame.specs.declared.block.Block.{Block}
use Rattle.frame.specs.Block.{block_of}
use Rattle.frame.specs.Wire.{actor_part, partner_part}
use Rattle.machine.specs.declared.states.Mux.TheVariants.{Distributing}
use Rattle.machine.specs.declared.states.Line.{Line}
use Rattle.machine.specs.declared.states.Receive.{Receive}
use Rattle.machine.specs.declared.states.Receive.TheVariants.{Initialize, PortDisabled, Expired, LacpDisabled, Defaulted, Current}
use Rattle.machine.specs.declared.states.Selection.TheVariants.{Unselected}
use Rattle.machine.specs.Compare.{same_party, same_view, in_sync}
use Rattle.machine.specs.Mux.{waits, distributes, is_unselected}
use Rattle.machine.specs.Receive.{receive_next, is_disabled}
use Rattle.machine.specs.Time.{long_timeout_time}
use Rattle.port.specs.declared.record.Port.{Port}
use Rattle.port.specs.Compared.{compared}
use Rattle.port.specs.Record.{with_line, with_ntt, actor_block}
use Rattle.port.specs.Mux.{mux_choice, mux_step, mux_run}
use Rattle.port.specs.Periodic.{periodic_run}
use Rattle.port.specs.Receive.{record_default, record_pdu, update_selected, update_ntt, unselected, initialized, port_disabled, expired, pdu_recorded, current, receive_choice, receive_run, moved, received, down, lined}
use Rattle.port.specs.Rest.{is_unheard, Resting}
use Rattle.port.specs.Timing.{Timed, uses_current}
use Rattle.port.specs.Transmit.{sent, ticked, advanced}
use Rattle.port.proofs.MuxLaws.{mux-idle}
use Rattle.port.proofs.PeriodicLaws.{periodic-keeps}
use Rattle.port.proofs.ReceiveLaws.{run-stays, run_enters}
use Rattle.port.proofs.RestKept.{Seat, seat, disabled_down, lined-falls}
use Rattle.port.proofs.RestParts.{standing}
use Rattle.port.proofs.TransmitLaws.{cleared_keeps}
use Rattle.settings.specs.declared.Settings.{Settings}
use Rattle.settings.specs.Settings.{same_grouping, regrouped, configured, blank, started}
use Rattle.settings.proofs.SettingsLaws.{configured-partner}
use Rattle.table.specs.declared.layout.Header.{Header}
use Rattle.table.specs.Record.{decoded}
use Rattle.table.specs.Table.{count_in, port_at, ports, ours, again}
use Rattle.trunk.specs.Displaced.{is_displaced}
use Rattle.trunk.specs.Selection.{shares_group, lowest, rule_of}
use Rattle.trunk.specs.Settled.{must_move, muxed, Chosen}
use Rattle.trunk.proofs.GroupLaws.{Shift, lower_joined, lowest-left, rule_shifts}
use Rattle.trunk.proofs.MoveLaws.{settled-stays}
use Rattle.work.specs.Work.{worked, received_at}
use Rattle.control.specs.Answer.{Answer}
use Rattle.control.specs.Call.{Call, start, receive, tick, line, configure, fetch, report, aggregator, due, is_start}
use Rattle.control.specs.After.{answer, after}
use Rattle.control.specs.Accepted.{accepted}
use Rattle.control.proofs.CallLaws.{refused-table}
use Rattle.why.specs.Cause.{why_of}
use Rattle.claims.specs.Run.{Takes}
use Rattle.claims.specs.AtRest.{Sound}
use Rattle.claims.specs.Thinner.{goes_on, Why, restarted, other-line, regrouped as why_regrouped, told, unheard, joined, left, ThinnerForAReason}
use Rattle.claims.specs.Told.{why_in, held_in, led_down, GoesWith, Thinned, ThinnerTold}
use Rattle.claims.proofs.Sound.{Before, port-resting}
use Rattle.claims.proofs.Calls.{never_stuck}
use Rattle.claims.proofs.Locality.{work_read}
use Rattle.claims.proofs.Rule.{port_firm, distributing-earned}
use Rattle.claims.proofs.Course.{Own, as_was, hears, moves, ages, turns, gets, Course, stays, sends, works, course, paced-inside, paced-at, work_at}
use Rattle.claims.proofs.Counts.{call-count}
use Rattle.claims.proofs.LineCall.{lined-line}
use Rattle.claims.proofs.Views.{settled-view}
use Rattle.claims.proofs.Moves.{own-seat, unselected-moves, alike-inside, alike_at, start-at}
use Rattle.claims.proofs.Told.{is-distributing}
use Rattle.claims.proofs.Named.{down_cause, led, by-frame, by-tick, by-other-line}

-- ---- a port that distributes

-- with all that keeps it doing so, but for the rule
record Carrying (k : ℕ) (p : Port) : Type 0 where
  chosen : Chosen p
  state : p.phase.mux ≡ Distributing
  holds : p.aggregator ≡ k
  synchronization : p.partner.state.synchronization ≡ true
  collecting : p.partner.state.collecting ≡ true

-- it takes no step of the mux machine
carries-rests : (k : ℕ) (p : Port) → Carrying k p → mux_step false p ≡ p
unfolding mux_step mux_choice Chosen
carries-rests k p c = rw (c.state, c.chosen, c.synchronization, c.collecting)

carries-on : (k : ℕ) (p : Port) → Carrying k p → distributes (muxed p).phase.mux ≡ true
unfolding muxed
carries-on k p c =
    ap (λ (x : Port). distributes x.phase.mux) (cleared_keeps (mux_run p)) ∙ ap (λ (x : Port). distributes x.phase.mux) (mux-idle p (carries-rests k p c))
    ∙ ap distributes c.state

carries-stays : (k : ℕ) (p : Port) → Carrying k p → must_move k p ≡ false
unfolding must_move Chosen
carries-stays k p c = rw (c.chosen, eq-eqb p.aggregator k c.holds)

paced-carries : (k : ℕ) (p : Port) → Carrying k p → Carrying k (periodic_run p)
unfolding Chosen
paced-carries k p c = record {
  chosen = ap (λ (x : Port). x.phase.selected) (periodic-keeps p) ∙ c.chosen;
  state = ap (λ (x : Port). x.phase.mux) (periodic-keeps p) ∙ c.state;
  holds = ap (λ (x : Port). x.aggregator) (periodic-keeps p) ∙ c.holds;
  synchronization = ap (λ (x : Port). x.partner.state.synchronization) (periodic-keeps p) ∙ c.synchronization;
  collecting = ap (λ (x : Port). x.partner.state.collecting) (periodic-keeps p) ∙ c.collecting;
}

-- ---- the rule gives it another aggregator

module _ (c : Call) (t : List ℕ) (s : Sound t) (i : ℕ) (h : i < count_in t) (ps : List Port) (b : Before t ps) where
  qs : List Port
  qs = map periodic_run ps

  was : ℕ
  was = rule_of (ours t) (map compared (ports t)) i

  -- where it does not, the port distributes
  keeps : Carrying was (get_or ps i (decoded [])) → was ≡ rule_of (ours t) (map compared qs) i → distributes (port_at (again t (worked (ours t) ps)) i).phase.mux ≡ true
  unfolding qs was
  keeps x e =
      let q = get_or qs i (decoded []) in
      let y : Carrying was q = subst (Carrying was) (sym (paced-at t s ps b i h)) (paced-carries was (get_or ps i (decoded [])) x) in
      let still : must_move (rule_of (ours t) (map compared qs) i) q ≡ false = rw (← e) (carries-stays was q y) in
      ap (λ (p : Port). distributes p.phase.mux) (work_at t s ps b i h)
      ∙ ap (λ (p : Port). distributes p.phase.mux) (settled-stays (ours t) qs i (decoded []) (paced-inside t s ps b i h) still (ap waits y.state))
      ∙ carries-on was q y

  -- a port that carried on is led down
  led-down : Carrying was (get_or ps i (decoded [])) → (was ≡ rule_of (ours t) (map compared qs) i → ⊥) → (why_in (again t (worked (ours t) ps)) i).cause ≡ Some (led_down (port_at (again t (worked (ours t) ps)) i))
  unfolding qs must_move
  led-down x differs =
      let q = get_or qs i (decoded []) in
      let holds : q.aggregator ≡ was = (subst (Carrying was) (sym (paced-at t s ps b i h)) (paced-carries was (get_or ps i (decoded [])) x)).holds in
      let other : eqb q.aggregator (rule_of (ours t) (map compared qs) i) ≡ false = ne_eqb q.aggregator (rule_of (ours t) (map compared qs) i) (λ e. differs (sym holds ∙ e)) in
      led t s i h ps b (rw other (or-true (is_unselected q.phase.selected))) x.synchronization

  shifted : after c t ≡ again t (worked (ours t) ps) → (port_at t i).aggregator ≡ was → (why_in (after c t) i).cause ≡ Some (led_down (port_at (after c t) i))
      → Shift (ours t) (map compared (ports t)) (map compared qs) i → Thinned c t i
  unfolding qs was rule_of
  shifted is holds x (lower_joined k less before then) = record {
    event = joined k (omega (arith, holds)) before
        (ap (λ (u : List ℕ). shares_group (ours t) (map compared (ports u)) i k) is ∙ rw (work_read t s ps b) then);
    names = x;
  }
  shifted is holds x (lowest-left before then) =
      let k = lowest (ours t) (map compared (ports t)) i in record {
        event = left k (sym holds) before (ap (λ (u : List ℕ). shares_group (ours t) (map compared (ports u)) i k) is ∙ rw (work_read t s ps b) then);
        names = x;
      }

  stops : Carrying was (get_or ps i (decoded [])) → after c t ≡ again t (worked (ours t) ps) → (port_at t i).aggregator ≡ was
      → distributes (port_at (after c t) i).phase.mux ≡ false → Thinned c t i
  unfolding was
  stops x is holds e =
      let differs : was ≡ rule_of (ours t) (map compared qs) i → ⊥ = λ y. true≢false (sym (keeps x y) ∙ ap (λ (u : List ℕ). distributes (port_at u i).phase.mux) (sym is) ∙ e) in
      shifted is holds (subst (λ (u : List ℕ). (why_in u i).cause ≡ Some (led_down (port_at u i))) (sym is) (led-down x differs))
      (rule_shifts (ours t) (map compared (ports t)) (map compared qs) i differs)

-- ---- what the call's own rule makes of it

-- an LACPDU that tells of the partner as it is
heard-selected : (us a b : Block) (p : Port) → same_party a p.partner ≡ true → (current us a b p).phase.selected ≡ p.phase.selected
unfolding current pdu_recorded record_pdu update_ntt update_selected
heard-selected us a b p e = by (same_party a p.partner) (same_view b us) e
  where
    by : (x v : Bool) → x ≡ true → (cond v (cond x p (unselected p)) (with_ntt (cond x p (unselected p)) true)).phase.selected ≡ p.phase.selected
    by true true e = refl
    by true false e = refl
    by false v e = absurd (false≢true e)

heard-partner : (us a b : Block) (p : Port)
    → ((current us a b p).partner.state.synchronization ≡ in_sync us a b) × ((current us a b p).partner.state.collecting ≡ a.state.collecting)
unfolding current pdu_recorded record_pdu
heard-partner us a b p = (refl, refl)

-- a tick at which the current-while timer does not run out
same_out : (n : ℕ) → eqb n 1 ≡ false → eqb (n - 1) 0 ≡ eqb n 0
same_out zero e = refl
same_out (suc zero) e = absurd (true≢false e)
same_out (suc (suc n)) e = ne_eqb (suc (suc n) - 1) 0 (λ x. omega (arith, x)) ∙ sym (ne_eqb (suc (suc n)) 0 (λ x. omega (arith, x)))

ticked-choice : (p : Port) → eqb p.timers.current.0 1 ≡ false → receive_choice (ticked p) ≡ receive_choice p
unfolding receive_choice ticked
ticked-choice p e = ap (λ (b : Bool). receive_next p.phase.receive p.line.up p.line.full b) (same_out p.timers.current.0 e)

advanced-is : (p : Port) → receive_choice p ≡ None → eqb p.timers.current.0 1 ≡ false → advanced p ≡ ticked p
unfolding advanced
advanced-is p r e = run-stays (ticked p) (ticked-choice p e ∙ r)

ticked-carries : (k : ℕ) (p : Port) → Carrying k p → Carrying k (ticked p)
unfolding ticked Chosen
ticked-carries k p c = record { chosen = c.chosen; state = c.state; holds = c.holds; synchronization = c.synchronization; collecting = c.collecting }

-- settings that do not regroup it
set-selected : (x : Settings) (p : Port) → same_grouping x p ≡ true → (configured x p).phase.selected ≡ p.phase.selected
unfolding configured regrouped
set-selected x p e = ap (λ (b : Bool). (cond b p (unselected p)).phase.selected) e

-- in CURRENT, where the current-while timer runs; and in EXPIRED after the tick at which it runs out
current-runs : (p : Port) → Resting p → p.partner.state.synchronization ≡ true → p.timers.current.0 ≡ 1 → p.phase.receive ≡ Current
current-runs p r sync e = by p.phase.receive refl r.current
  where
    stopped : {A : Type 0} → p.timers.current.0 ≡ 0 → A
    stopped z = absurd (omega (arith, e, z))

    by : (x : Receive) → p.phase.receive ≡ x → Timed (uses_current x) long_timeout_time p.timers.current → p.phase.receive ≡ Current
    by Initialize is w = stopped (w.stopped refl)
    by PortDisabled is w = stopped (w.stopped refl)
    by Expired is w = absurd (true≢false (sym sync ∙ r.unheard (ap is_unheard is)))
    by LacpDisabled is w = stopped (w.stopped refl)
    by Defaulted is w = stopped (w.stopped refl)
    by Current is w = is

ticked-ends : (p : Port) → p.phase.receive ≡ Current → p.line.up ≡ true → p.timers.current.0 ≡ 1 → receive_choice (ticked p) ≡ Some Expired
unfolding receive_choice ticked
ticked-ends p r u e = rw (r, u, e)

after-expired : (p : Port) → p.line.up ≡ true → receive_choice (expired p) ≡ None
unfolding receive_choice expired
after-expired p u = rw u

advanced-expired : (p : Port) → p.phase.receive ≡ Current → p.line.up ≡ true → p.timers.current.0 ≡ 1 → (advanced p).phase.receive ≡ Expired
unfolding advanced ticked expired
advanced-expired p r u e = ap (λ (x : Port). x.phase.receive) (run_enters (ticked p) Expired (ticked-ends p r u e) (after-expired (ticked p) u))

-- a line that is up at full duplex is begun in EXPIRED
risen_starts : (p : Port) (l : Line) → p.phase.receive ≡ PortDisabled → l.up ≡ true → l.full ≡ true → receive_choice (with_line p l) ≡ Some Expired
unfolding receive_choice
risen_starts p l r u f = rw (r, u, f)

lined-expired : (p : Port) → Resting p → (l : Line) → l.up ≡ true → l.full ≡ true → (lined l p).phase.receive ≡ Expired
unfolding lined expired
lined-expired p rest l u f =
    let fell = receive_run (with_line p (down p.line)) in
    ap (λ (x : Port). x.phase.receive) (run_enters (with_line fell l) Expired (risen_starts fell l (lined-falls p (standing p rest)) u f) (after-expired (with_line fell l) u))

-- settings that regroup it make it UNSELECTED
set_unselects : (x : Settings) (p : Port) → same_grouping x p ≡ false → (configured x p).phase.selected ≡ Unselected
unfolding configured regrouped
set_unselects x p e = ap (λ (b : Bool). (cond b p (unselected p)).phase.selected) e

module _ (c : Call) (t : List ℕ) (s : Sound t) (i : ℕ) (h : i < count_in t) (k : ℕ) (here : Carrying k (port_at t i)) (up : (port_at t i).line.up ≡ true) where
  -- with the seat that it had
  seated : (p : Port) → seat p ≡ seat (port_at t i) → Chosen p → p.partner.state.synchronization ≡ true → p.partner.state.collecting ≡ true → Carrying k p
  seated p e chosen sync coll = record {
    chosen = chosen;
    state = ap (λ (x : Seat). x.mux) e ∙ here.state;
    holds = ap (λ (x : Seat). x.aggregator) e ∙ here.holds;
    synchronization = sync;
    collecting = coll;
  }

  module _ (ps : List Port) (b : Before t ps) (is : after c t ≡ again t (worked (ours t) ps)) (e : distributes (port_at (after c t) i).phase.mux ≡ false) where
    p : Port
    p = get_or ps i (decoded [])

    stopped : distributes (port_at (again t (worked (ours t) ps)) i).phase.mux ≡ false
    stopped = ap (λ (u : List ℕ). distributes (port_at u i).phase.mux) (sym is) ∙ e

    told_as : (w : Why c t i) → GoesWith w (port_at (again t (worked (ours t) ps)) i) (why_in (again t (worked (ours t) ps)) i).cause → Thinned c t i
    told_as w x = record { event = w; names = subst (λ (u : List ℕ). GoesWith w (port_at u i) (why_in u i).cause) (sym is) x }

    own-carries : Own c t i p → Thinned c t i ⊎ Carrying k p
    unfolding p
    own-carries (as_was e) = inr (subst (Carrying k) (sym e) here)
    own-carries (hears n frame out c-is at e) = by (goes_on t i frame) refl
      where
        a : Block
        a = block_of (actor_part frame)

        us : Block
        us = actor_block (ours t).system (i + 1) (port_at t i)

        seat-is : seat (get_or ps i (decoded [])) ≡ seat (port_at t i)
        seat-is = own-seat c t i (get_or ps i (decoded [])) (hears n frame out c-is at e)

        by : (x : Bool) → goes_on t i frame ≡ x → Thinned c t i ⊎ Carrying k (get_or ps i (decoded []))
        by false x = unfold received_at received current in
            inl (told_as (told n frame out c-is at x)
            (by-frame t s i h ps b (ap (λ (y : Seat). y.mux) seat-is ∙ here.state) (ap (λ (q : Port). q.phase.receive) e) stopped (subst (λ (u : List ℕ). i < count_in u) is (rw (call-count t s c) h))))
        by true x = unfold Chosen received_at received in
            let y = both (same_party a (port_at t i).partner) _ x in
            let z = both (in_sync us a (block_of (partner_part frame))) _ y.1 in
            let w = heard-partner us a (block_of (partner_part frame)) (port_at t i) in
            inr (seated (get_or ps i (decoded [])) seat-is
            (ap (λ (q : Port). q.phase.selected) e ∙ heard-selected us a (block_of (partner_part frame)) (port_at t i) y.0 ∙ here.chosen)
            (ap (λ (q : Port). q.partner.state.synchronization) e ∙ w.0 ∙ z.0)
            (ap (λ (q : Port). q.partner.state.collecting) e ∙ w.1 ∙ z.1))
    own-carries (moves n frame out c-is d e) = unfold is_displaced in
        let x = both (is_disabled (port_at t i).phase.receive) _ d in
        absurd (true≢false (sym up ∙ disabled_down (port_at t i).line (port_at t i).phase.receive (port-resting t s i h).state x.0))
    own-carries (ages c-is e) = by (eqb (port_at t i).timers.current.0 1) refl
      where
        by : (x : Bool) → eqb (port_at t i).timers.current.0 1 ≡ x → Thinned c t i ⊎ Carrying k (get_or ps i (decoded []))
        by true x =
            let one = eqb-true (port_at t i).timers.current.0 1 x in
            let r = current-runs (port_at t i) (port-resting t s i h) here.synchronization one in
            inl (told_as (unheard c-is one) (by-tick t s i h ps b (ap (λ (q : Port). q.phase.receive) e ∙ advanced-expired (port_at t i) r up one) stopped))
        by false x =
            inr (subst (Carrying k) (sym (e ∙ advanced-is (port_at t i) (port-resting t s i h).receive x)) (ticked-carries k (port_at t i) here))
    own-carries (turns n l c-is at d e) =
        inl (told_as (other-line n l c-is at d)
        (by-other-line t s i h ps b l (ap (λ (q : Port). q.line) e ∙ lined-line l (port_at t i))
        (λ u f. ap (λ (q : Port). q.phase.receive) e ∙ lined-expired (port_at t i) (port-resting t s i h) l u f) stopped))
    own-carries (gets n x c-is at e) = by (same_grouping x (port_at t i)) refl
      where
        partner : (get_or ps i (decoded [])).partner ≡ (port_at t i).partner
        partner = ap (λ (q : Port). q.partner) e ∙ configured-partner x (port_at t i)

        by : (y : Bool) → same_grouping x (port_at t i) ≡ y → Thinned c t i ⊎ Carrying k (get_or ps i (decoded []))
        by false y =
            let free : is_unselected (get_or (map periodic_run ps) i (decoded [])).phase.selected ≡ true =
            ap (λ (q : Port). is_unselected q.phase.selected) (paced-at t s ps b i h) ∙ ap (λ (q : Port). is_unselected q.phase.selected) (periodic-keeps (get_or ps i (decoded [])))
            ∙ ap (λ (q : Port). is_unselected q.phase.selected) e
            ∙ ap is_unselected (set_unselects x (port_at t i) y) in
            inl (told_as (why_regrouped n x c-is at y)
            (led t s i h ps b (unselected-moves (rule_of (ours t) (map compared (map periodic_run ps)) i) (get_or (map periodic_run ps) i (decoded [])) free)
            (ap (λ (b : Block). b.state.synchronization) partner ∙ here.synchronization)))
        by true y = unfold Chosen in
            inr (seated (get_or ps i (decoded [])) (own-seat c t i (get_or ps i (decoded [])) (gets n x c-is at e))
            (ap (λ (q : Port). q.phase.selected) e ∙ set-selected x (port_at t i) y ∙ here.chosen)
            (ap (λ (b : Block). b.state.synchronization) partner ∙ here.synchronization) (ap (λ (b : Block). b.state.collecting) partner ∙ here.collecting))

-- ---- any call

sent-mux : (p : Port) → (sent p).phase.mux ≡ p.phase.mux
unfolding sent
sent-mux p = refl

-- a start brings every link down
started-down : (x : Settings) → (started x).line.up ≡ false
unfolding started blank moved port_disabled initialized record_default
started-down x = refl

module _ (t : List ℕ) (i : ℕ) where
  start-down : (c : Call) → Takes c → accepted (answer c t) ≡ true → is_start c ≡ true → i < count_in (after c t) → (port_at (after c t) i).line.up ≡ false
  start-down (start count system delay x) k e f h =
      let p = start-at t count system delay x k e i h in
      let ours : Header = record { count = count; system = system; delay = delay } in
      ap (λ (q : Port). q.line.up) p.is
      ∙ settled-view (λ (q : Port). q.line.up) (λ q. refl) (λ q. refl) ours (replicate count (started x)) i (decoded []) (alike-inside ours x i p.few)
      ∙ ap (λ (q : Port). q.line.up) (alike_at ours x i p.few) ∙ started-down x
  start-down (receive n frame out) k e f h = absurd (false≢true f)
  start-down tick k e f h = absurd (false≢true f)
  start-down (line n l) k e f h = absurd (false≢true f)
  start-down (configure n x) k e f h = absurd (false≢true f)
  start-down (fetch n out) k e f h = absurd (false≢true f)
  start-down (report n) k e f h = absurd (false≢true f)
  start-down (aggregator n) k e f h = absurd (false≢true f)
  start-down due k e f h = absurd (false≢true f)

pub thinner-told : ThinnerTold
unfolding why_of p
thinner-told t m c k i h d e = by (answer c t) refl
  where
    s : Sound t
    s = never_stuck t m

    rule : ℕ
    rule = rule_of (ours t) (map compared (ports t)) i

    here : Carrying rule (port_at t i)
    here =
        let firm = port_firm t s i h in
        let earned = distributing-earned t m i h d in
        record {
          chosen = firm.chosen;
          state = is-distributing (port_at t i).phase.mux d;
          holds = firm.rule;
          synchronization = earned.synchronization;
          collecting = earned.collecting;
        }

    -- one that distributes as before
    same : {A : Type 0} → (port_at (after c t) i).phase.mux ≡ (port_at t i).phase.mux → A
    same x = absurd (true≢false (sym d ∙ ap distributes (sym x) ∙ e))

    found : (ps : List Port) → Before t ps → after c t ≡ again t (worked (ours t) ps) → Thinned c t i ⊎ Carrying rule (get_or ps i (decoded [])) → Thinned c t i
    found ps b is (inl w) = w
    found ps b is (inr x) = unfold was in stops c t s i h ps b x is here.holds e

    went : Course c t (after c t) i → Thinned c t i
    went (stays x) = same (ap (λ (p : Port). p.phase.mux) x)
    went (sends x) = same (ap (λ (p : Port). p.phase.mux) x ∙ sent-mux (port_at t i))
    went (works ps b is own) =
        found ps b is (own-carries c t s i h rule here (distributing-earned t m i h d).up ps b is e own)

    accepts : accepted (answer c t) ≡ true → (b : Bool) → is_start c ≡ b → Thinned c t i
    accepts a true f = record {
      event = restarted f;
      names = down_cause (held_in (after c t) i) (port_at (after c t) i) e (start-down t i c k a f (rw (call-count t s c) h));
    }
    accepts a false f = went (course t s i h c k a f)

    by : (a : Answer) → answer c t ≡ a → Thinned c t i
    by (Ok k) x = accepts (ap accepted x) (is_start c) refl
    by (Err r) x = same (ap (λ (u : List ℕ). (port_at u i).phase.mux) (refused-table c t x))

pub thinner_for_a_reason : ThinnerForAReason
thinner_for_a_reason t m c k i h d e = (thinner-told t m c k i h d e).event
