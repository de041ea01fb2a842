-- Which cause is given of a port that distributed before a call's work and does not after it, by what the call's own rule made of it: the work keeps line and receive state, and
-- leads a port down or leaves it attached. Assumes nothing.
use Prim.Native.Nat.{ℕ, ◌<◌}
use mathlib.Core.Path.{◌≡◌, refl, sym, ap, ◌∙◌}
use mathlib.Core.Bool.{Bool, true, false, cond, not, ◌||◌, true≢false, false≢true}
use mathlib.Core.List.{List, [], map}
use lib.ListN.{get_or}
use lib.Dec.{eqb}
use Rattle.octets.proofs.RangeLaws.{both}
use Rattle.machine.specs.declared.states.Line.{Line}
use Rattle.machine.specs.declared.states.Mux.{Mux}
use Rattle.machine.specs.declared.states.Mux.TheVariants as mux
use Rattle.machine.specs.declared.states.Receive.{Receive}
use Rattle.machine.specs.declared.states.Receive.TheVariants as receive
use Rattle.machine.specs.declared.states.Selection.{Selection}
use Rattle.machine.specs.declared.states.Selection.TheVariants.{Unselected, Selected}
use Rattle.machine.specs.Mux.{waits, distributes, is_unselected}
use Rattle.machine.specs.Time.{ran_out}
use Rattle.port.specs.declared.record.Port.{Port}
use Rattle.port.specs.Compared.{compared}
use Rattle.port.specs.Mux.{mux_choice, mux_step, mux_run}
use Rattle.port.specs.Periodic.{periodic_run}
use Rattle.port.specs.Rest.{goes_with, is_unheard}
use Rattle.port.proofs.PeriodicLaws.{periodic-keeps}
use Rattle.port.proofs.RestKept.{down_disabled}
use Rattle.port.proofs.RestParts.{Standing}
use Rattle.port.proofs.TransmitLaws.{cleared_keeps}
use Rattle.table.specs.Record.{decoded}
use Rattle.table.specs.Table.{count_in, port_at, ours, again}
use Rattle.trunk.specs.Selection.{rule_of}
use Rattle.trunk.specs.Settled.{must_move, muxed}
use Rattle.trunk.proofs.MoveLaws.{settled-stays}
use Rattle.work.specs.Work.{worked}
use Rattle.std.specs.Prelude.{Option, Some, None}
use Rattle.why.specs.declared.cause.Cause.{Cause}
use Rattle.why.specs.declared.cause.Cause.TheVariants.{Carries, CarriesByDefault, LinkDown, HalfDuplex, Defaulted, Expired, Waits, HeldBack, OutOfSync, NotCollecting}
use Rattle.why.specs.Cause.{is_defaulted, is_expired, is_by_default, cause_of, why_of}
use Rattle.claims.specs.AtRest.{Sound}
use Rattle.claims.specs.Moves.{Begins}
use Rattle.claims.specs.Told.{why_in, held_in, Stands, led_down, by_line, by_frame}
use Rattle.claims.proofs.Sound.{Before, work_sound}
use Rattle.claims.proofs.Views.{work_view}
use Rattle.claims.proofs.Course.{paced-inside, paced-at, work_at}
use Rattle.claims.proofs.Moves.{moves-begins}
use Rattle.claims.proofs.Told.{cause_parts, sound-told, carrying, lined, heard, placed}

-- ---- one port

waits-only : (m : Mux) → waits m ≡ true → distributes m ≡ false
waits-only mux.Detached e = absurd (false≢true e)
waits-only mux.Waiting e = refl
waits-only mux.Attached e = absurd (false≢true e)
waits-only mux.Collecting e = absurd (false≢true e)
waits-only mux.Distributing e = absurd (false≢true e)

-- that waits with its timer running
led-parts : (b up full : Bool) (r : Receive) (held sync coll : Bool) → up ≡ true → is_expired r ≡ false
    → carrying false b (lined up full (heard r (placed true false held sync coll))) ≡ Some (cond full (cond (is_defaulted r) Defaulted Waits) HalfDuplex)
led-parts b false full r held sync coll u e = absurd (false≢true u)
led-parts b true false r held sync coll u e = refl
led-parts b true true receive.Initialize held sync coll u e = refl
led-parts b true true receive.PortDisabled held sync coll u e = refl
led-parts b true true receive.Expired held sync coll u e = absurd (true≢false e)
led-parts b true true receive.LacpDisabled held sync coll u e = refl
led-parts b true true receive.Defaulted held sync coll u e = refl
led-parts b true true receive.Current held sync coll u e = refl

led_cause : (held : Bool) (q : Port) → waits q.phase.mux ≡ true → ran_out q.timers.wait ≡ false → q.line.up ≡ true → is_expired q.phase.receive ≡ false → cause_of held q ≡ Some (led_down q)
led_cause held q w out u e =
    let r = q.phase.receive in
    let sync = q.partner.state.synchronization in
    let coll = q.partner.state.collecting in
    cause_parts held q
    ∙ (λ j. carrying (waits-only q.phase.mux w j) (is_by_default r) (lined q.line.up q.line.full (heard r (placed (w j) (out j) held sync coll))))
    ∙ led-parts (is_by_default r) q.line.up q.line.full r held sync coll u e

-- with the link down, at half duplex, or in EXPIRED
pub down_cause : (held : Bool) (q : Port) → distributes q.phase.mux ≡ false → q.line.up ≡ false → cause_of held q ≡ Some LinkDown
down_cause held q d u = cause_parts held q ∙ rw (d, u)

half_cause : (held : Bool) (q : Port) → distributes q.phase.mux ≡ false → q.line.up ≡ true → q.line.full ≡ false → cause_of held q ≡ Some HalfDuplex
half_cause held q d u f = cause_parts held q ∙ rw (d, u, f)

expired_cause : (held : Bool) (q : Port) → distributes q.phase.mux ≡ false → q.line.up ≡ true → q.line.full ≡ true → q.phase.receive ≡ receive.Expired → cause_of held q ≡ Some Expired
expired_cause held q d u f r = cause_parts held q ∙ rw (d, u, f, r)

-- a SELECTED port that distributes does not wait after step 6
muxed-attached : (q : Port) → q.phase.mux ≡ mux.Distributing → is_unselected q.phase.selected ≡ false → waits (muxed q).phase.mux ≡ false
unfolding muxed
muxed-attached q m s = ap (λ (x : Port). waits x.phase.mux) (cleared_keeps (mux_run q)) ∙ by q.phase.selected refl s q.partner.state.synchronization refl q.partner.state.collecting refl
  where
    by : (x : Selection) → q.phase.selected ≡ x → is_unselected x ≡ false → (sync : Bool) → q.partner.state.synchronization ≡ sync → (coll : Bool) → q.partner.state.collecting ≡ coll
        → waits (mux_run q).phase.mux ≡ false
    by Unselected e s sync a coll c = absurd (true≢false s)
    by Selected e s true a true c = unfold mux_run mux_step mux_choice in rw (m, e, a, c)
    by Selected e s true a false c = unfold mux_run mux_step mux_choice in rw (m, e, a, c)
    by Selected e s false a coll c = unfold mux_run mux_step mux_choice in rw (m, e, a)

neither : (a c : Bool) → a || c ≡ false → a ≡ false
neither true c e = absurd (true≢false e)
neither false c e = refl

unmoved-selected : (k : ℕ) (q : Port) → must_move k q ≡ false → is_unselected q.phase.selected ≡ false
unfolding must_move
unmoved-selected k q e = neither (is_unselected q.phase.selected) (not (eqb q.aggregator k)) e

-- ---- one record in the work

module _ (t : List ℕ) (s : Sound t) (i : ℕ) (h : i < count_in t) (ps : List Port) (b : Before t ps) where
  u : List ℕ
  u = again t (worked (ours t) ps)

  p : Port
  p = get_or ps i (decoded [])

  q : Port
  unfolding u
  q = port_at u i

  standing : Standing p
  unfolding p
  standing = b.stands i (decoded []) (rw b.size h)

  line-is : q.line ≡ p.line
  unfolding u p q
  line-is = work_view (λ (x : Port). x.line) (λ x. refl) (λ x. refl) t s i h ps b

  receive-is : q.phase.receive ≡ p.phase.receive
  unfolding u p q
  receive-is = work_view (λ (x : Port). x.phase.receive) (λ x. refl) (λ x. refl) t s i h ps b

  -- with the partner in sync the link is up, and the port is not in EXPIRED
  heard_now : p.partner.state.synchronization ≡ true → (p.line.up ≡ true) × (is_expired p.phase.receive ≡ false)
  heard_now e = (by-line p.line.up refl, by_state p.phase.receive refl)
    where
      not-out : {A : Type 0} → is_unheard p.phase.receive ≡ true → A
      not-out x = absurd (true≢false (sym e ∙ standing.receive.unheard x))

      by-line : (x : Bool) → p.line.up ≡ x → p.line.up ≡ true
      by-line true x = x
      by-line false x = not-out (ap is_unheard (down_disabled p.line p.phase.receive standing.receive.state x))

      by_state : (r : Receive) → p.phase.receive ≡ r → is_expired r ≡ false
      by_state receive.Initialize x = refl
      by_state receive.PortDisabled x = refl
      by_state receive.Expired x = not-out (ap is_unheard x)
      by_state receive.LacpDisabled x = refl
      by_state receive.Defaulted x = refl
      by_state receive.Current x = refl

  -- it is led down
  begun_cause : Begins q → q.line.up ≡ true → is_expired q.phase.receive ≡ false → cause_of (held_in u i) q ≡ Some (led_down q)
  begun_cause x up e = led_cause (held_in u i) q x.waiting (ap (λ (n : ℕ). eqb n 0) x.whole) up e

  pub led : must_move (rule_of (ours t) (map compared (map periodic_run ps)) i) (get_or (map periodic_run ps) i (decoded [])) ≡ true → (get_or ps i (decoded [])).partner.state.synchronization ≡ true
      → (why_in (again t (worked (ours t) ps)) i).cause ≡ Some (led_down (port_at (again t (worked (ours t) ps)) i))
  unfolding why_of u p q
  led e sync =
      let x = heard_now sync in
      begun_cause (moves-begins t s ps b i h e) (ap (λ (l : Line). l.up) line-is ∙ x.0) (ap is_expired receive-is ∙ x.1)

  -- a port that distributed and waits now was led down
  begins-if : p.phase.mux ≡ mux.Distributing → waits q.phase.mux ≡ true → Begins q
  unfolding u p q
  begins-if m w = by (must_move (rule_of (ours t) (map compared (map periodic_run ps)) i) (get_or (map periodic_run ps) i (decoded []))) refl
    where
      x : Port
      x = get_or (map periodic_run ps) i (decoded [])

      state : x.phase.mux ≡ mux.Distributing
      state = ap (λ (y : Port). y.phase.mux) (paced-at t s ps b i h) ∙ ap (λ (y : Port). y.phase.mux) (periodic-keeps p) ∙ m

      by : (y : Bool) → must_move (rule_of (ours t) (map compared (map periodic_run ps)) i) x ≡ y → Begins (port_at (again t (worked (ours t) ps)) i)
      by true e = moves-begins t s ps b i h e
      by false e =
          let stays = work_at t s ps b i h ∙ settled-stays (ours t) (map periodic_run ps) i (decoded []) (paced-inside t s ps b i h) e (ap waits state) in
          absurd (true≢false (sym w ∙ ap (λ (y : Port). waits y.phase.mux) stays ∙ muxed-attached x state (unmoved-selected (rule_of (ours t) (map compared (map periodic_run ps)) i) x e)))

  -- ---- by an LACPDU

  named-frame : (c : Option Cause) → Stands c q → q.phase.receive ≡ receive.Current → distributes q.phase.mux ≡ false → waits q.phase.mux ≡ false → by_frame c ≡ true
  named-frame None x r d w = absurd x
  named-frame (Some Carries) x r d w = absurd (true≢false (sym (ap distributes x.0) ∙ d))
  named-frame (Some CarriesByDefault) x r d w = absurd (true≢false (sym (ap distributes x) ∙ d))
  named-frame (Some LinkDown) x r d w = let e : receive.PortDisabled ≡ receive.Current = sym x ∙ r in cc
  named-frame (Some HalfDuplex) x r d w = let e : receive.LacpDisabled ≡ receive.Current = sym x ∙ r in cc
  named-frame (Some Defaulted) x r d w = let e : receive.Defaulted ≡ receive.Current = sym x ∙ r in cc
  named-frame (Some Expired) x r d w = let e : receive.Expired ≡ receive.Current = sym x ∙ r in cc
  named-frame (Some Waits) x r d w = refl
  named-frame (Some HeldBack) x r d w = absurd (true≢false (sym (ap waits x.0) ∙ w))
  named-frame (Some OutOfSync) x r d w = refl
  named-frame (Some NotCollecting) x r d w = refl

  pub by-frame : (get_or ps i (decoded [])).phase.mux ≡ mux.Distributing → (get_or ps i (decoded [])).phase.receive ≡ receive.Current
      → distributes (port_at (again t (worked (ours t) ps)) i).phase.mux ≡ false → i < count_in (again t (worked (ours t) ps)) → by_frame (why_in (again t (worked (ours t) ps)) i).cause ≡ true
  unfolding why_of u p q
  by-frame m r d less = by (waits q.phase.mux) refl
    where
      here : q.phase.receive ≡ receive.Current
      here = receive-is ∙ r

      in_use : (q.line.up ≡ true) × (q.line.full ≡ true)
      in_use = both q.line.up q.line.full (ap (λ (l : Line). goes_with l receive.Current) line-is ∙ ap (goes_with p.line) (sym r) ∙ standing.receive.state)

      by : (w : Bool) → waits q.phase.mux ≡ w → by_frame (cause_of (held_in u i) q) ≡ true
      by true w =
          let down : led_down q ≡ Waits = rw (in_use.1, here) in
          ap by_frame (begun_cause (begins-if m w) in_use.0 (ap is_expired here) ∙ ap (λ (c : Cause). Some c) down)
      by false w = named-frame (cause_of (held_in u i) q) (sound-told u (work_sound t s ps b) i less) here d w

  -- ---- by silence, and by another line

  pub by-tick : (get_or ps i (decoded [])).phase.receive ≡ receive.Expired → distributes (port_at (again t (worked (ours t) ps)) i).phase.mux ≡ false
      → (why_in (again t (worked (ours t) ps)) i).cause ≡ Some Expired
  unfolding why_of u p q
  by-tick r d =
      let g = both p.line.up p.line.full (ap (goes_with p.line) (sym r) ∙ standing.receive.state) in
      expired_cause (held_in u i) q d (ap (λ (l : Line). l.up) line-is ∙ g.0) (ap (λ (l : Line). l.full) line-is ∙ g.1) (receive-is ∙ r)

  pub by-other-line : (l : Line) → (get_or ps i (decoded [])).line ≡ l → (l.up ≡ true → l.full ≡ true → (get_or ps i (decoded [])).phase.receive ≡ receive.Expired)
      → distributes (port_at (again t (worked (ours t) ps)) i).phase.mux ≡ false → (why_in (again t (worked (ours t) ps)) i).cause ≡ Some (by_line l)
  unfolding why_of u p q
  by-other-line l is expires d = by l.up refl l.full refl
    where
      up_is : q.line.up ≡ l.up
      up_is = ap (λ (x : Line). x.up) (line-is ∙ is)

      full_is : q.line.full ≡ l.full
      full_is = ap (λ (x : Line). x.full) (line-is ∙ is)

      by : (x : Bool) → l.up ≡ x → (y : Bool) → l.full ≡ y → cause_of (held_in u i) q ≡ Some (cond x (cond y Expired HalfDuplex) LinkDown)
      by false a y c = down_cause (held_in u i) q d (up_is ∙ a)
      by true a false c = half_cause (held_in u i) q d (up_is ∙ a) (full_is ∙ c)
      by true a true c = expired_cause (held_in u i) q d (up_is ∙ a) (full_is ∙ c) (receive-is ∙ expires a c)
