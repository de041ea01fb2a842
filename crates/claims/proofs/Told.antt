-- The cause that is given, and the states that go with it: at rest a port that does not carry has one, by its line, then its receive state, then its mux state. Read off
-- a sound table, port by port. Assumes nothing.
use Prim.Native.Nat.{ℕ, ◌<◌}
use mathlib.Core.Path.{◌≡◌, refl, sym, ap, ◌∙◌, subst}
use mathlib.Core.Logic.{◌≢◌}
use mathlib.Core.Bool.{Bool, true, false, cond, not, ◌&&◌, true≢false, false≢true}
use mathlib.Core.List.{List, []}
use native.Mathlib.Omega.{arith}
use lib.Dec.{eqb}
use lib.ListN.{get_or}
use borrow.Author.Tests.{eqb-true, eqb-false, eq-eqb, not-true, not-false}
use Rattle.std.specs.Prelude.{None, Option, Some, is_some}
use Rattle.std.proofs.lemmas.Option.{none-some}
use Rattle.octets.proofs.RangeLaws.{both, both_true}
use Rattle.machine.specs.declared.states.Line.{Line}
use Rattle.machine.specs.declared.states.Mux.{Mux}
use Rattle.machine.specs.declared.states.Mux.TheVariants as mux
use Rattle.machine.specs.declared.states.Receive.{Receive}
use Rattle.machine.specs.declared.states.Receive.TheVariants as receive
use Rattle.machine.specs.declared.states.Selection.{Selection}
use Rattle.machine.specs.declared.states.Selection.TheVariants.{Selected}
use Rattle.machine.specs.Mux.{mux_next, waits, distributes}
use Rattle.machine.specs.Time.{ran_out}
use Rattle.port.specs.declared.record.Port.{Port}
use Rattle.port.specs.Mux.{mux_choice}
use Rattle.port.specs.Rest.{goes_with, is_unheard, Resting}
use Rattle.port.proofs.RestKept.{down_disabled}
use Rattle.table.specs.Record.{decoded}
use Rattle.table.specs.Table.{count_in, port_at, ports}
use Rattle.table.proofs.StoreLaws.{ports-length, ports-at}
use Rattle.trunk.specs.Ready.{waits_for}
use Rattle.trunk.specs.Settled.{Chosen}
use Rattle.why.specs.declared.cause.Cause.{Cause}
use Rattle.why.specs.declared.cause.Cause.TheVariants.{Carries, CarriesByDefault, LinkDown, HalfDuplex, Defaulted, Expired, Waits, HeldBack, OutOfSync, NotCollecting}
use Rattle.why.specs.declared.cause.Hold.{Hold}
use Rattle.why.specs.Cause.{is_defaulted, is_expired, is_by_default, first_of, cause_of, cause_number, longest, holder, ticks, why_of}
use Rattle.why.proofs.CauseLaws.{causes-true, longest-holds, longest-true}
use Rattle.claims.specs.AtRest.{Sound}
use Rattle.claims.specs.Told.{why_in, held_in, Stands, AlwaysTold, Waiting, Behind, BesideTrue}
use Rattle.claims.proofs.Sound.{port-resting}
use Rattle.claims.proofs.Calls.{never_stuck}
use Rattle.claims.proofs.Rule.{port_firm, port-earned}
use Rattle.claims.proofs.Carries.{sound-waits}

-- ---- the cause by its parts: whether the port distributes, its line, its receive state, and then its mux state and its partner

abbrev pub carrying : Bool → Bool → Option Cause → Option Cause
carrying d b x = cond (d && not b) (Some Carries) (cond (d && b) (Some CarriesByDefault) x)

abbrev pub lined : Bool → Bool → Option Cause → Option Cause
lined up full x = cond (not up) (Some LinkDown) (cond (up && not full) (Some HalfDuplex) x)

abbrev pub heard : Receive → Option Cause → Option Cause
heard r x = cond (is_defaulted r) (Some Defaulted) (cond (is_expired r) (Some Expired) x)

abbrev pub placed : Bool → Bool → Bool → Bool → Bool → Option Cause
placed w out held sync coll = cond (w && not out) (Some Waits) (cond (w && held) (Some HeldBack) (cond (not sync) (Some OutOfSync) (cond (sync && not coll) (Some NotCollecting) None)))

pub cause_parts : (held : Bool) (p : Port) → cause_of held p
    ≡ carrying (distributes p.phase.mux) (is_by_default p.phase.receive) (lined p.line.up p.line.full
    (heard p.phase.receive (placed (waits p.phase.mux) (ran_out p.timers.wait) held p.partner.state.synchronization p.partner.state.collecting)))
unfolding cause_of first_of
cause_parts held p = refl

-- ---- a port at rest

pub is-distributing : (m : Mux) → distributes m ≡ true → m ≡ mux.Distributing
is-distributing mux.Detached e = absurd (false≢true e)
is-distributing mux.Waiting e = absurd (false≢true e)
is-distributing mux.Attached e = absurd (false≢true e)
is-distributing mux.Collecting e = absurd (false≢true e)
is-distributing mux.Distributing e = refl

-- LACP is off exactly at half duplex
half_off : (l : Line) (r : Receive) → goes_with l r ≡ true → l.up ≡ true → l.full ≡ false → r ≡ receive.LacpDisabled
half_off l receive.Initialize g u f = absurd (false≢true g)
half_off l receive.PortDisabled g u f = absurd (false≢true (ap not (sym u) ∙ g))
half_off l receive.Expired g u f = absurd (false≢true (sym f ∙ (both l.up l.full g).1))
half_off l receive.LacpDisabled g u f = refl
half_off l receive.Defaulted g u f = absurd (false≢true (sym f ∙ (both l.up l.full g).1))
half_off l receive.Current g u f = absurd (false≢true (sym f ∙ (both l.up l.full g).1))

module _ (p : Port) (rest : Resting p) (chosen : Chosen p) (stays : mux_choice false p ≡ None) where
  next : mux_next p.phase.mux Selected false p.partner.state.synchronization p.partner.state.collecting ≡ None
  unfolding Chosen mux_choice
  next = ap (λ (s : Selection). mux_next p.phase.mux s false p.partner.state.synchronization p.partner.state.collecting) (sym chosen) ∙ stays

  -- one that carries by its partner's word is in CURRENT
  carries-current : distributes p.phase.mux ≡ true → is_by_default p.phase.receive ≡ false → p.phase.receive ≡ receive.Current
  carries-current d b = by p.phase.receive refl rest.state b
    where
      synced : p.partner.state.synchronization ≡ true
      synced = (port-earned p chosen stays d).0

      out : is_unheard p.phase.receive ≡ true → p.phase.receive ≡ receive.Current
      out u = absurd (true≢false (sym synced ∙ rest.unheard u))

      by : (r : Receive) → p.phase.receive ≡ r → goes_with p.line r ≡ true → is_by_default r ≡ false → p.phase.receive ≡ receive.Current
      by receive.Initialize e g b = absurd (false≢true g)
      by receive.PortDisabled e g b = out (ap is_unheard e)
      by receive.Expired e g b = out (ap is_unheard e)
      by receive.LacpDisabled e g b = absurd (true≢false b)
      by receive.Defaulted e g b = absurd (true≢false b)
      by receive.Current e g b = e

  module _ (held : Bool) (waiting : waits p.phase.mux ≡ true → held ≡ true) where
    -- by the mux state
    by-mux : p.phase.receive ≡ receive.Current → (m : Mux) → p.phase.mux ≡ m → distributes m ≡ false
        → (sync coll : Bool) → mux_next m Selected false sync coll ≡ None → (out h : Bool) → (waits m ≡ true → h ≡ true) → Stands (placed (waits m) out h sync coll) p
    by-mux r mux.Detached e d sync coll n out h w = absurd (none-some mux.Waiting (sym n))
    by-mux r mux.Waiting e d sync coll n false h w = (e, r)
    by-mux r mux.Waiting e d sync coll n true true w = (e, r)
    by-mux r mux.Waiting e d sync coll n true false w = absurd (false≢true (w refl))
    by-mux r mux.Attached e d true coll n out h w = absurd (none-some mux.Collecting (sym n))
    by-mux r mux.Attached e d false coll n out h w = (e, r)
    by-mux r mux.Collecting e d true true n out h w = absurd (none-some mux.Distributing (sym n))
    by-mux r mux.Collecting e d true false n out h w = (e, r)
    by-mux r mux.Collecting e d false coll n out h w = absurd (none-some mux.Attached (sym n))
    by-mux r mux.Distributing e d sync coll n out h w = absurd (true≢false d)

    last : Option Cause
    last = placed (waits p.phase.mux) (ran_out p.timers.wait) held p.partner.state.synchronization p.partner.state.collecting

    -- by the receive state, with the link up at full duplex
    by-receive : distributes p.phase.mux ≡ false → (r : Receive) → p.phase.receive ≡ r → goes_with (record { up = true; full = true }) r ≡ true → Stands (heard r last) p
    unfolding last
    by-receive d receive.Initialize e g = absurd (false≢true g)
    by-receive d receive.PortDisabled e g = absurd (false≢true g)
    by-receive d receive.Expired e g = e
    by-receive d receive.LacpDisabled e g = absurd (false≢true g)
    by-receive d receive.Defaulted e g = e
    by-receive d receive.Current e g =
        by-mux e p.phase.mux refl d p.partner.state.synchronization p.partner.state.collecting next (ran_out p.timers.wait) held waiting

    -- by the line
    by-line : distributes p.phase.mux ≡ false → (up : Bool) → p.line.up ≡ up → (full : Bool) → p.line.full ≡ full → Stands (lined up full (heard p.phase.receive last)) p
    by-line d false u full f = down_disabled p.line p.phase.receive rest.state u
    by-line d true u false f = half_off p.line p.phase.receive rest.state u f
    by-line d true u true f =
        by-receive d p.phase.receive refl (ap (λ (l : Line). goes_with l p.phase.receive) (λ j. record { up = sym u j; full = sym f j }) ∙ rest.state)

    pub stands : Stands (cause_of held p) p
    unfolding last
    stands = subst (λ (c : Option Cause). Stands c p) (sym (cause_parts held p)) (by (distributes p.phase.mux) refl (is_by_default p.phase.receive) refl)
      where
        by : (d : Bool) → distributes p.phase.mux ≡ d → (b : Bool) → is_by_default p.phase.receive ≡ b
            → Stands (carrying d b (lined p.line.up p.line.full (heard p.phase.receive last))) p
        by true d true b = is-distributing p.phase.mux d
        by true d false b = (is-distributing p.phase.mux d, carries-current d b)
        by false d b _ = by-line d p.line.up refl p.line.full refl

pub sound-told : (t : List ℕ) → Sound t → (i : ℕ) → i < count_in t → Stands (why_in t i).cause (port_at t i)
unfolding why_of
sound-told t s i h =
    let firm = port_firm t s i h in
    stands (port_at t i) (port-resting t s i h) firm.chosen firm.stays (held_in t i) (sound-waits t s i h)

pub always_told : AlwaysTold
always_told t m i h = sound-told t (never_stuck t m) i h

-- ---- beside a cause

pub other_cause : (x y : Option Cause) → eqb (cause_number x) (cause_number y) ≡ false → x ≢ y
other_cause x y e is = true≢false (sym (eq-eqb (cause_number x) (cause_number y) (ap cause_number is)) ∙ e)

-- who is held back has no ticks of its own left
placed_ran : (w out held sync coll : Bool) → placed w out held sync coll ≡ Some HeldBack → w && not out ≡ false
placed_ran true false held sync coll e = absurd (other_cause (Some Waits) (Some HeldBack) refl e)
placed_ran true true held sync coll e = refl
placed_ran false out held sync coll e = refl

heard_ran : (r : Receive) (w out held sync coll : Bool) → heard r (placed w out held sync coll) ≡ Some HeldBack → w && not out ≡ false
heard_ran receive.Initialize w out held sync coll e = placed_ran w out held sync coll e
heard_ran receive.PortDisabled w out held sync coll e = placed_ran w out held sync coll e
heard_ran receive.Expired w out held sync coll e = absurd (other_cause (Some Expired) (Some HeldBack) refl e)
heard_ran receive.LacpDisabled w out held sync coll e = placed_ran w out held sync coll e
heard_ran receive.Defaulted w out held sync coll e = absurd (other_cause (Some Defaulted) (Some HeldBack) refl e)
heard_ran receive.Current w out held sync coll e = placed_ran w out held sync coll e

held_ran : (d b up full : Bool) (r : Receive) (w out held sync coll : Bool) → carrying d b (lined up full (heard r (placed w out held sync coll))) ≡ Some HeldBack → w && not out ≡ false
held_ran true true up full r w out held sync coll e = absurd (other_cause (Some CarriesByDefault) (Some HeldBack) refl e)
held_ran true false up full r w out held sync coll e = absurd (other_cause (Some Carries) (Some HeldBack) refl e)
held_ran false b false full r w out held sync coll e = absurd (other_cause (Some LinkDown) (Some HeldBack) refl e)
held_ran false b true false r w out held sync coll e = absurd (other_cause (Some HalfDuplex) (Some HeldBack) refl e)
held_ran false b true true r w out held sync coll e = heard_ran r w out held sync coll e

module _ (t : List ℕ) (s : Sound t) (i : ℕ) (h : i < count_in t) where
  p : Port
  p = port_at t i

  k : ℕ
  k = p.aggregator

  hold : Option Hold
  unfolding k
  hold = longest k 1 (ports t)

  waits-beside : cause_of (held_in t i) p ≡ Some Waits → Waiting t i
  unfolding why_of p k hold
  waits-beside e =
      let so = both (waits p.phase.mux) (not (ran_out p.timers.wait)) ((causes-true (held_in t i) p Waits).only e).so in
      let is : (why_in t i).ticks ≡ p.timers.wait.0 = ap (λ (c : Option Cause). ticks c p.timers.wait.0 hold) e in
      let left : p.timers.wait.0 ≢ 0 = eqb-false p.timers.wait.0 0 (not-true (eqb p.timers.wait.0 0) so.1) in
      record {
        nobody = ap (λ (c : Option Cause). holder c hold) e;
        ticks = is;
        some = rw is (omega (arith, left));
        most = rw is (port-resting t s i h).wait.within;
      }

  -- a port of the list is one of the table
  at : (j : ℕ) → j < count_in t → get_or (ports t) j (decoded []) ≡ port_at t j
  at j less = ports-at t j (decoded []) less

  waits_for_lem : (j : ℕ) → j < count_in t → (port_at t j).aggregator ≡ p.aggregator → waits (port_at t j).phase.mux ≡ true → waits_for k (get_or (ports t) j (decoded [])) ≡ true
  unfolding waits_for p k
  waits_for_lem j less same w = rw (at j less) (both_true (eq-eqb (port_at t j).aggregator p.aggregator same) w)

  held-beside : cause_of (held_in t i) p ≡ Some HeldBack → Behind t i
  unfolding why_of waits_for p k hold
  held-beside e =
      let so = both (waits p.phase.mux) (held_in t i) ((causes-true (held_in t i) p HeldBack).only e).so in
      behind so.0 hold refl (longest-holds k 1 (ports t) ∙ so.1)
    where
      ran : waits p.phase.mux && not (ran_out p.timers.wait) ≡ false
      ran =
          held_ran (distributes p.phase.mux) (is_by_default p.phase.receive) p.line.up p.line.full p.phase.receive
          (waits p.phase.mux) (ran_out p.timers.wait) (held_in t i) p.partner.state.synchronization p.partner.state.collecting (sym (cause_parts (held_in t i) p) ∙ e)

      behind : waits p.phase.mux ≡ true → (o : Option Hold) → longest k 1 (ports t) ≡ o → is_some o ≡ true → Behind t i
      behind w None o-is held = absurd (false≢true held)
      behind w (Some x) o-is held =
          let l = longest-true k 1 (ports t) (decoded []) x o-is in
          let there : l.index < count_in t = rw ports-length at l.there in
          let waiting = both (eqb (port_at t l.index).aggregator k) (waits (port_at t l.index).phase.mux) (rw (at l.index there) at l.waiting) in
          let ticks-is : x.ticks ≡ (port_at t l.index).timers.wait.0 = sym l.ticks ∙ ap (λ (q : Port). q.timers.wait.0) (at l.index there) in
          let out : eqb p.timers.wait.0 0 ≡ true = not-false (eqb p.timers.wait.0 0) (sym (ap (λ (b : Bool). b && not (eqb p.timers.wait.0 0)) w) ∙ ran) in
          let none : p.timers.wait.0 ≡ 0 = eqb-true p.timers.wait.0 0 out in
          let left : (why_in t i).ticks ≡ x.ticks = (λ j. ticks (e j) p.timers.wait.0 (o-is j)) in
          record {
            holder = l.index;
            there = there;
            is = (λ j. holder (e j) (o-is j)) ∙ ap (λ (n : ℕ). Some n) (l.is ∙ omega arith);
            other = λ y. let same = ticks-is ∙ ap (λ (j : ℕ). (port_at t j).timers.wait.0) y in omega (arith, l.some, same, none);
            same = eqb-true (port_at t l.index).aggregator k waiting.0;
            waiting = waiting.1;
            ticks = left ∙ ticks-is;
            some = rw left l.some;
            longest = λ j less same w. rw (left, sym (at j less)) (l.most j (rw ports-length less) (waits_for_lem j less same w));
            lowest = λ j less same w. let inside : j < count_in t = omega (arith, less, there) in rw (left, sym (at j inside)) (l.lowest j less (waits_for_lem j inside same w));
          }

pub beside-true : BesideTrue
unfolding why_of p
beside-true t m i h = let s = never_stuck t m in record { waits = waits-beside t s i h; held = held-beside t s i h }
