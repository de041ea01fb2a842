-- A port whose Defaulted is clear has heard from its partner: at a start Defaulted is set everywhere; a call that ends what a port heard sets
-- it there, unless it is an LACPDU on that port; and any other keeps what lasts. Along a run. Assumes nothing.
use Prim.Native.Nat.{ℕ, ◌+◌, ◌-◌, ◌<◌, ◌≤◌}
use mathlib.Core.Path.{◌≡◌, refl, sym, ap, ◌∙◌, subst}
use mathlib.Core.Logic.{◌⊎◌, inl, inr}
use mathlib.Core.Bool.{Bool, true, false, cond, not, ◌&&◌, ◌||◌, true≢false, false≢true}
use mathlib.Core.List.{List, [], ◌∷◌, ◌++◌, map}
use native.Mathlib.Omega.{arith}
use lib.ListN.{get_or, set, replicate}
use lib.Seq.{get_or-set_same}
use lib.Dec.{eqb}
use borrow.Author.Tests.{eqb-true, eqb-false, not-true}
use Rattle.std.specs.Prelude.{Ok, Err, Some, None}
use Rattle.octets.proofs.ListLaws.{map_at}
use Rattle.octets.proofs.RangeLaws.{both}
use Rattle.frame.specs.declared.block.SystemId.{SystemId}
use Rattle.frame.specs.declared.wire.TensOfMicroseconds.{TensOfMicroseconds}
use Rattle.frame.specs.Block.{block_of}
use Rattle.frame.specs.Wire.{actor_part}
use Rattle.machine.specs.declared.states.Line.{Line}
use Rattle.machine.specs.declared.states.Receive.{Receive}
use Rattle.machine.specs.declared.states.Receive.TheVariants.{Initialize, PortDisabled, Expired, LacpDisabled, Defaulted, Current}
use Rattle.machine.specs.Compare.{same_party}
use Rattle.machine.specs.States.{same_line}
use Rattle.port.specs.declared.record.Port.{Port}
use Rattle.port.specs.Record.{with_line}
use Rattle.port.specs.Receive.{record_default, update_selected, update_default_selected, unselected, initialized, port_disabled, lacp_disabled, defaulted, receive_choice, receive_run, moved, down, lined}
use Rattle.port.specs.Transmit.{ticked, advanced}
use Rattle.port.specs.Rest.{goes_with}
use Rattle.port.proofs.ReceiveLaws.{run_enters}
use Rattle.port.proofs.RestParts.{Standing}
use Rattle.port.proofs.RestKept.{lined-falls}
use Rattle.settings.specs.declared.Settings.{Settings}
use Rattle.settings.specs.Settings.{started}
use Rattle.table.specs.declared.layout.Header.{Header}
use Rattle.table.specs.Record.{decoded}
use Rattle.table.specs.Table.{count_in, port_at, ports, ours, again, on_octets}
use Rattle.table.proofs.StoreLaws.{ports-at}
use Rattle.trunk.specs.Displaced.{is_displaced}
use Rattle.work.specs.Work.{worked, after_one, after_tick, after_line}
use Rattle.control.specs.Answer.{Answer}
use Rattle.control.specs.declared.answer.Accepted.TheVariants.{Done, Lacpdu, Marker}
use Rattle.control.specs.Call.{Call, start, receive, tick, line, configure, fetch, report, aggregator, due}
use Rattle.control.specs.After.{answer, after, effect}
use Rattle.control.specs.Accepted.{is_lacpdu, accepted}
use Rattle.control.proofs.CallLaws.{named, on-port, after-accepted}
use Rattle.control.proofs.CountLaws.{kept_if}
use Rattle.claims.specs.Run.{Takes, AllTake, run, Made}
use Rattle.claims.specs.AtRest.{Sound}
use Rattle.claims.specs.LivePartner.{lasting, is_expired, to_half, ends, NoneEnds}
use Rattle.claims.specs.Spoke.{Heard, Spoke, PartnerSpoke}
use Rattle.claims.proofs.Sound.{Before, in_ports, port-resting, port-standing, tick-before, line_before}
use Rattle.claims.proofs.Calls.{never_stuck, made-start, made-call, run_more, all_more}
use Rattle.claims.proofs.Counts.{call-count}
use Rattle.claims.proofs.Views.{settled-view, work_view}
use Rattle.claims.proofs.LivePartner.{Lasting, call-goes, live-partner}
use Rattle.claims.proofs.Moves.{alike-inside, alike_at, start-at, moved-forgets}

-- ---- what sets Defaulted

abbrev is_default : Port → Bool
is_default p = p.actor.defaulted

started-default : (x : Settings) → is_default (started x) ≡ true
unfolding started moved port_disabled initialized record_default
started-default x = refl

-- a start
start-default : (t : List ℕ) (count : ℕ) (system : SystemId) (delay : TensOfMicroseconds) (x : Settings) → Takes (start count system delay x)
    → accepted (answer (start count system delay x) t) ≡ true → (i : ℕ) → i < count_in (after (start count system delay x) t)
    → is_default (port_at (after (start count system delay x) t) i) ≡ true
start-default t count system delay x k e i h =
    let a = start-at t count system delay x k e i h in
    let header : Header = record { count = count; system = system; delay = delay } in
    ap (λ (p : Port). is_default p) a.is
    ∙ settled-view (λ (p : Port). is_default p) (λ p. refl) (λ p. refl) header (replicate count (started x)) i (decoded []) (alike-inside header x i a.few)
    ∙ ap (λ (p : Port). is_default p) (alike_at header x i a.few) ∙ started-default x

-- the receive machine where it enters DEFAULTED or LACP_DISABLED, in which it rests
selected-line : (b : Bool) (p : Port) → (cond b p (unselected p)).line ≡ p.line
selected-line true p = refl
selected-line false p = refl

default-rests : (p : Port) → p.line.up ≡ true → receive_choice (defaulted p) ≡ None
unfolding receive_choice defaulted record_default update_default_selected update_selected
default-rests p u =
    let up : (cond (same_party p.own.default p.partner) p (unselected p)).line.up ≡ true =
    ap (λ (l : Line). l.up) (selected-line (same_party p.own.default p.partner) p) ∙ u in
    rw up

off_rests : (p : Port) → p.line.up ≡ true → receive_choice (lacp_disabled p) ≡ None
unfolding receive_choice lacp_disabled record_default
off_rests p u = rw u

default-bit : (p : Port) → is_default (defaulted p) ≡ true
unfolding defaulted record_default
default-bit p = refl

off_bit : (p : Port) → is_default (lacp_disabled p) ≡ true
unfolding lacp_disabled record_default
off_bit p = refl

-- EXPIRED, at the tick at which its timer runs out
is-expired : (r : Receive) → is_expired r ≡ true → r ≡ Expired
is-expired Initialize e = absurd (false≢true e)
is-expired PortDisabled e = absurd (false≢true e)
is-expired Expired e = refl
is-expired LacpDisabled e = absurd (false≢true e)
is-expired Defaulted e = absurd (false≢true e)
is-expired Current e = absurd (false≢true e)

expired-up : (p : Port) → goes_with p.line p.phase.receive ≡ true → p.phase.receive ≡ Expired → p.line.up ≡ true
expired-up p g e = (both p.line.up p.line.full (ap (goes_with p.line) (sym e) ∙ g)).0

ticked-ends : (p : Port) → p.phase.receive ≡ Expired → p.line.up ≡ true → p.timers.current.0 ≡ 1 → receive_choice (ticked p) ≡ Some Defaulted
unfolding receive_choice ticked
ticked-ends p e u n = rw (e, u, n)

ticked-up : (p : Port) → (ticked p).line ≡ p.line
unfolding ticked
ticked-up p = refl

advanced-default : (p : Port) → goes_with p.line p.phase.receive ≡ true → is_expired p.phase.receive && eqb p.timers.current.0 1 ≡ true
    → is_default (advanced p) ≡ true
unfolding advanced
advanced-default p g e =
    let x = both (is_expired p.phase.receive) (eqb p.timers.current.0 1) e in
    let state : p.phase.receive ≡ Expired = is-expired p.phase.receive x.0 in
    let up : p.line.up ≡ true = expired-up p g state in
    let ran : receive_choice (ticked p) ≡ Some Defaulted = ticked-ends p state up (eqb-true p.timers.current.0 1 x.1) in
    let rests : receive_choice (defaulted (ticked p)) ≡ None = default-rests (ticked p) (ap (λ (l : Line). l.up) (ticked-up p) ∙ up) in
    ap (λ (q : Port). is_default q) (run_enters (ticked p) Defaulted ran rests) ∙ default-bit (ticked p)

-- a line that is up at half duplex
halved-choice : (p : Port) (l : Line) → p.phase.receive ≡ PortDisabled → l.up ≡ true → l.full ≡ false → receive_choice (with_line p l) ≡ Some LacpDisabled
unfolding receive_choice
halved-choice p l e u f = rw (e, u, f)

lined-default : (p : Port) → Standing p → (l : Line) → l.up ≡ true → l.full ≡ false → is_default (lined l p) ≡ true
unfolding lined
lined-default p s l u f =
    let fell = receive_run (with_line p (down p.line)) in
    ap (λ (q : Port). is_default q)
    (run_enters (with_line fell l) LacpDisabled (halved-choice fell l (lined-falls p s) u f) (off_rests (with_line fell l) u))
    ∙ off_bit (with_line fell l)

-- ---- a call that ends what a port heard

module _ (t : List ℕ) (s : Sound t) (i : ℕ) (h : i < count_in t) where
  work_default : (ps : List Port) → Before t ps → is_default (get_or ps i (decoded [])) ≡ true → is_default (port_at (again t (worked (ours t) ps)) i) ≡ true
  work_default ps b e = work_view (λ (p : Port). is_default p) (λ p. refl) (λ p. refl) t s i h ps b ∙ e

  tick-accepted : accepted (answer tick t) ≡ true
  unfolding answer
  tick-accepted = rw s.ranged

  tick-ends : ends tick t i ≡ true → is_default (port_at (after tick t) i) ≡ true
  unfolding effect after_tick
  tick-ends e =
      ap (λ (u : List ℕ). is_default (port_at u i)) (after-accepted t tick tick-accepted)
      ∙ work_default (map advanced (ports t)) (tick-before t s)
      (ap (λ (p : Port). is_default p) (map_at advanced (ports t) i (decoded []) (decoded []) (in_ports t s i h) ∙ ap advanced (ports-at t i (decoded []) h))
      ∙ advanced-default (port_at t i) (port-resting t s i h).state e)

  halves : (m : ℕ) → m < count_in t → (l : Line) → m ≡ i → to_half (port_at t i).line l ≡ true → is_default (port_at (on_octets (after_line m l) t) i) ≡ true
  unfolding after_line after_one
  halves m g l is e = by (same_line l (port_at t m).line) (ap (λ (k : ℕ). to_half (port_at t k).line l) is ∙ e)
    where
      ps : List Port
      ps = set (ports t) m (lined l (port_at t m))

      by : (b : Bool) → not b && (l.up && not l.full) ≡ true → is_default (port_at (kept_if b t (worked (ours t) ps)) i) ≡ true
      by true x = absurd (false≢true x)
      by false x =
          let y = both l.up (not l.full) x in
          let one : is_default (get_or ps i (decoded [])) ≡ true =
          ap (λ (k : ℕ). is_default (get_or ps k (decoded []))) (sym is)
          ∙ ap (λ (p : Port). is_default p) (get_or-set_same (ports t) m (lined l (port_at t m)) (decoded []) (in_ports t s m g))
          ∙ lined-default (port_at t m) (port-standing t s m g) l y.0 (not-true l.full y.1) in
          work_default ps (line_before t s m g l) one

  line-ends : (n : ℕ) (l : Line) → ends (line n l) t i ≡ true → is_default (port_at (after (line n l) t) i) ≡ true
  unfolding effect
  line-ends n l e =
      let x = both (accepted (answer (line n l) t)) _ e in
      let y = both (eqb i (n - 1)) (to_half (port_at t i).line l) x.1 in
      ap (λ (u : List ℕ). is_default (port_at u i)) (after-accepted t (line n l) x.0)
      ∙ halves (n - 1) (unfold answer in named t n (Ok Done) x.0) l (sym (eqb-true i (n - 1) y.0)) y.1

-- ---- along a run

-- a port is on its default block, or has heard from its partner
abbrev Told : List ℕ → ℕ → Type 0
Told t i = (is_default (port_at t i) ≡ true) ⊎ Heard t i

none_more : (t : List ℕ) (i : ℕ) (cs : List Call) (c : Call) → NoneEnds t i cs → ends c (run t cs) i ≡ false → NoneEnds t i (cs ++ (c ∷ []))
unfolding run
none_more t i [] c n e = (e, tt)
none_more t i (b ∷ cs) c n e = (n.0, none_more (after b t) i cs c n.1 e)

heard-further : (t : List ℕ) (i : ℕ) (c : Call) → Takes c → ends c t i ≡ false → Heard t i → Heard (after c t) i
heard-further t i c k e x =
    let first = after (receive (i + 1) x.frame x.out) x.then in
    record {
      then = x.then;
      made = x.made;
      frame = x.frame;
      out = x.out;
      takes = x.takes;
      accepted = x.accepted;
      since = x.since ++ (c ∷ []);
      all = all_more x.since c x.all k;
      none = none_more first i x.since c x.none (ap (λ (u : List ℕ). ends c u i) x.gives ∙ e);
      gives = run_more first x.since c ∙ ap (after c) x.gives;
    }

heard_now : (t : List ℕ) → Made t → (i n : ℕ) (frame out : List ℕ) → n ≡ i + 1 → Takes (receive n frame out) → answer (receive n frame out) t ≡ Ok Lacpdu
    → Heard (after (receive n frame out) t) i
heard_now t m i n frame out is =
    subst (λ (z : ℕ). Takes (receive z frame out) → answer (receive z frame out) t ≡ Ok Lacpdu → Heard (after (receive z frame out) t) i) (sym is)
    (λ k e. record {
      then = t;
      made = m;
      frame = frame;
      out = out;
      takes = k;
      accepted = e;
      since = [];
      all = tt;
      none = tt;
      gives = unfold run in refl;
    })

pub lacpdu-is : (a : Answer) → is_lacpdu a ≡ true → a ≡ Ok Lacpdu
lacpdu-is (Ok Done) e = absurd (false≢true e)
lacpdu-is (Ok Lacpdu) e = refl
lacpdu-is (Ok Marker) e = absurd (false≢true e)
lacpdu-is (Err r) e = absurd (false≢true e)

module _ (t : List ℕ) (m : Made t) (i : ℕ) (h : i < count_in t) where
  frame-ends : (n : ℕ) (frame out : List ℕ) → Takes (receive n frame out) → ends (receive n frame out) t i ≡ true → Told (after (receive n frame out) t) i
  frame-ends n frame out k e = by (eqb i (n - 1)) refl x.1
    where
      x : (is_lacpdu (answer (receive n frame out) t) ≡ true) × (eqb i (n - 1) || is_displaced (block_of (actor_part frame)) (port_at t i) ≡ true)
      x = both (is_lacpdu (answer (receive n frame out) t)) _ e

      heard : answer (receive n frame out) t ≡ Ok Lacpdu
      heard = lacpdu-is (answer (receive n frame out) t) x.0

      by : (b : Bool) → eqb i (n - 1) ≡ b → b || is_displaced (block_of (actor_part frame)) (port_at t i) ≡ true → Told (after (receive n frame out) t) i
      by true y z =
          let some : 1 ≤ n = unfold answer in (on-port t n _ (ap accepted heard)).0.some in
          let is : i ≡ n - 1 = eqb-true i (n - 1) y in
          let number : n ≡ i + 1 = omega arith in
          inr (heard_now t m i n frame out number k heard)
      by false y z = inl ((moved-forgets t m n frame out k heard i h (eqb-false i (n - 1) y)).displaced z).defaulted

  call_ends : (c : Call) → Takes c → ends c t i ≡ true → Told (after c t) i
  call_ends (start count system delay x) k e =
      inl (start-default t count system delay x k e i (rw (call-count t (never_stuck t m) (start count system delay x)) h))
  call_ends (receive n frame out) k e = frame-ends n frame out k e
  call_ends tick k e = inl (tick-ends t (never_stuck t m) i h e)
  call_ends (line n l) k e = inl (line-ends t (never_stuck t m) i h n l e)
  call_ends (configure n x) k e = absurd (false≢true e)
  call_ends (fetch n out) k e = absurd (false≢true e)
  call_ends (report n) k e = absurd (false≢true e)
  call_ends (aggregator n) k e = absurd (false≢true e)
  call_ends due k e = absurd (false≢true e)

  call-told : (c : Call) → Takes c → Told t i → Told (after c t) i
  call-told c k x = by (ends c t i) refl x
    where
      by : (b : Bool) → ends c t i ≡ b → Told t i → Told (after c t) i
      by true e x = call_ends c k e
      by false e (inl d) = inl (ap (λ (y : Lasting). y.defaulted) (call-goes t (never_stuck t m) i h c k e).lasts ∙ d)
      by false e (inr y) = inr (heard-further t i c k e y)

run-told : (t : List ℕ) → Made t → ((i : ℕ) → i < count_in t → Told t i) → (cs : List Call) → AllTake cs → (i : ℕ) → i < count_in (run t cs) → Told (run t cs) i
unfolding run
run-told t m f [] k i h = f i h
run-told t m f (c ∷ cs) k i h =
    run-told (after c t) (made-call t m c k.0)
    (λ j g. let here : j < count_in t = rw (call-count t (never_stuck t m) c) at g in call-told t m j here c k.0 (f j here)) cs k.1 i h

made_told : (t : List ℕ) → Made t → (i : ℕ) → i < count_in t → Told t i
made_told t m i h =
    let c = start m.count m.system m.delay m.settings in
    let first = after c m.memory in
    subst (λ (u : List ℕ). i < count_in u → Told u i) m.gives
    (run-told first (made-start m.memory m.octets m.count m.system m.delay m.settings m.takes m.starts)
    (λ j g. inl (start-default m.memory m.count m.system m.delay m.settings m.takes m.starts j g)) m.calls m.all_take i) h

pub partner-spoke : PartnerSpoke
partner-spoke t m i h d = by (made_told t m i h)
  where
    by : Told t i → Spoke t i
    by (inl e) = absurd (true≢false (sym e ∙ d))
    by (inr x) =
        let first = after (receive (i + 1) x.frame x.out) x.then in
        let same : i + 1 - 1 ≡ i = omega arith in
        let live = live-partner x.then x.made (i + 1) x.frame x.out x.takes x.accepted x.since x.all
        (subst (λ (j : ℕ). NoneEnds first j x.since) (sym same) x.none) in
        record {
          heard = x;
          partner = ap (λ (u : List ℕ). lasting (port_at u i).partner) (sym x.gives) ∙ ap (λ (j : ℕ). lasting (port_at (run first x.since) j).partner) (sym same) ∙ live.partner;
        }
