-- A port that gets another aggregator, or whose partner has moved, begins anew: steps 1 and 2 of a call leave mux state and aggregator, so
-- only steps 3 and 4 can change the aggregator, and they lead down first. Assumes nothing.
use Prim.Native.Nat.{ℕ, ◌-◌, ◌<◌}
use mathlib.Core.Path.{◌≡◌, refl, sym, ap, ◌∙◌, subst}
use mathlib.Core.Logic.{◌≢◌}
use mathlib.Core.Bool.{Bool, true, false, cond, true≢false, false≢true}
use mathlib.Core.List.{List, [], map}
use lib.ListN.{length, get_or, set, replicate, length-set, length-replicate}
use lib.Dec.{eqb}
use borrow.Author.Tests.{ne_eqb}
use Rattle.std.specs.Prelude.{Ok, Err}
use Rattle.octets.proofs.ListLaws.{each-alike}
use Rattle.octets.specs.Octets.{Octets}
use Rattle.frame.specs.declared.block.Block.{Block}
use Rattle.frame.specs.declared.block.SystemId.{SystemId}
use Rattle.frame.specs.declared.wire.TensOfMicroseconds.{TensOfMicroseconds}
use Rattle.frame.specs.Block.{block_of}
use Rattle.frame.specs.Wire.{actor_part, partner_part}
use Rattle.machine.specs.declared.states.Mux.{Mux}
use Rattle.machine.specs.Bits.{with_synchronization}
use Rattle.machine.specs.Mux.{is_unselected}
use Rattle.port.specs.declared.record.Port.{Port}
use Rattle.port.specs.Compared.{compared}
use Rattle.port.specs.Mux.{placed, descent, entered_all}
use Rattle.port.specs.Periodic.{periodic_run}
use Rattle.port.specs.Receive.{with_state, record_default, initialized, port_disabled, moved, lined, unselected}
use Rattle.port.specs.Transmit.{sent, ntt_cleared}
use Rattle.port.proofs.MuxLaws.{detached_descends}
use Rattle.port.proofs.PeriodicLaws.{periodic-keeps, periodic-idle}
use Rattle.port.proofs.RestKept.{Seat, seat, aside-seat, advanced-seat, received-aside, moved-aside, lined-aside}
use Rattle.settings.specs.declared.Settings.{Settings}
use Rattle.settings.specs.Settings.{configured, started}
use Rattle.settings.proofs.StandingLaws.{settings-aside}
use Rattle.table.proofs.FillLaws.{room-is}
use Rattle.table.proofs.StoreLaws.{ports-length, ports-at}
use Rattle.table.specs.declared.layout.Header.{Header}
use Rattle.table.specs.Record.{decoded}
use Rattle.table.specs.Table.{count_in, port_at, ports, ours, again, state_of, on_octets, is_room}
use Rattle.trunk.specs.Displaced.{is_displaced, displaced_if, displaced}
use Rattle.trunk.specs.Selection.{rule_of}
use Rattle.trunk.specs.Settled.{must_move, settled}
use Rattle.trunk.proofs.BesideLaws.{beside_settled, settled-beside}
use Rattle.trunk.proofs.MoveLaws.{settled-moves, settled-held, moves-aggregator, moves-waiting, displaced-at}
use Rattle.work.specs.Work.{worked, received_at, after_received}
use Rattle.control.specs.Answer.{Answer, with_default}
use Rattle.control.specs.declared.answer.Accepted.TheVariants.{Done}
use Rattle.control.specs.declared.answer.Reason.TheVariants as reason
use Rattle.control.specs.Call.{Call, start, receive, tick, line, configure, fetch, report, aggregator, due, is_start}
use Rattle.control.specs.After.{answer, changed_by, after, effect}
use Rattle.control.specs.Accepted.{accepted}
use Rattle.control.proofs.CallLaws.{if-accepted, Received, received-on, after-accepted, refused-table}
use Rattle.claims.specs.Run.{Takes}
use Rattle.claims.specs.AtRest.{Sound}
use Rattle.claims.specs.Moves.{Begins, Descended, MovedOver, OneAggregator, Forgotten, Resettled, Elsewhere, MovedForgets}
use Rattle.claims.proofs.Sound.{Before, port-resting, received-before, start-ports}
use Rattle.claims.proofs.Calls.{never_stuck}
use Rattle.control.proofs.CountLaws.{started-count}
use Rattle.claims.proofs.Counts.{call-count}
use Rattle.claims.proofs.Locality.{set-kept}
use Rattle.claims.proofs.LivePartner.{after-received}
use Rattle.claims.proofs.Views.{work_view}
use Rattle.claims.proofs.Course.{Own, as_was, hears, moves, ages, turns, gets, Course, stays, sends, works, course, paced-inside, paced-at, work_at}

-- ---- before steps 3 to 6

-- a call's own rule leaves mux state and aggregator
pub own-seat : (c : Call) (t : List ℕ) (i : ℕ) (p : Port) → Own c t i p → seat p ≡ seat (port_at t i)
own-seat c t i p (as_was e) = ap (λ (x : Port). seat x) e
own-seat c t i p (hears n frame out c-is is e) = unfold received_at in
    let q = port_at t i in
    ap (λ (x : Port). seat x) e ∙ aside-seat q (received_at i frame (state_of t)) (received-aside (ours t).system _ (block_of (actor_part frame)) (block_of (partner_part frame)) q)
own-seat c t i p (moves n frame out c-is d e) = ap (λ (x : Port). seat x) e ∙ aside-seat (port_at t i) (moved (port_at t i)) (moved-aside (port_at t i))
own-seat c t i p (ages c-is e) = ap (λ (x : Port). seat x) e ∙ advanced-seat (port_at t i)
own-seat c t i p (turns n l c-is is d e) = ap (λ (x : Port). seat x) e ∙ aside-seat (port_at t i) (lined l (port_at t i)) (lined-aside l (port_at t i))
own-seat c t i p (gets n x c-is is e) = ap (λ (y : Port). seat y) e ∙ aside-seat (port_at t i) (configured x (port_at t i)) (settings-aside x (port_at t i))

-- and so does the periodic machine
pub paced-seat : (p : Port) → seat (periodic_run p) ≡ seat p
paced-seat p = ap (λ (x : Port). seat x) (periodic-keeps p)

-- an UNSELECTED port must move
pub unselected-moves : (k : ℕ) (p : Port) → is_unselected p.phase.selected ≡ true → must_move k p ≡ true
unfolding must_move
unselected-moves k p e = rw e

-- ---- another aggregator

-- one record in the work, from t to u
module _ (t : List ℕ) (s : Sound t) (ps : List Port) (b : Before t ps) (i : ℕ) (h : i < count_in t) where
  u : List ℕ
  u = again t (worked (ours t) ps)

  qs : List Port
  qs = map periodic_run ps

  q : Port
  q = get_or qs i (decoded [])

  k : ℕ
  k = rule_of (ours t) (map compared qs) i

  inside : i < length qs
  unfolding qs
  inside = paced-inside t s ps b i h

  at : port_at u i ≡ get_or (settled (ours t) qs) i (decoded [])
  unfolding u qs
  at = work_at t s ps b i h

  pub moves-begins : must_move (rule_of (ours t) (map compared (map periodic_run ps)) i) (get_or (map periodic_run ps) i (decoded [])) ≡ true → Begins (port_at (again t (worked (ours t) ps)) i)
  unfolding u qs q k
  moves-begins e =
      let w = moves-waiting (ours t) qs i (decoded []) inside e in
      record { waiting = rw at w.0; whole = rw at w.1 }

  moves-down : must_move k q ≡ true → Descended q.phase.mux (port_at u i)
  unfolding q k
  moves-down e = record {
    from = q;
    state = refl;
    through =
        let holds : (port_at u i).aggregator ≡ k = ap (λ (x : Port). x.aggregator) at ∙ moves-aggregator (ours t) qs i (decoded []) inside e in
        at ∙ settled-moves (ours t) qs i (decoded []) inside e ∙ ap (λ (x : Port). ntt_cleared (placed k x)) (detached_descends q)
        ∙ ap (λ (m : ℕ). ntt_cleared (placed m (entered_all (descent q.phase.mux) (unselected q)))) (sym holds);
  }

  pub works-over : seat (get_or ps i (decoded [])) ≡ seat (port_at t i) → (port_at (again t (worked (ours t) ps)) i).aggregator ≢ (port_at t i).aggregator
      → Begins (port_at (again t (worked (ours t) ps)) i) × Descended (port_at t i).phase.mux (port_at (again t (worked (ours t) ps)) i)
  unfolding u qs q k
  works-over e differ = by (must_move k q) refl
    where
      same : seat q ≡ seat (port_at t i)
      same = ap (λ (x : Port). seat x) (paced-at t s ps b i h) ∙ paced-seat (get_or ps i (decoded [])) ∙ e

      by : (x : Bool) → must_move k q ≡ x → Begins (port_at u i) × Descended (port_at t i).phase.mux (port_at u i)
      by true x = (moves-begins x, subst (λ (m : Mux). Descended m (port_at u i)) (ap (λ (y : Seat). y.mux) same) (moves-down x))
      by false x =
          absurd (differ (ap (λ (y : Port). y.aggregator) at ∙ settled-held (ours t) qs i (decoded []) inside x ∙ ap (λ (y : Seat). y.aggregator) same))

-- ---- a start

started-unselected : (x : Settings) → is_unselected (started x).phase.selected ≡ true
unfolding started moved port_disabled initialized record_default
started-unselected x = refl

module _ (h : Header) (x : Settings) (i : ℕ) (few : i < h.count) where
  alike : List Port
  alike = replicate h.count (started x)

  pub alike-inside : i < length (replicate h.count (started x))
  alike-inside = rw (length-replicate h.count (started x)) few

  pub alike_at : get_or (replicate h.count (started x)) i (decoded []) ≡ started x
  alike_at = each-alike (λ (p : Port). p ≡ started x) h.count (started x) refl i (decoded []) alike-inside

  starts_moving : must_move (rule_of h (map compared alike) i) (get_or alike i (decoded [])) ≡ true
  unfolding alike
  starts_moving =
      unselected-moves (rule_of h (map compared alike) i) (get_or alike i (decoded []))
      (ap (λ (p : Port). is_unselected p.phase.selected) alike_at ∙ started-unselected x)

  starts-waiting : (p : Port) → p ≡ get_or (settled h alike) i (decoded []) → Begins p
  unfolding alike
  starts-waiting p e =
      let w = moves-waiting h alike i (decoded []) alike-inside starts_moving in
      record { waiting = rw e w.0; whole = rw e w.1 }

-- one port of a table that was started
pub record Fresh (count : ℕ) (h : Header) (x : Settings) (p : Port) (i : ℕ) : Type 0 where
  pub few : i < count
  pub is : p ≡ get_or (settled h (replicate count (started x))) i (decoded [])

pub start-at : (t : List ℕ) (count : ℕ) (system : SystemId) (delay : TensOfMicroseconds) (x : Settings) → Takes (start count system delay x)
    → accepted (answer (start count system delay x) t) ≡ true → (i : ℕ) → i < count_in (after (start count system delay x) t)
    → Fresh count (record { count = count; system = system; delay = delay }) x (port_at (after (start count system delay x) t) i) i
unfolding answer effect
start-at t count system delay x f e i h =
    let c = start count system delay x in
    let then : after c t ≡ changed_by c t = after-accepted t c e in
    let room = room-is t count (if-accepted (is_room t count) (with_default x (Ok Done)) reason.Table e).0 in
    let few : i < count_in (changed_by c t) = rw then at h in
    record {
      few = rw (started-count t count system delay x) at few;
      is =
          sym (ports-at (after c t) i (decoded []) h) ∙ ap (λ (l : List ℕ). get_or (ports l) i (decoded [])) then
          ∙ ap (λ (l : List Port). get_or l i (decoded []))
          (start-ports (record { count = count; system = system; delay = delay }) x f.0 f.1 room.some room.few);
    }

start-begins : (t : List ℕ) (c : Call) → Takes c → accepted (answer c t) ≡ true → is_start c ≡ true → (i : ℕ) → i < count_in (after c t) → Begins (port_at (after c t) i)
start-begins t (start count system delay x) k e f i h =
    let p = start-at t count system delay x k e i h in
    unfold alike in starts-waiting (record { count = count; system = system; delay = delay }) x i p.few _ p.is
start-begins t (receive n frame out) k e f i h = absurd (false≢true f)
start-begins t tick k e f i h = absurd (false≢true f)
start-begins t (line n l) k e f i h = absurd (false≢true f)
start-begins t (configure n x) k e f i h = absurd (false≢true f)
start-begins t (fetch n out) k e f i h = absurd (false≢true f)
start-begins t (report n) k e f i h = absurd (false≢true f)
start-begins t (aggregator n) k e f i h = absurd (false≢true f)
start-begins t due k e f i h = absurd (false≢true f)

-- ---- any call

sent-seat : (p : Port) → seat (sent p) ≡ seat p
unfolding sent
sent-seat p = refl

course-over : (c : Call) (t : List ℕ) (s : Sound t) (u : List ℕ) (i : ℕ) → i < count_in t → Course c t u i → (port_at u i).aggregator ≢ (port_at t i).aggregator
    → Begins (port_at u i) × Descended (port_at t i).phase.mux (port_at u i)
course-over c t s u i h (stays e) differ = absurd (differ (ap (λ (p : Port). p.aggregator) e))
course-over c t s u i h (sends e) differ = absurd (differ (ap (λ (p : Port). p.aggregator) e ∙ ap (λ (x : Seat). x.aggregator) (sent-seat (port_at t i))))
course-over c t s u i h (works ps b is own) differ =
    subst (λ (w : List ℕ). Begins (port_at w i) × Descended (port_at t i).phase.mux (port_at w i)) (sym is)
    (works-over t s ps b i h (own-seat c t i (get_or ps i (decoded [])) own) (λ e. differ (ap (λ (w : List ℕ). (port_at w i).aggregator) is ∙ e)))

pub one-aggregator : OneAggregator
one-aggregator t m c k i h differ = by (answer c t) refl
  where
    s : Sound t
    s = never_stuck t m

    moves-over : accepted (answer c t) ≡ true → (b : Bool) → is_start c ≡ b → MovedOver c t i
    moves-over e true f = record {
      begins = start-begins t c k e f i (rw (call-count t s c) h);
      down = λ g. absurd (true≢false (sym f ∙ g));
    }
    moves-over e false f =
        let x = course-over c t s (after c t) i h (course t s i h c k e f) differ in
        record { begins = x.0; down = λ g. x.1 }

    by : (a : Answer) → answer c t ≡ a → MovedOver c t i
    by (Ok x) e = moves-over (ap accepted e) (is_start c) refl
    by (Err r) e = absurd (differ (ap (λ (u : List ℕ). (port_at u i).aggregator) (refused-table c t e)))

-- ---- an LACPDU, and the ports that it does not name

-- what steps 3 to 6 leave, field by field
resettled : (p q : Port) → beside_settled q ≡ beside_settled p → Resettled p q
resettled p q e = record {
  receive = ap (λ (x : Port). x.phase.receive) e;
  periodic = ap (λ (x : Port). x.phase.periodic) e;
  line = ap (λ (x : Port). x.line) e;
  current = ap (λ (x : Port). x.timers.current) e;
  pace = ap (λ (x : Port). x.timers.periodic) e;
  ages = ap (λ (x : Port). x.ages) e;
  own = ap (λ (x : Port). x.own) e;
  partner = ap (λ (x : Port). x.partner) e;
  activity = ap (λ (x : Port). x.actor.activity) e;
  timeout = ap (λ (x : Port). x.actor.timeout) e;
  aggregation = ap (λ (x : Port). x.actor.aggregation) e;
  defaulted = ap (λ (x : Port). x.actor.defaulted) e;
  expired = ap (λ (x : Port). x.actor.expired) e;
}

-- what a port whose partner has moved shows, but for its being settled
record Shows : Type 0 where
  partner : Block
  defaulted : Bool
  expired : Bool

abbrev shows : Port → Shows
shows p = record { partner = p.partner; defaulted = p.actor.defaulted; expired = p.actor.expired }

bare : Port → Block
bare p = with_state p.own.default (with_synchronization p.own.default.state false)

moved-shows : (p : Port) → shows (moved p) ≡ record { partner = bare p; defaulted = true; expired = false }
unfolding moved port_disabled initialized record_default bare
moved-shows p = refl

moved-unselected : (p : Port) → is_unselected (moved p).phase.selected ≡ true
unfolding moved port_disabled initialized record_default
moved-unselected p = refl

paced-unselected : (p : Port) → is_unselected (periodic_run p).phase.selected ≡ is_unselected p.phase.selected
paced-unselected p = ap (λ (x : Port). is_unselected x.phase.selected) (periodic-keeps p)

module _ (t : List ℕ) (s : Sound t) (n : ℕ) (frame : List ℕ) (o : Octets frame) (on : Received t n) (i : ℕ) (h : i < count_in t) (other : i ≢ n - 1) where
  a : Block
  a = block_of (actor_part frame)

  heard : List Port
  heard = set (ports t) (n - 1) (received_at (n - 1) frame (state_of t))

  ps : List Port
  ps = displaced (n - 1) a heard

  b : Before t ps
  unfolding ps heard a
  b = received-before t s (n - 1) on.below frame o on.up on.full

  one : get_or ps i (decoded []) ≡ cond (is_displaced a (port_at t i)) (moved (port_at t i)) (port_at t i)
  unfolding ps heard displaced_if
  one =
      let q = received_at (n - 1) frame (state_of t) in
      let e : eqb i (n - 1) ≡ false = ne_eqb i (n - 1) other in
      displaced-at (n - 1) a heard i (decoded []) (rw (length-set (ports t) (n - 1) q, ports-length) h)
      ∙ ap (λ (p : Port). displaced_if (n - 1) a i p) (set-kept t (n - 1) q i h e) ∙ rw e

  forgets : is_displaced a (port_at t i) ≡ true → Forgotten (port_at t i) (port_at (again t (worked (ours t) ps)) i)
  unfolding bare
  forgets e =
      let p = port_at t i in
      let is : get_or ps i (decoded []) ≡ moved p = one ∙ ap (λ (x : Bool). cond x (moved p) p) e in
      let v : shows (port_at (again t (worked (ours t) ps)) i) ≡ record { partner = bare p; defaulted = true; expired = false } =
      work_view (λ x. shows x) (λ x. refl) (λ x. refl) t s i h ps b ∙ ap (λ (x : Port). shows x) is ∙ moved-shows p in
      let free : is_unselected (get_or (map periodic_run ps) i (decoded [])).phase.selected ≡ true =
      ap (λ (x : Port). is_unselected x.phase.selected) (paced-at t s ps b i h) ∙ paced-unselected (get_or ps i (decoded []))
      ∙ ap (λ (x : Port). is_unselected x.phase.selected) is ∙ moved-unselected p in
      record {
        partner = ap (λ (x : Shows). x.partner) v;
        defaulted = ap (λ (x : Shows). x.defaulted) v;
        expired = ap (λ (x : Shows). x.expired) v;
        begins = moves-begins t s ps b i h (unselected-moves _ (get_or (map periodic_run ps) i (decoded [])) free);
      }

  settles : is_displaced a (port_at t i) ≡ false → Resettled (port_at t i) (port_at (again t (worked (ours t) ps)) i)
  settles e =
      let p = port_at t i in
      let is : get_or (map periodic_run ps) i (decoded []) ≡ p =
      paced-at t s ps b i h ∙ ap periodic_run (one ∙ ap (λ (x : Bool). cond x (moved p) p) e) ∙ periodic-idle p (port-resting t s i h).periodic in
      resettled p (port_at (again t (worked (ours t) ps)) i)
      (ap (λ (x : Port). beside_settled x) (work_at t s ps b i h) ∙ settled-beside (ours t) (map periodic_run ps) i (decoded []) (paced-inside t s ps b i h)
      ∙ ap (λ (x : Port). beside_settled x) is)

  elsewhere : Elsewhere (block_of (actor_part frame)) (port_at t i) (port_at (on_octets (after_received (n - 1) frame) t) i)
  unfolding after_received ps heard a
  elsewhere = record { displaced = forgets; others = settles }

pub moved-forgets : MovedForgets
moved-forgets t m n frame out k e i h other =
    rw (after-received t n frame out e) (elsewhere t (never_stuck t m) n frame k.0 (received-on t n frame out e) i h other)
