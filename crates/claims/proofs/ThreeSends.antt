-- The ages in a record are those of the recent sends of its run: a tick makes both older, a fetch that is answered 0 adds one to both, a start forgets
-- both, and no other call touches either. By induction on the run. Assumes nothing.
use Prim.Native.Nat.{ℕ, suc, ◌+◌, ◌-◌, ◌<◌, ◌≤◌}
use mathlib.Core.Path.{◌≡◌, refl, sym, ap, ◌∙◌, subst}
use mathlib.Core.Bool.{Bool, true, false, cond, not, ◌&&◌, ◌||◌, true≢false, false≢true}
use mathlib.Core.List.{List, [], ◌∷◌, ◌++◌, map}
use native.Mathlib.Omega.{arith}
use lib.ListN.{length, get_or, set, replicate, length-set, length-replicate}
use native.Mathlib.Nat.{zero-add}
use lib.Seq.{get_or-append_seam}
use lib.Dec.{eqb, ltb, leb}
use borrow.Author.Tests.{eqb-true, eqb-false, eq-eqb, leb-true, leb-false, le-ltb}
use Rattle.std.specs.Prelude.{Ok, Err}
use Rattle.frame.specs.Class.{frame_size}
use Rattle.octets.proofs.ListLaws.{map_at, sweep_at, each-alike}
use Rattle.octets.specs.Octets.{Octets}
use Rattle.octets.proofs.RangeLaws.{within-true, within-is}
use Rattle.frame.specs.declared.block.Block.{Block}
use Rattle.frame.specs.declared.block.SystemId.{SystemId}
use Rattle.frame.specs.declared.wire.TensOfMicroseconds.{TensOfMicroseconds}
use Rattle.frame.specs.Block.{block_of}
use Rattle.frame.specs.Wire.{actor_part, partner_part}
use Rattle.machine.specs.declared.states.Ages.{Ages}
use Rattle.machine.specs.declared.states.Line.{Line}
use Rattle.machine.specs.Ages.{ages, no_send, sent_ages, barred, ages_ticked}
use Rattle.machine.specs.States.{same_line}
use Rattle.machine.specs.Time.{fast_periodic_time}
use Rattle.port.specs.declared.record.Port.{Port}
use Rattle.port.specs.declared.transmit.Undue.TheVariants.{Nothing, Barred}
use Rattle.port.specs.Receive.{moved, lined}
use Rattle.port.specs.Transmit.{due as due_of, sent, advanced}
use Rattle.port.proofs.RestKept.{received-ages, moved-ages, lined-ages, advanced-ages}
use Rattle.port.specs.Range.{own_fits}
use Rattle.settings.specs.declared.Settings.{Settings}
use Rattle.settings.specs.Settings.{configured, same_settings, own_of, blank, started}
use Rattle.settings.proofs.StandingLaws.{configured-ages}
use Rattle.table.specs.declared.layout.Header.{Header}
use Rattle.table.specs.Layout.{most_ports}
use Rattle.table.specs.Record.{decoded}
use Rattle.table.specs.Table.{table_in_range, count_in, port_at, ports, ours, again, on_octets, octets_of, state_of}
use Rattle.table.proofs.StoreLaws.{ports-length, ports-at}
use Rattle.trunk.specs.Displaced.{is_displaced, displaced_if, displaced}
use Rattle.work.specs.Work.{worked, after_one, after_start, received_at, after_received, after_tick, after_line, after_settings, after_send}
use Rattle.control.specs.Answer.{Answer, answer_number, is_number, with_room, with_default, due_answer}
use Rattle.control.specs.declared.answer.Accepted.TheVariants.{Done}
use Rattle.control.specs.declared.answer.Reason.TheVariants as reason
use Rattle.control.specs.Call.{Call, start, receive, tick, line, configure, fetch, report, aggregator, due as dueCall}
use Rattle.control.specs.After.{answer, after_frame, changed_by, after, effect}
use Rattle.control.specs.Accepted.{accepted}
use Rattle.claims.specs.Run.{Takes, AllTake, run, Made}
use Rattle.control.proofs.CallLaws.{OnPort, on-port, named, received-on, after-accepted}
use Rattle.claims.specs.AtRest.{Sound}
use Rattle.claims.specs.ThreeSends.{sends_by, sends, sends_of, recent, ThreeSends, ticks_in, NoneStarts, FourSendsApart}
use Rattle.claims.proofs.Sound.{call-left, frame-left, Before, in_ports, tick-before, line_before, settings-before, received-before, send_ports, start-ports, sound_back}
use Rattle.claims.proofs.Calls.{started-sound, call-sound, never_stuck}
use Rattle.control.proofs.CountLaws.{started-count, kept_if}
use Rattle.claims.proofs.Counts.{start-room, call-count, run-count}
use Rattle.claims.proofs.Locality.{again-at}
use Rattle.claims.proofs.Views.{settled-view, work_view, set_view}
use Rattle.claims.proofs.Recent.{Rising, Keeps, keeps-none, keeps-ticked, keeps_free, keeps-sent, recent-before}

-- ---- what an accepted call leaves of the ages of port i

module _ (t : List ℕ) (s : Sound t) (i : ℕ) (h : i < count_in t) where
  work_ages : (ps : List Port) → Before t ps → (port_at (again t (worked (ours t) ps)) i).ages ≡ (get_or ps i (decoded [])).ages
  work_ages ps b = work_view (λ p. p.ages) (λ p. refl) (λ p. refl) t s i h ps b

  -- nothing is changed
  pub same-ages : (port_at (octets_of (state_of t)) i).ages ≡ (port_at t i).ages
  same-ages = ap (λ (u : List ℕ). (port_at u i).ages) (sound_back t s)

  -- one record is changed, and keeps its ages
  set-ages : (m : ℕ) (q : Port) → q.ages ≡ (port_at t m).ages → (get_or (set (ports t) m q) i (decoded [])).ages ≡ (port_at t i).ages
  set-ages m q e =
      set_view (λ p. p.ages) t s i h m q (port_at t i).ages (λ is. e ∙ ap (λ (k : ℕ). (port_at t k).ages) (sym (eqb-true i m is))) (λ other. refl)

  line-ages : (m : ℕ) → m < count_in t → (l : Line) → (port_at (on_octets (after_line m l) t) i).ages ≡ (port_at t i).ages
  unfolding after_line after_one
  line-ages m g l = by (same_line l (port_at t m).line)
    where
      q : Port
      q = lined l (port_at t m)

      by : (b : Bool) → (port_at (kept_if b t (worked (ours t) (set (ports t) m q))) i).ages ≡ (port_at t i).ages
      by true = same-ages
      by false = work_ages (set (ports t) m q) (line_before t s m g l) ∙ set-ages m q (lined-ages l (port_at t m))

  settings-ages : (m : ℕ) → m < count_in t → (x : Settings) → own_fits (own_of x) ≡ true → (port_at (on_octets (after_settings m x) t) i).ages ≡ (port_at t i).ages
  unfolding after_settings after_one
  settings-ages m g x o = by (same_settings x (port_at t m))
    where
      q : Port
      q = configured x (port_at t m)

      by : (b : Bool) → (port_at (kept_if b t (worked (ours t) (set (ports t) m q))) i).ages ≡ (port_at t i).ages
      by true = same-ages
      by false = work_ages (set (ports t) m q) (settings-before t s m g x o) ∙ set-ages m q (configured-ages x (port_at t m))

  displaced-ages : (r : ℕ) (a : Block) (ps : List Port) → i < length ps → (get_or (displaced r a ps) i (decoded [])).ages ≡ (get_or ps i (decoded [])).ages
  unfolding displaced displaced_if
  displaced-ages r a ps g =
      let p = get_or ps i (decoded []) in
      ap (λ (x : Port). x.ages) (sweep_at (displaced_if r a) 0 ps i (decoded []) g) ∙ by p (not (eqb (0 + i) r) && is_displaced a p)
    where
      by : (p : Port) (b : Bool) → (cond b (moved p) p).ages ≡ p.ages
      by p true = moved-ages p
      by p false = refl

  frame-ages : (n : ℕ) (frame out : List ℕ) → Octets frame
      → (port_at (on_octets (after_frame (answer (receive n frame out) t) (n - 1) frame) t) i).ages ≡ (port_at t i).ages
  frame-ages n frame out o =
      frame-left (λ u. (port_at u i).ages ≡ (port_at t i).ages) (answer (receive n frame out) t) (n - 1) frame t same-ages
      (λ e. unfold after_received received_at in
      let x = received-on t n frame out e in
      let a = block_of (actor_part frame) in
      let b = block_of (partner_part frame) in
      let q = received_at (n - 1) frame (state_of t) in
      let here : i < length (set (ports t) (n - 1) q) = rw (length-set (ports t) (n - 1) q, ports-length) h in
      work_ages (displaced (n - 1) a (set (ports t) (n - 1) q)) (received-before t s (n - 1) x.below frame o x.up x.full)
      ∙ displaced-ages (n - 1) a (set (ports t) (n - 1) q) here
      ∙ set-ages (n - 1) q (received-ages (ours t).system (n - 1 + 1) a b (port_at t (n - 1))))

  tick-ages : (port_at (on_octets after_tick t) i).ages ≡ ages_ticked (port_at t i).ages
  unfolding after_tick
  tick-ages =
      work_ages (map advanced (ports t)) (tick-before t s)
      ∙ ap (λ (p : Port). p.ages) (map_at advanced (ports t) i (decoded []) (decoded []) (in_ports t s i h))
      ∙ ap (λ (p : Port). (advanced p).ages) (ports-at t i (decoded []) h) ∙ advanced-ages (port_at t i)

  -- a send on port m: x, if that is what remembering it gives where i is m, and as before where it is not
  send_ages : (m : ℕ) → m < count_in t → (x : Ages) → (eqb i m ≡ true → sent_ages (port_at t m).ages ≡ x) → (eqb i m ≡ false → (port_at t i).ages ≡ x)
      → (port_at (on_octets (after_send m) t) i).ages ≡ x
  unfolding after_send
  send_ages m g x f k =
      let q = sent (port_at t m) in
      ap (λ (p : Port). p.ages) (again-at t (set (ports t) m q) (send_ports t s m g) i (decoded []) h)
      ∙ set_view (λ p. p.ages) t s i h m q x (λ is. unfold sent in f is) k

-- ---- a start

started-ages : (x : Settings) → (started x).ages ≡ ages no_send no_send no_send
unfolding started
started-ages x = moved-ages (blank x) ∙ unfold blank in refl

-- an accepted start, on any memory, remembers no send
start-ages : (t : List ℕ) (count : ℕ) (system : SystemId) (delay : TensOfMicroseconds) (x : Settings) → Takes (start count system delay x)
    → accepted (answer (start count system delay x) t) ≡ true → (i : ℕ) → i < count
    → (port_at (changed_by (start count system delay x) t) i).ages ≡ ages no_send no_send no_send
unfolding effect
start-ages t count system delay x k e i h =
    let header : Header = record { count = count; system = system; delay = delay } in
    let w = within-true 1 count most_ports (start-room t count system delay x e).0 in
    let ps = replicate count (started x) in
    let many : i < length ps = rw (length-replicate count (started x)) h in
    sym (ap (λ (p : Port). p.ages) (ports-at (octets_of (after_start header x)) i (decoded []) (rw (started-count t count system delay x) h)))
    ∙ ap (λ (l : List Port). (get_or l i (decoded [])).ages) (start-ports header x k.0 k.1 w.0 w.1)
    ∙ settled-view (λ p. p.ages) (λ p. refl) (λ p. refl) header ps i (decoded []) many
    ∙ each-alike (λ p. p.ages ≡ ages no_send no_send no_send) count (started x) (started-ages x) i (decoded []) many

-- ---- a fetch that is answered 0 found a place free

unless-room : (b : Bool) (a : Answer) → accepted (cond b (Err reason.Buffer) a) ≡ true → accepted a ≡ true
unless-room true a e = absurd (false≢true e)
unless-room false a e = e

due_free : (nothing full : Bool) → accepted (due_answer (cond nothing (Err Nothing) (cond full (Err Barred) (Ok tt)))) ≡ true → full ≡ false
due_free true full e = absurd (false≢true e)
due_free false true e = absurd (false≢true e)
due_free false false e = refl

fetch_free : (t : List ℕ) (n : ℕ) (out : List ℕ) → accepted (answer (fetch n out) t) ≡ true → barred (port_at t (n - 1)).ages ≡ false
unfolding answer due_of
fetch_free t n out e =
    let p = port_at t (n - 1) in
    let rest = due_answer (due_of p) in
    due_free (not p.ntt || (not p.line.up || not p.line.full)) (barred p.ages)
    (unless-room (ltb (length out) frame_size) rest (on-port t n (with_room out rest) e).1)

-- ---- each call

after-refused : (t : List ℕ) (c : Call) → accepted (answer c t) ≡ false → after c t ≡ t
unfolding after
after-refused t c e = call-left (λ u. u ≡ t) (answer c t) t (changed_by c t) refl (λ a. absurd (true≢false (sym a ∙ e)))

-- port numbers from 1, counted from 0
same_number : (n m : ℕ) → 1 ≤ n → 1 ≤ m → eqb n m ≡ false → eqb (n - 1) (m - 1) ≡ true → ⊥
same_number n m a b e f =
    let other : n ≡ m → ⊥ = eqb-false n m e in
    let same : n - 1 ≡ m - 1 = eqb-true (n - 1) (m - 1) f in
    omega arith

and-true : (b : Bool) → b && true ≡ b
and-true true = refl
and-true false = refl

and-false : (b : Bool) → b && false ≡ false
and-false true = refl
and-false false = refl

module _ (t : List ℕ) (s : Sound t) (n : ℕ) (some : 1 ≤ n) (h : n - 1 < count_in t) (l : List ℕ) (k : Keeps l (port_at t (n - 1)).ages) where
  -- port n of table u remembers the sends m
  At : List ℕ → List ℕ → Type 0
  At m u = Keeps m (port_at u (n - 1)).ages

  -- a call that leaves the ages
  kept : (u : List ℕ) → (port_at u (n - 1)).ages ≡ (port_at t (n - 1)).ages → At l u
  unfolding At
  kept u e = subst (Keeps l) (sym e) k

  -- an accepted call leads to sends m; a refused one leaves them
  either : (c : Call) (m : List ℕ) → (accepted (answer c t) ≡ true → At m (changed_by c t)) → (accepted (answer c t) ≡ false → l ≡ m) → At m (after c t)
  either c m then else = by (accepted (answer c t)) refl
    where
      by : (b : Bool) → accepted (answer c t) ≡ b → At m (after c t)
      by true e = subst (At m) (sym (after-accepted t c e)) (then e)
      by false e = subst (At m) (sym (after-refused t c e)) (subst (λ (x : List ℕ). At x t) (else e) (kept t refl))

  fetch-at : (m : ℕ) (out : List ℕ) → accepted (answer (fetch m out) t) ≡ true → At (cond (eqb n m) (0 ∷ l) l) (on_octets (after_send (m - 1)) t)
  unfolding At
  fetch-at m out e = by (eqb n m) refl
    where
      number : (1 ≤ m) × (m - 1 < count_in t)
      number = unfold answer in let o = (on-port t m (with_room out (due_answer (due_of (port_at t (m - 1))))) e).0 in (o.some, o.below)

      by : (b : Bool) → eqb n m ≡ b → Keeps (cond b (0 ∷ l) l) (port_at (on_octets (after_send (m - 1)) t) (n - 1)).ages
      by true is =
          let same : m - 1 ≡ n - 1 = ap (λ (x : ℕ). x - 1) (sym (eqb-true n m is)) in
          let here : (port_at t (m - 1)).ages ≡ (port_at t (n - 1)).ages = ap (λ (x : ℕ). (port_at t x).ages) same in
          let it : (port_at (on_octets (after_send (m - 1)) t) (n - 1)).ages ≡ sent_ages (port_at t (n - 1)).ages =
          send_ages t s (n - 1) h (m - 1) number.1 (sent_ages (port_at t (n - 1)).ages) (λ f. ap sent_ages here)
          (λ f. absurd (true≢false (sym (eq-eqb (n - 1) (m - 1) (sym same)) ∙ f))) in
          subst (Keeps (0 ∷ l)) (sym it) (keeps-sent l (port_at t (n - 1)).ages k (ap barred (sym here) ∙ fetch_free t m out e))
      by false other =
          kept (on_octets (after_send (m - 1)) t)
          (send_ages t s (n - 1) h (m - 1) number.1 (port_at t (n - 1)).ages (λ f. absurd (same_number n m some number.0 other f)) (λ f. refl))

  start-at : (count : ℕ) (system : SystemId) (delay : TensOfMicroseconds) (x : Settings) → Takes (start count system delay x)
      → accepted (answer (start count system delay x) t) ≡ true → At [] (changed_by (start count system delay x) t)
  unfolding At
  start-at count system delay x g e =
      let c = start count system delay x in
      let same : count ≡ count_in t =
      sym (started-count t count system delay x) ∙ ap (λ (u : List ℕ). count_in u) (sym (after-accepted t c e)) ∙ call-count t s c in
      subst (Keeps []) (sym (start-ages t count system delay x g e (n - 1) (rw same h))) keeps-none

  tick-at : At (map suc l) (changed_by tick t)
  unfolding At effect
  tick-at = subst (Keeps (map suc l)) (sym (tick-ages t s (n - 1) h)) (keeps-ticked l (port_at t (n - 1)).ages k)

  tick-accepted : accepted (answer tick t) ≡ true
  unfolding answer
  tick-accepted = ap (λ (b : Bool). accepted (cond b (Ok Done) (Err reason.Table))) s.ranged

  -- a call on port m that leaves the ages of every port
  left : (c : Call) → (accepted (answer c t) ≡ true → (port_at (changed_by c t) (n - 1)).ages ≡ (port_at t (n - 1)).ages) → At l (after c t)
  left c f = either c l (λ e. kept (changed_by c t) (f e)) (λ e. refl)

  call_at : (c : Call) → Takes c → At (sends_by n c t l) (after c t)
  call_at (start count system delay x) g =
      either (start count system delay x) (cond (accepted (answer (start count system delay x) t)) [] l)
      (λ e. rw e (start-at count system delay x g e)) (λ e. rw e)
  call_at (receive m frame out) g =
      left (receive m frame out) (λ e. unfold effect in frame-ages t s (n - 1) h m frame out g.0)
  call_at tick g = either tick (map suc l) (λ e. tick-at) (λ e. absurd (true≢false (sym tick-accepted ∙ e)))
  call_at (line m x) g = left (line m x) (λ e. unfold effect in line-ages t s (n - 1) h (m - 1) (unfold answer in named t m (Ok Done) e) x)
  call_at (configure m x) g =
      left (configure m x) (λ e. unfold effect in settings-ages t s (n - 1) h (m - 1) (unfold answer in named t m (with_default x (Ok Done)) e) x g)
  call_at (fetch m out) g =
      either (fetch m out) (cond (eqb n m && accepted (answer (fetch m out) t)) (0 ∷ l) l)
      (λ e. unfold effect in rw (e, and-true (eqb n m)) (fetch-at m out e)) (λ e. rw (e, and-false (eqb n m)))
  call_at (report m) g = left (report m) (λ e. unfold effect in same-ages t s (n - 1) h)
  call_at (aggregator m) g = left (aggregator m) (λ e. unfold effect in same-ages t s (n - 1) h)
  call_at dueCall g = left dueCall (λ e. unfold effect in same-ages t s (n - 1) h)

-- ---- runs

run-keeps : (n : ℕ) → 1 ≤ n → (t : List ℕ) → Sound t → n - 1 < count_in t → (cs : List Call) → AllTake cs → (l : List ℕ) → Keeps l (port_at t (n - 1)).ages
    → Keeps (sends n t cs l) (port_at (run t cs) (n - 1)).ages
unfolding run sends At
run-keeps n some t s h [] k l g = g
run-keeps n some t s h (c ∷ cs) k l g =
    run-keeps n some (after c t) (call-sound t s c k.0) (rw (call-count t s c) h) cs k.1 (sends_by n c t l) (call_at t s n some h l g c k.0)

module _ (t : List ℕ) (m : Made t) (n : ℕ) (some : 1 ≤ n) (below : n ≤ count_in t) where
  begin : Call
  begin = start m.count m.system m.delay m.settings

  begun-sound : Sound (changed_by begin m.memory)
  unfolding begin
  begun-sound = started-sound m.memory m.count m.system m.delay m.settings m.takes m.starts

  begun-is : after begin m.memory ≡ changed_by begin m.memory
  unfolding begin
  begun-is = after-accepted m.memory begin m.starts

  sound : Sound (after begin m.memory)
  sound = subst Sound (sym begun-is) begun-sound

  counts : count_in t ≡ m.count
  unfolding begin
  counts =
      ap (λ (u : List ℕ). count_in u) (sym m.gives) ∙ run-count (after begin m.memory) sound m.calls m.all_take
      ∙ ap (λ (u : List ℕ). count_in u) begun-is ∙ started-count m.memory m.count m.system m.delay m.settings

  made-keeps : Keeps (sends_of m n) (port_at t (n - 1)).ages
  unfolding begin
  made-keeps =
      let u = after begin m.memory in
      let one : n - 1 < count_in t = omega (arith, some, below) in
      let here : n - 1 < m.count = rw counts at one in
      let none : (port_at u (n - 1)).ages ≡ ages no_send no_send no_send =
      ap (λ (x : List ℕ). (port_at x (n - 1)).ages) begun-is
      ∙ start-ages m.memory m.count m.system m.delay m.settings m.takes m.starts (n - 1) here in
      let within-u : n - 1 < count_in u =
      rw (ap (λ (x : List ℕ). count_in x) begun-is ∙ started-count m.memory m.count m.system m.delay m.settings) here in
      subst (λ (x : List ℕ). Keeps (sends_of m n) (port_at x (n - 1)).ages) m.gives
      (run-keeps n some u sound within-u m.calls m.all_take [] (subst (Keeps []) (sym none) keeps-none))

-- ---- the answer of a fetch

due-number : (ntt up full three : Bool)
    → eqb (answer_number (due_answer (cond (not ntt || (not up || not full)) (Err Nothing) (cond three (Err Barred) (Ok tt))))) 11 ≡ ntt && (up && (full && three))
due-number false up full three = refl
due-number true false full three = refl
due-number true true false three = refl
due-number true true true false = refl
due-number true true true true = refl

-- with room for its frame, on a port of the table
fetch-is : (t : List ℕ) → table_in_range t ≡ true → (n : ℕ) → 1 ≤ n → n ≤ count_in t → (out : List ℕ) → frame_size ≤ length out
    → answer (fetch n out) t ≡ due_answer (due_of (port_at t (n - 1)))
unfolding answer
fetch-is t r n some below out g =
    let one : is_number t n ≡ true = within-is 1 n (count_in t) some below in
    let big : ltb (length out) frame_size ≡ false = le-ltb (length out) frame_size g in
    rw (r, one, big)

pub three-sends : ThreeSends
three-sends t m n some below =
    let p = port_at t (n - 1) in
    let k = made-keeps t m n some below in
    record {
      few = k.few;
      remembered = k.remembered;
      barred = λ out g.
          ap (λ (a : Answer). eqb (answer_number a) 11) (fetch-is t (never_stuck t m).ranged n some below out g)
          ∙ unfold due_of in due-number p.ntt p.line.up p.line.full (barred p.ages)
          ∙ ap (λ (b : Bool). p.ntt && (p.line.up && (p.line.full && b))) (keeps_free (sends_of m n) p.ages k);
    }

-- ---- four sends

map-append : (l r : List ℕ) → map suc (l ++ r) ≡ map suc l ++ map suc r
map-append [] r = refl
map-append (a ∷ l) r = ap (λ (x : List ℕ). suc a ∷ x) (map-append l r)

-- calls after which a send that stood behind those of l stands behind them still, with their ticks added
record Behind (cs : List Call) (n : ℕ) (t l : List ℕ) (a : ℕ) (r : List ℕ) : Type 0 where
  there : length (sends n t cs l) < length (sends n t cs (l ++ (a ∷ r)))
  ticks : get_or (sends n t cs (l ++ (a ∷ r))) (length (sends n t cs l)) 0 ≡ ticks_in cs + a

seam : (l : List ℕ) (a : ℕ) (r : List ℕ) → length l < length (l ++ (a ∷ r))
seam [] a r = omega arith
seam (x ∷ l) a r = let s : length l < length (l ++ (a ∷ r)) = seam l a r in omega arith

module _ (n : ℕ) (t : List ℕ) (c : Call) (cs : List Call) (l : List ℕ) (a : ℕ) (r : List ℕ) where
  -- one call before them, that makes the send a into b
  sooner : (b : ℕ) (q : List ℕ) → sends_by n c t (l ++ (a ∷ r)) ≡ sends_by n c t l ++ (b ∷ q) → ticks_in cs + b ≡ ticks_in (c ∷ cs) + a
      → Behind cs n (after c t) (sends_by n c t l) b q → Behind (c ∷ cs) n t l a r
  unfolding sends
  sooner b q e w g =
      let u = after c t in
      let m = sends_by n c t l in
      record {
        there = subst (λ (x : List ℕ). length (sends n u cs m) < length (sends n u cs x)) (sym e) g.there;
        ticks = ap (λ (x : List ℕ). get_or (sends n u cs x) (length (sends n u cs m)) 0) e ∙ g.ticks ∙ w;
      }

fetched : (b : Bool) (l m : List ℕ) → cond b (0 ∷ (l ++ m)) (l ++ m) ≡ cond b (0 ∷ l) l ++ m
fetched true l m = refl
fetched false l m = refl

behind : (n : ℕ) (t : List ℕ) (cs : List Call) → NoneStarts t cs → (l : List ℕ) (a : ℕ) (r : List ℕ) → Behind cs n t l a r
unfolding sends ticks_in
behind n t [] f l a r = record { there = seam l a r; ticks = get_or-append_seam l a r 0 ∙ sym (zero-add a) }
behind n t (start count system delay x ∷ cs) f l a r =
    let c = start count system delay x in
    sooner n t c cs l a r a r (rw f.0) refl (behind n (after c t) cs f.1 (sends_by n c t l) a r)
behind n t (receive m frame out ∷ cs) f l a r =
    sooner n t (receive m frame out) cs l a r a r refl refl (behind n (after (receive m frame out) t) cs f.1 l a r)
behind n t (tick ∷ cs) f l a r =
    sooner n t tick cs l a r (suc a) (map suc r) (map-append l (a ∷ r)) (omega arith) (behind n (after tick t) cs f.1 (map suc l) (suc a) (map suc r))
behind n t (line m x ∷ cs) f l a r = sooner n t (line m x) cs l a r a r refl refl (behind n (after (line m x) t) cs f.1 l a r)
behind n t (configure m x ∷ cs) f l a r = sooner n t (configure m x) cs l a r a r refl refl (behind n (after (configure m x) t) cs f.1 l a r)
behind n t (fetch m out ∷ cs) f l a r =
    let c = fetch m out in
    sooner n t c cs l a r a r (fetched (eqb n m && accepted (answer c t)) l (a ∷ r)) refl (behind n (after c t) cs f.1 (sends_by n c t l) a r)
behind n t (report m ∷ cs) f l a r = sooner n t (report m) cs l a r a r refl refl (behind n (after (report m) t) cs f.1 l a r)
behind n t (aggregator m ∷ cs) f l a r = sooner n t (aggregator m) cs l a r a r refl refl (behind n (after (aggregator m) t) cs f.1 l a r)
behind n t (dueCall ∷ cs) f l a r = sooner n t dueCall cs l a r a r refl refl (behind n (after dueCall t) cs f.1 l a r)

pub four-sends-apart : FourSendsApart
four-sends-apart t m n first last k e cs takes none two f =
    let s = never_stuck t m in
    let c = fetch n first in
    let on_octets : OnPort t n = unfold answer in (on-port t n (with_room first (due_answer (due_of (port_at t (n - 1))))) (ap accepted e)).0 in
    let some : 1 ≤ n = on_octets.some in
    let here : n - 1 < count_in t = on_octets.below in
    let before = made-keeps t m n some (omega (arith, some, here)) in
    let u = after c t in
    let us : Sound u = call-sound t s c k in
    let it : Keeps (sends_by n c t (sends_of m n)) (port_at u (n - 1)).ages = unfold At in call_at t s n some here (sends_of m n) before c k in
    let one : sends_by n c t (sends_of m n) ≡ 0 ∷ sends_of m n = rw (eq-eqb n n refl, e) in
    let then = run-keeps n some u us (rw (call-count t s c) here) cs takes (0 ∷ sends_of m n) (subst (λ (x : List ℕ). Keeps x (port_at u (n - 1)).ages) one it) in
    let all = sends n u cs (0 ∷ sends_of m n) in
    let b = behind n u cs none [] 0 (sends_of m n) in
    let free : barred (port_at (run u cs) (n - 1)).ages ≡ false = fetch_free (run u cs) n last (ap accepted f) in
    let few : length (recent all) < 3 = leb-false 3 (length (recent all)) (sym (keeps_free all (port_at (run u cs) (n - 1)).ages then) ∙ free) in
    late all then.rising (rw two at b.there) (rw two at b.ticks) few
  where
    late : (all : List ℕ) → Rising all → 2 < length all → get_or all 2 0 ≡ ticks_in cs + 0 → length (recent all) < 3 → fast_periodic_time < ticks_in cs
    late all r there is few = by (leb (ticks_in cs) fast_periodic_time) refl
      where
        by : (x : Bool) → leb (ticks_in cs) fast_periodic_time ≡ x → fast_periodic_time < ticks_in cs
        by true g =
            let soon : ticks_in cs ≤ fast_periodic_time = leb-true (ticks_in cs) fast_periodic_time g in
            let three : 2 < length (recent all) = recent-before all r 2 there (omega (arith, is, soon)) in
            absurd (omega (arith, three, few))
        by false g = leb-false (ticks_in cs) fast_periodic_time g
