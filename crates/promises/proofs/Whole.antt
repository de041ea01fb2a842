-- A call keeps a table with monitors in range and at rest, and with the monitors dropped it is the call on the table without them: the front of the memory is what
-- that call leaves, and the machines then run write behind it alone. Assumes nothing.
use Prim.Native.Nat.{ℕ, ◌-◌, ◌<◌}
use mathlib.Core.Path.{◌≡◌, refl, sym, ap, ◌∙◌, subst}
use mathlib.Core.Bool.{Bool, true, false, cond, not, ◌&&◌, false≢true, true≢false}
use mathlib.Core.List.{List, [], ◌++◌}
use native.Mathlib.Omega.{arith}
use lib.ListN.{length, take, drop, set}
use lib.Dec.{eqb}
use borrow.Author.Tests.{eqb-true, eqb-false, eq-eqb}
use Rattle.std.specs.Prelude.{Ok, Err}
use Rattle.octets.specs.Octets.{Octets, within}
use Rattle.octets.proofs.OctetLists.{append-octets, drop-octets}
use Rattle.frame.specs.declared.block.SystemId.{SystemId}
use Rattle.frame.specs.declared.wire.TensOfMicroseconds.{TensOfMicroseconds}
use Rattle.machine.specs.States.{same_line}
use Rattle.port.specs.declared.record.Port.{Port}
use Rattle.port.specs.Transmit.{sent, due}
use Rattle.settings.specs.declared.Settings.{Settings}
use Rattle.settings.specs.Settings.{same_settings, configured}
use Rattle.port.specs.Receive.{lined}
use Rattle.table.specs.Layout.{place, most_ports, table_size}
use Rattle.table.specs.Record.{decoded}
use Rattle.table.specs.Table.{count_in, port_at, ports, ours, is_room, on_octets, octets_of, state_of}
use Rattle.table.proofs.TableLaws.{in_range}
use Rattle.work.specs.Work.{worked, after_one, after_line, after_settings, after_send}
use Rattle.churn.specs.declared.Stage.{Stage}
use Rattle.churn.specs.declared.Stage.TheVariants as stage
use Rattle.churn.specs.declared.watch.Monitors.{Monitors}
use Rattle.churn.specs.Churn.{watching, watched, monitors}
use Rattle.churn.specs.Whole.{whole_size, base_of, monitors_at, has_monitors, prepared, watched_at, watched_all}
use Rattle.churn.proofs.ChurnLaws.{watching-twice}
use Rattle.churn.proofs.WholeLaws.{base-count, base-length}
use Rattle.churn.proofs.MadeLaws.{watched-base, watched-count, watched-monitors, watched-has, watched-octets, begun-has, begun-octets}
use Rattle.control.specs.Answer.{Answer, with_default, with_room, due_answer}
use Rattle.control.specs.declared.answer.Accepted.TheVariants.{Done}
use Rattle.control.specs.declared.answer.Reason.TheVariants as reason
use Rattle.control.specs.Accepted.{accepted, is_lacpdu}
use Rattle.control.specs.Call.{Call, start, receive, tick, line, configure, fetch, report, aggregator, due as dueCall}
use Rattle.control.specs.After.{answer, after, changed_by, effect}
use Rattle.control.proofs.CallLaws.{after-accepted, refused-table, refused-buffer, named}
use Rattle.control.proofs.CountLaws.{started-count, kept_if}
use Rattle.whole.specs.Calls.{count_for, is_whole_room, has_room, settles, stage_of, watched_if, whole_answer, whole_after}
use Rattle.whole.proofs.CallLaws.{whole-size, room-size}
use Rattle.whole.proofs.FrontLaws.{lost_after, lost_answer, lost_out, accepted-room, front-answer, front_out, front-after, whole-refused}
use Rattle.whole.proofs.JoinLaws.{joined-count, joined-whole, joined-base, joined-monitors, joined-has}
use Rattle.claims.specs.Run.{Takes}
use Rattle.claims.specs.AtRest.{Sound}
use Rattle.claims.proofs.Sound.{call-left, frame-left, sound_back, send_ports}
use Rattle.claims.proofs.Calls.{call-sound, started-sound}
use Rattle.claims.proofs.Counts.{call-count}
use Rattle.claims.proofs.Locality.{again-at}
use Rattle.claims.proofs.Views.{set_view}
use Rattle.promises.specs.Run.{old, new, stepped}
use Rattle.promises.specs.Whole.{ChurnRests, WholeSound, HeldRefusals, BaseCall}
use Rattle.promises.specs.Churn.{Seen, seen_of}

-- ---- refusals, in any memory

pub held_refusals : HeldRefusals
unfolding stepped
held_refusals (old t) c r e = record { table = ap old (refused-table c t e); buffer = refused-buffer c t e }
held_refusals (new w) c r e = let no = whole-refused c w r e in record { table = ap new no.0; buffer = no.1 }

-- ---- a call that does no steps 3 to 6 leaves link and Synchronizations of every port

sent-seen : (p : Port) → seen_of (sent p) ≡ seen_of p
unfolding sent
sent-seen p = refl

repeated : (a : Answer) (b : Bool) → accepted a ≡ true → (accepted a && not b) ≡ false → b ≡ true
repeated (Ok x) true e f = refl
repeated (Ok x) false e f = absurd (true≢false f)
repeated (Err r) b e f = absurd (false≢true e)

module _ (t : List ℕ) (s : Sound t) (i : ℕ) (h : i < count_in t) where
  same_seen_lem : seen_of (port_at (octets_of (state_of t)) i) ≡ seen_of (port_at t i)
  same_seen_lem = ap (λ (u : List ℕ). seen_of (port_at u i)) (sound_back t s)

  kept_seen : (b : Bool) (qs : List Port) → b ≡ true → seen_of (port_at (kept_if b t qs) i) ≡ seen_of (port_at t i)
  kept_seen true qs e = same_seen_lem
  kept_seen false qs e = absurd (false≢true e)

  send_seen : (k : ℕ) → k < count_in t → seen_of (port_at (on_octets (after_send k) t) i) ≡ seen_of (port_at t i)
  unfolding after_send
  send_seen k g =
      let q = sent (port_at t k) in
      ap seen_of (again-at t (set (ports t) k q) (send_ports t s k g) i (decoded []) h)
      ∙ set_view seen_of t s i h k q (seen_of (port_at t i)) (λ e. sent-seen (port_at t k) ∙ ap (λ (n : ℕ). seen_of (port_at t n)) (sym (eqb-true i k e))) (λ e. refl)

  changed-seen : (c : Call) → accepted (answer c t) ≡ true → settles c t (answer c t) ≡ false → seen_of (port_at (changed_by c t) i) ≡ seen_of (port_at t i)
  unfolding answer effect
  changed-seen (start count system delay x) e f = absurd (true≢false (sym e ∙ f))
  changed-seen (receive n frame out) e f =
      frame-left (λ u. seen_of (port_at u i) ≡ seen_of (port_at t i)) (answer (receive n frame out) t) (n - 1) frame t same_seen_lem
      (λ a. absurd (true≢false (sym (ap is_lacpdu a) ∙ f)))
  changed-seen tick e f = absurd (true≢false (sym e ∙ f))
  changed-seen (line n l) e f = unfold after_line after_one in
      kept_seen (same_line l (port_at t (n - 1)).line) (worked (ours t) (set (ports t) (n - 1) (lined l (port_at t (n - 1)))))
      (repeated (answer (line n l) t) (same_line l (port_at t (n - 1)).line) e f)
  changed-seen (configure n x) e f = unfold after_settings after_one in
      kept_seen (same_settings x (port_at t (n - 1))) (worked (ours t) (set (ports t) (n - 1) (configured x (port_at t (n - 1)))))
      (repeated (answer (configure n x) t) (same_settings x (port_at t (n - 1))) e f)
  changed-seen (fetch n out) e f = send_seen (n - 1) (named t n (with_room out (due_answer (due (port_at t (n - 1))))) e)
  changed-seen (report n) e f = same_seen_lem
  changed-seen (aggregator n) e f = same_seen_lem
  changed-seen dueCall e f = same_seen_lem

  pub idle-seen : (c : Call) → settles c t (answer c t) ≡ false → seen_of (port_at (after c t) i) ≡ seen_of (port_at t i)
  unfolding after
  idle-seen c f = call-left (λ u. seen_of (port_at u i) ≡ seen_of (port_at t i)) (answer c t) t (changed_by c t) refl (λ e. changed-seen c e f)

-- the machines look at nothing else
pub seen_alike : (p q : Port) (m : Monitors) → seen_of p ≡ seen_of q → watching p m ≡ watching q m
unfolding watching
seen_alike p q m e =
    ap (λ (x : Seen). monitors (watched x.up x.actor m.actor) (watched x.up x.partner m.partner)) e

-- ---- a run of all machines leads to rest

watched-rests : (s : Stage) (w : List ℕ) (size : length w ≡ whole_size (count_in w)) (i : ℕ) → i < count_in w → ChurnRests (watched_all s w) i
unfolding watched_at
watched-rests s w size i h =
    (λ k. watching (port_at (watched-base s w size k) i) (watched-monitors s w size i h k))
    ∙ watching-twice (port_at (base_of w) i) (prepared s (monitors_at w i)) ∙ sym (watched-monitors s w size i h)

-- ---- sizes

sound-size : (t : List ℕ) → Sound t → length t ≡ place (count_in t)
sound-size t s = (in_range t s.ranged).size

same_whole : (a b : ℕ) → whole_size a ≡ whole_size b → a ≡ b
same_whole a b e = omega arith

-- of one size there is one count, so a further start that finds room has the memory's own
room-count : (c : Call) (w : List ℕ) → has_monitors w ≡ true → has_room c w ≡ true → count_for c w ≡ count_in w
room-count (start count system delay x) w has room = same_whole count (count_in w) (sym (room-size w count room) ∙ whole-size w has)
room-count (receive n frame out) w has room = refl
room-count tick w has room = refl
room-count (line n l) w has room = refl
room-count (configure n x) w has room = refl
room-count (fetch n out) w has room = refl
room-count (report n) w has room = refl
room-count (aggregator k) w has room = refl
room-count dueCall w has room = refl

-- ---- a start makes a sound table of any memory

module _ (m : List ℕ) (o : Octets m) (count : ℕ) (system : SystemId) (delay : TensOfMicroseconds) (x : Settings) (takes : Takes (start count system delay x))
    (done : accepted (whole_answer (start count system delay x) m) ≡ true) where
  pub start-roomy : is_whole_room m count ≡ true
  start-roomy = accepted-room (start count system delay x) m done

  pub start-done : accepted (answer (start count system delay x) (take (place count) m)) ≡ true
  start-done = sym (ap accepted (front-answer (start count system delay x) m count refl start-roomy)) ∙ done

  left-sound : Sound (after (start count system delay x) (take (place count) m))
  left-sound =
      subst Sound (sym (after-accepted (take (place count) m) (start count system delay x) start-done))
      (started-sound (take (place count) m) count system delay x takes start-done)

  left-count : count_in (after (start count system delay x) (take (place count) m)) ≡ count
  left-count =
      ap count_in (after-accepted (take (place count) m) (start count system delay x) start-done) ∙ started-count (take (place count) m) count system delay x

  left-size : length (after (start count system delay x) (take (place count) m)) ≡ place count
  left-size = sound-size (after (start count system delay x) (take (place count) m)) left-sound ∙ ap place left-count

  pub whole : List ℕ
  whole = after (start count system delay x) (take (place count) m) ++ drop (place count) m

  pub whole_is : whole_after (start count system delay x) m ≡ watched_all stage.Start whole
  unfolding whole
  whole_is =
      front-after (start count system delay x) m count refl start-roomy
      ∙ ap (λ (b : Bool). watched_if b stage.Start (after (start count system delay x) (take (place count) m) ++ drop (place count) m)) start-done

  pub whole-fits : length whole ≡ whole_size (count_in whole)
  unfolding whole
  whole-fits = joined-whole m (after (start count system delay x) (take (place count) m)) count (room-size m count start-roomy) left-size left-count

  whole-octets : Octets whole
  unfolding whole
  whole-octets = append-octets (after (start count system delay x) (take (place count) m)) (drop (place count) m) left-sound.octets (drop-octets (place count) m o)

  whole-base : base_of (watched_all stage.Start whole) ≡ after (start count system delay x) (take (place count) m)
  unfolding whole
  whole-base =
      watched-base stage.Start whole whole-fits
      ∙ joined-base m (after (start count system delay x) (take (place count) m)) count (room-size m count start-roomy) left-size left-count

  pub start-leaves : base_of (whole_after (start count system delay x) m) ≡ after (start count system delay x) (take (place count) m)
  start-leaves = ap base_of whole_is ∙ whole-base

  pub start-count : count_in (whole_after (start count system delay x) m) ≡ count
  start-count = sym (base-count (whole_after (start count system delay x) m)) ∙ ap count_in start-leaves ∙ left-count

  pub whole-started : WholeSound (whole_after (start count system delay x) m)
  whole-started = subst WholeSound (sym whole_is) (record {
    ranged = begun-has whole whole-fits;
    octets = begun-octets whole whole-fits whole-octets;
    base = subst Sound (sym whole-base) left-sound;
    rest = λ i h. watched-rests stage.Start whole whole-fits i (rw (watched-count stage.Start whole whole-fits) at h);
  })

-- ---- each call on a sound table

module _ (w : List ℕ) (s : WholeSound w) (c : Call) (k : Takes c) where
  then-sound : Sound (after c (base_of w))
  then-sound = call-sound (base_of w) s.base c k

  then-count : count_in (after c (base_of w)) ≡ count_in w
  then-count = call-count (base_of w) s.base c ∙ base-count w

  then-size : length (after c (base_of w)) ≡ place (count_in w)
  then-size = sound-size (after c (base_of w)) then-sound ∙ ap place then-count

  size : length w ≡ whole_size (count_in w)
  size = whole-size w s.ranged

  pub joined : List ℕ
  joined = after c (base_of w) ++ drop (place (count_in w)) w

  pub join-base : base_of joined ≡ after c (base_of w)
  unfolding joined
  join-base = joined-base w (after c (base_of w)) (count_in w) size then-size then-count

  pub join-count : count_in joined ≡ count_in w
  unfolding joined
  join-count = joined-count w (after c (base_of w)) (count_in w) size then-size then-count

  pub join-whole : length joined ≡ whole_size (count_in joined)
  unfolding joined
  join-whole = joined-whole w (after c (base_of w)) (count_in w) size then-size then-count

  pub join-monitors : (i : ℕ) → monitors_at joined i ≡ monitors_at w i
  unfolding joined
  join-monitors i = joined-monitors w (after c (base_of w)) (count_in w) size then-size then-count refl i

  join-has : has_monitors joined ≡ true
  unfolding joined
  join-has = joined-has w (after c (base_of w)) (count_in w) size then-size then-count refl s.ranged

  join-octets : Octets joined
  unfolding joined
  join-octets = append-octets (after c (base_of w)) (drop (place (count_in w)) w) then-sound.octets (drop-octets (place (count_in w)) w s.octets)

  -- what it leaves where it finds room
  pub room_after : has_room c w ≡ true → whole_after c w ≡ watched_if (settles c (base_of w) (answer c (base_of w))) (stage_of c) joined
  unfolding joined base_of
  room_after room = front-after c w (count_in w) (room-count c w s.ranged room) room

  pub if-base : (b : Bool) → base_of (watched_if b (stage_of c) joined) ≡ after c (base_of w)
  if-base true = watched-base (stage_of c) joined join-whole ∙ join-base
  if-base false = join-base

  idle-sound : settles c (base_of w) (answer c (base_of w)) ≡ false → WholeSound joined
  idle-sound e = record {
    ranged = join-has;
    octets = join-octets;
    base = subst Sound (sym join-base) then-sound;
    rest = λ i h.
        let g : i < count_in w = rw join-count at h in
        (λ n. watching (port_at (join-base n) i) (join-monitors i n))
        ∙ seen_alike (port_at (after c (base_of w)) i) (port_at (base_of w) i) (monitors_at w i) (idle-seen (base_of w) s.base i (rw (base-count w) g) c e)
        ∙ s.rest i g ∙ sym (join-monitors i);
  }

  worked-sound : WholeSound (watched_all (stage_of c) joined)
  worked-sound = record {
    ranged = watched-has (stage_of c) joined join-whole join-has join-octets;
    octets = watched-octets (stage_of c) joined join-whole join-has join-octets;
    base = subst Sound (sym (if-base true)) then-sound;
    rest = λ i h. watched-rests (stage_of c) joined join-whole i (rw (watched-count (stage_of c) joined join-whole) at h);
  }

  if-sound : (b : Bool) → settles c (base_of w) (answer c (base_of w)) ≡ b → WholeSound (watched_if b (stage_of c) joined)
  if-sound true e = worked-sound
  if-sound false e = idle-sound e

  pub whole-call : WholeSound (whole_after c w)
  whole-call = by (has_room c w) refl
    where
      by : (b : Bool) → has_room c w ≡ b → WholeSound (whole_after c w)
      by true room = subst WholeSound (sym (room_after room)) (if-sound (settles c (base_of w) (answer c (base_of w))) refl)
      by false room = subst WholeSound (sym (lost_after c w room)) s

  -- ---- and with the monitors dropped it is the call on the table without them
  pub room-base : has_room c w ≡ true → BaseCall c (new w)
  unfolding stepped
  room-base room = record {
    answers = unfold base_of in front-answer c w (count_in w) (room-count c w s.ranged room) room;
    leaves = ap base_of (room_after room) ∙ if-base (settles c (base_of w) (answer c (base_of w)));
    sends = unfold base_of in front_out c w (count_in w) (room-count c w s.ranged room) room;
  }

-- memory has room for a start exactly if its front has
neq : (a b : ℕ) → (a ≡ b → ⊥) → eqb a b ≡ false
neq a b f = test (eqb a b) refl
  where
    test : (v : Bool) → eqb a b ≡ v → eqb a b ≡ false
    test true e = absurd (f (eqb-true a b e))
    test false e = e

rooms_alike : (n count : ℕ) → eqb (place n) (table_size count) ≡ eqb (whole_size n) (whole_size count)
rooms_alike n count = by (eqb n count) refl
  where
    by : (b : Bool) → eqb n count ≡ b → eqb (place n) (table_size count) ≡ eqb (whole_size n) (whole_size count)
    by true e =
        let is : n ≡ count = eqb-true n count e in
        eq-eqb (place n) (table_size count) (ap place is) ∙ sym (eq-eqb (whole_size n) (whole_size count) (ap whole_size is))
    by false e =
        let differ : n ≡ count → ⊥ = eqb-false n count e in
        neq (place n) (table_size count) (λ x. differ (omega (arith, x))) ∙ sym (neq (whole_size n) (whole_size count) (λ x. differ (same_whole n count x)))

start-alike : (w : List ℕ) → WholeSound w → (count : ℕ) → is_room (base_of w) count ≡ is_whole_room w count
start-alike w s count =
    let short = base-length w (whole-size w s.ranged) in
    let long = whole-size w s.ranged in
    ap (λ (n : ℕ). within 1 count most_ports && eqb n (table_size count)) short
    ∙ ap (λ (b : Bool). within 1 count most_ports && b) (rooms_alike (count_in w) count) ∙ ap (λ (n : ℕ). within 1 count most_ports && eqb n (whole_size count)) (sym long)

-- a call without room is a start that the table without monitors refuses too
pub lost_base : (w : List ℕ) → WholeSound w → (c : Call) → has_room c w ≡ false → answer c (base_of w) ≡ Err reason.Table
unfolding answer
lost_base w s (start count system delay x) e =
    ap (λ (b : Bool). cond b (with_default x (Ok Done)) (Err reason.Table)) (start-alike w s count ∙ e)
lost_base w s (receive n frame out) e = absurd (true≢false (sym s.ranged ∙ e))
lost_base w s tick e = absurd (true≢false (sym s.ranged ∙ e))
lost_base w s (line n l) e = absurd (true≢false (sym s.ranged ∙ e))
lost_base w s (configure n x) e = absurd (true≢false (sym s.ranged ∙ e))
lost_base w s (fetch n out) e = absurd (true≢false (sym s.ranged ∙ e))
lost_base w s (report n) e = absurd (true≢false (sym s.ranged ∙ e))
lost_base w s (aggregator k) e = absurd (true≢false (sym s.ranged ∙ e))
lost_base w s dueCall e = absurd (true≢false (sym s.ranged ∙ e))

pub base-call : (w : List ℕ) → WholeSound w → (c : Call) → Takes c → BaseCall c (new w)
unfolding stepped
base-call w s c k = by (has_room c w) refl
  where
    by : (b : Bool) → has_room c w ≡ b → BaseCall c (new w)
    by true room = room-base w s c k room
    by false room =
        let no = lost_base w s c room in record {
          answers = lost_answer c w room ∙ sym no;
          leaves = ap base_of (lost_after c w room) ∙ sym (refused-table c (base_of w) no);
          sends = lost_out c w room ∙ sym (refused-buffer c (base_of w) no);
        }
