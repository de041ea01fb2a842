-- A port that shares a group, before and after, with none that a call touches is as it was: what settling makes of it depends on its
-- group alone, whose records are as they were, and those were at rest. Assumes nothing.
use Prim.Native.Nat.{ℕ, ◌-◌, ◌<◌}
use mathlib.Core.Path.{◌≡◌, refl, sym, ap, ◌∙◌}
use mathlib.Core.Bool.{◌&&◌, Bool, true, false, ◌||◌, true≢false}
use mathlib.Core.List.{List, [], map}
use lib.ListN.{length, get_or, set, length-map, length-set}
use lib.Seq.{get_or-set_other}
use lib.Dec.{eqb}
use borrow.Author.Tests.{eqb-false}
use Rattle.std.specs.Prelude.{Ok, Err}
use Rattle.octets.proofs.ListLaws.{map_at}
use Rattle.octets.specs.Octets.{Octets}
use Rattle.frame.specs.declared.block.Block.{Block}
use Rattle.frame.specs.Block.{block_of}
use Rattle.frame.specs.Wire.{actor_part}
use Rattle.machine.specs.declared.states.Line.{Line}
use Rattle.machine.specs.States.{same_line}
use Rattle.port.specs.declared.record.Port.{Port}
use Rattle.port.specs.Compared.{compared}
use Rattle.port.specs.Receive.{lined}
use Rattle.port.specs.Periodic.{periodic_run}
use Rattle.port.specs.Transmit.{sent, due}
use Rattle.port.specs.Range.{own_fits}
use Rattle.port.proofs.PeriodicLaws.{periodic-idle}
use Rattle.settings.specs.declared.Settings.{Settings}
use Rattle.settings.specs.Settings.{configured, same_settings, own_of}
use Rattle.table.specs.Record.{decoded}
use Rattle.table.specs.Table.{count_in, port_at, ports, ours, again, on_octets, state_of, octets_of}
use Rattle.table.proofs.StoreLaws.{ports-length, ports-at}
use Rattle.trunk.specs.Selection.{shares_group}
use Rattle.trunk.specs.Displaced.{is_displaced, displaced_if, displaced}
use Rattle.trunk.proofs.GroupLaws.{shares_refl}
use Rattle.trunk.proofs.SettledLaws.{settled_compares}
use Rattle.trunk.proofs.DependLaws.{settled_reach}
use Rattle.trunk.proofs.MoveLaws.{displaced-at}
use Rattle.work.specs.Work.{worked, after_one, received_at, after_received, after_line, after_settings, after_send}
use Rattle.control.specs.Answer.{Answer, with_room, with_default, due_answer}
use Rattle.control.specs.declared.answer.Accepted.TheVariants.{Done, Lacpdu, Marker}
use Rattle.control.specs.Call.{Call, start, receive, tick, line, configure, fetch, report, aggregator, due as dueCall}
use Rattle.control.specs.After.{answer, after_frame, changed_by, after, effect}
use Rattle.control.specs.Accepted.{accepted, is_lacpdu}
use Rattle.claims.specs.Run.{Takes}
use Rattle.control.proofs.CallLaws.{named, received-on, after-accepted}
use Rattle.claims.specs.AtRest.{Sound}
use Rattle.claims.specs.Locality.{touches, Apart, Locality}
use Rattle.claims.proofs.Sound.{call-left, Before, in_ports, port-resting, work_ports, line_before, settings-before, received-before, send_ports, sound_back}
use Rattle.claims.proofs.Calls.{never_stuck}
use Rattle.control.proofs.CountLaws.{again-count, kept_if}

-- ---- work on a sound table, of which some records are as they were

-- one record of the table after some work
pub again-at : (t : List ℕ) (qs : List Port) → ports (again t qs) ≡ qs → (i : ℕ) (d : Port) → i < count_in t → port_at (again t qs) i ≡ get_or qs i d
again-at t qs e i d h =
    sym (ports-at (again t qs) i d (rw (again-count t qs) h)) ∙ ap (λ (l : List Port). get_or l i d) e

-- what the rule reads afterwards is what it read before steps 3 to 6
pub work_read : (t : List ℕ) (s : Sound t) (ps : List Port) (b : Before t ps) → map compared (ports (again t (worked (ours t) ps))) ≡ map compared (map periodic_run ps)
work_read t s ps b = ap (λ (l : List Port). map compared l) (work_ports t s ps b) ∙ unfold worked in settled_compares (ours t) (map periodic_run ps)

module _ (t : List ℕ) (s : Sound t) (ps : List Port) (b : Before t ps) (touched : ℕ → Bool)
    (kept : (k : ℕ) → k < count_in t → touched k ≡ false → get_or ps k (decoded []) ≡ port_at t k)
    (j : ℕ) (h : j < count_in t)
    (before : (k : ℕ) → k < count_in t → touched k ≡ true → shares_group (ours t) (map compared (ports t)) j k ≡ false)
    (then : (k : ℕ) → k < count_in t → touched k ≡ true → shares_group (ours t) (map compared (ports (again t (worked (ours t) ps)))) j k ≡ false) where
  d : Port
  d = decoded []

  qs : List Port
  qs = map periodic_run ps

  size : length (ports t) ≡ length qs
  unfolding qs
  size = ports-length t ∙ sym b.size ∙ sym (length-map ps periodic_run)

  -- a record that is not touched is as it was, for its periodic machine was at rest
  same : (k : ℕ) → k < count_in t → touched k ≡ false → get_or (ports t) k d ≡ get_or qs k d
  unfolding qs d
  same k g e =
      let here : k < length ps = rw b.size g in
      ports-at t k (decoded []) g ∙ sym (periodic-idle (port_at t k) (port-resting t s k g).periodic) ∙ ap periodic_run (sym (kept k g e))
      ∙ sym (map_at periodic_run ps k (decoded []) (decoded []) here)

  read : map compared (ports (again t (worked (ours t) ps))) ≡ map compared qs
  unfolding qs
  read = work_read t s ps b

  in_count : (k : ℕ) → k < length (ports t) → k < count_in t
  in_count k g = rw ports-length at g

  -- a member of j's group is not touched
  left : (k : ℕ) → k < length (ports t) → shares_group (ours t) (map compared (ports t)) j k ≡ true → get_or (ports t) k d ≡ get_or qs k d
  left k g e = by (touched k) refl
    where
      by : (x : Bool) → touched k ≡ x → get_or (ports t) k d ≡ get_or qs k d
      by true x = absurd (true≢false (sym e ∙ before k (in_count k g) x))
      by false x = same k (in_count k g) x

  right : (k : ℕ) → k < length (ports t) → shares_group (ours t) (map compared qs) j k ≡ true → get_or (ports t) k d ≡ get_or qs k d
  right k g e = by (touched k) refl
    where
      by : (x : Bool) → touched k ≡ x → get_or (ports t) k d ≡ get_or qs k d
      by true x = absurd (true≢false (sym e ∙ rw read at (then k (in_count k g) x)))
      by false x = same k (in_count k g) x

  pub work_local : port_at (again t (worked (ours t) ps)) j ≡ port_at t j
  unfolding worked qs d
  work_local =
      again-at t (worked (ours t) ps) (work_ports t s ps b) j (decoded []) h
      ∙ sym (settled_reach (ours t) (ports t) (map periodic_run ps) (decoded []) size j (in_ports t s j h) left right)
      ∙ ap (λ (l : List Port). get_or l j (decoded [])) s.rest.together ∙ ports-at t j (decoded []) h

-- ---- each call, from t to u

record ApartIn (t u : List ℕ) (j k : ℕ) : Type 0 where
  before : shares_group (ours t) (map compared (ports t)) j k ≡ false
  then : shares_group (ours t) (map compared (ports u)) j k ≡ false

-- the records but one
pub set-kept : (t : List ℕ) (i : ℕ) (q : Port) (k : ℕ) → k < count_in t → eqb k i ≡ false → get_or (set (ports t) i q) k (decoded []) ≡ port_at t k
set-kept t i q k h e = get_or-set_other (ports t) i k q (decoded []) (eqb-false k i e) ∙ ports-at t k (decoded []) h

module _ (t : List ℕ) (s : Sound t) (j : ℕ) (h : j < count_in t) where
  -- j shares a group with itself
  not_itself : (u : List ℕ) → ApartIn t u j j → ⊥
  not_itself u a = true≢false (sym (shares_refl (ours t) (map compared (ports t)) j) ∙ a.before)

  same-port : port_at (octets_of (state_of t)) j ≡ port_at t j
  same-port = ap (λ (u : List ℕ). port_at u j) (sound_back t s)

  one_local : (i : ℕ) (q : Port) → Before t (set (ports t) i q)
      → ((k : ℕ) → k < count_in t → eqb k i ≡ true → ApartIn t (again t (worked (ours t) (set (ports t) i q))) j k)
      → port_at (again t (worked (ours t) (set (ports t) i q))) j ≡ port_at t j
  one_local i q b f =
      work_local t s (set (ports t) i q) b (λ k. eqb k i) (λ k g e. set-kept t i q k g e) j h
      (λ k g e. (f k g e).before) (λ k g e. (f k g e).then)

  line_local : (i : ℕ) → i < count_in t → (l : Line) → ((k : ℕ) → k < count_in t → eqb k i ≡ true → ApartIn t (on_octets (after_line i l) t) j k)
      → port_at (on_octets (after_line i l) t) j ≡ port_at t j
  unfolding after_line after_one
  line_local i g l f = by (same_line l (port_at t i).line) f
    where
      ps : List Port
      ps = worked (ours t) (set (ports t) i (lined l (port_at t i)))

      by : (b : Bool) → ((k : ℕ) → k < count_in t → eqb k i ≡ true → ApartIn t (kept_if b t ps) j k) → port_at (kept_if b t ps) j ≡ port_at t j
      by true f = same-port
      by false f = one_local i (lined l (port_at t i)) (line_before t s i g l) f

  settings_local : (i : ℕ) → i < count_in t → (x : Settings) → own_fits (own_of x) ≡ true
      → ((k : ℕ) → k < count_in t → eqb k i ≡ true → ApartIn t (on_octets (after_settings i x) t) j k) → port_at (on_octets (after_settings i x) t) j ≡ port_at t j
  unfolding after_settings after_one
  settings_local i g x o f = by (same_settings x (port_at t i)) f
    where
      ps : List Port
      ps = worked (ours t) (set (ports t) i (configured x (port_at t i)))

      by : (b : Bool) → ((k : ℕ) → k < count_in t → eqb k i ≡ true → ApartIn t (kept_if b t ps) j k) → port_at (kept_if b t ps) j ≡ port_at t j
      by true f = same-port
      by false f = one_local i (configured x (port_at t i)) (settings-before t s i g x o) f

  send_local : (i : ℕ) → i < count_in t → ((k : ℕ) → k < count_in t → eqb k i ≡ true → ApartIn t (on_octets (after_send i) t) j k)
      → port_at (on_octets (after_send i) t) j ≡ port_at t j
  send_local i g f = by (eqb j i) refl
    where
      by : (b : Bool) → eqb j i ≡ b → port_at (on_octets (after_send i) t) j ≡ port_at t j
      by true e = absurd (not_itself (on_octets (after_send i) t) (f j h e))
      by false e =
          unfold after_send in
          again-at t (set (ports t) i (sent (port_at t i))) (send_ports t s i g) j (decoded []) h ∙ set-kept t i (sent (port_at t i)) j h e

  -- a frame: the records but the port's own and those that are displaced
  pub displaced-kept : (i : ℕ) (q : Port) (a : Block) (k : ℕ) → k < count_in t → eqb k i || is_displaced a (port_at t k) ≡ false
      → get_or (displaced i a (set (ports t) i q)) k (decoded []) ≡ port_at t k
  unfolding displaced_if
  displaced-kept i q a k g e =
      let other : eqb k i ≡ false = or_left (eqb k i) (is_displaced a (port_at t k)) e in
      let still : is_displaced a (port_at t k) ≡ false = or_right (eqb k i) (is_displaced a (port_at t k)) e in
      let here : k < length (set (ports t) i q) = rw (length-set (ports t) i q, ports-length) g in
      displaced-at i a (set (ports t) i q) k (decoded []) here ∙ ap (λ (p : Port). displaced_if i a k p) (set-kept t i q k g other) ∙ rw (other, still)
    where
      or_left : (x y : Bool) → x || y ≡ false → x ≡ false
      or_left true y e = e
      or_left false y e = refl

      or_right : (x y : Bool) → x || y ≡ false → y ≡ false
      or_right true y e = absurd (true≢false e)
      or_right false y e = e

  frame_local : (n : ℕ) (frame out : List ℕ) → Octets frame → (a : Answer) → answer (receive n frame out) t ≡ a
      → ((k : ℕ) → k < count_in t → eqb k (n - 1) || (is_lacpdu a && is_displaced (block_of (actor_part frame)) (port_at t k)) ≡ true
      → ApartIn t (on_octets (after_frame a (n - 1) frame) t) j k) → port_at (on_octets (after_frame a (n - 1) frame) t) j ≡ port_at t j
  frame_local n frame out o (Ok Done) e f = same-port
  frame_local n frame out o (Ok Lacpdu) e f = unfold after_received in
      let x = received-on t n frame out e in
      let a = block_of (actor_part frame) in
      let i = n - 1 in
      work_local t s (displaced i a (set (ports t) i (received_at i frame (state_of t)))) (received-before t s i x.below frame o x.up x.full)
      (λ k. eqb k i || is_displaced a (port_at t k)) (λ k g y. displaced-kept i (received_at i frame (state_of t)) a k g y) j h
      (λ k g y. (f k g y).before) (λ k g y. (f k g y).then)
  frame_local n frame out o (Ok Marker) e f = same-port
  frame_local n frame out o (Err r) e f = same-port

  changed_local : (c : Call) → Takes c → accepted (answer c t) ≡ true
      → ((k : ℕ) → k < count_in t → touches c t k ≡ true → ApartIn t (changed_by c t) j k) → port_at (changed_by c t) j ≡ port_at t j
  unfolding answer effect
  changed_local (start count system delay x) k e f = absurd (not_itself (changed_by (start count system delay x) t) (f j h refl))
  changed_local (receive n frame out) k e f = frame_local n frame out k.0 (answer (receive n frame out) t) refl f
  changed_local tick k e f = absurd (not_itself (changed_by tick t) (f j h refl))
  changed_local (line n l) k e f = line_local (n - 1) (named t n (Ok Done) e) l f
  changed_local (configure n x) k e f = settings_local (n - 1) (named t n (with_default x (Ok Done)) e) x k f
  changed_local (fetch n out) k e f = send_local (n - 1) (named t n (with_room out (due_answer (due (port_at t (n - 1))))) e) f
  changed_local (report n) k e f = same-port
  changed_local (aggregator n) k e f = same-port
  changed_local dueCall k e f = same-port

sound_local : (t : List ℕ) → Sound t → (c : Call) → Takes c → (j : ℕ) → j < count_in t
    → ((k : ℕ) → k < count_in t → touches c t k ≡ true → Apart c t j k) → port_at (after c t) j ≡ port_at t j
sound_local t s c k j h f =
    unfold after in
    call-left (λ u. port_at u j ≡ port_at t j) (answer c t) t (changed_by c t) refl
    (λ e. changed_local t s j h c k e (λ m g y. record { before = (f m g y).before; then = rw (after-accepted t c e) at (f m g y).then }))

pub locality : Locality
locality t m c k j h f = sound_local t (never_stuck t m) c k j h f
