-- What an accepted call that is no start makes of one port: it leaves the record, sends from it, or changes it by the call's own rule and
-- then does the end of step 2 and steps 3 to 6. By cases on the call. Assumes nothing.
use Prim.Native.Nat.{ℕ, ◌-◌, ◌<◌}
use mathlib.Core.Path.{◌≡◌, refl, sym, ap, ◌∙◌, subst}
use mathlib.Core.Bool.{Bool, true, false, cond, not, ◌&&◌, true≢false}
use mathlib.Core.List.{List, [], map}
use lib.ListN.{length, get_or, set, length-map, length-set}
use lib.Seq.{get_or-set_same}
use lib.Dec.{eqb}
use borrow.Author.Tests.{eqb-true}
use Rattle.std.specs.Prelude.{Ok}
use Rattle.octets.proofs.ListLaws.{map_at}
use Rattle.octets.specs.Octets.{Octets}
use Rattle.frame.specs.declared.block.Block.{Block}
use Rattle.frame.specs.Block.{block_of}
use Rattle.frame.specs.Wire.{actor_part}
use Rattle.machine.specs.declared.states.Line.{Line}
use Rattle.machine.specs.States.{same_line}
use Rattle.port.specs.declared.record.Port.{Port}
use Rattle.port.specs.Receive.{moved, lined}
use Rattle.port.specs.Periodic.{periodic_run}
use Rattle.port.specs.Transmit.{sent, due, advanced}
use Rattle.port.specs.Range.{own_fits}
use Rattle.settings.specs.declared.Settings.{Settings}
use Rattle.settings.specs.Settings.{configured, same_settings, own_of}
use Rattle.table.specs.Record.{decoded}
use Rattle.table.specs.Table.{count_in, port_at, ports, ours, again, on_octets, state_of, octets_of}
use Rattle.table.proofs.StoreLaws.{ports-length, ports-at}
use Rattle.trunk.specs.Displaced.{is_displaced, displaced_if, displaced}
use Rattle.trunk.specs.Settled.{settled}
use Rattle.trunk.proofs.MoveLaws.{displaced-at}
use Rattle.work.specs.Work.{worked, after_one, received_at, after_received, after_tick, after_line, after_settings, after_send}
use Rattle.control.specs.Answer.{with_room, with_default, due_answer}
use Rattle.control.specs.declared.answer.Accepted.TheVariants.{Done}
use Rattle.control.specs.Call.{Call, start, receive, tick, line, configure, fetch, report, aggregator, due as dueCall, is_start}
use Rattle.control.specs.After.{answer, after_frame, changed_by, after, effect}
use Rattle.control.specs.Accepted.{accepted}
use Rattle.control.proofs.CallLaws.{named, received-on, after-accepted}
use Rattle.control.proofs.CountLaws.{kept_if}
use Rattle.claims.specs.Run.{Takes}
use Rattle.claims.specs.AtRest.{Sound}
use Rattle.claims.proofs.Sound.{frame-left, Before, in_ports, work_ports, tick-before, line_before, settings-before, received-before, send_ports, sound_back}
use Rattle.claims.proofs.Locality.{again-at, set-kept}

-- what the call's own rule makes of port i, from 0, before its periodic machine and steps 3 to 6
pub data Own (c : Call) (t : List ℕ) (i : ℕ) (p : Port) : Type 0 where
  as_was : p ≡ port_at t i → Own c t i p
  hears : (n : ℕ) (frame out : List ℕ) → c ≡ receive n frame out → n - 1 ≡ i → p ≡ received_at i frame (state_of t) → Own c t i p
  moves : (n : ℕ) (frame out : List ℕ) → c ≡ receive n frame out → is_displaced (block_of (actor_part frame)) (port_at t i) ≡ true → p ≡ moved (port_at t i) → Own c t i p
  ages : c ≡ tick → p ≡ advanced (port_at t i) → Own c t i p
  turns : (n : ℕ) (l : Line) → c ≡ line n l → n - 1 ≡ i → same_line l (port_at t i).line ≡ false → p ≡ lined l (port_at t i) → Own c t i p
  gets : (n : ℕ) (x : Settings) → c ≡ configure n x → n - 1 ≡ i → p ≡ configured x (port_at t i) → Own c t i p

-- and what the call makes of it, from t to u
pub data Course (c : Call) (t u : List ℕ) (i : ℕ) : Type 0 where
  stays : port_at u i ≡ port_at t i → Course c t u i
  sends : port_at u i ≡ sent (port_at t i) → Course c t u i
  works : (ps : List Port) → Before t ps → u ≡ again t (worked (ours t) ps) → Own c t i (get_or ps i (decoded [])) → Course c t u i

-- one record in the work
module _ (t : List ℕ) (s : Sound t) (ps : List Port) (b : Before t ps) (i : ℕ) (h : i < count_in t) where
  pub paced-inside : i < length (map periodic_run ps)
  paced-inside = rw (length-map ps periodic_run, b.size) h

  pub paced-at : get_or (map periodic_run ps) i (decoded []) ≡ periodic_run (get_or ps i (decoded []))
  paced-at = map_at periodic_run ps i (decoded []) (decoded []) (rw b.size h)

  pub work_at : port_at (again t (worked (ours t) ps)) i ≡ get_or (settled (ours t) (map periodic_run ps)) i (decoded [])
  unfolding worked
  work_at = again-at t (settled (ours t) (map periodic_run ps)) (work_ports t s ps b) i (decoded []) h

module _ (t : List ℕ) (s : Sound t) (i : ℕ) (h : i < count_in t) where
  -- where record m alone is changed, to q
  pub set_own : (P : Port → Type 0) (m : ℕ) (q : Port) → (m ≡ i → P q) → P (port_at t i) → P (get_or (set (ports t) m q) i (decoded []))
  set_own P m q f g = by (eqb i m) refl
    where
      by : (b : Bool) → eqb i m ≡ b → P (get_or (set (ports t) m q) i (decoded []))
      by true e =
          let is : i ≡ m = eqb-true i m e in
          let here : m < length (ports t) = rw is at (in_ports t s i h) in
          let at : get_or (set (ports t) m q) i (decoded []) ≡ q =
          ap (λ (k : ℕ). get_or (set (ports t) m q) k (decoded [])) is ∙ get_or-set_same (ports t) m q (decoded []) here in
          subst P (sym at) (f (sym is))
      by false e = subst P (sym (set-kept t m q i h e)) g

  same-port : port_at (octets_of (state_of t)) i ≡ port_at t i
  same-port = ap (λ (u : List ℕ). port_at u i) (sound_back t s)

  line-course : (n : ℕ) (l : Line) → n - 1 < count_in t → Course (line n l) t (on_octets (after_line (n - 1) l) t) i
  unfolding after_line after_one
  line-course n l g = by (same_line l (port_at t (n - 1)).line) refl
    where
      ps : List Port
      ps = set (ports t) (n - 1) (lined l (port_at t (n - 1)))

      by : (b : Bool) → same_line l (port_at t (n - 1)).line ≡ b → Course (line n l) t (kept_if b t (worked (ours t) ps)) i
      by true e = stays same-port
      by false e =
          works ps (line_before t s (n - 1) g l) refl
          (set_own (λ (p : Port). Own (line n l) t i p) (n - 1) (lined l (port_at t (n - 1)))
          (λ is. turns n l refl is (ap (λ (k : ℕ). same_line l (port_at t k).line) (sym is) ∙ e) (ap (λ (k : ℕ). lined l (port_at t k)) is)) (as_was refl))

  settings-course : (n : ℕ) (x : Settings) → own_fits (own_of x) ≡ true → n - 1 < count_in t → Course (configure n x) t (on_octets (after_settings (n - 1) x) t) i
  unfolding after_settings after_one
  settings-course n x o g = by (same_settings x (port_at t (n - 1)))
    where
      ps : List Port
      ps = set (ports t) (n - 1) (configured x (port_at t (n - 1)))

      by : (b : Bool) → Course (configure n x) t (kept_if b t (worked (ours t) ps)) i
      by true = stays same-port
      by false =
          works ps (settings-before t s (n - 1) g x o) refl
          (set_own (λ (p : Port). Own (configure n x) t i p) (n - 1) (configured x (port_at t (n - 1)))
          (λ is. gets n x refl is (ap (λ (k : ℕ). configured x (port_at t k)) is)) (as_was refl))

  send_course : (n : ℕ) (out : List ℕ) → n - 1 < count_in t → Course (fetch n out) t (on_octets (after_send (n - 1)) t) i
  unfolding after_send
  send_course n out g =
      let qs = set (ports t) (n - 1) (sent (port_at t (n - 1))) in
      set_own (λ (p : Port). port_at (again t qs) i ≡ p → Course (fetch n out) t (again t qs) i) (n - 1) (sent (port_at t (n - 1)))
      (λ is e. sends (e ∙ ap (λ (k : ℕ). sent (port_at t k)) is)) (λ e. stays e)
      (again-at t qs (send_ports t s (n - 1) g) i (decoded []) h)

  tick-course : Course tick t (on_octets after_tick t) i
  unfolding after_tick
  tick-course =
      works (map advanced (ports t)) (tick-before t s) refl
      (ages refl (map_at advanced (ports t) i (decoded []) (decoded []) (in_ports t s i h) ∙ ap advanced (ports-at t i (decoded []) h)))

  -- an LACPDU on port n: port n itself, those that it displaces, and the others
  displaced-own : (n : ℕ) (frame out : List ℕ) → Own (receive n frame out) t i
      (get_or (displaced (n - 1) (block_of (actor_part frame)) (set (ports t) (n - 1) (received_at (n - 1) frame (state_of t)))) i (decoded []))
  displaced-own n frame out =
      subst (λ (p : Port). Own (receive n frame out) t i p)
      (sym (displaced-at (n - 1) a (set (ports t) (n - 1) q) i (decoded []) (rw (length-set (ports t) (n - 1) q, ports-length) h)))
      (by (eqb i (n - 1)) refl)
    where
      a : Block
      a = block_of (actor_part frame)

      q : Port
      q = received_at (n - 1) frame (state_of t)

      other : (b : Bool) → is_displaced a (port_at t i) ≡ b → Own (receive n frame out) t i (cond b (moved (port_at t i)) (port_at t i))
      other true e = moves n frame out refl e refl
      other false e = as_was refl

      by : (b : Bool) → eqb i (n - 1) ≡ b → Own (receive n frame out) t i (displaced_if (n - 1) a i (get_or (set (ports t) (n - 1) q) i (decoded [])))
      by true e = unfold displaced_if in
          let is : i ≡ n - 1 = eqb-true i (n - 1) e in
          let here : n - 1 < length (ports t) = rw is at (in_ports t s i h) in
          let at : get_or (set (ports t) (n - 1) q) i (decoded []) ≡ q =
          ap (λ (k : ℕ). get_or (set (ports t) (n - 1) q) k (decoded [])) is ∙ get_or-set_same (ports t) (n - 1) q (decoded []) here in
          hears n frame out refl (sym is) (rw e (at ∙ ap (λ (k : ℕ). received_at k frame (state_of t)) (sym is)))
      by false e = unfold displaced_if in
          subst (λ (p : Port). Own (receive n frame out) t i (cond (not (eqb i (n - 1)) && is_displaced a p) (moved p) p))
          (sym (set-kept t (n - 1) q i h e)) (rw e (other (is_displaced a (port_at t i)) refl))

  frame-course : (n : ℕ) (frame out : List ℕ) → Octets frame
      → Course (receive n frame out) t (on_octets (after_frame (answer (receive n frame out) t) (n - 1) frame) t) i
  frame-course n frame out o =
      frame-left (λ u. Course (receive n frame out) t u i) (answer (receive n frame out) t) (n - 1) frame t (stays same-port)
      (λ e. unfold after_received in
      let x = received-on t n frame out e in
      works (displaced (n - 1) (block_of (actor_part frame)) (set (ports t) (n - 1) (received_at (n - 1) frame (state_of t))))
      (received-before t s (n - 1) x.below frame o x.up x.full) refl (displaced-own n frame out))

  changed-course : (c : Call) → Takes c → accepted (answer c t) ≡ true → is_start c ≡ false → Course c t (changed_by c t) i
  unfolding answer effect
  changed-course (start count system delay x) k e f = absurd (true≢false f)
  changed-course (receive n frame out) k e f = frame-course n frame out k.0
  changed-course tick k e f = tick-course
  changed-course (line n l) k e f = line-course n l (named t n (Ok Done) e)
  changed-course (configure n x) k e f = settings-course n x k (named t n (with_default x (Ok Done)) e)
  changed-course (fetch n out) k e f = send_course n out (named t n (with_room out (due_answer (due (port_at t (n - 1))))) e)
  changed-course (report n) k e f = stays same-port
  changed-course (aggregator n) k e f = stays same-port
  changed-course dueCall k e f = stays same-port

  pub course : (c : Call) → Takes c → accepted (answer c t) ≡ true → is_start c ≡ false → Course c t (after c t) i
  course c k e f = subst (λ (u : List ℕ). Course c t u i) (sym (after-accepted t c e)) (changed-course c k e f)
