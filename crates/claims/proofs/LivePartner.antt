-- The partner information in force lasts: of all that a call does to a port, only recordDefault and recordPDU change it but for two bits,
-- and each way to one of them is one of the ends. By cases on the call and on the receive state. Assumes nothing.
use Prim.Native.Nat.{ℕ, ◌-◌, ◌<◌}
use mathlib.Core.Path.{◌≡◌, refl, sym, ap, ◌∙◌, subst}
use mathlib.Core.Bool.{Bool, true, false, cond, not, ◌&&◌, ◌||◌, true≢false, false≢true}
use mathlib.Core.List.{List, [], ◌∷◌, map}
use mathlib.Core.Logic.{◌⊎◌, inl, inr}
use native.Mathlib.Omega.{arith}
use lib.ListN.{length, get_or, set, length-set}
use lib.Seq.{get_or-set_same}
use lib.Dec.{eqb}
use borrow.Author.Tests.{eqb-true, eqb-false, eq-eqb}
use Rattle.std.specs.Prelude.{Ok, Err, Option, Some, None}
use Rattle.std.proofs.lemmas.Option.{none-some}
use Rattle.octets.proofs.ListLaws.{map_at}
use Rattle.octets.specs.Octets.{Octets}
use Rattle.frame.specs.declared.block.Block.{Block}
use Rattle.frame.specs.Block.{block_of}
use Rattle.frame.specs.Wire.{actor_part}
use Rattle.machine.specs.declared.states.Line.{Line}
use Rattle.machine.specs.declared.states.Receive.{Receive}
use Rattle.machine.specs.declared.states.Receive.TheVariants.{Initialize, PortDisabled, Expired, LacpDisabled, Defaulted, Current}
use Rattle.machine.specs.Receive.{receive_next}
use Rattle.machine.specs.States.{same_line}
use Rattle.machine.specs.Time.{ran_out}
use Rattle.port.specs.declared.record.Port.{Port}
use Rattle.port.specs.Record.{with_line, with_ntt, with_actor, with_own}
use Rattle.port.specs.Receive.{record_pdu, unselected, port_disabled, expired, pdu_recorded, current, receive_choice, receive_run, received, down, lined}
use Rattle.port.specs.Transmit.{sent, due, ticked, advanced}
use Rattle.port.specs.Rest.{goes_with}
use Rattle.port.proofs.ReceiveLaws.{run-stays, run_enters}
use Rattle.port.proofs.RestParts.{Standing, receive_part, ReceiveRests}
use Rattle.port.proofs.RestKept.{lined-falls}
use Rattle.port.specs.Range.{own_fits}
use Rattle.settings.specs.declared.Settings.{Settings}
use Rattle.settings.specs.Settings.{own_of, own_bits, same_grouping, same_settings, regrouped, configured}
use Rattle.table.specs.Record.{decoded}
use Rattle.table.specs.Table.{count_in, port_at, ports, ours, again, on_octets, state_of, octets_of}
use Rattle.table.proofs.StoreLaws.{ports-length, ports-at}
use Rattle.trunk.specs.Displaced.{is_displaced, displaced_if, displaced}
use Rattle.trunk.proofs.MoveLaws.{displaced-at}
use Rattle.work.specs.Work.{worked, after_one, received_at, after_received, after_tick, after_line, after_settings, after_send}
use Rattle.control.specs.Answer.{Answer, with_room, with_default, due_answer}
use Rattle.control.specs.declared.answer.Accepted.TheVariants.{Done, Lacpdu, Marker}
use Rattle.control.specs.Call.{Call, start, receive, tick, line, configure, fetch, report, aggregator, due as dueCall}
use Rattle.control.specs.After.{answer, after_frame, changed_by, after, effect}
use Rattle.control.specs.Accepted.{is_lacpdu, accepted}
use Rattle.claims.specs.Run.{Takes, AllTake, run}
use Rattle.control.proofs.CallLaws.{named, received-on, after-accepted}
use Rattle.claims.specs.AtRest.{Sound}
use Rattle.claims.specs.LivePartner.{lasting, Live, is_expired, to_half, ends, NoneEnds, LivePartner}
use Rattle.claims.proofs.Sound.{call-left, Before, in_ports, port-standing, tick-before, line_before, settings-before, received-before, send_ports, unmoved}
use Rattle.claims.proofs.Calls.{call-sound, never_stuck}
use Rattle.control.proofs.CountLaws.{again-count, kept_if}
use Rattle.claims.proofs.Locality.{again-at, displaced-kept}
use Rattle.claims.proofs.Views.{work_view, set_view}

-- ---- what is to last

pub record Lasting : Type 0 where
  pub partner : Block
  pub defaulted : Bool

abbrev pub lasting_of : Port → Lasting
lasting_of p = record { partner = lasting p.partner; defaulted = p.actor.defaulted }

live-is : (frame : List ℕ) (p q : Port) → lasting_of q ≡ lasting_of p → Live frame p → Live frame q
live-is frame p q e l = record {
  partner = ap (λ (x : Lasting). x.partner) e ∙ l.partner;
  defaulted = ap (λ (x : Lasting). x.defaulted) e ∙ l.defaulted;
}

-- ---- the receive machine

-- a choice that records no default: to stay, or to enter EXPIRED
data Gentle (k : Option Receive) : Type 0 where
  stays : k ≡ None → Gentle k
  expires : k ≡ Some Expired → Gentle k

-- EXPIRED has started its timer
after-expired : (p : Port) → p.line.up ≡ true → receive_choice (expired p) ≡ None
unfolding receive_choice expired
after-expired p u = rw u

after_disabled : (p : Port) → p.line.up ≡ false → receive_choice (port_disabled p) ≡ None
unfolding receive_choice port_disabled
after_disabled p u = rw u

expired-lasting : (p : Port) → lasting_of (expired p) ≡ lasting_of p
unfolding expired
expired-lasting p = refl

disabled_lasting : (p : Port) → lasting_of (port_disabled p) ≡ lasting_of p
unfolding port_disabled
disabled_lasting p = refl

-- a run that begins so keeps what lasts
run-lasting : (p : Port) → p.line.up ≡ true → Gentle (receive_choice p) → lasting_of (receive_run p) ≡ lasting_of p
run-lasting p u (stays e) = ap (λ (x : Port). lasting_of x) (run-stays p e)
run-lasting p u (expires e) = ap (λ (x : Port). lasting_of x) (run_enters p Expired e (after-expired p u)) ∙ expired-lasting p

-- and so does one with the link down
still-lasting : (p : Port) → receive_choice p ≡ None → lasting_of (receive_run p) ≡ lasting_of p
still-lasting p e = ap (λ (x : Port). lasting_of x) (run-stays p e)

falls-lasting : (p : Port) → p.line.up ≡ false → receive_choice p ≡ Some PortDisabled → lasting_of (receive_run p) ≡ lasting_of p
falls-lasting p u e = ap (λ (x : Port). lasting_of x) (run_enters p PortDisabled e (after_disabled p u)) ∙ disabled_lasting p

-- ---- a tick

-- a timer that runs out now held 1, for one that held 0 had run out
ran_before : (n : ℕ) → eqb (n - 1) 0 ≡ true → eqb n 0 ≡ false → eqb n 1 ≡ true
ran_before n a b =
    let x : n - 1 ≡ 0 = eqb-true (n - 1) 0 a in
    let y : n ≡ 0 → ⊥ = eqb-false n 0 b in
    eq-eqb n 1 (omega arith)

expired-next : (before now : Bool) → receive_next Expired true true before ≡ None → (now ≡ true → before ≡ false → ⊥) → receive_next Expired true true now ≡ None
expired-next true now e f = absurd (none-some Defaulted (sym e))
expired-next false true e f = absurd (f refl refl)
expired-next false false e f = refl

current-next : (now : Bool) → Gentle (receive_next Current true true now)
current-next true = expires refl
current-next false = stays refl

-- the choice after a tick, of a port that was at rest with its link up
tick_chooses : (s : Receive) (full : Bool) (n : ℕ) → goes_with (record { up = true; full = full }) s ≡ true → receive_next s true full (eqb n 0) ≡ None
    → is_expired s && eqb n 1 ≡ false → Gentle (receive_next s true full (eqb (n - 1) 0))
tick_chooses Initialize full n g r e = absurd (false≢true g)
tick_chooses PortDisabled full n g r e = absurd (false≢true g)
tick_chooses Expired false n g r e = absurd (false≢true g)
tick_chooses Expired true n g r e =
    stays (expired-next (eqb n 0) (eqb (n - 1) 0) r (λ a b. true≢false (sym (ran_before n a b) ∙ e)))
tick_chooses LacpDisabled full n g r e = stays refl
tick_chooses Defaulted full n g r e = stays refl
tick_chooses Current false n g r e = absurd (false≢true g)
tick_chooses Current true n g r e = current-next (eqb (n - 1) 0)

ticked-lasting : (p : Port) → lasting_of (ticked p) ≡ lasting_of p
unfolding ticked
ticked-lasting p = refl

ticked-choice : (p : Port) → receive_choice (ticked p) ≡ receive_next p.phase.receive p.line.up p.line.full (eqb (p.timers.current.0 - 1) 0)
unfolding receive_choice ticked
ticked-choice p = refl

ticked-line : (p : Port) → (ticked p).line ≡ p.line
unfolding ticked
ticked-line p = refl

down_chooses : (s : Receive) (full out : Bool) → goes_with (record { up = false; full = full }) s ≡ true → receive_next s false full out ≡ None
down_chooses Initialize full out g = absurd (false≢true g)
down_chooses PortDisabled full out g = refl
down_chooses Expired full out g = absurd (false≢true g)
down_chooses LacpDisabled full out g = absurd (false≢true g)
down_chooses Defaulted full out g = absurd (false≢true g)
down_chooses Current full out g = absurd (false≢true g)

advanced-lasting : (p : Port) → ReceiveRests (receive_part p) → is_expired p.phase.receive && eqb p.timers.current.0 1 ≡ false
    → lasting_of (advanced p) ≡ lasting_of p
unfolding advanced
advanced-lasting p r e = by p.line.up refl ∙ ticked-lasting p
  where
    state : Receive
    state = p.phase.receive

    out : Bool
    out = eqb (p.timers.current.0 - 1) 0

    line-is : (b : Bool) → p.line.up ≡ b → goes_with (record { up = b; full = p.line.full }) state ≡ true
    line-is b u = rw u at r.state

    by : (b : Bool) → p.line.up ≡ b → lasting_of (receive_run (ticked p)) ≡ lasting_of (ticked p)
    by true u =
        let g : Gentle (receive_next state true p.line.full out) =
        tick_chooses state p.line.full p.timers.current.0 (line-is true u) (rw u at r.stays) e in
        run-lasting (ticked p) (ap (λ (l : Line). l.up) (ticked-line p) ∙ u)
        (subst Gentle (ap (λ (b : Bool). receive_next state b p.line.full out) (sym u) ∙ sym (ticked-choice p)) g)
    by false u =
        still-lasting (ticked p)
        (ticked-choice p ∙ ap (λ (b : Bool). receive_next state b p.line.full out) u ∙ down_chooses state p.line.full out (line-is false u))

-- ---- a link or duplex change

fall_chooses : (s : Receive) (l : Line) (full out : Bool) → goes_with l s ≡ true
    → (receive_next s false full out ≡ None) ⊎ (receive_next s false full out ≡ Some PortDisabled)
fall_chooses Initialize l full out g = absurd (false≢true g)
fall_chooses PortDisabled l full out g = inl refl
fall_chooses Expired l full out g = inr refl
fall_chooses LacpDisabled l full out g = inr refl
fall_chooses Defaulted l full out g = inr refl
fall_chooses Current l full out g = inr refl

fall_lasting : (p : Port) → ReceiveRests (receive_part p) → lasting_of (receive_run (with_line p (down p.line))) ≡ lasting_of p
unfolding receive_choice
fall_lasting p r = by (fall_chooses p.phase.receive p.line p.line.full (ran_out p.timers.current) r.state)
  where
    by : (receive_next p.phase.receive false p.line.full (ran_out p.timers.current) ≡ None)
        ⊎ (receive_next p.phase.receive false p.line.full (ran_out p.timers.current) ≡ Some PortDisabled)
        → lasting_of (receive_run (with_line p (down p.line))) ≡ lasting_of p
    by (inl e) = still-lasting (with_line p (down p.line)) e
    by (inr e) = falls-lasting (with_line p (down p.line)) refl e

rise_chooses : (p : Port) (l : Line) → p.phase.receive ≡ PortDisabled → receive_choice (with_line p l) ≡ receive_next PortDisabled l.up l.full (ran_out p.timers.current)
unfolding receive_choice
rise_chooses p l e = rw e

rise_lasting : (p : Port) (l : Line) (up full : Bool) → l.up ≡ up → l.full ≡ full → p.phase.receive ≡ PortDisabled → up && not full ≡ false
    → lasting_of (receive_run (with_line p l)) ≡ lasting_of p
rise_lasting p l false full u f e h = still-lasting (with_line p l) (rise_chooses p l e ∙ rw u)
rise_lasting p l true true u f e h = run-lasting (with_line p l) u (expires (rise_chooses p l e ∙ rw (u, f)))
rise_lasting p l true false u f e h = absurd (true≢false h)

lined-lasting : (p : Port) → Standing p → (l : Line) → l.up && not l.full ≡ false → lasting_of (lined l p) ≡ lasting_of p
unfolding lined
lined-lasting p s l h =
    let fell = receive_run (with_line p (down p.line)) in
    rise_lasting fell l l.up l.full refl refl (lined-falls p s) h ∙ fall_lasting p s.receive

-- ---- settings, a send, and the frame itself

configured_as : (b : Bool) (x : Settings) (p : Port)
    → lasting_of (with_ntt (with_actor (with_own (cond b p (unselected p)) (own_of x)) (own_bits x p.actor)) true) ≡ lasting_of p
configured_as true x p = refl
configured_as false x p = refl

configured-lasting : (x : Settings) (p : Port) → lasting_of (configured x p) ≡ lasting_of p
unfolding configured regrouped
configured-lasting x p = configured_as (same_grouping x p) x p

sent-lasting : (p : Port) → lasting_of (sent p) ≡ lasting_of p
unfolding sent
sent-lasting p = refl

received-live : (t : List ℕ) (i : ℕ) (frame : List ℕ) → Live frame (received_at i frame (state_of t))
unfolding received_at received current pdu_recorded record_pdu
received-live t i frame = record { partner = refl; defaulted = refl }

-- ---- each call, from t to u

-- the end of step 2, and steps 3 to 6, keep it
work_lasting : (t : List ℕ) (s : Sound t) (i : ℕ) → i < count_in t → (ps : List Port) → Before t ps
    → lasting_of (port_at (again t (worked (ours t) ps)) i) ≡ lasting_of (get_or ps i (decoded []))
work_lasting t s i h ps b = work_view (λ p. lasting_of p) (λ p. refl) (λ p. refl) t s i h ps b

pub record Goes (t u : List ℕ) (i : ℕ) : Type 0 where
  pub count : count_in u ≡ count_in t
  pub lasts : lasting_of (port_at u i) ≡ lasting_of (port_at t i)

unchanged : (t : List ℕ) (i : ℕ) → Goes t t i
unchanged t i = record { count = refl; lasts = refl }

module _ (t : List ℕ) (s : Sound t) (i : ℕ) (h : i < count_in t) where
  same-goes : Goes t (octets_of (state_of t)) i
  same-goes = unmoved (λ u. Goes t u i) t s (unchanged t i)

  -- work by which what lasts of record i is as it was before settling
  work_goes : (ps : List Port) → Before t ps → lasting_of (get_or ps i (decoded [])) ≡ lasting_of (port_at t i) → Goes t (again t (worked (ours t) ps)) i
  work_goes ps b e = record { count = again-count t (worked (ours t) ps); lasts = work_lasting t s i h ps b ∙ e }

  -- one record is changed
  set-lasting : (m : ℕ) (q : Port) → (eqb i m ≡ true → lasting_of q ≡ lasting_of (port_at t i)) → lasting_of (get_or (set (ports t) m q) i (decoded [])) ≡ lasting_of (port_at t i)
  set-lasting m q f = set_view (λ p. lasting_of p) t s i h m q (lasting_of (port_at t i)) f (λ e. refl)

  at_same : (m : ℕ) → eqb i m ≡ true → port_at t m ≡ port_at t i
  at_same m e = ap (port_at t) (sym (eqb-true i m e))

  line-goes : (m : ℕ) → m < count_in t → (l : Line) → (eqb i m ≡ true → to_half (port_at t m).line l ≡ false) → Goes t (on_octets (after_line m l) t) i
  unfolding after_line after_one
  line-goes m g l f = by (same_line l (port_at t m).line) f
    where
      by : (b : Bool) → (eqb i m ≡ true → not b && (l.up && not l.full) ≡ false)
          → Goes t (kept_if b t (worked (ours t) (set (ports t) m (lined l (port_at t m))))) i
      by true k = same-goes
      by false k =
          work_goes (set (ports t) m (lined l (port_at t m))) (line_before t s m g l)
          (set-lasting m (lined l (port_at t m)) (λ e.
          lined-lasting (port_at t m) (port-standing t s m g) l (k e) ∙ ap (λ (x : Port). lasting_of x) (at_same m e)))

  settings-goes : (m : ℕ) → m < count_in t → (x : Settings) → own_fits (own_of x) ≡ true → Goes t (on_octets (after_settings m x) t) i
  unfolding after_settings after_one
  settings-goes m g x o = by (same_settings x (port_at t m))
    where
      by : (b : Bool) → Goes t (kept_if b t (worked (ours t) (set (ports t) m (configured x (port_at t m))))) i
      by true = same-goes
      by false =
          work_goes (set (ports t) m (configured x (port_at t m))) (settings-before t s m g x o)
          (set-lasting m (configured x (port_at t m)) (λ e. configured-lasting x (port_at t m) ∙ ap (λ (y : Port). lasting_of y) (at_same m e)))

  send_goes : (m : ℕ) → m < count_in t → Goes t (on_octets (after_send m) t) i
  unfolding after_send
  send_goes m g = record {
    count = again-count t (set (ports t) m (sent (port_at t m)));
    lasts =
        ap (λ (x : Port). lasting_of x) (again-at t (set (ports t) m (sent (port_at t m))) (send_ports t s m g) i (decoded []) h)
        ∙ set-lasting m (sent (port_at t m)) (λ e. sent-lasting (port_at t m) ∙ ap (λ (y : Port). lasting_of y) (at_same m e));
  }

  tick_goes : is_expired (port_at t i).phase.receive && eqb (port_at t i).timers.current.0 1 ≡ false → Goes t (on_octets after_tick t) i
  unfolding after_tick
  tick_goes e =
      work_goes (map advanced (ports t)) (tick-before t s)
      (ap (λ (x : Port). lasting_of x) (map_at advanced (ports t) i (decoded []) (decoded []) (in_ports t s i h))
      ∙ ap (λ (x : Port). lasting_of (advanced x)) (ports-at t i (decoded []) h)
      ∙ advanced-lasting (port_at t i) (port-standing t s i h).receive e)

  frame-goes : (n : ℕ) (frame out : List ℕ) → Octets frame → (a : Answer) → answer (receive n frame out) t ≡ a
      → is_lacpdu a && (eqb i (n - 1) || is_displaced (block_of (actor_part frame)) (port_at t i)) ≡ false → Goes t (on_octets (after_frame a (n - 1) frame) t) i
  frame-goes n frame out o (Ok Done) e f = same-goes
  frame-goes n frame out o (Ok Lacpdu) e f = unfold after_received in
      let x = received-on t n frame out e in
      let a = block_of (actor_part frame) in
      work_goes (displaced (n - 1) a (set (ports t) (n - 1) (received_at (n - 1) frame (state_of t)))) (received-before t s (n - 1) x.below frame o x.up x.full)
      (ap (λ (y : Port). lasting_of y) (displaced-kept t s i h (n - 1) (received_at (n - 1) frame (state_of t)) a i h f))
  frame-goes n frame out o (Ok Marker) e f = same-goes
  frame-goes n frame out o (Err r) e f = same-goes

  -- a test under an acceptance that holds
  under : (a b : Bool) → a ≡ true → a && b ≡ false → b ≡ false
  under true b e f = f
  under false b e f = absurd (false≢true e)

  half_at : (m : ℕ) (l : Line) → eqb i m && to_half (port_at t i).line l ≡ false → eqb i m ≡ true → to_half (port_at t m).line l ≡ false
  half_at m l f e = ap (λ (p : Port). to_half p.line l) (at_same m e) ∙ under (eqb i m) (to_half (port_at t i).line l) e f

  changed-goes : (c : Call) → Takes c → accepted (answer c t) ≡ true → ends c t i ≡ false → Goes t (changed_by c t) i
  unfolding effect
  changed-goes (start count system delay x) k e f = absurd (true≢false (sym e ∙ f))
  changed-goes (receive n frame out) k e f = frame-goes n frame out k.0 (answer (receive n frame out) t) refl f
  changed-goes tick k e f = tick_goes f
  changed-goes (line n l) k e f =
      line-goes (n - 1) (unfold answer in named t n (Ok Done) e) l (half_at (n - 1) l (under (accepted (answer (line n l) t)) _ e f))
  changed-goes (configure n x) k e f = settings-goes (n - 1) (unfold answer in named t n (with_default x (Ok Done)) e) x k
  changed-goes (fetch n out) k e f = send_goes (n - 1) (unfold answer in named t n (with_room out (due_answer (due (port_at t (n - 1))))) e)
  changed-goes (report n) k e f = same-goes
  changed-goes (aggregator n) k e f = same-goes
  changed-goes dueCall k e f = same-goes

  pub call-goes : (c : Call) → Takes c → ends c t i ≡ false → Goes t (after c t) i
  call-goes c k f = unfold after in call-left (λ u. Goes t u i) (answer c t) t (changed_by c t) (unchanged t i) (λ e. changed-goes c k e f)

-- ---- runs

run-live : (frame : List ℕ) (i : ℕ) (t : List ℕ) (cs : List Call) → Sound t → i < count_in t → Live frame (port_at t i) → AllTake cs → NoneEnds t i cs
    → Live frame (port_at (run t cs) i)
unfolding run
run-live frame i t [] s h l k f = l
run-live frame i t (c ∷ cs) s h l k f =
    let g = call-goes t s i h c k.0 f.0 in
    run-live frame i (after c t) cs (call-sound t s c k.0) (rw g.count h) (live-is frame (port_at t i) (port_at (after c t) i) g.lasts l) k.1 f.1

-- the frame itself, on the port that hears it
module _ (t : List ℕ) (s : Sound t) (i : ℕ) (h : i < count_in t) (frame : List ℕ) where
  own-kept : get_or (displaced i (block_of (actor_part frame)) (set (ports t) i (received_at i frame (state_of t)))) i (decoded []) ≡ received_at i frame (state_of t)
  unfolding displaced_if
  own-kept =
      let a = block_of (actor_part frame) in
      let q = received_at i frame (state_of t) in
      let here : i < length (set (ports t) i q) = rw (length-set (ports t) i q, ports-length) h in
      displaced-at i a (set (ports t) i q) i (decoded []) here
      ∙ ap (λ (p : Port). displaced_if i a i p) (get_or-set_same (ports t) i q (decoded []) (in_ports t s i h)) ∙ rw (eq-eqb i i refl)

  begins : Octets frame → (port_at t i).line.up ≡ true → (port_at t i).line.full ≡ true → Live frame (port_at (on_octets (after_received i frame) t) i)
  unfolding after_received
  begins o u f =
      let ps = displaced i (block_of (actor_part frame)) (set (ports t) i (received_at i frame (state_of t))) in
      live-is frame (received_at i frame (state_of t)) (port_at (again t (worked (ours t) ps)) i)
      (work_lasting t s i h ps (received-before t s i h frame o u f) ∙ ap (λ (x : Port). lasting_of x) own-kept) (received-live t i frame)

  received-count : count_in (on_octets (after_received i frame) t) ≡ count_in t
  unfolding after_received
  received-count = again-count t (worked (ours t) (displaced i (block_of (actor_part frame)) (set (ports t) i (received_at i frame (state_of t)))))

-- what an accepted LACPDU leaves
pub after-received : (t : List ℕ) (n : ℕ) (frame out : List ℕ) → answer (receive n frame out) t ≡ Ok Lacpdu → after (receive n frame out) t ≡ on_octets (after_received (n - 1) frame) t
unfolding effect
after-received t n frame out e =
    after-accepted t (receive n frame out) (ap accepted e) ∙ ap (λ (a : Answer). on_octets (after_frame a (n - 1) frame) t) e

pub live-partner : LivePartner
live-partner t m n frame out k e cs takes none =
    let s = never_stuck t m in
    let x = received-on t n frame out e in
    let u = after (receive n frame out) t in
    let is : u ≡ on_octets (after_received (n - 1) frame) t = after-received t n frame out e in
    let count : count_in u ≡ count_in t = ap (λ (l : List ℕ). count_in l) is ∙ received-count t s (n - 1) x.below frame in
    let first : Live frame (port_at u (n - 1)) = rw is (begins t s (n - 1) x.below frame k.0 x.up x.full) in
    run-live frame (n - 1) u cs (call-sound t s (receive n frame out) k) (rw count x.below) first takes none
