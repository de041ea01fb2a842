-- A line call leaves both values, since settling keeps them; both as they are pass the test that changes nothing; and at half duplex step 6
-- has cleared NTT. No other call but a start changes them, by cases on the call. Assumes nothing.
use Prim.Native.Nat.{ℕ, ◌+◌, ◌-◌, ◌<◌, ◌≤◌}
use mathlib.Core.Path.{◌≡◌, refl, sym, ap, ◌∙◌}
use mathlib.Core.Bool.{Bool, true, false, cond, not, ◌&&◌, true≢false}
use mathlib.Core.List.{List, [], ◌∷◌, map}
use native.Mathlib.Omega.{arith}
use lib.ListN.{length, get_or, set, length-set}
use lib.Dec.{eqb}
use borrow.Author.Tests.{eqb-true, eq-eqb}
use Rattle.std.specs.Prelude.{Result, Ok, Err}
use Rattle.octets.proofs.ListLaws.{map_at, sweep_at}
use Rattle.octets.specs.Octets.{Octets, within}
use Rattle.octets.proofs.RangeLaws.{within-true}
use Rattle.frame.specs.declared.block.Block.{Block}
use Rattle.frame.specs.Block.{block_of}
use Rattle.frame.specs.Wire.{actor_part, partner_part}
use Rattle.machine.specs.declared.states.Line.{Line}
use Rattle.machine.specs.States.{same_line}
use Rattle.machine.proofs.CompareLaws.{line-true, line_refl}
use Rattle.port.specs.declared.record.Port.{Port}
use Rattle.port.specs.declared.transmit.Undue.{Undue}
use Rattle.port.specs.declared.transmit.Undue.TheVariants.{Nothing}
use Rattle.port.specs.Record.{with_line, with_ntt, with_actor, with_own, actor_block}
use Rattle.port.specs.Receive.{record_default, unselected, initialized, port_disabled, current, receive_run, moved, received, down, lined}
use Rattle.port.specs.Transmit.{due, sent, silent, ntt_cleared, ticked, advanced}
use Rattle.port.proofs.RestKept.{pdu_line, run-line}
use Rattle.port.specs.Range.{own_fits}
use Rattle.settings.specs.declared.Settings.{Settings}
use Rattle.settings.specs.Settings.{own_of, own_bits, same_grouping, same_settings, regrouped, configured}
use Rattle.table.specs.Record.{decoded}
use Rattle.table.specs.Table.{count_in, port_at, ports, ours, again, on_octets, state_of, octets_of}
use Rattle.table.proofs.StoreLaws.{ports-length, ports-at}
use Rattle.trunk.specs.Displaced.{is_displaced, displaced_if, displaced}
use Rattle.work.specs.Work.{worked, after_one, received_at, after_received, after_tick, after_line, after_settings, after_send}
use Rattle.control.specs.Answer.{is_number, with_room, with_default, due_answer}
use Rattle.control.specs.declared.answer.Accepted.TheVariants.{Done}
use Rattle.control.specs.declared.answer.Reason.TheVariants as reason
use Rattle.control.specs.Call.{Call, start, receive, tick, line, configure, fetch, report, aggregator, due as dueCall}
use Rattle.control.specs.After.{answer, after_frame, changed_by, unless, after, effect}
use Rattle.control.specs.Accepted.{accepted}
use Rattle.table.proofs.TableLaws.{octets-back}
use Rattle.claims.specs.Run.{Takes, AllTake, run}
use Rattle.control.proofs.CallLaws.{named, numbered, received-on, after-accepted, in_table}
use Rattle.control.proofs.CountLaws.{kept_if}
use Rattle.claims.specs.AtRest.{Sound}
use Rattle.claims.specs.LineCall.{LineTaken, LineRepeated, Silent, HalfSilent, relines, NoneRelines, StaysSilent}
use Rattle.claims.proofs.Sound.{call-left, frame-left, Before, in_ports, tick-before, line_before, settings-before, received-before, send_ports, sound_back}
use Rattle.claims.proofs.Calls.{call-sound, run_sound, never_stuck}
use Rattle.claims.proofs.Rule.{port_firm}
use Rattle.claims.proofs.Counts.{call-count, run-count}
use Rattle.claims.proofs.Locality.{again-at}
use Rattle.claims.proofs.Views.{work_view, set_view}

-- ---- both values as they are

pub line-repeated : LineRepeated
unfolding after effect after_line
line-repeated t o n =
    let p = port_at t (n - 1) in
    let c = line n p.line in
    ap (λ (b : Bool). unless (answer c t) t (octets_of (cond b (state_of t) (after_one (n - 1) (lined p.line p) (state_of t))))) (line_refl p.line)
    ∙ call-left (λ u. u ≡ t) (answer c t) t (octets_of (state_of t)) refl (λ e. octets-back t (unfold answer in in_table t n (Ok Done) e) o)

-- ---- half duplex

half_off : (p : Port) → p.line.full ≡ false → silent p ≡ true
unfolding silent
half_off p f = rw f

half_clear : (p : Port) → p.line.full ≡ false → ntt_cleared p ≡ p → p.ntt ≡ false
unfolding ntt_cleared
half_clear p f e = ap (λ (q : Port). q.ntt) (sym e) ∙ ap (λ (b : Bool). (cond b (with_ntt p false) p).ntt) (half_off p f)

nothing-due : (p : Port) → p.ntt ≡ false → due p ≡ Err Nothing
unfolding due
nothing-due p e = rw e

in_count : (n c : ℕ) → within 1 n c ≡ true → n - 1 < c
in_count n c e = let some : 1 ≤ n = (within-true 1 n c e).0 in let most : n ≤ c = (within-true 1 n c e).1 in omega arith

sound-silent : (t : List ℕ) → Sound t → (n : ℕ) → is_number t n ≡ true → (port_at t (n - 1)).line.full ≡ false → Silent t n
unfolding answer
sound-silent t s n e f =
    let p = port_at t (n - 1) in
    let clear : p.ntt ≡ false = half_clear p f (port_firm t s (n - 1) (in_count n (count_in t) e)).quiet in
    record {
      ntt = clear;
      fetched = λ out.
          let a = with_room out (due_answer (due p)) in
          ap (λ (b : Bool). cond b (cond (is_number t n) a (Err reason.Number)) (Err reason.Table)) s.ranged
          ∙ ap (λ (b : Bool). cond b a (Err reason.Number)) e ∙ ap (λ (d : Result (Unit {0}) Undue). with_room out (due_answer d)) (nothing-due p clear);
    }

pub half_silent : HalfSilent
half_silent t m n e f = sound-silent t (never_stuck t m) n e f

-- ---- what each call does to one record's line before settling

pub lined-line : (l : Line) (p : Port) → (lined l p).line ≡ l
unfolding lined
lined-line l p = run-line (with_line (receive_run (with_line p (down p.line))) l)

advanced-line : (p : Port) → (advanced p).line ≡ p.line
unfolding advanced
advanced-line p = run-line (ticked p) ∙ unfold ticked in refl

regrouped-line : (b : Bool) (x : Settings) (p : Port)
    → (with_ntt (with_actor (with_own (cond b p (unselected p)) (own_of x)) (own_bits x p.actor)) true).line ≡ p.line
regrouped-line true x p = refl
regrouped-line false x p = refl

configured-line : (x : Settings) (p : Port) → (configured x p).line ≡ p.line
unfolding configured regrouped
configured-line x p = regrouped-line (same_grouping x p) x p

sent-line : (p : Port) → (sent p).line ≡ p.line
unfolding sent
sent-line p = refl

received_at-line : (t : List ℕ) (i : ℕ) (frame : List ℕ) → (received_at i frame (state_of t)).line ≡ (port_at t i).line
unfolding received_at received current
received_at-line t i frame =
    pdu_line (actor_block (ours t).system (i + 1) (port_at t i)) (block_of (actor_part frame)) (block_of (partner_part frame)) (port_at t i)

moved-line : (b : Bool) (p : Port) → (cond b (moved p) p).line ≡ p.line
unfolding moved port_disabled initialized record_default
moved-line true p = refl
moved-line false p = refl

displaced-line : (r : ℕ) (a : Block) (ps : List Port) (i : ℕ) (d : Port) → i < length ps → (get_or (displaced r a ps) i d).line ≡ (get_or ps i d).line
unfolding displaced displaced_if
displaced-line r a ps i d h =
    let p = get_or ps i d in
    ap (λ (q : Port). q.line) (sweep_at (displaced_if r a) 0 ps i d h) ∙ moved-line (not (eqb (0 + i) r) && is_displaced a p) p

-- ---- what each call leaves of the line of port i

module _ (t : List ℕ) (s : Sound t) (i : ℕ) (h : i < count_in t) where
  work_line : (ps : List Port) → Before t ps → (port_at (again t (worked (ours t) ps)) i).line ≡ (get_or ps i (decoded [])).line
  work_line ps b = work_view (λ p. p.line) (λ p. refl) (λ p. refl) t s i h ps b

  -- nothing is changed
  same_line_lem : (port_at (octets_of (state_of t)) i).line ≡ (port_at t i).line
  same_line_lem = ap (λ (u : List ℕ). (port_at u i).line) (sound_back t s)

  -- one record is changed, and keeps its line
  set_line : (m : ℕ) (q : Port) → (eqb i m ≡ true → q.line ≡ (port_at t m).line) → (get_or (set (ports t) m q) i (decoded [])).line ≡ (port_at t i).line
  set_line m q f =
      set_view (λ p. p.line) t s i h m q (port_at t i).line (λ is. f is ∙ ap (λ (k : ℕ). (port_at t k).line) (sym (eqb-true i m is))) (λ other. refl)

  -- the call itself
  given : (l : Line) → (port_at (on_octets (after_line i l) t) i).line ≡ l
  unfolding after_line after_one
  given l = by (same_line l (port_at t i).line) refl
    where
      q : Port
      q = lined l (port_at t i)

      by : (b : Bool) → same_line l (port_at t i).line ≡ b → (port_at (kept_if b t (worked (ours t) (set (ports t) i q))) i).line ≡ l
      by true e = same_line_lem ∙ sym (line-true l (port_at t i).line e)
      by false e =
          work_line (set (ports t) i q) (line_before t s i h l)
          ∙ set_view (λ p. p.line) t s i h i q l (λ is. lined-line l (port_at t i)) (λ other. absurd (true≢false (sym (eq-eqb i i refl) ∙ other)))

  other-line : (m : ℕ) → m < count_in t → (l : Line) → eqb i m ≡ false → (port_at (on_octets (after_line m l) t) i).line ≡ (port_at t i).line
  unfolding after_line after_one
  other-line m g l f = by (same_line l (port_at t m).line)
    where
      q : Port
      q = lined l (port_at t m)

      by : (b : Bool) → (port_at (kept_if b t (worked (ours t) (set (ports t) m q))) i).line ≡ (port_at t i).line
      by true = same_line_lem
      by false = work_line (set (ports t) m q) (line_before t s m g l) ∙ set_line m q (λ e. absurd (true≢false (sym e ∙ f)))

  settings-line : (m : ℕ) → m < count_in t → (x : Settings) → own_fits (own_of x) ≡ true → (port_at (on_octets (after_settings m x) t) i).line ≡ (port_at t i).line
  unfolding after_settings after_one
  settings-line m g x o = by (same_settings x (port_at t m))
    where
      q : Port
      q = configured x (port_at t m)

      by : (b : Bool) → (port_at (kept_if b t (worked (ours t) (set (ports t) m q))) i).line ≡ (port_at t i).line
      by true = same_line_lem
      by false = work_line (set (ports t) m q) (settings-before t s m g x o) ∙ set_line m q (λ e. configured-line x (port_at t m))

  send_line : (m : ℕ) → m < count_in t → (port_at (on_octets (after_send m) t) i).line ≡ (port_at t i).line
  unfolding after_send
  send_line m g =
      let q = sent (port_at t m) in
      ap (λ (p : Port). p.line) (again-at t (set (ports t) m q) (send_ports t s m g) i (decoded []) h) ∙ set_line m q (λ e. sent-line (port_at t m))

  tick-line : (port_at (on_octets after_tick t) i).line ≡ (port_at t i).line
  unfolding after_tick
  tick-line =
      work_line (map advanced (ports t)) (tick-before t s)
      ∙ ap (λ (p : Port). p.line) (map_at advanced (ports t) i (decoded []) (decoded []) (in_ports t s i h))
      ∙ advanced-line (get_or (ports t) i (decoded [])) ∙ ap (λ (p : Port). p.line) (ports-at t i (decoded []) h)

  frame-line : (n : ℕ) (frame out : List ℕ) → Octets frame
      → (port_at (on_octets (after_frame (answer (receive n frame out) t) (n - 1) frame) t) i).line ≡ (port_at t i).line
  frame-line n frame out o =
      frame-left (λ u. (port_at u i).line ≡ (port_at t i).line) (answer (receive n frame out) t) (n - 1) frame t same_line_lem
      (λ e. unfold after_received in
      let x = received-on t n frame out e in
      let a = block_of (actor_part frame) in
      let q = received_at (n - 1) frame (state_of t) in
      let here : i < length (set (ports t) (n - 1) q) = rw (length-set (ports t) (n - 1) q, ports-length) h in
      work_line (displaced (n - 1) a (set (ports t) (n - 1) q)) (received-before t s (n - 1) x.below frame o x.up x.full)
      ∙ displaced-line (n - 1) a (set (ports t) (n - 1) q) i (decoded []) here ∙ set_line (n - 1) q (λ y. received_at-line t (n - 1) frame))

  changed-keeps : (c : Call) → Takes c → accepted (answer c t) ≡ true → relines c i ≡ false → (port_at (changed_by c t) i).line ≡ (port_at t i).line
  unfolding effect
  changed-keeps (start count system delay x) k e f = absurd (true≢false f)
  changed-keeps (receive n frame out) k e f = frame-line n frame out k.0
  changed-keeps tick k e f = tick-line
  changed-keeps (line n l) k e f = other-line (n - 1) (unfold answer in named t n (Ok Done) e) l f
  changed-keeps (configure n x) k e f = settings-line (n - 1) (unfold answer in named t n (with_default x (Ok Done)) e) x k
  changed-keeps (fetch n out) k e f = send_line (n - 1) (unfold answer in named t n (with_room out (due_answer (due (port_at t (n - 1))))) e)
  changed-keeps (report n) k e f = same_line_lem
  changed-keeps (aggregator n) k e f = same_line_lem
  changed-keeps dueCall k e f = same_line_lem

  call-keeps : (c : Call) → Takes c → relines c i ≡ false → (port_at (after c t) i).line ≡ (port_at t i).line
  unfolding after
  call-keeps c k f = call-left (λ u. (port_at u i).line ≡ (port_at t i).line) (answer c t) t (changed_by c t) refl (λ e. changed-keeps c k e f)

-- ---- runs

run-keeps : (i : ℕ) (t : List ℕ) (cs : List Call) → Sound t → i < count_in t → AllTake cs → NoneRelines cs i → (port_at (run t cs) i).line ≡ (port_at t i).line
unfolding run
run-keeps i t [] s h k f = refl
run-keeps i t (c ∷ cs) s h k f =
    run-keeps i (after c t) cs (call-sound t s c k.0) (rw (call-count t s c) h) k.1 f.1 ∙ call-keeps t s i h c k.0 f.0

after_line_lem : (t : List ℕ) → Sound t → (n : ℕ) (l : Line) → accepted (answer (line n l) t) ≡ true → (port_at (after (line n l) t) (n - 1)).line ≡ l
unfolding effect
after_line_lem t s n l e =
    ap (λ (u : List ℕ). (port_at u (n - 1)).line) (after-accepted t (line n l) e) ∙ given t s (n - 1) (unfold answer in named t n (Ok Done) e) l

pub line_taken : LineTaken
line_taken t m n l e = after_line_lem t (never_stuck t m) n l e

pub stays-silent : StaysSilent
stays-silent t m n l e f cs k r =
    let s = never_stuck t m in
    let u = after (line n l) t in
    let sound : Sound u = call-sound t s (line n l) tt in
    let here : n - 1 < count_in u = rw (call-count t s (line n l)) (unfold answer in named t n (Ok Done) e) in
    let number : is_number (run u cs) n ≡ true =
    ap (λ (c : ℕ). within 1 n c) (run-count u sound cs k ∙ call-count t s (line n l)) ∙ (unfold answer in numbered t n (Ok Done) e) in
    sound-silent (run u cs) (run_sound u sound cs k) n number
    (ap (λ (x : Line). x.full) (run-keeps (n - 1) u cs sound here k r ∙ after_line_lem t s n l e) ∙ f)
