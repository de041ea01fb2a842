-- Every table that calls can make is in range, of octets and at rest: an accepted start makes such a table of any memory, and each call
-- keeps it, since a call that is not refused has passed its tests. A refusal changes nothing. Assumes nothing.
use Prim.Native.Nat.{ℕ, ◌-◌}
use mathlib.Core.Path.{◌≡◌, refl, sym, ap, ◌∙◌, subst}
use mathlib.Core.Bool.{Bool, true, false, cond, ◌&&◌, ◌||◌, true≢false}
use mathlib.Core.List.{List, [], ◌∷◌, ◌++◌}
use lib.ListN.{length}
use lib.Dec.{ltb}
use Rattle.std.specs.Prelude.{Result, Ok, Err}
use Rattle.octets.specs.Octets.{Octets}
use Rattle.frame.specs.declared.class.Kind.TheVariants as kind
use Rattle.frame.specs.Class.{Class, class_of, frame_size}
use Rattle.machine.specs.declared.states.Line.{Line}
use Rattle.machine.specs.declared.states.Mux.{Mux}
use Rattle.machine.specs.Mux.{collects, distributes}
use Rattle.port.specs.declared.transmit.Undue.{Undue}
use Rattle.port.specs.declared.transmit.Undue.TheVariants as undue
use Rattle.port.specs.Transmit.{due as due_of}
use Rattle.frame.specs.declared.block.SystemId.{SystemId}
use Rattle.frame.specs.declared.wire.TensOfMicroseconds.{TensOfMicroseconds}
use Rattle.settings.specs.declared.Settings.{Settings}
use Rattle.settings.specs.Settings.{lawful}
use Rattle.table.proofs.FillLaws.{room-is}
use Rattle.table.specs.Table.{is_room, table_in_range, port_at}
use Rattle.control.specs.Answer.{Answer, is_number, on_port, with_room, with_default, frame_answer, due_answer}
use Rattle.control.specs.declared.answer.Accepted.TheVariants.{Done, Lacpdu, Marker}
use Rattle.control.specs.declared.answer.Reason.{Reason}
use Rattle.control.specs.declared.answer.Reason.TheVariants as reason
use Rattle.control.specs.Call.{Call, start, receive, tick, line, configure, fetch, report, aggregator, due as dueCall, is_start}
use Rattle.control.specs.After.{answer, changed_by, after, effect}
use Rattle.control.specs.Accepted.{accepted}
use Rattle.claims.specs.Run.{Takes, AllTake, run, Made}
use Rattle.control.proofs.CallLaws.{if-accepted, named, received-on, after-accepted, refused-table, refused-buffer}
use Rattle.claims.specs.AtRest.{Sound}
use Rattle.claims.specs.Claims.{NeverStuck, NoAnswerOne, RefusalsSilent}
use Rattle.claims.proofs.Sound.{unmoved, call-left, frame-left, send_sound, line-sound, settings-sound, received-sound, tick-sound, start-sound}

-- ---- each call keeps a table sound

-- an accepted start makes a sound table of any memory
pub started-sound : (t : List ℕ) (count : ℕ) (system : SystemId) (delay : TensOfMicroseconds) (x : Settings) → Takes (start count system delay x)
    → accepted (answer (start count system delay x) t) ≡ true → Sound (changed_by (start count system delay x) t)
unfolding answer effect
started-sound t count system delay x k e =
    let room = room-is t count (if-accepted (is_room t count) (with_default x (Ok Done)) reason.Table e).0 in
    start-sound (record { count = count; system = system; delay = delay }) x k.0 k.1 room.some room.few

pub changed-sound : (t : List ℕ) → Sound t → (c : Call) → Takes c → accepted (answer c t) ≡ true → Sound (changed_by c t)
unfolding answer effect
changed-sound t s (start count system delay x) k e = started-sound t count system delay x k e
changed-sound t s (receive n frame out) k e =
    frame-left Sound (answer (receive n frame out) t) (n - 1) frame t (unmoved Sound t s s)
    (λ a. let h = received-on t n frame out a in received-sound t s (n - 1) h.below frame k.0 h.up h.full)
changed-sound t s tick k e = tick-sound t s
changed-sound t s (line n l) k e = line-sound t s (n - 1) (named t n (Ok Done) e) l
changed-sound t s (configure n x) k e = settings-sound t s (n - 1) (named t n (with_default x (Ok Done)) e) x k
changed-sound t s (fetch n out) k e = send_sound t s (n - 1) (named t n (with_room out (due_answer (due_of (port_at t (n - 1))))) e)
changed-sound t s (report n) k e = unmoved Sound t s s
changed-sound t s (aggregator n) k e = unmoved Sound t s s
changed-sound t s dueCall k e = unmoved Sound t s s

pub call-sound : (t : List ℕ) → Sound t → (c : Call) → Takes c → Sound (after c t)
unfolding after
call-sound t s c k = call-left Sound (answer c t) t (changed_by c t) s (λ e. changed-sound t s c k e)

-- ---- runs

pub run_sound : (t : List ℕ) → Sound t → (cs : List Call) → AllTake cs → Sound (run t cs)
unfolding run
run_sound t s [] k = s
run_sound t s (c ∷ cs) k = run_sound (after c t) (call-sound t s c k.0) cs k.1

pub never_stuck : NeverStuck
never_stuck t m =
    let c = start m.count m.system m.delay m.settings in
    let first : Sound (after c m.memory) =
    subst Sound (sym (after-accepted m.memory c m.starts)) (started-sound m.memory m.count m.system m.delay m.settings m.takes m.starts) in
    subst Sound m.gives (run_sound (after c m.memory) first m.calls m.all_take)

-- a start makes a table, and so does a call on one
pub made-start : (m : List ℕ) → Octets m → (count : ℕ) (system : SystemId) (delay : TensOfMicroseconds) (x : Settings)
    → Takes (start count system delay x) → accepted (answer (start count system delay x) m) ≡ true → Made (after (start count system delay x) m)
unfolding run
made-start m o count system delay x k e = record {
  memory = m;
  octets = o;
  count = count;
  system = system;
  delay = delay;
  settings = x;
  takes = k;
  starts = e;
  calls = [];
  all_take = tt;
  gives = refl;
}

pub run_more : (t : List ℕ) (cs : List Call) (c : Call) → run t (cs ++ (c ∷ [])) ≡ after c (run t cs)
unfolding run
run_more t [] c = refl
run_more t (b ∷ cs) c = run_more (after b t) cs c

pub all_more : (cs : List Call) (c : Call) → AllTake cs → Takes c → AllTake (cs ++ (c ∷ []))
all_more [] c a k = (k, tt)
all_more (b ∷ cs) c a k = (a.0, all_more cs c a.1 k)

pub made-call : (t : List ℕ) → Made t → (c : Call) → Takes c → Made (after c t)
made-call t m c k = record {
  memory = m.memory;
  octets = m.octets;
  count = m.count;
  system = m.system;
  delay = m.delay;
  settings = m.settings;
  takes = m.takes;
  starts = m.starts;
  calls = m.calls ++ (c ∷ []);
  all_take = all_more m.calls c m.all_take k;
  gives =
      run_more (after (start m.count m.system m.delay m.settings) m.memory) m.calls c ∙ ap (after c) m.gives;
}

-- ---- answer 1

abbrev is_table : Reason → Bool
is_table reason.Table = true
is_table reason.Number = false
is_table reason.Buffer = false
is_table reason.Default = false
is_table reason.Disabled = false
is_table (reason.Frame r) = false
is_table reason.NotCollecting = false
is_table reason.NothingToSend = false
is_table reason.Barred = false
is_table reason.Response = false

abbrev answers_one : Answer → Bool
answers_one (Ok x) = false
answers_one (Err r) = is_table r

-- of two answers neither of which is 1
neither : (b : Bool) (x y : Answer) → answers_one x ≡ false → answers_one y ≡ false → answers_one (cond b x y) ≡ false
neither true x y e f = e
neither false x y e f = f

port-not-one : (t : List ℕ) → table_in_range t ≡ true → (n : ℕ) (rest : Answer) → answers_one rest ≡ false → answers_one (on_port t n rest) ≡ false
port-not-one t r n rest e =
    ap (λ (b : Bool). answers_one (cond b (cond (is_number t n) rest (Err reason.Number)) (Err reason.Table))) r
    ∙ neither (is_number t n) rest (Err reason.Number) e refl

frame-not-one : (k : Class) (l : Line) (m : Mux) → answers_one (frame_answer k l m) ≡ false
frame-not-one (Ok kind.Lacpdu) l m = neither (l.up && l.full) (Ok Lacpdu) (Err reason.Disabled) refl refl
frame-not-one (Ok kind.Marker) l m = neither (collects m || distributes m) (Ok Marker) (Err reason.NotCollecting) refl refl
frame-not-one (Ok kind.Response) l m = refl
frame-not-one (Err r) l m = refl

due-not-one : (k : Result (Unit {0}) Undue) → answers_one (due_answer k) ≡ false
due-not-one (Ok x) = refl
due-not-one (Err undue.Nothing) = refl
due-not-one (Err undue.Barred) = refl

not-one : (t : List ℕ) → table_in_range t ≡ true → (c : Call) → is_start c ≡ false → answers_one (answer c t) ≡ false
unfolding answer
not-one t r (start count system delay x) s = absurd (true≢false s)
not-one t r (receive n frame out) s =
    let l = (port_at t (n - 1)).line in
    let m = (port_at t (n - 1)).phase.mux in
    let a = frame_answer (class_of frame) l m in
    port-not-one t r n (with_room out a) (neither (ltb (length out) frame_size) (Err reason.Buffer) a refl (frame-not-one (class_of frame) l m))
not-one t r tick s = ap (λ (b : Bool). answers_one (cond b (Ok Done) (Err reason.Table))) r
not-one t r (line n l) s = port-not-one t r n (Ok Done) refl
not-one t r (configure n x) s = port-not-one t r n (with_default x (Ok Done)) (neither (lawful x) (Ok Done) (Err reason.Default) refl refl)
not-one t r (fetch n out) s =
    let a = due_answer (due_of (port_at t (n - 1))) in
    port-not-one t r n (with_room out a) (neither (ltb (length out) frame_size) (Err reason.Buffer) a refl (due-not-one (due_of (port_at t (n - 1)))))
not-one t r (report n) s = port-not-one t r n (Ok Done) refl
not-one t r (aggregator n) s = port-not-one t r n (Ok Done) refl
not-one t r dueCall s = ap (λ (b : Bool). answers_one (cond b (Ok Done) (Err reason.Table))) r

pub no_answer-one : NoAnswerOne
no_answer-one t m c s e = true≢false (ap answers_one (sym e) ∙ not-one t (never_stuck t m).ranged c s)

-- ---- refusals

pub refusals_silent : RefusalsSilent
refusals_silent t c r e = record { table = refused-table c t e; buffer = refused-buffer c t e }
