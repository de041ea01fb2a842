-- A port's churn fields after a call: where the machines ran they are what these make of what then stands, and where they did not, nothing that they look at
-- has changed and they were at rest. A move forward begins them, and a refused one leaves them at rest. So along a run they are a fold over its history. Assumes nothing.
use Prim.Native.Nat.{ℕ, ◌<◌}
use mathlib.Core.Path.{◌≡◌, refl, sym, ap, ◌∙◌, subst}
use mathlib.Core.Bool.{Bool, true, false, cond, ◌&&◌, false≢true}
use mathlib.Core.List.{List, [], ◌∷◌}
use Rattle.std.specs.Prelude.{Option, Some, None}
use Rattle.std.specs.Option.{unwrap_or}
use Rattle.octets.specs.Octets.{Octets}
use Rattle.octets.proofs.RangeLaws.{both}
use Rattle.frame.specs.declared.block.SystemId.{SystemId}
use Rattle.frame.specs.declared.wire.TensOfMicroseconds.{TensOfMicroseconds}
use Rattle.machine.specs.Bits.{alike}
use Rattle.port.specs.declared.record.Port.{Port}
use Rattle.settings.specs.declared.Settings.{Settings}
use Rattle.table.specs.Table.{count_in, port_at}
use Rattle.churn.specs.declared.Stage.{Stage}
use Rattle.churn.specs.declared.Stage.TheVariants.{Start, Tick, Other}
use Rattle.churn.specs.declared.watch.Monitors.{Monitors}
use Rattle.churn.specs.Churn.{monitors, watching, both_begun}
use Rattle.churn.specs.Whole.{base_of, monitors_at, prepared, watched_at, watched_all}
use Rattle.churn.proofs.ChurnLaws.{watched-twice}
use Rattle.churn.proofs.WholeLaws.{base-count}
use Rattle.churn.proofs.MadeLaws.{watched-base, watched-count, watched-monitors}
use Rattle.control.specs.Accepted.{accepted}
use Rattle.control.specs.Call.{Call, start, receive, tick, line, configure, fetch, report, aggregator, due}
use Rattle.control.specs.After.{answer}
use Rattle.whole.specs.Calls.{has_room, settles, stage_of, watched_if, whole_answer, whole_after}
use Rattle.whole.specs.Moves.{moved_forward, goes_forward, goes_back, forward_answer}
use Rattle.whole.proofs.MoveLaws.{forward-base, forward-monitors}
use Rattle.claims.specs.Run.{Takes}
use Rattle.claims.specs.AtRest.{Sound}
use Rattle.claims.proofs.Counts.{run-count}
use Rattle.promises.specs.Run.{Held, old, new, Step, call, forward, back, records_of, stepped, through, StepTakes, AllStepsTake, calls_of, FromStart}
use Rattle.promises.specs.Whole.{WholeSound, HeldSound}
use Rattle.promises.specs.Churn.{Seen, seen_of, seen_at, seen_in, churn_in, event_of, event_in, churn_after, churn_after_step, ChurnFollows, ChurnAfterTwice, Happening, history, churns, HasPort, TwoRuns, same_seen, same_sight, is_other, is_idle, shortened, TwoRunsShortened}
use Rattle.whole.proofs.FrontLaws.{lost_after, lost_answer}
use Rattle.promises.proofs.Whole.{idle-seen, joined, join-base, join-count, join-whole, join-monitors, room_after, whole, whole_is, whole-fits, base-call}
use Rattle.promises.proofs.Run.{held-never_stuck, start-sound, step-goes, records-sound, calls-take, not-old, went-forward, stood_forward, new-forward, old-back, went_back, stood_back}

-- ---- the function

pub watching-is : (e : Stage) (p : Port) (m : Monitors) → watching p (prepared e m) ≡ churn_after e (seen_of p) m
unfolding watching churn_after
watching-is e p m = refl

pub churn_after-twice : ChurnAfterTwice
unfolding churn_after
churn_after-twice e x m =
    λ i. monitors (watched-twice x.up x.actor (prepared e m).actor i) (watched-twice x.up x.partner (prepared e m).partner i)

next-twice : (e : Stage) (x : Option Seen) (m : Option Monitors) → churn_after_step Other x (churn_after_step e x m) ≡ churn_after_step e x m
next-twice e None m = refl
next-twice e (Some x) m = ap Some (churn_after-twice e x (unwrap_or m both_begun))

-- ---- what a call is to the machines

refused-event : (c : Call) (w : List ℕ) → accepted (whole_answer c w) ≡ false → event_of c w ≡ Other
refused-event (start count system delay x) w e = ap (λ (b : Bool). cond b Start Other) e
refused-event (receive n frame out) w e = refl
refused-event tick w e = ap (λ (b : Bool). cond b Tick Other) e
refused-event (line n l) w e = refl
refused-event (configure n x) w e = refl
refused-event (fetch n out) w e = refl
refused-event (report n) w e = refl
refused-event (aggregator k) w e = refl
refused-event due w e = refl

idle-event : (c : Call) (w : List ℕ) → whole_answer c w ≡ answer c (base_of w) → settles c (base_of w) (answer c (base_of w)) ≡ false → event_of c w ≡ Other
idle-event (start count system delay x) w a e = ap (λ (b : Bool). cond b Start Other) (ap accepted a ∙ e)
idle-event (receive n frame out) w a e = refl
idle-event tick w a e = ap (λ (b : Bool). cond b Tick Other) (ap accepted a ∙ e)
idle-event (line n l) w a e = refl
idle-event (configure n x) w a e = refl
idle-event (fetch n out) w a e = refl
idle-event (report n) w a e = refl
idle-event (aggregator k) w a e = refl
idle-event due w a e = refl

busy-event : (c : Call) (w : List ℕ) → whole_answer c w ≡ answer c (base_of w) → settles c (base_of w) (answer c (base_of w)) ≡ true → event_of c w ≡ stage_of c
busy-event (start count system delay x) w a e = ap (λ (b : Bool). cond b Start Other) (ap accepted a ∙ e)
busy-event (receive n frame out) w a e = refl
busy-event tick w a e = ap (λ (b : Bool). cond b Tick Other) (ap accepted a ∙ e)
busy-event (line n l) w a e = refl
busy-event (configure n x) w a e = refl
busy-event (fetch n out) w a e = refl
busy-event (report n) w a e = refl
busy-event (aggregator k) w a e = refl
busy-event due w a e = refl

-- ---- one call

-- where neither the monitors nor what they look at has changed
still : (w : List ℕ) → WholeSound w → (i : ℕ) → i < count_in w → (e : Stage) → e ≡ Other → (x : Seen) (m : Monitors) → m ≡ monitors_at w i → x ≡ seen_at w i
    → m ≡ churn_after e x (monitors_at w i)
still w s i h e is x m same seen =
    same ∙ sym (s.rest i h) ∙ watching-is Other (port_at (base_of w) i) (monitors_at w i) ∙ sym (λ k. churn_after (is k) (seen k) (monitors_at w i))

module _ (w : List ℕ) (s : WholeSound w) (c : Call) (k : Takes c) (i : ℕ) (h : i < count_in w) where
  lost_churn : has_room c w ≡ false → monitors_at (whole_after c w) i ≡ churn_after (event_of c w) (seen_at (whole_after c w) i) (monitors_at w i)
  lost_churn room =
      still w s i h (event_of c w) (refused-event c w (ap accepted (lost_answer c w room))) (seen_at (whole_after c w) i) (monitors_at (whole_after c w) i)
      (ap (λ (u : List ℕ). monitors_at u i) (lost_after c w room)) (ap (λ (u : List ℕ). seen_at u i) (lost_after c w room))

  idle-churn : event_of c w ≡ Other → settles c (base_of w) (answer c (base_of w)) ≡ false
      → monitors_at (joined w s c k) i ≡ churn_after (event_of c w) (seen_at (joined w s c k) i) (monitors_at w i)
  idle-churn is e =
      still w s i h (event_of c w) is (seen_at (joined w s c k) i) (monitors_at (joined w s c k) i) (join-monitors w s c k i)
      (ap (λ (t : List ℕ). seen_of (port_at t i)) (join-base w s c k) ∙ idle-seen (base_of w) s.base i (rw (base-count w) h) c e)

  busy-churn : (e : Stage) → monitors_at (watched_all e (joined w s c k)) i ≡ churn_after e (seen_at (watched_all e (joined w s c k)) i) (monitors_at w i)
  unfolding watched_at
  busy-churn e =
      let j = joined w s c k in
      watched-monitors e j (join-whole w s c k) i (rw (join-count w s c k) h)
      ∙ ap (λ (m : Monitors). watching (port_at (base_of j) i) (prepared e m)) (join-monitors w s c k i) ∙ watching-is e (port_at (base_of j) i) (monitors_at w i)
      ∙ ap (λ (t : List ℕ). churn_after e (seen_of (port_at t i)) (monitors_at w i)) (sym (watched-base e j (join-whole w s c k)))

  room-churn : has_room c w ≡ true → monitors_at (whole_after c w) i ≡ churn_after (event_of c w) (seen_at (whole_after c w) i) (monitors_at w i)
  room-churn room =
      let told = (base-call w s c k).answers in
      ap (λ (u : List ℕ). monitors_at u i) (room_after w s c k room) ∙ by told (settles c (base_of w) (answer c (base_of w))) refl
      ∙ ap (λ (u : List ℕ). churn_after (event_of c w) (seen_at u i) (monitors_at w i)) (sym (room_after w s c k room))
    where
      by : whole_answer c w ≡ answer c (base_of w) → (b : Bool) → settles c (base_of w) (answer c (base_of w)) ≡ b
          → monitors_at (watched_if b (stage_of c) (joined w s c k)) i ≡ churn_after (event_of c w) (seen_at (watched_if b (stage_of c) (joined w s c k)) i) (monitors_at w i)
      by told true e =
          busy-churn (stage_of c)
          ∙ ap (λ (v : Stage). churn_after v (seen_at (watched_all (stage_of c) (joined w s c k)) i) (monitors_at w i)) (sym (busy-event c w told e))
      by told false e = idle-churn (idle-event c w told e) e

  pub churn-step : monitors_at (whole_after c w) i ≡ churn_after (event_of c w) (seen_at (whole_after c w) i) (monitors_at w i)
  churn-step = by (has_room c w) refl
    where
      by : (b : Bool) → has_room c w ≡ b → monitors_at (whole_after c w) i ≡ churn_after (event_of c w) (seen_at (whole_after c w) i) (monitors_at w i)
      by true room = room-churn room
      by false room = lost_churn room

-- ---- one move

-- a refused move finds the monitors at rest
rest-churn : (w : List ℕ) → WholeSound w → (i : ℕ) → i < count_in w → Some (monitors_at w i) ≡ churn_after_step Other (seen_in i (new w)) (Some (monitors_at w i))
rest-churn w s i h = ap Some (sym (s.rest i h) ∙ watching-is Other (port_at (base_of w) i) (monitors_at w i))

-- and one forward begins them
begun-churn : (t : List ℕ) → Sound t → (i : ℕ) → i < count_in t → monitors_at (moved_forward t) i ≡ churn_after Start (seen_at (moved_forward t) i) both_begun
begun-churn t s i h =
    forward-monitors t s.ranged i h ∙ watching-is Start (port_at t i) both_begun
    ∙ ap (λ (x : List ℕ). churn_after Start (seen_of (port_at x i)) both_begun) (sym (forward-base t s.ranged))

-- ---- each step

module _ (i : ℕ) where
  -- from table h to table k, by what happened
  Follows : Held → Stage → Held → Type 0
  Follows h e k = churn_in i k ≡ churn_after_step e (seen_in i k) (churn_in i h)

  moved : (h k l : Held) (e f : Stage) → l ≡ k → f ≡ e → Follows h e k → Follows h f l
  moved h k l e f is same x = subst (λ (v : Stage). Follows h v l) (sym same) (subst (Follows h e) (sym is) x)

  step-churn : (s : Step) → StepTakes s → (h : Held) → HeldSound h → i < count_in (records_of h) → Follows h (event_in s h) (stepped s h)
  unfolding stepped Follows forward_answer
  step-churn (call c) k (old t) s h = refl
  step-churn (call c) k (new w) s h = ap Some (churn-step w s c k i (rw (base-count w) at h))
  step-churn (forward u) k (old t) s h = by (goes_forward t u) refl
    where
      by : (b : Bool) → goes_forward t u ≡ b → Follows (old t) (event_in (forward u) (old t)) (stepped (forward u) (old t))
      by true e = moved (old t) (new (moved_forward t)) (stepped (forward u) (old t)) Start (event_in (forward u) (old t)) (went-forward t u e) (rw e) (ap Some (begun-churn t s i h))
      by false e = moved (old t) (old t) (stepped (forward u) (old t)) Other (event_in (forward u) (old t)) (stood_forward t u e) (rw e) refl
  step-churn (forward u) k (new w) s h =
      moved (new w) (new w) (stepped (forward u) (new w)) Other (event_in (forward u) (new w)) (new-forward w u s.ranged) (rw (not-old w s.ranged)) (rest-churn w s i (rw (base-count w) at h))
  step-churn (back u) k (old t) s h = moved (old t) (old t) (stepped (back u) (old t)) Other Other (old-back t u s.ranged) refl refl
  step-churn (back u) k (new w) s h = by (goes_back w u) refl
    where
      by : (b : Bool) → goes_back w u ≡ b → Follows (new w) Other (stepped (back u) (new w))
      by true e = moved (new w) (old (base_of w)) (stepped (back u) (new w)) Other Other (went_back w u e) refl refl
      by false e = moved (new w) (new w) (stepped (back u) (new w)) Other Other (stood_back w u e) refl (rest-churn w s i (rw (base-count w) at h))

pub churn_follows : ChurnFollows
unfolding Follows
churn_follows h m s k i below = step-churn i s k h (held-never_stuck h m) below

-- ---- a run

step_count : (s : Step) → StepTakes s → (h : Held) → HeldSound h → count_in (records_of (stepped s h)) ≡ count_in (records_of h)
step_count s k h o =
    ap count_in (step-goes s k h o).records ∙ run-count (records_of h) (records-sound h o) (calls_of (s ∷ [])) (calls-take (s ∷ []) (k, tt))

-- the churn fields after each happening, and after the last
abbrev after_it : Happening → Option Monitors → Option Monitors
after_it x m = churn_after_step x.event x.seen m

unfoldable folds : List Happening → Option Monitors → List (Option Monitors)
folds [] m = []
folds (x ∷ xs) m = after_it x m ∷ folds xs (after_it x m)

unfoldable ended : List Happening → Option Monitors → Option Monitors
ended [] m = m
ended (x ∷ xs) m = ended xs (after_it x m)

run-folds : (i : ℕ) (h : Held) → HeldSound h → i < count_in (records_of h) → (ss : List Step) → AllStepsTake ss → churns i h ss ≡ folds (history i h ss) (churn_in i h)
unfolding churns history folds Follows
run-folds i h o below [] k = refl
run-folds i h o below (s ∷ ss) k =
    let e = step-churn i s k.0 h o below in
    let here : i < count_in (records_of (stepped s h)) = rw (step_count s k.0 h o) below in
    (λ n. e n ∷ run-folds i (stepped s h) (step-goes s k.0 h o).sound here ss k.1 n)
    ∙ ap (λ (m : Option Monitors). churn_after_step (event_in s h) (seen_in i (stepped s h)) (churn_in i h) ∷ folds (history i (stepped s h) ss) m) e

run_ends : (i : ℕ) (h : Held) → HeldSound h → i < count_in (records_of h) → (ss : List Step) → AllStepsTake ss → churn_in i (through h ss) ≡ ended (history i h ss) (churn_in i h)
unfolding through history ended Follows
run_ends i h o below [] k = refl
run_ends i h o below (s ∷ ss) k =
    run_ends i (stepped s h) (step-goes s k.0 h o).sound (rw (step_count s k.0 h o) below) ss k.1
    ∙ ap (λ (m : Option Monitors). ended (history i (stepped s h) ss) m) (step-churn i s k.0 h o below)

-- ---- a run from a start

module _ (m : List ℕ) (o : Octets m) (count : ℕ) (system : SystemId) (delay : TensOfMicroseconds) (x : Settings) (takes : Takes (start count system delay x))
    (done : accepted (whole_answer (start count system delay x) m) ≡ true) where
  started-event : event_of (start count system delay x) m ≡ Start
  started-event = ap (λ (b : Bool). cond b Start Other) done

  started-churn : (i : ℕ) → i < count_in (base_of (whole_after (start count system delay x) m))
      → monitors_at (whole_after (start count system delay x) m) i ≡ churn_after Start (seen_at (whole_after (start count system delay x) m) i) both_begun
  unfolding watched_at
  started-churn i h =
      let j = whole m o count system delay x takes done in
      let size = whole-fits m o count system delay x takes done in
      let is = whole_is m o count system delay x takes done in
      let here : i < count_in j = rw (watched-count Start j size) at (rw is at (rw (base-count (whole_after (start count system delay x) m)) at h)) in
      ap (λ (u : List ℕ). monitors_at u i) is ∙ watched-monitors Start j size i here ∙ watching-is Start (port_at (base_of j) i) both_begun
      ∙ ap (λ (t : List ℕ). churn_after Start (seen_of (port_at t i)) both_begun) (sym (watched-base Start j size))
      ∙ ap (λ (u : List ℕ). churn_after Start (seen_at u i) both_begun) (sym is)

-- whatever the memory held, the fields after a start follow from none, and what it was, where there are any, is a start
record Begins (h : Held) (c : Call) (i : ℕ) : Type 0 where
  churn : churn_in i (stepped (call c) h) ≡ churn_after_step Start (seen_in i (stepped (call c) h)) None
  event : churn_after_step Start (seen_in i (stepped (call c) h)) None ≡ churn_after_step (event_in (call c) h) (seen_in i (stepped (call c) h)) None

begins : (h : Held) (c : Call) (ss : List Step) (i : ℕ) → FromStart h c ss → HasPort h c i → Begins h c i
unfolding stepped
begins (old m) c ss i f p = record { churn = refl; event = refl }
begins (new m) (start count system delay x) ss i f p =
    let w = whole_after (start count system delay x) m in record {
      churn = ap Some (started-churn m f.octets count system delay x f.takes.0 f.accepted i p);
      event =
          ap (λ (e : Stage). Some (churn_after e (seen_at w i) both_begun)) (sym (started-event m f.octets count system delay x f.takes.0 f.accepted));
    }
begins (new m) (receive n frame out) ss i f p = absurd (false≢true f.is_start)
begins (new m) tick ss i f p = absurd (false≢true f.is_start)
begins (new m) (line n l) ss i f p = absurd (false≢true f.is_start)
begins (new m) (configure n x) ss i f p = absurd (false≢true f.is_start)
begins (new m) (fetch n out) ss i f p = absurd (false≢true f.is_start)
begins (new m) (report n) ss i f p = absurd (false≢true f.is_start)
begins (new m) (aggregator k) ss i f p = absurd (false≢true f.is_start)
begins (new m) due ss i f p = absurd (false≢true f.is_start)

start-folds : (h : Held) (c : Call) (ss : List Step) (i : ℕ) → FromStart h c ss → HasPort h c i
    → churns i h (call c ∷ ss) ≡ folds (history i h (call c ∷ ss)) None
unfolding churns history folds
start-folds h c ss i f p =
    let b = begins h c ss i f p in
    let k = stepped (call c) h in
    let e = b.churn ∙ b.event in
    (λ n. e n ∷ run-folds i k (start-sound h c ss f) p ss f.takes.1 n)
    ∙ ap (λ (m : Option Monitors). churn_after_step (event_in (call c) h) (seen_in i k) None ∷ folds (history i k ss) m) e

pub two_runs : TwoRuns
two_runs h k c d ss zs f g i j p q e =
    start-folds h c ss i f p ∙ ap (λ (xs : List Happening). folds xs None) e ∙ sym (start-folds k d zs j g q)

-- ---- steps left out

same_bool : (a b : Bool) → alike a b ≡ true → a ≡ b
same_bool true true e = refl
same_bool true false e = absurd (false≢true e)
same_bool false true e = absurd (false≢true e)
same_bool false false e = refl

same_seen_lem : (x y : Seen) → same_seen x y ≡ true → x ≡ y
same_seen_lem x y e =
    let a = both (alike x.up y.up) (alike x.actor y.actor && alike x.partner y.partner) e in
    let b = both (alike x.actor y.actor) (alike x.partner y.partner) a.1 in
    let up = same_bool x.up y.up a.0 in
    let ours = same_bool x.actor y.actor b.0 in
    let theirs = same_bool x.partner y.partner b.1 in
    λ n. record { up = up n; actor = ours n; partner = theirs n }

is-other : (e : Stage) → is_other e ≡ true → e ≡ Other
is-other Start e = absurd (false≢true e)
is-other Tick e = absurd (false≢true e)
is-other Other e = refl

same_sight_lem : (x y : Option Seen) → same_sight x y ≡ true → x ≡ y
same_sight_lem None None e = refl
same_sight_lem None (Some y) e = absurd (false≢true e)
same_sight_lem (Some x) None e = absurd (false≢true e)
same_sight_lem (Some x) (Some y) e = ap Some (same_seen_lem x y e)

short-ends : (x : Option Seen) (hs : List Happening) (m : Option Monitors) → churn_after_step Other x m ≡ m → ended (shortened x hs) m ≡ ended hs m
unfolding shortened ended
short-ends x [] m r = refl
short-ends x (h ∷ hs) m r =
    by (is_idle x h) refl (short-ends x hs m r) (short-ends h.seen hs (after_it h m) (next-twice h.event h.seen m))
  where
    by : (b : Bool) → is_idle x h ≡ b → ended (shortened x hs) m ≡ ended hs m
        → ended (shortened h.seen hs) (after_it h m) ≡ ended hs (after_it h m)
        → ended (cond b (shortened x hs) (h ∷ shortened h.seen hs)) m ≡ ended hs (after_it h m)
    by true e left kept =
        let p = both (is_other h.event) (same_sight x h.seen) e in
        let other = is-other h.event p.0 in
        let seen = same_sight_lem x h.seen p.1 in
        left ∙ ap (λ (y : Option Monitors). ended hs y) (sym r ∙ (λ n. churn_after_step (sym other n) (seen n) m))
    by false e left kept = kept

start-ends : (h : Held) (c : Call) (ss : List Step) (i : ℕ) → FromStart h c ss → HasPort h c i
    → churn_in i (through h (call c ∷ ss))
    ≡ ended (shortened (seen_in i (stepped (call c) h)) (history i (stepped (call c) h) ss)) (churn_after_step Start (seen_in i (stepped (call c) h)) None)
unfolding through
start-ends h c ss i f p =
    let k = stepped (call c) h in
    let x = seen_in i k in
    run_ends i k (start-sound h c ss f) p ss f.takes.1 ∙ ap (λ (y : Option Monitors). ended (history i k ss) y) (begins h c ss i f p).churn
    ∙ sym (short-ends x (history i k ss) (churn_after_step Start x None) (next-twice Start x None))

pub two_runs-shortened : TwoRunsShortened
two_runs-shortened h k c d ss zs f g i j p q seen e =
    start-ends h c ss i f p ∙ (λ n. ended (e n) (churn_after_step Start (seen n) None)) ∙ sym (start-ends k d zs j g q)
