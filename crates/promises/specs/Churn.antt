-- What a port's churn fields follow from: its link and both Synchronizations after each step, and where the accepted ticks, starts and moves lie. Nothing else.
use Rattle.std.specs.Prelude.{ℕ, ◌<◌, ◌≡◌, Bool, true, false, cond, ◌&&◌, List, [], ◌∷◌, Option, Some, None}
use Rattle.std.specs.Option.{unwrap_or}
use Rattle.machine.specs.Bits.{alike}
use Rattle.port.specs.declared.record.Port.{Port}
use Rattle.table.specs.Table.{count_in, port_at}
use Rattle.churn.specs.declared.Stage.{Stage}
use Rattle.churn.specs.declared.Stage.TheVariants.{Start, Tick, Other}
use Rattle.churn.specs.declared.watch.Monitors.{Monitors}
use Rattle.churn.specs.Churn.{monitors, watched, both_begun}
use Rattle.churn.specs.Whole.{base_of, monitors_at, prepared}
use Rattle.control.specs.Accepted.{accepted}
use Rattle.control.specs.Call.{Call, start, receive, tick, line, configure, fetch, report, aggregator, due}
use Rattle.whole.specs.Calls.{whole_answer}
use Rattle.whole.specs.Moves.{forward_answer}
use Rattle.promises.specs.Run.{Held, old, new, Step, call, forward, back, memory_of, records_of, stepped, through, StepTakes, FromStart, HeldMade}

-- what the machines look at: the link, the actor's Synchronization and the partner's
pub record Seen : Type 0 where
  pub up : Bool
  pub actor : Bool
  pub partner : Bool

abbrev pub seen_of : Port → Seen
seen_of p = record { up = p.line.up; actor = p.actor.synchronization; partner = p.partner.state.synchronization }

abbrev pub seen_at : List ℕ → ℕ → Seen
seen_at w i = seen_of (port_at (base_of w) i)

-- what is seen of port i, from 0, and its churn fields, where the table has monitors
abbrev pub seen_in : ℕ → Held → Option Seen
seen_in i (old t) = None
seen_in i (new w) = Some (seen_at w i)

abbrev pub churn_in : ℕ → Held → Option Monitors
churn_in i (old t) = None
churn_in i (new w) = Some (monitors_at w i)

-- what a call is to the machines: an accepted start, an accepted tick, or any other, a refused start or tick among them
abbrev pub event_of : Call → List ℕ → Stage
event_of (start count system delay s) w = cond (accepted (whole_answer (start count system delay s) w)) Start Other
event_of (receive n frame out) w = Other
event_of tick w = cond (accepted (whole_answer tick w)) Tick Other
event_of (line n l) w = Other
event_of (configure n s) w = Other
event_of (fetch n out) w = Other
event_of (report n) w = Other
event_of (aggregator k) w = Other
event_of due w = Other

-- and a step: a move forward begins them, as a start does
abbrev pub event_in : Step → Held → Stage
event_in (call c) (old t) = Other
event_in (call c) (new w) = event_of c w
event_in (forward u) h = cond (accepted (forward_answer (memory_of h) u)) Start Other
event_in (back u) h = Other

-- the churn fields after a call, by those before, by what the call was, and by what is seen after it
unfoldable pub churn_after : Stage → Seen → Monitors → Monitors
churn_after e x m = monitors (watched x.up x.actor (prepared e m).actor) (watched x.up x.partner (prepared e m).partner)

-- and after a step, if there are any then; where there were none they have begun, and `prepared` looks at nothing
abbrev pub churn_after_step : Stage → Option Seen → Option Monitors → Option Monitors
churn_after_step e None m = None
churn_after_step e (Some x) m = Some (churn_after e x (unwrap_or m both_begun))

abbrev pub ChurnFollows : Type 0
ChurnFollows = (h : Held) → HeldMade h → (s : Step) → StepTakes s → (i : ℕ) → i < count_in (records_of h)
    → churn_in i (stepped s h) ≡ churn_after_step (event_in s h) (seen_in i (stepped s h)) (churn_in i h)

-- once more, where the same is seen, it changes nothing: calls that run no machine agree with calls that do
abbrev pub ChurnAfterTwice : Type 0
ChurnAfterTwice = (e : Stage) (x : Seen) (m : Monitors) → churn_after Other x (churn_after e x m) ≡ churn_after e x m

-- ---- two runs

-- what happens to port i in a run, step by step, and its churn fields after each step
pub record Happening : Type 0 where
  pub event : Stage
  pub seen : Option Seen

unfoldable pub history : ℕ → Held → List Step → List Happening
history i h [] = []
history i h (s ∷ ss) = record { event = event_in s h; seen = seen_in i (stepped s h) } ∷ history i (stepped s h) ss

unfoldable pub churns : ℕ → Held → List Step → List (Option Monitors)
churns i h [] = []
churns i h (s ∷ ss) = churn_in i (stepped s h) ∷ churns i (stepped s h) ss

-- a port of the table that a start made
abbrev pub HasPort : Held → Call → ℕ → Type 0
HasPort h c i = i < count_in (records_of (stepped (call c) h))

-- two runs of one length, with accepted ticks and starts, and moves, at the same places, after each step of which port i of the one and port j of the other have the same link
-- and Synchronizations: they have the same churn fields after each step
abbrev pub TwoRuns : Type 0
TwoRuns = (h k : Held) (c d : Call) (ss zs : List Step) → FromStart h c ss → FromStart k d zs → (i j : ℕ) → HasPort h c i → HasPort k d j
    → history i h (call c ∷ ss) ≡ history j k (call d ∷ zs) → churns i h (call c ∷ ss) ≡ churns j k (call d ∷ zs)

-- ---- steps left out

abbrev pub same_seen : Seen → Seen → Bool
same_seen x y = alike x.up y.up && (alike x.actor y.actor && alike x.partner y.partner)

abbrev pub same_sight : Option Seen → Option Seen → Bool
same_sight None None = true
same_sight None (Some y) = false
same_sight (Some x) None = false
same_sight (Some x) (Some y) = same_seen x y

abbrev pub is_other : Stage → Bool
is_other Start = false
is_other Tick = false
is_other Other = true

-- a step that is neither an accepted tick nor an accepted start or move, and after which the same is seen as before
abbrev pub is_idle : Option Seen → Happening → Bool
is_idle x h = is_other h.event && same_sight x h.seen

-- a history without such steps, x being seen before it
unfoldable pub shortened : Option Seen → List Happening → List Happening
shortened x [] = []
shortened x (h ∷ hs) = cond (is_idle x h) (shortened x hs) (h ∷ shortened h.seen hs)

-- so such steps may be left out of either run: where what is left of both histories is the same, so are the churn fields at the end
abbrev pub TwoRunsShortened : Type 0
TwoRunsShortened = (h k : Held) (c d : Call) (ss zs : List Step) → FromStart h c ss → FromStart k d zs → (i j : ℕ) → HasPort h c i → HasPort k d j
    → seen_in i (stepped (call c) h) ≡ seen_in j (stepped (call d) k)
    → shortened (seen_in i (stepped (call c) h)) (history i (stepped (call c) h) ss) ≡ shortened (seen_in j (stepped (call d) k)) (history j (stepped (call d) k) zs)
    → churn_in i (through h (call c ∷ ss)) ≡ churn_in j (through k (call d ∷ zs))
