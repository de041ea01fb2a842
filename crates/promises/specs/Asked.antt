-- Runs of the library: calls, moves, and asks for Markers (M-102), on tables of either form with what their ports asked for. Such a table is a table without it, its front,
-- and the groups behind. On the front a call is the call of `Run`, a move a move, and an ask nothing.
use Rattle.std.specs.Prelude.{ℕ, ◌-◌, ◌≡◌, Bool, true, false, cond, ◌&&◌, List, [], ◌∷◌, ◌++◌, take, eqb, Ok, is_ok}
use Rattle.octets.specs.Octets.{Octets}
use Rattle.table.specs.Layout.{place}
use Rattle.table.specs.Table.{count_in, port_at}
use Rattle.churn.specs.Whole.{whole_size}
use Rattle.asks.specs.declared.ask.Ask.{Ask}
use Rattle.asks.specs.declared.ask.Outcome.TheVariants.{Answered, Cancelled}
use Rattle.asks.specs.Ask.{never_asked, asked, ended, ask_fallen}
use Rattle.asks.specs.Groups.{ask_at}
use Rattle.control.specs.Answer.{Answer}
use Rattle.control.specs.declared.answer.Accepted.TheVariants.{Done}
use Rattle.control.specs.Accepted.{accepted}
use Rattle.control.specs.Call.{Call, start, receive, tick, line, configure, fetch, report, aggregator, due, is_start}
use Rattle.asked.specs.Layer.{Layer, old_layer, new_layer}
use Rattle.asked.specs.Asked.{front_of, groups_of}
use Rattle.asked.specs.Calls.{is_ours, falls_from, asked_answer, asked_after, asked_outgoing}
use Rattle.asked.specs.Ask.{Said, ask_answer, ask_after}
use Rattle.asked.specs.Moves.{forward_answer, forward_to, back_answer, back_to}
use Rattle.claims.specs.Run.{Takes}
use Rattle.promises.specs.Run.{Held, old, new, memory_of, records_of, answer_in, outgoing_in, Step, call, forward, back, stepped, through, StepTakes, AllStepsTake, HeldMade}

-- ---- the memory

abbrev pub layer_of : Held → Layer
layer_of (old m) = old_layer
layer_of (new m) = new_layer

-- the same form with other memory
abbrev pub holding : Held → List ℕ → Held
holding (old m) u = old u
holding (new m) u = new u

abbrev pub front_in : Held → Held
front_in h = holding h (front_of (layer_of h) (memory_of h))

abbrev pub groups_in : Held → List ℕ
groups_in h = groups_of (layer_of h) (memory_of h)

-- the table of the records, and what port i, from 0, asked for
abbrev pub table_in : Held → List ℕ
table_in h = records_of (front_in h)

abbrev pub ask_in : ℕ → Held → Ask
ask_in i h = ask_at (groups_in h) i

-- ---- a step of the library

-- a call of before or a move, or an ask on a port with a time to wait, lent a buffer
pub data Deed : Type 0 where
  plain : Step → Deed
  ask : (port wait : ℕ) → (out : List ℕ) → Deed

abbrev pub answer_to : Call → Held → Answer
answer_to c h = asked_answer (layer_of h) c (memory_of h)

abbrev pub sent_by : Call → Held → List ℕ
sent_by c h = asked_outgoing (layer_of h) c (memory_of h)

abbrev pub said_to : ℕ → ℕ → List ℕ → Held → Said
said_to n wait out h = ask_answer (layer_of h) n wait out (memory_of h)

abbrev pub agrees : Said → Bool
agrees = is_ok

unfoldable pub done : Deed → Held → Held
done (plain (call c)) h = holding h (asked_after (layer_of h) c (memory_of h))
done (plain (forward u)) h = cond (accepted (forward_answer (memory_of h) u)) (new (forward_to (memory_of h) u)) h
done (plain (back u)) h = cond (accepted (back_answer (memory_of h) u)) (old (back_to (memory_of h) u)) h
done (ask n wait out) h = holding h (ask_after (layer_of h) n wait out (memory_of h))

unfoldable pub after-all : Held → List Deed → Held
after-all h [] = h
after-all h (d ∷ ds) = after-all (done d h) ds

abbrev pub DeedTakes : Deed → Type 0
DeedTakes (plain s) = StepTakes s
DeedTakes (ask n wait out) = Octets out

abbrev pub AllTaken : List Deed → Type 0
AllTaken [] = Unit
AllTaken (d ∷ ds) = DeedTakes d × AllTaken ds

-- a run from an accepted start on any memory
pub record Begun (h : Held) (c : Call) (ds : List Deed) : Type 0 where
  pub octets : Octets (memory_of h)
  pub is_start : is_start c ≡ true
  pub accepted : accepted (answer_to c h) ≡ true
  pub takes : AllTaken (plain (call c) ∷ ds)

pub record AskedMade (h : Held) : Type 0 where
  pub memory : Held
  pub start : Call
  pub deeds : List Deed
  pub run : Begun memory start deeds
  pub gives : after-all memory (plain (call start) ∷ deeds) ≡ h

-- of each form
abbrev pub OldAsked : List ℕ → Type 0
OldAsked m = AskedMade (old m)

abbrev pub NewAsked : List ℕ → Type 0
NewAsked m = AskedMade (new m)

-- ---- what it is to the front

-- a move's target there is the front of the target, and one that is refused is none
abbrev pub front_step : Deed → Held → List Step
front_step (plain (call c)) h = call c ∷ []
front_step (plain (forward u)) h = cond (accepted (forward_answer (memory_of h) u)) (forward (take (whole_size (count_in (memory_of h))) u) ∷ []) []
front_step (plain (back u)) h = cond (accepted (back_answer (memory_of h) u)) (back (take (place (count_in (memory_of h))) u) ∷ []) []
front_step (ask n wait out) h = []

unfoldable pub fronts_of : Held → List Deed → List Step
fronts_of h [] = []
fronts_of h (d ∷ ds) = front_step d h ++ fronts_of (done d h) ds

-- the front of a table that is made is made by calls and moves, and a run goes on there as such a run. So every theorem of such runs (Whole, Churn, Through) holds of fronts
pub record FrontRun (h : Held) (ds : List Deed) : Type 0 where
  pub made : HeldMade (front_in h)
  pub goes : front_in (after-all h ds) ≡ through (front_in h) (fronts_of h ds)
  pub takes : AllStepsTake (fronts_of h ds)

abbrev pub FrontRuns : Type 0
FrontRuns = (h : Held) → AskedMade h → (ds : List Deed) → AllTaken ds → FrontRun h ds

-- and a call that is no start is there the same call, with the same answer but for a Response that is ours
pub record FrontCall (c : Call) (h : Held) : Type 0 where
  pub answers : answer_to c h ≡ cond (is_ours (layer_of h) c (memory_of (front_in h)) (groups_in h)) (Ok Done) (answer_in c (front_in h))
  pub leaves : front_in (done (plain (call c)) h) ≡ stepped (call c) (front_in h)
  pub sends : sent_by c h ≡ outgoing_in c (front_in h)

abbrev pub FrontCalls : Type 0
FrontCalls = (h : Held) → AskedMade h → (c : Call) → Takes c → is_start c ≡ false → FrontCall c h

-- ---- what it is to what port i, from 0, asked for

-- by a call: `a` is what there was, and m the memory before
abbrev pub ask_by_call : ℕ → Call → Layer → List ℕ → Ask → Ask
ask_by_call i (start count system delay s) L m a = cond (accepted (asked_answer L (start count system delay s) m)) never_asked a
ask_by_call i (receive n frame out) L m a = cond (eqb i (n - 1) && is_ours L (receive n frame out) (front_of L m) (groups_of L m)) (ended Answered a) a
ask_by_call i tick L m a = cond (accepted (asked_answer L tick m)) (ask_fallen a) a
ask_by_call i (line n l) L m a =
    cond (eqb i (n - 1) && (accepted (asked_answer L (line n l) m) && falls_from (port_at (L.records (front_of L m)) (n - 1)).line l)) (ended Cancelled a) a
ask_by_call i (configure n s) L m a = a
ask_by_call i (fetch n out) L m a = a
ask_by_call i (report n) L m a = a
ask_by_call i (aggregator k) L m a = a
ask_by_call i due L m a = a

-- and by any step
abbrev pub ask_by : ℕ → Deed → Held → Ask → Ask
ask_by i (plain (call c)) h a = ask_by_call i c (layer_of h) (memory_of h) a
ask_by i (plain (forward u)) h a = a
ask_by i (plain (back u)) h a = a
ask_by i (ask n wait out) h a = cond (eqb i (n - 1) && agrees (said_to n wait out h)) (asked wait a) a
