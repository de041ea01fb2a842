-- A start in either form begins a sound table, each step keeps it sound, and does to its records what the call does, or nothing: a move forward begins monitors and runs
-- them once, so they are at rest. Assumes nothing.
use Prim.Native.Nat.{ℕ}
use mathlib.Core.Path.{◌≡◌, refl, sym, ap, ◌∙◌, subst}
use mathlib.Core.Bool.{Bool, true, false, false≢true}
use mathlib.Core.List.{List, [], ◌∷◌, ◌++◌}
use native.Mathlib.Omega.{arith}
use lib.ListN.{take}
use Rattle.octets.specs.Octets.{Octets}
use Rattle.octets.proofs.OctetLists.{take-octets}
use Rattle.frame.specs.declared.block.SystemId.{SystemId}
use Rattle.frame.specs.declared.wire.TensOfMicroseconds.{TensOfMicroseconds}
use Rattle.settings.specs.declared.Settings.{Settings}
use Rattle.table.specs.Layout.{place}
use Rattle.table.specs.Table.{port_at, table_in_range}
use Rattle.table.proofs.TableLaws.{in_range}
use Rattle.churn.specs.Churn.{watching, both_begun}
use Rattle.churn.specs.Whole.{base_of, has_monitors}
use Rattle.churn.proofs.ChurnLaws.{watching-twice}
use Rattle.control.specs.Call.{Call, start, receive, tick, line, configure, fetch, report, aggregator, due}
use Rattle.control.specs.Accepted.{accepted}
use Rattle.control.specs.After.{answer, after}
use Rattle.control.proofs.CallLaws.{after-accepted}
use Rattle.whole.specs.Moves.{moved_forward, goes_forward, goes_back, forward_answer, forward_to, back_answer, back_to}
use Rattle.whole.specs.Report.{whole_aggregator, whole_due}
use Rattle.whole.proofs.CallLaws.{whole-size}
use Rattle.whole.proofs.MoveLaws.{forward-base, forward-count, forward-has, forward-monitors, forward-octets}
use Rattle.claims.specs.Run.{Takes, AllTake, run}
use Rattle.claims.specs.AtRest.{Sound}
use Rattle.claims.specs.ThreeSends.{sends, sends_of as sends_before}
use Rattle.claims.proofs.Calls.{call-sound, started-sound}
use Rattle.promises.specs.Run.{Held, old, new, Step, call, forward, back, records_of, stepped, through, StepTakes, AllStepsTake, calls_of, FromStart, HeldMade}
use Rattle.promises.specs.Whole.{WholeSound, HeldSound, HeldNeverStuck, BaseCall, BaseCalls, BaseRuns, BaseMade, BaseReported}
use Rattle.promises.specs.Through.{sends_of}
use Rattle.promises.proofs.Whole.{whole-call, base-call, whole-started, start-done, start-leaves}

-- ---- a table moved forward

forward-sound : (t : List ℕ) → Sound t → WholeSound (moved_forward t)
forward-sound t s =
    let e = s.ranged in record {
      ranged = forward-has t e;
      octets = forward-octets t e s.octets;
      base = subst Sound (sym (forward-base t e)) s;
      rest = λ i h.
          let is = forward-monitors t e i (rw (forward-count t e) at h) in
          (λ k. watching (port_at (forward-base t e k) i) (is k)) ∙ watching-twice (port_at t i) both_begun ∙ sym is;
    }

-- ---- no table is of both forms

apart : (w : List ℕ) → table_in_range w ≡ true → has_monitors w ≡ true → ⊥
apart w e has =
    let short = (in_range w e).size in
    let some = (in_range w e).least in
    let long = whole-size w has in
    omega (arith, short, some, long)

pub not-old : (w : List ℕ) → has_monitors w ≡ true → table_in_range w ≡ false
not-old w has = by (table_in_range w) refl
  where
    by : (b : Bool) → table_in_range w ≡ b → b ≡ false
    by true e = absurd (apart w e has)
    by false e = refl

not_new : (t : List ℕ) → table_in_range t ≡ true → has_monitors t ≡ false
not_new t e = by (has_monitors t) refl
  where
    by : (b : Bool) → has_monitors t ≡ b → b ≡ false
    by true has = absurd (apart t e has)
    by false has = refl

-- ---- what a move leaves

pub went-forward : (t u : List ℕ) → goes_forward t u ≡ true → stepped (forward u) (old t) ≡ new (moved_forward t)
unfolding stepped forward_answer forward_to
went-forward t u e = rw e

pub stood_forward : (t u : List ℕ) → goes_forward t u ≡ false → stepped (forward u) (old t) ≡ old t
unfolding stepped forward_answer
stood_forward t u e = rw e

pub new-forward : (w u : List ℕ) → has_monitors w ≡ true → stepped (forward u) (new w) ≡ new w
unfolding stepped forward_answer
new-forward w u has = rw (not-old w has)

pub old-back : (t u : List ℕ) → table_in_range t ≡ true → stepped (back u) (old t) ≡ old t
unfolding stepped back_answer
old-back t u e = rw (not_new t e)

pub went_back : (w u : List ℕ) → goes_back w u ≡ true → stepped (back u) (new w) ≡ old (base_of w)
unfolding stepped back_answer back_to
went_back w u e = rw e

pub stood_back : (w u : List ℕ) → goes_back w u ≡ false → stepped (back u) (new w) ≡ new w
unfolding stepped back_answer
stood_back w u e = rw e

-- ---- each step

-- a sound table, with the records that these calls leave
pub record Goes (h k : Held) (cs : List Call) : Type 0 where
  pub sound : HeldSound k
  pub records : records_of k ≡ run (records_of h) cs

same : (h : Held) → HeldSound h → Goes h h []
unfolding run
same h s = record { sound = s; records = refl }

module _ (h : Held) where
  led : (k l : Held) → l ≡ k → Goes h k [] → Goes h l []
  led k l e = subst (λ (x : Held). Goes h x []) (sym e)

pub step-goes : (s : Step) → StepTakes s → (h : Held) → HeldSound h → Goes h (stepped s h) (calls_of (s ∷ []))
unfolding stepped run
step-goes (call c) k (old t) s = record { sound = call-sound t s c k; records = refl }
step-goes (call c) k (new w) s = record { sound = whole-call w s c k; records = (base-call w s c k).leaves }
step-goes (forward u) k (old t) s = by (goes_forward t u) refl
  where
    by : (b : Bool) → goes_forward t u ≡ b → Goes (old t) (stepped (forward u) (old t)) []
    by true e = led (old t) (new (moved_forward t)) (stepped (forward u) (old t)) (went-forward t u e) (record { sound = forward-sound t s; records = forward-base t s.ranged })
    by false e = led (old t) (old t) (stepped (forward u) (old t)) (stood_forward t u e) (same (old t) s)
step-goes (forward u) k (new w) s = led (new w) (new w) (stepped (forward u) (new w)) (new-forward w u s.ranged) (same (new w) s)
step-goes (back u) k (old t) s = led (old t) (old t) (stepped (back u) (old t)) (old-back t u s.ranged) (same (old t) s)
step-goes (back u) k (new w) s = by (goes_back w u) refl
  where
    by : (b : Bool) → goes_back w u ≡ b → Goes (new w) (stepped (back u) (new w)) []
    by true e = led (new w) (old (base_of w)) (stepped (back u) (new w)) (went_back w u e) (record { sound = s.base; records = refl })
    by false e = led (new w) (new w) (stepped (back u) (new w)) (stood_back w u e) (same (new w) s)

-- ---- and so each run

run_join : (t : List ℕ) (cs ds : List Call) → run t (cs ++ ds) ≡ run (run t cs) ds
unfolding run
run_join t [] ds = refl
run_join t (c ∷ cs) ds = run_join (after c t) cs ds

calls-first : (s : Step) (ss : List Step) → calls_of (s ∷ ss) ≡ calls_of (s ∷ []) ++ calls_of ss
calls-first (call c) ss = refl
calls-first (forward u) ss = refl
calls-first (back u) ss = refl

pub steps-go : (h : Held) → HeldSound h → (ss : List Step) → AllStepsTake ss → Goes h (through h ss) (calls_of ss)
unfolding through
steps-go h s [] k = same h s
steps-go h s (x ∷ ss) k =
    let first = step-goes x k.0 h s in
    let rest = steps-go (stepped x h) first.sound ss k.1 in
    record {
      sound = rest.sound;
      records =
          rest.records ∙ ap (λ (t : List ℕ). run t (calls_of ss)) first.records ∙ sym (run_join (records_of h) (calls_of (x ∷ [])) (calls_of ss))
          ∙ ap (λ (cs : List Call). run (records_of h) cs) (sym (calls-first x ss));
    }

-- calls take what the steps take
pub calls-take : (ss : List Step) → AllStepsTake ss → AllTake (calls_of ss)
calls-take [] k = tt
calls-take (call c ∷ ss) k = (k.0, calls-take ss k.1)
calls-take (forward u ∷ ss) k = calls-take ss k.1
calls-take (back u ∷ ss) k = calls-take ss k.1

-- ---- a run from a start

-- the table that a start leaves is sound, and its records are what a start of `control` leaves, on some memory
pub record Started (h : Held) : Type 0 where
  pub sound : HeldSound h
  pub memory : List ℕ
  pub octets : Octets memory
  pub count : ℕ
  pub system : SystemId
  pub delay : TensOfMicroseconds
  pub settings : Settings
  pub takes : Takes (start count system delay settings)
  pub starts : accepted (answer (start count system delay settings) memory) ≡ true
  pub leaves : after (start count system delay settings) memory ≡ records_of h

unfoldable pub started : (h : Held) (c : Call) (ss : List Step) → FromStart h c ss → Started (stepped (call c) h)
unfolding stepped
started (old m) (start count system delay x) ss f = record {
  sound =
      subst Sound (sym (after-accepted m (start count system delay x) f.accepted)) (started-sound m count system delay x f.takes.0 f.accepted);
  memory = m;
  octets = f.octets;
  count = count;
  system = system;
  delay = delay;
  settings = x;
  takes = f.takes.0;
  starts = f.accepted;
  leaves = refl;
}
started (new m) (start count system delay x) ss f =
    let o = f.octets in
    let k = f.takes.0 in
    let e = f.accepted in
    record {
      sound = whole-started m o count system delay x k e;
      memory = take (place count) m;
      octets = take-octets (place count) m o;
      count = count;
      system = system;
      delay = delay;
      settings = x;
      takes = k;
      starts = start-done m o count system delay x k e;
      leaves = sym (start-leaves m o count system delay x k e);
    }
started h (receive n frame out) ss f = absurd (false≢true f.is_start)
started h tick ss f = absurd (false≢true f.is_start)
started h (line n l) ss f = absurd (false≢true f.is_start)
started h (configure n x) ss f = absurd (false≢true f.is_start)
started h (fetch n out) ss f = absurd (false≢true f.is_start)
started h (report n) ss f = absurd (false≢true f.is_start)
started h (aggregator k) ss f = absurd (false≢true f.is_start)
started h due ss f = absurd (false≢true f.is_start)

pub start-sound : (h : Held) (c : Call) (ss : List Step) → FromStart h c ss → HeldSound (stepped (call c) h)
start-sound h c ss f = (started h c ss f).sound

-- the rest of a run, from there
module _ (h : Held) (m : HeldMade h) where
  from-here : Started (stepped (call m.start) m.memory)
  from-here = started m.memory m.start m.steps m.run

  gone : Goes (stepped (call m.start) m.memory) h (calls_of m.steps)
  unfolding through
  gone =
      subst (λ (x : Held). Goes (stepped (call m.start) m.memory) x (calls_of m.steps)) m.gives
      (steps-go (stepped (call m.start) m.memory) from-here.sound m.steps m.run.takes.1)

pub held-never_stuck : HeldNeverStuck
held-never_stuck h m = (gone h m).sound

pub base-made : BaseMade
base-made h m =
    let b = from-here h m in record {
      memory = b.memory;
      octets = b.octets;
      count = b.count;
      system = b.system;
      delay = b.delay;
      settings = b.settings;
      takes = b.takes;
      starts = b.starts;
      calls = calls_of m.steps;
      all_take = calls-take m.steps m.run.takes.1;
      gives = ap (λ (t : List ℕ). run t (calls_of m.steps)) b.leaves ∙ sym (gone h m).records;
    }

-- by the calls of the run, and so with its sends
pub sends-alike : (h : Held) (m : HeldMade h) (n : ℕ) → sends_before (base-made h m) n ≡ sends_of m n
unfolding base-made
sends-alike h m n = ap (λ (t : List ℕ). sends n t (calls_of m.steps) []) (from-here h m).leaves

pub base-runs : BaseRuns
base-runs h m ss k = (steps-go h (held-never_stuck h m) ss k).records

-- the records of a sound table are sound
pub records-sound : (h : Held) → HeldSound h → Sound (records_of h)
records-sound (old t) s = s
records-sound (new w) s = s.base

pub sound-call : (h : Held) → HeldSound h → (c : Call) → Takes c → BaseCall c h
unfolding stepped
sound-call (old t) s c k = record { answers = refl; leaves = refl; sends = refl }
sound-call (new w) s c k = base-call w s c k

pub base-calls : BaseCalls
base-calls h m c k = sound-call h (held-never_stuck h m) c k

-- a start makes a table, and so does a step on one
pub made-by-start : (h : Held) (c : Call) → FromStart h c [] → HeldMade (stepped (call c) h)
unfolding through
made-by-start h c f = record { memory = h; start = c; steps = []; run = f; gives = refl }

through-more : (h : Held) (ss : List Step) (s : Step) → through h (ss ++ (s ∷ [])) ≡ stepped s (through h ss)
unfolding through
through-more h [] s = refl
through-more h (x ∷ ss) s = through-more (stepped x h) ss s

all_more : (ss : List Step) (s : Step) → AllStepsTake ss → StepTakes s → AllStepsTake (ss ++ (s ∷ []))
all_more [] s a k = (k, tt)
all_more (x ∷ ss) s a k = (a.0, all_more ss s a.1 k)

pub made-by-step : (h : Held) → HeldMade h → (s : Step) → StepTakes s → HeldMade (stepped s h)
made-by-step h m s k = record {
  memory = m.memory;
  start = m.start;
  steps = m.steps ++ (s ∷ []);
  run = record {
    octets = m.run.octets;
    is_start = m.run.is_start;
    accepted = m.run.accepted;
    takes = (m.run.takes.0, all_more m.steps s m.run.takes.1 k);
  };
  gives = through-more m.memory (call m.start ∷ m.steps) s ∙ ap (stepped s) m.gives;
}

-- ---- reports

pub base-reported : BaseReported
unfolding whole_aggregator whole_due
base-reported w m = let has = (held-never_stuck (new w) m).ranged in record { aggregators = λ k. rw has; due = rw has }
