-- What is awaited loses a tick of its time with each tick, and ends when none is left; the number goes up with each accepted ask and with nothing else. Assumes nothing.
use Prim.Native.Nat.{ℕ, ◌+◌, ◌-◌, ◌%◌, ◌≤◌}
use mathlib.Core.Path.{◌≡◌, refl, sym, ap, ◌∙◌}
use mathlib.Core.Bool.{Bool, true, false, cond, ◌&&◌, false≢true, true≢false}
use mathlib.Core.List.{List}
use native.Mathlib.Omega.{arith}
use lib.Dec.{eqb}
use Rattle.machine.specs.declared.states.Line.{Line}
use Rattle.table.specs.Table.{port_at}
use Rattle.machine.specs.States.{ticks}
use Rattle.machine.specs.Time.{ran_out, fallen}
use Rattle.asks.specs.declared.ask.Ask.{Ask}
use Rattle.asks.specs.declared.ask.Outcome.{Outcome}
use Rattle.asks.specs.declared.ask.Outcome.TheVariants.{Answered, TimedOut, Cancelled}
use Rattle.asks.specs.Ask.{asking, is_awaiting, never_asked, asked, ended, ask_fallen}
use Rattle.asks.proofs.AskLaws.{still-awaits}
use Rattle.control.specs.Accepted.{accepted}
use Rattle.control.specs.Call.{start, receive, tick, line, configure, fetch, report, aggregator, due}
use Rattle.asked.specs.Asked.{front_of, groups_of}
use Rattle.asked.specs.Calls.{is_ours, falls_from, asked_answer}
use Rattle.promises.specs.Run.{Held, memory_of, call, forward, back}
use Rattle.promises.specs.Asked.{layer_of, Deed, plain, ask, answer_to, said_to, agrees, ask_by}
use Rattle.promises.specs.Asks.{is_end, tick_of, starts_by, count_ask}

-- ---- one step of what is awaited

pub record OneStep (d : Deed) (h : Held) (a b : Ask) : Type 0 where
  pub awaits : is_awaiting b.outcome ≡ true → (b.timer.0 + tick_of d h ≡ a.timer.0) × (1 ≤ a.timer.0 → 1 ≤ b.timer.0)
  pub ends : is_awaiting b.outcome ≡ false → is_end b.outcome ≡ true

-- as it was, at a step that is no tick
stays : (d : Deed) (h : Held) (a : Ask) → is_awaiting a.outcome ≡ true → tick_of d h ≡ 0 → OneStep d h a a
stays d h a e z = record { awaits = λ f. (omega (arith, z), λ g. g); ends = λ f. absurd (true≢false (sym e ∙ f)) }

-- an end
ends_so : (d : Deed) (h : Held) (o : Outcome) (a : Ask) → is_awaiting a.outcome ≡ true → is_end o ≡ true → is_awaiting o ≡ false → OneStep d h a (ended o a)
unfolding ended
ends_so d h o a e end not_awaiting =
    let is : (ended o a).outcome ≡ o = rw e in
    record { awaits = λ f. absurd (false≢true (sym not_awaiting ∙ sym (ap is_awaiting is) ∙ f)); ends = λ f. ap is_end is ∙ end }

fallen_end : (a : Ask) → is_awaiting a.outcome ≡ true → is_awaiting (ask_fallen a).outcome ≡ false → is_end (ask_fallen a).outcome ≡ true
unfolding ask_fallen ended
fallen_end a e f = by (ran_out (fallen a.timer)) (is_awaiting a.outcome) e f
  where
    by : (x y : Bool) → y ≡ true
        → is_awaiting (cond x (cond y (asking TimedOut (ticks 0) a.number) (asking a.outcome (fallen a.timer) a.number)) (asking a.outcome (fallen a.timer) a.number)).outcome ≡ false
        → is_end (cond x (cond y (asking TimedOut (ticks 0) a.number) (asking a.outcome (fallen a.timer) a.number)) (asking a.outcome (fallen a.timer) a.number)).outcome ≡ true
    by true true p q = refl
    by true false p q = absurd (false≢true p)
    by false y p q = absurd (true≢false (sym e ∙ q))

-- a choice between two
choice : (d : Deed) (h : Held) (a x y : Ask) (b : Bool) → OneStep d h a x → OneStep d h a y → OneStep d h a (cond b x y)
choice d h a x y true p q = p
choice d h a x y false p q = q

tick-step : (h : Held) (a : Ask) → is_awaiting a.outcome ≡ true → OneStep (plain (call tick)) h a (cond (accepted (answer_to tick h)) (ask_fallen a) a)
tick-step h a e = by (accepted (answer_to tick h)) refl
  where
    by : (b : Bool) → accepted (answer_to tick h) ≡ b → OneStep (plain (call tick)) h a (cond b (ask_fallen a) a)
    by true t = record {
      awaits = λ f. let s = still-awaits a f in let less = s.less in let some = s.some in (rw t less, λ g. some);
      ends = λ f. fallen_end a e f;
    }
    by false t = record { awaits = λ f. (rw t (omega arith), λ g. g); ends = λ f. absurd (true≢false (sym e ∙ f)) }

-- whether a received frame, and a line call, ends what port i awaits
abbrev brought : ℕ → ℕ → List ℕ → List ℕ → Held → Bool
brought i n frame out h = eqb i (n - 1) && is_ours (layer_of h) (receive n frame out) (front_of (layer_of h) (memory_of h)) (groups_of (layer_of h) (memory_of h))

abbrev fell : ℕ → ℕ → Line → Held → Bool
fell i n l h =
    eqb i (n - 1) && (accepted (asked_answer (layer_of h) (line n l) (memory_of h)) && falls_from (port_at ((layer_of h).records (front_of (layer_of h) (memory_of h))) (n - 1)).line l)

-- a port that awaits is not asked again
pub one-step : (d : Deed) (h : Held) (i : ℕ) (a : Ask) → is_awaiting a.outcome ≡ true → starts_by d h ≡ false
    → ((n wait : ℕ) (out : List ℕ) → d ≡ ask n wait out → eqb i (n - 1) && agrees (said_to n wait out h) ≡ false) → OneStep d h a (ask_by i d h a)
one-step (plain (call (start count system delay s))) h i a e none busy = rw none (stays (plain (call (start count system delay s))) h a e refl)
one-step (plain (call (receive n frame out))) h i a e none busy =
    let d = plain (call (receive n frame out)) in choice d h a (ended Answered a) a (brought i n frame out h) (ends_so d h Answered a e refl refl) (stays d h a e refl)
one-step (plain (call tick)) h i a e none busy = tick-step h a e
one-step (plain (call (line n l))) h i a e none busy =
    let d = plain (call (line n l)) in choice d h a (ended Cancelled a) a (fell i n l h) (ends_so d h Cancelled a e refl refl) (stays d h a e refl)
one-step (plain (call (configure n s))) h i a e none busy = stays (plain (call (configure n s))) h a e refl
one-step (plain (call (fetch n out))) h i a e none busy = stays (plain (call (fetch n out))) h a e refl
one-step (plain (call (report n))) h i a e none busy = stays (plain (call (report n))) h a e refl
one-step (plain (call (aggregator k))) h i a e none busy = stays (plain (call (aggregator k))) h a e refl
one-step (plain (call due)) h i a e none busy = stays (plain (call due)) h a e refl
one-step (plain (forward u)) h i a e none busy = stays (plain (forward u)) h a e refl
one-step (plain (back u)) h i a e none busy = stays (plain (back u)) h a e refl
one-step (ask n wait out) h i a e none busy = rw (busy n wait out refl) (stays (ask n wait out) h a e refl)

-- ---- one step of the number

pub number_step : (d : Deed) (h : Held) (i : ℕ) (a : Ask) (k : ℕ) → a.number ≡ k % 4294967296 → (ask_by i d h a).number ≡ count_ask i d h k % 4294967296
unfolding ended ask_fallen
number_step (plain (call (start count system delay s))) h i a k e = by (accepted (answer_to (start count system delay s) h))
  where
    by : (b : Bool) → (cond b never_asked a).number ≡ cond b 0 k % 4294967296
    by true = refl
    by false = e
number_step (plain (call (receive n frame out))) h i a k e = by (brought i n frame out h) (is_awaiting a.outcome)
  where
    by : (x y : Bool) → (cond x (cond y (asking Answered (ticks 0) a.number) a) a).number ≡ k % 4294967296
    by true true = e
    by true false = e
    by false y = e
number_step (plain (call tick)) h i a k e = by (accepted (answer_to tick h)) (ran_out (fallen a.timer)) (is_awaiting a.outcome)
  where
    by : (x y z : Bool) → (cond x (cond y (cond z (asking TimedOut (ticks 0) a.number) (asking a.outcome (fallen a.timer) a.number)) (asking a.outcome (fallen a.timer) a.number)) a).number ≡ k % 4294967296
    by true true true = e
    by true true false = e
    by true false z = e
    by false y z = e
number_step (plain (call (line n l))) h i a k e = by (fell i n l h) (is_awaiting a.outcome)
  where
    by : (x y : Bool) → (cond x (cond y (asking Cancelled (ticks 0) a.number) a) a).number ≡ k % 4294967296
    by true true = e
    by true false = e
    by false y = e
number_step (plain (call (configure n s))) h i a k e = e
number_step (plain (call (fetch n out))) h i a k e = e
number_step (plain (call (report n))) h i a k e = e
number_step (plain (call (aggregator m))) h i a k e = e
number_step (plain (call due)) h i a k e = e
number_step (plain (forward u)) h i a k e = e
number_step (plain (back u)) h i a k e = e
number_step (ask n wait out) h i a k e = by (eqb i (n - 1) && agrees (said_to n wait out h))
  where
    by : (b : Bool) → (cond b (asked wait a) a).number ≡ cond b (k + 1) k % 4294967296
    by true = omega (arith, e)
    by false = e
