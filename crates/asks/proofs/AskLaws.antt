-- Laws of what a port asked for: what is awaited comes to an end at the last tick of its time at the latest; a group and its octets. Assumes nothing.
use Prim.Native.Nat.{ℕ, ◌+◌, ◌-◌, ◌≤◌, ◌<◌}
use mathlib.Core.Path.{◌≡◌, refl, sym, ap, ◌∙◌}
use mathlib.Core.Bool.{Bool, true, false, cond, ◌&&◌, false≢true}
use mathlib.Core.List.{List}
use native.Mathlib.Omega.{arith}
use lib.ListN.{get_or}
use lib.Dec.{leb, ltb}
use borrow.Author.Tests.{leb-true, le-leb, lt-ltb, eqb-false}
use Rattle.octets.specs.Octets.{Octets, number_at, long_at}
use Rattle.octets.proofs.Laws.{number-back}
use Rattle.octets.proofs.LongLaws.{long-back, long-fits}
use Rattle.octets.proofs.RangeLaws.{both, both_true}
use Rattle.machine.specs.declared.states.Ticks.{Ticks}
use Rattle.machine.specs.States.{ticks}
use Rattle.machine.specs.Count.{counted}
use Rattle.machine.specs.Time.{ran_out, fallen}
use Rattle.asks.specs.declared.ask.Outcome.{Outcome}
use Rattle.asks.specs.declared.ask.Outcome.TheVariants.{Nothing, Awaiting, Answered, TimedOut, Cancelled}
use Rattle.asks.specs.declared.ask.Ask.{Ask}
use Rattle.asks.specs.Ask.{longest_wait, asking, is_awaiting, never_asked, asked, awaited, ended, ask_fallen}
use Rattle.asks.specs.Group.{outcome_code, outcome_of, group_octets, group_of, group_in_range, ask_fits}

-- ---- ends

-- who still awaits after a tick did so before it, and has a tick less to wait, and one at least
pub record StillAwaits (a b : Ask) : Type 0 where
  pub before : is_awaiting a.outcome ≡ true
  pub less : b.timer.0 + 1 ≡ a.timer.0
  pub some : 1 ≤ b.timer.0

not_awaiting : (t : Ticks) (n : ℕ) (o : Outcome) → is_awaiting (ended TimedOut (asking o t n)).outcome ≡ false
unfolding ended
not_awaiting t n Nothing = refl
not_awaiting t n Awaiting = refl
not_awaiting t n Answered = refl
not_awaiting t n TimedOut = refl
not_awaiting t n Cancelled = refl

pub still-awaits : (a : Ask) → is_awaiting (ask_fallen a).outcome ≡ true → StillAwaits a (ask_fallen a)
unfolding ask_fallen
still-awaits a e = by (ran_out (fallen a.timer)) refl e
  where
    b : Ask
    b = asking a.outcome (fallen a.timer) a.number

    by : (out : Bool) → ran_out (fallen a.timer) ≡ out → is_awaiting (cond out (ended TimedOut b) b).outcome ≡ true → StillAwaits a (cond out (ended TimedOut b) b)
    by true r g = absurd (false≢true (sym (not_awaiting (fallen a.timer) a.number a.outcome) ∙ g))
    by false r g =
        let left = eqb-false (a.timer.0 - 1) 0 r in
        record { before = g; less = omega (arith, left); some = omega (arith, left) }

-- an end is one of the three, and stays until the next ask: a tick does not move it
pub ended-stays : (a : Ask) → is_awaiting a.outcome ≡ false → (ask_fallen a).outcome ≡ a.outcome
unfolding ask_fallen ended
ended-stays a e = by (ran_out (fallen a.timer))
  where
    by : (out : Bool) → (cond out (cond (is_awaiting a.outcome) (asking TimedOut (ticks 0) a.number) (asking a.outcome (fallen a.timer) a.number)) (asking a.outcome (fallen a.timer) a.number)).outcome ≡ a.outcome
    by true = rw e
    by false = refl

-- the number that a Marker goes with is the one that is awaited then
pub awaits_it : (n : ℕ) (a : Ask) → a.number < 4294967296 → awaited (asked n a) ≡ a.number
awaits_it n a h = omega (arith, h)

-- ---- a group and its octets

code-back : (o : Outcome) → outcome_of (outcome_code o) ≡ o
code-back Nothing = refl
code-back Awaiting = refl
code-back Answered = refl
code-back TimedOut = refl
code-back Cancelled = refl

pub group-back : (a : Ask) → group_of (group_octets a) ≡ a
unfolding group_of group_octets
group-back a = λ i. asking (code-back a.outcome i) (ticks (number-back a.timer.0 i)) (long-back a.number i)

code-small : (o : Outcome) → leb (outcome_code o) 4 ≡ true
code-small Nothing = refl
code-small Awaiting = refl
code-small Answered = refl
code-small TimedOut = refl
code-small Cancelled = refl

pub group-ranged : (a : Ask) → ask_fits a ≡ true → group_in_range (group_octets a) ≡ true
unfolding group_in_range group_octets ask_fits
group-ranged a e =
    let h = both (leb a.timer.0 longest_wait) (ltb a.number 4294967296) e in
    both_true (code-small a.outcome) (ap (λ (x : ℕ). leb x longest_wait) (number-back a.timer.0) ∙ h.0)

pub group-fits : (l : List ℕ) → Octets l → group_in_range l ≡ true → ask_fits (group_of l) ≡ true
unfolding group_in_range group_of ask_fits
group-fits l o e =
    let h = both (leb (get_or l 0 0) 4) (leb (number_at l 1) longest_wait) e in
    both_true h.1 (lt-ltb (long_at l 3) 4294967296 (long-fits l o 3))

-- ---- what is made is in range

pub never-fits : ask_fits never_asked ≡ true
unfolding ask_fits
never-fits = refl

pub asked-fits : (n : ℕ) (a : Ask) → n ≤ longest_wait → ask_fits (asked n a) ≡ true
unfolding ask_fits
asked-fits n a h = both_true (le-leb n longest_wait h) (lt-ltb (counted a.number) 4294967296 (omega arith))

pub ended-fits : (o : Outcome) (a : Ask) → ask_fits a ≡ true → ask_fits (ended o a) ≡ true
unfolding ask_fits ended
ended-fits o a e = by (is_awaiting a.outcome)
  where
    by : (b : Bool) → leb (cond b (asking o (ticks 0) a.number) a).timer.0 longest_wait && ltb (cond b (asking o (ticks 0) a.number) a).number 4294967296 ≡ true
    by true = (both (leb a.timer.0 longest_wait) (ltb a.number 4294967296) e).1
    by false = e

pub fallen-fits : (a : Ask) → ask_fits a ≡ true → ask_fits (ask_fallen a) ≡ true
unfolding ask_fallen
fallen-fits a e = by (ran_out (fallen a.timer))
  where
    b : Ask
    b = asking a.outcome (fallen a.timer) a.number

    fits : ask_fits b ≡ true
    fits = unfold ask_fits in
        let h = both (leb a.timer.0 longest_wait) (ltb a.number 4294967296) e in
        let t = leb-true a.timer.0 longest_wait h.0 in
        both_true (le-leb (a.timer.0 - 1) longest_wait (omega (arith, t))) h.1

    by : (out : Bool) → ask_fits (cond out (ended TimedOut b) b) ≡ true
    by true = ended-fits TimedOut b fits
    by false = fits
