-- Markers of our own (43.5; M-102): a port asks for one with a time to wait, and awaits one at most.
use Rattle.std.specs.Prelude.{ℕ, ◌+◌, ◌%◌, Bool, true, false, cond}
use Rattle.machine.specs.declared.states.Ticks.{Ticks}
use Rattle.machine.specs.Count.{counted}
use Rattle.machine.specs.States.{ticks}
use Rattle.machine.specs.Time.{ran_out, fallen}
use Rattle.asks.specs.declared.ask.Outcome.{Outcome}
use Rattle.asks.specs.declared.ask.Outcome.TheVariants.{Nothing, Awaiting, Answered, TimedOut, Cancelled}
use Rattle.asks.specs.declared.ask.Ask.{Ask}

-- the longest time to wait
abbrev pub longest_wait : ℕ
longest_wait = 600

abbrev pub asking : Outcome → Ticks → ℕ → Ask
asking o t n = record { outcome = o; timer = t; number = n }

abbrev pub is_awaiting : Outcome → Bool
is_awaiting Nothing = false
is_awaiting Awaiting = true
is_awaiting Answered = false
is_awaiting TimedOut = false
is_awaiting Cancelled = false

-- a start: nothing was asked, and the first number is 0
abbrev pub never_asked : Ask
never_asked = asking Nothing (ticks 0) 0

-- a Marker goes out with the number that is next, to be awaited for n ticks
abbrev pub asked : ℕ → Ask → Ask
asked n a = asking Awaiting (ticks n) (counted a.number)

-- the number that it went with: the one before the next, in 32 bits
abbrev pub awaited : Ask → ℕ
awaited a = (a.number + 4294967295) % 4294967296

-- what is awaited comes to an end; the outcome stays until the next ask
unfoldable pub ended : Outcome → Ask → Ask
ended o a = cond (is_awaiting a.outcome) (asking o (ticks 0) a.number) a

-- a tick: the timer falls, and where it has run out a Marker that is awaited has timed out
unfoldable pub ask_fallen : Ask → Ask
ask_fallen a = cond (ran_out (fallen a.timer)) (ended TimedOut (asking a.outcome (fallen a.timer) a.number)) (asking a.outcome (fallen a.timer) a.number)
