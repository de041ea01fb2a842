-- The octets of what a port asked for, both ways, and their ranges.
use Rattle.std.specs.Prelude.{ℕ, Bool, cond, ◌&&◌, List, ◌∷◌, ◌++◌, get_or, eqb, leb, ltb}
use Rattle.octets.specs.Octets.{number_at, number_octets, long_octets, long_at}
use Rattle.machine.specs.States.{ticks}
use Rattle.asks.specs.declared.ask.Outcome.{Outcome}
use Rattle.asks.specs.declared.ask.Outcome.TheVariants.{Nothing, Awaiting, Answered, TimedOut, Cancelled}
use Rattle.asks.specs.declared.ask.Ask.{Ask}
use Rattle.asks.specs.Ask.{longest_wait, asking}

-- the octets of a group
abbrev pub group_size : ℕ
group_size = 7

-- the number of each outcome; beside a refusal stands the first
abbrev pub outcome_code : Outcome → ℕ
outcome_code Nothing = 0
outcome_code Awaiting = 1
outcome_code Answered = 2
outcome_code TimedOut = 3
outcome_code Cancelled = 4

abbrev pub outcome_of : ℕ → Outcome
outcome_of n = cond (eqb n 1) Awaiting (cond (eqb n 2) Answered (cond (eqb n 3) TimedOut (cond (eqb n 4) Cancelled Nothing)))

-- octet 0: the outcome; 1 and 2: the timer; 3 to 6: the number of the next transaction
unfoldable pub group_octets : Ask → List ℕ
group_octets a = outcome_code a.outcome ∷ (number_octets a.timer.0 ++ long_octets a.number)

unfoldable pub group_of : List ℕ → Ask
group_of l = asking (outcome_of (get_or l 0 0)) (ticks (number_at l 1)) (long_at l 3)

-- answer 1's ranges: an outcome's code, a timer of at most the longest wait, any number
unfoldable pub group_in_range : List ℕ → Bool
group_in_range l = leb (get_or l 0 0) 4 && leb (number_at l 1) longest_wait

-- and of the values
unfoldable pub ask_fits : Ask → Bool
ask_fits a = leb a.timer.0 longest_wait && ltb a.number 4294967296
