-- The octets of a port's two monitors, both ways, and their ranges.
use Rattle.std.specs.Prelude.{ℕ, Bool, cond, ◌&&◌, List, ◌∷◌, ◌++◌, get_or, eqb, leb, ltb}
use Rattle.octets.specs.Octets.{number_at, number_octets, long_at, long_octets}
use Rattle.machine.specs.States.{ticks}
use Rattle.churn.specs.declared.watch.Churn.{Churn as State}
use Rattle.churn.specs.declared.watch.Churn.TheVariants.{NoChurn, Monitor, Churn}
use Rattle.churn.specs.declared.watch.Watch.{Watch}
use Rattle.churn.specs.declared.watch.Monitors.{Monitors}
use Rattle.churn.specs.Churn.{churn_detection_time, watch, monitors}

-- the octets of a group
abbrev pub group_size : ℕ
group_size = 14

-- the number of each state; beside a refusal stands the first
abbrev pub churn_code : State → ℕ
churn_code NoChurn = 0
churn_code Monitor = 1
churn_code Churn = 2

abbrev pub churn_of : ℕ → State
churn_of n = cond (eqb n 1) Monitor (cond (eqb n 2) Churn NoChurn)

-- octets 0 and 1: the states, the actor's first; 2 to 5: the timers; 6 to 13: the counts
unfoldable pub group_octets : Monitors → List ℕ
group_octets m =
    churn_code m.actor.state
    ∷ (churn_code m.partner.state
    ∷ (number_octets m.actor.timer.0
    ++ (number_octets m.partner.timer.0 ++ (long_octets m.actor.count ++ long_octets m.partner.count))))

unfoldable pub group_of : List ℕ → Monitors
group_of l =
    monitors (watch (churn_of (get_or l 0 0)) (ticks (number_at l 2)) (long_at l 6)) (watch (churn_of (get_or l 1 0)) (ticks (number_at l 4)) (long_at l 10))

-- answer 1's ranges: a state's code, a timer of at most its time, any count
unfoldable pub group_in_range : List ℕ → Bool
group_in_range l =
    leb (get_or l 0 0) 2 && (leb (get_or l 1 0) 2 && (leb (number_at l 2) churn_detection_time && leb (number_at l 4) churn_detection_time))

-- and of the values
abbrev pub watch_fits : Watch → Bool
watch_fits w = leb w.timer.0 churn_detection_time && ltb w.count 4294967296

unfoldable pub monitors_fit : Monitors → Bool
monitors_fit m = watch_fits m.actor && watch_fits m.partner
