-- Churn detection (43.4.17, figures 43-15 and 43-16): one machine over link and Synchronization, which watches the actor's and the partner's alike.
use Rattle.std.specs.Prelude.{ℕ, Bool, true, false, Option, Some, None}
use Rattle.machine.specs.declared.states.Ticks.{Ticks}
use Rattle.machine.specs.Count.{counted}
use Rattle.machine.specs.States.{ticks}
use Rattle.machine.specs.Time.{ran_out, fallen}
use Rattle.port.specs.declared.record.Port.{Port}
use Rattle.churn.specs.declared.watch.Churn.{Churn as State}
use Rattle.churn.specs.declared.watch.Churn.TheVariants.{NoChurn, Monitor, Churn}
use Rattle.churn.specs.declared.watch.Watch.{Watch}
use Rattle.churn.specs.declared.watch.Monitors.{Monitors}

-- Churn_Detection_Time (43.4.4), of the actor and of the partner
abbrev pub churn_detection_time : ℕ
churn_detection_time = 600

abbrev pub watch : State → Ticks → ℕ → Watch
watch s t n = record { state = s; timer = t; count = n }

abbrev pub monitors : Watch → Watch → Monitors
monitors a p = record { actor = a; partner = p }

-- the transitions, as the state that is entered, if any, by link, Synchronization and the timer: MONITOR is entered wherever the machine is while the link is down, and Synchronization goes before expiry
abbrev pub churn_next : Bool → State → Bool → Bool → Option State
churn_next false s sync out = Some Monitor
churn_next true NoChurn true out = None
churn_next true NoChurn false out = Some Monitor
churn_next true Monitor true out = Some NoChurn
churn_next true Monitor false true = Some Churn
churn_next true Monitor false false = None
churn_next true Churn true out = Some NoChurn
churn_next true Churn false out = None

-- the actions on entry: a timer belongs to MONITOR alone, and CHURN, which is the churn flag, counts
abbrev pub churn_entered : State → Watch → Watch
churn_entered NoChurn w = watch NoChurn (ticks 0) w.count
churn_entered Monitor w = watch Monitor (ticks churn_detection_time) w.count
churn_entered Churn w = watch Churn (ticks 0) (counted w.count)

abbrev pub churn_taken : Option State → Watch → Watch
churn_taken None w = w
churn_taken (Some s) w = churn_entered s w

unfoldable pub churn_choice : Bool → Bool → Watch → Option State
churn_choice up sync w = churn_next up w.state sync (ran_out w.timer)

-- a run of the machine; one step leads to rest (law `watched-twice`)
unfoldable pub watched : Bool → Bool → Watch → Watch
watched up sync w = churn_taken (churn_choice up sync w) w

-- both, after step 6, on what then stands of a port
unfoldable pub watching : Port → Monitors → Monitors
watching p m =
    monitors (watched p.line.up p.actor.synchronization m.actor) (watched p.line.up p.partner.state.synchronization m.partner)

-- step 1 of a tick: the timers fall
abbrev pub watch_fallen : Watch → Watch
watch_fallen w = watch w.state (fallen w.timer) w.count

unfoldable pub monitors_fallen : Monitors → Monitors
monitors_fallen m = monitors (watch_fallen m.actor) (watch_fallen m.partner)

-- what a start begins with (BEGIN): MONITOR, and no churn counted
abbrev pub begun : Watch
begun = watch Monitor (ticks churn_detection_time) 0

abbrev pub both_begun : Monitors
both_begun = monitors begun begun
