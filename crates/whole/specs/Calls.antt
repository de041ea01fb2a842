-- The calls on a table with its monitors: each is the call on the table without them, and where that did steps 3 to 6, the machines of 43.4.17 then run on
-- what stands. So with the monitors dropped it is that call (promises: `base-calls`).
use Rattle.std.specs.Prelude.{ℕ, ◌-◌, Bool, false, cond, not, ◌&&◌, List, ◌++◌, length, take, drop, eqb, Result, Ok, Err}
use Rattle.octets.specs.Octets.{within}
use Rattle.machine.specs.States.{same_line}
use Rattle.settings.specs.Settings.{same_settings}
use Rattle.table.specs.Layout.{place, most_ports}
use Rattle.table.specs.Table.{count_in, port_at}
use Rattle.churn.specs.declared.Stage.{Stage}
use Rattle.churn.specs.declared.Stage.TheVariants as stage
use Rattle.churn.specs.Whole.{whole_size, has_monitors, watched_all}
use Rattle.control.specs.Answer.{Answer}
use Rattle.control.specs.declared.answer.Reason.{Reason}
use Rattle.control.specs.declared.answer.Reason.TheVariants as reason
use Rattle.control.specs.Accepted.{accepted, is_lacpdu}
use Rattle.control.specs.Call.{Call, start, receive, tick, line, configure, fetch, report, aggregator, due}
use Rattle.control.specs.After.{answer, after, buffer_of, outgoing}

-- how many ports the memory is taken to have: a start says it, and otherwise the header does
abbrev pub count_for : Call → List ℕ → ℕ
count_for (start count system delay s) w = count
count_for (receive n frame out) w = count_in w
count_for tick w = count_in w
count_for (line n l) w = count_in w
count_for (configure n s) w = count_in w
count_for (fetch n out) w = count_in w
count_for (report n) w = count_in w
count_for (aggregator k) w = count_in w
count_for due w = count_in w

-- the table without monitors, and the rest of the memory
abbrev pub base_for : Call → List ℕ → List ℕ
base_for c w = take (place (count_for c w)) w

abbrev pub rest_for : Call → List ℕ → List ℕ
rest_for c w = drop (place (count_for c w)) w

-- memory of the size of a table of `count` ports with monitors
abbrev pub is_whole_room : List ℕ → ℕ → Bool
is_whole_room w count = within 1 count most_ports && eqb (length w) (whole_size count)

-- what a call asks of the memory beyond what it asks of the table without monitors: the size, and but for a start the monitors' ranges
abbrev pub has_room : Call → List ℕ → Bool
has_room (start count system delay s) w = is_whole_room w count
has_room (receive n frame out) w = has_monitors w
has_room tick w = has_monitors w
has_room (line n l) w = has_monitors w
has_room (configure n s) w = has_monitors w
has_room (fetch n out) w = has_monitors w
has_room (report n) w = has_monitors w
has_room (aggregator k) w = has_monitors w
has_room due w = has_monitors w

-- what the code finds by it: answer 1, or the octets of the table without monitors
unfoldable pub base_found : List ℕ → Result ℕ Reason
base_found w = cond (has_monitors w) (Ok (place (count_in w))) (Err reason.Table)

-- whether a call with this answer did steps 3 to 6 on table t
abbrev pub settles : Call → List ℕ → Answer → Bool
settles (start count system delay s) t a = accepted a
settles (receive n frame out) t a = is_lacpdu a
settles tick t a = accepted a
settles (line n l) t a = accepted a && not (same_line l (port_at t (n - 1)).line)
settles (configure n s) t a = accepted a && not (same_settings s (port_at t (n - 1)))
settles (fetch n out) t a = false
settles (report n) t a = false
settles (aggregator k) t a = false
settles due t a = false

-- what goes before the machines
abbrev pub stage_of : Call → Stage
stage_of (start count system delay s) = stage.Start
stage_of (receive n frame out) = stage.Other
stage_of tick = stage.Tick
stage_of (line n l) = stage.Other
stage_of (configure n s) = stage.Other
stage_of (fetch n out) = stage.Other
stage_of (report n) = stage.Other
stage_of (aggregator k) = stage.Other
stage_of due = stage.Other

abbrev pub watched_if : Bool → Stage → List ℕ → List ℕ
watched_if b s w = cond b (watched_all s w) w

-- ---- answer, table and buffer afterwards

unfoldable pub whole_answer : Call → List ℕ → Answer
whole_answer c w = cond (has_room c w) (answer c (base_for c w)) (Err reason.Table)

unfoldable pub whole_after : Call → List ℕ → List ℕ
whole_after c w =
    cond (has_room c w) (watched_if (settles c (base_for c w) (answer c (base_for c w))) (stage_of c) (after c (base_for c w) ++ rest_for c w)) w

unfoldable pub whole_outgoing : Call → List ℕ → List ℕ
whole_outgoing c w = cond (has_room c w) (outgoing c (base_for c w)) (buffer_of c)
