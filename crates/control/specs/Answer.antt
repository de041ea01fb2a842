-- The answers (R2): their numbers, and the tests in their order.
use Rattle.std.specs.Prelude.{ℕ, ◌-◌, Bool, cond, ◌&&◌, ◌||◌, List, length, ltb, Result, Ok, Err}
use Rattle.octets.specs.Octets.{within}
use Rattle.frame.specs.declared.class.Kind.TheVariants as kind
use Rattle.frame.specs.Class.{Class, refusal_number, frame_size}
use Rattle.machine.specs.declared.states.Line.{Line}
use Rattle.machine.specs.declared.states.Mux.{Mux}
use Rattle.machine.specs.Mux.{collects, distributes}
use Rattle.port.specs.declared.transmit.Undue.{Undue}
use Rattle.port.specs.declared.transmit.Undue.TheVariants as undue
use Rattle.settings.specs.declared.Settings.{Settings}
use Rattle.settings.specs.Settings.{lawful}
use Rattle.table.specs.Table.{table_in_range, is_room, count_in}
use Rattle.control.specs.declared.answer.Accepted.{Accepted}
use Rattle.control.specs.declared.answer.Accepted.TheVariants.{Done, Lacpdu, Marker}
use Rattle.control.specs.declared.answer.Reason.{Reason}
use Rattle.control.specs.declared.answer.Reason.TheVariants as reason

-- what a call answers: that it was accepted, and how, or why it was refused
abbrev pub Answer : Type 0
Answer = Result Accepted Reason

-- ---- what each answer is on paper

abbrev pub reason_number : Reason → ℕ
reason_number reason.Table = 1
reason_number reason.Number = 2
reason_number reason.Buffer = 3
reason_number reason.Default = 4
reason_number reason.Disabled = 5
reason_number (reason.Frame r) = refusal_number r
reason_number reason.NotCollecting = 9
reason_number reason.NothingToSend = 10
reason_number reason.Barred = 11
reason_number reason.Response = 12

-- the number of a result is 0, or that of the reason beside it
abbrev pub number_by : {A E : Type 0} → (E → ℕ) → Result A E → ℕ
number_by number (Ok a) = 0
number_by number (Err r) = number r

-- the answer number
abbrev pub answer_number : {A : Type 0} → Result A Reason → ℕ
answer_number = number_by reason_number

-- how many octets there are to be sent for a received frame (R2.19)
abbrev pub length_sent : Answer → ℕ
length_sent (Ok Done) = 0
length_sent (Ok Lacpdu) = 0
length_sent (Ok Marker) = frame_size
length_sent (Err r) = 0

-- ---- the tests

-- 1: what a call on the whole table tests
abbrev pub on_table : List ℕ → Answer
on_table t = cond (table_in_range t) (Ok Done) (Err reason.Table)

-- R2.2: whether a port, and so an aggregator, has this number
abbrev pub is_number : List ℕ → ℕ → Bool
is_number t n = within 1 n (count_in t)

-- 1, then 2: what every call on a port tests first; `rest` is the answer where both pass
abbrev pub on_port : List ℕ → ℕ → Answer → Answer
on_port t n rest = cond (table_in_range t) (cond (is_number t n) rest (Err reason.Number)) (Err reason.Table)

-- what the code finds by these two tests: a refusal, or the port's place in the table, from 0
unfoldable pub found : List ℕ → ℕ → Result ℕ Reason
found t n = cond (table_in_range t) (cond (is_number t n) (Ok (n - 1)) (Err reason.Number)) (Err reason.Table)

-- R2.3: `rest` is the answer where there is room for a frame
abbrev pub with_room : List ℕ → Answer → Answer
with_room out rest = cond (ltb (length out) frame_size) (Err reason.Buffer) rest

-- R2.4: `rest` is the answer where the default block is lawful
abbrev pub with_default : Settings → Answer → Answer
with_default s rest = cond (lawful s) rest (Err reason.Default)

-- what the frame tests say; then R2.5 of an LACPDU, R2.9 of a Marker, R2.12 of a Response
abbrev pub frame_answer : Class → Line → Mux → Answer
frame_answer (Ok kind.Lacpdu) l m = cond (l.up && l.full) (Ok Lacpdu) (Err reason.Disabled)
frame_answer (Ok kind.Marker) l m = cond (collects m || distributes m) (Ok Marker) (Err reason.NotCollecting)
frame_answer (Ok kind.Response) l m = Err reason.Response
frame_answer (Err r) l m = Err (reason.Frame r)

-- 10, then 11
abbrev pub undue_reason : Undue → Reason
undue_reason undue.Nothing = reason.NothingToSend
undue_reason undue.Barred = reason.Barred

abbrev pub due_answer : Result (Unit {0}) Undue → Answer
due_answer (Ok u) = Ok Done
due_answer (Err u) = Err (undue_reason u)

-- R2.15: a start looks at the count and at the size
abbrev pub start_answer : List ℕ → ℕ → Settings → Answer
start_answer t count s = cond (is_room t count) (with_default s (Ok Done)) (Err reason.Table)
