-- The call that asks for a Marker on a port (43.5.3.2; M-102): its tests in their order, the frame, and what the port awaits then.
use Rattle.std.specs.Prelude.{ℕ, ◌-◌, cond, List, ◌++◌, length, ltb, Result, Ok, Err}
use Rattle.octets.specs.Octets.{within}
use Rattle.frame.specs.Class.{frame_size}
use Rattle.frame.specs.Wire.{marker}
use Rattle.frame.specs.declared.wire.MarkerType.TheVariants as kind
use Rattle.machine.specs.Mux.{distributes}
use Rattle.table.specs.Table.{port_at, ours}
use Rattle.work.specs.Work.{written_over}
use Rattle.asks.specs.Ask.{longest_wait, is_awaiting, asked}
use Rattle.asks.specs.Groups.{ask_at}
use Rattle.control.specs.declared.answer.Reason.TheVariants as reason
use Rattle.control.specs.Answer.{Answer, reason_number, number_by}
use Rattle.control.specs.Call.{report}
use Rattle.asked.specs.declared.said.AskRefusal.{AskRefusal}
use Rattle.asked.specs.declared.said.AskRefusal.TheVariants as refusal
use Rattle.asked.specs.Layer.{Layer}
use Rattle.asked.specs.Asked.{front_of, groups_of, has_asks, with_ask, request_of}

-- what an ask answers: that it was accepted, or why it was refused
abbrev pub Said : Type 0
Said = Result (Unit {0}) AskRefusal

-- the answer numbers
abbrev pub ask_number : AskRefusal → ℕ
ask_number (refusal.Plain r) = reason_number r
ask_number refusal.Wait = 4
ask_number refusal.NotDistributing = 13
ask_number refusal.Awaiting = 14

abbrev pub said_number : Said → ℕ
said_number = number_by ask_number

-- what came before where the ask is refused, and otherwise what comes then
abbrev pub unless_said : {A : Type 0} → Said → A → A → A
unless_said (Ok u) before then = then
unless_said (Err r) before then = before

-- 1 and 2, as a report of the port says them; `rest` is the answer where both pass
abbrev pub after_report : Answer → Said → Said
after_report (Ok a) rest = rest
after_report (Err r) rest = Err (refusal.Plain r)

-- then 3, 4, 13 and 14, on front f with groups g
abbrev pub ask_tests : Layer → ℕ → ℕ → List ℕ → List ℕ → List ℕ → Said
ask_tests L n wait out f g =
    after_report (L.answers (report n) f)
    (cond (ltb (length out) frame_size) (Err (refusal.Plain reason.Buffer))
    (cond (within 1 wait longest_wait)
    (cond (distributes (port_at (L.records f) (n - 1)).phase.mux)
    (cond (is_awaiting (ask_at g (n - 1)).outcome) (Err refusal.Awaiting) (Ok tt))
    (Err refusal.NotDistributing))
    (Err refusal.Wait)))

unfoldable pub ask_answer : Layer → ℕ → ℕ → List ℕ → List ℕ → Said
ask_answer L n wait out m = cond (has_asks L m) (ask_tests L n wait out (front_of L m) (groups_of L m)) (Err (refusal.Plain reason.Table))

-- the port awaits it for so many ticks; nothing else is touched
unfoldable pub ask_after : Layer → ℕ → ℕ → List ℕ → List ℕ → List ℕ
ask_after L n wait out m =
    unless_said (ask_answer L n wait out m) m (front_of L m ++ with_ask (n - 1) (asked wait (ask_at (groups_of L m) (n - 1))) (groups_of L m))

-- the Marker, from the port's own address: the port's number, the table's system address, and the number that is next
abbrev pub marker_for : List ℕ → List ℕ → ℕ → List ℕ
marker_for t g n =
    marker (port_at t (n - 1)).own.address kind.Marker (request_of n (ours t).system.address (ask_at g (n - 1)).number)

unfoldable pub ask_outgoing : Layer → ℕ → ℕ → List ℕ → List ℕ → List ℕ
ask_outgoing L n wait out m =
    unless_said (ask_answer L n wait out m) out (written_over (marker_for (L.records (front_of L m)) (groups_of L m) n) out)
