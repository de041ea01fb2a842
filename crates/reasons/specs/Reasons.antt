-- What the two reports answer: 1 and 2 as a report of the port does, and C is told nothing beside a refusal. The records are those of the front.
use Rattle.std.specs.Prelude.{ℕ, ◌-◌, ◌≡◌, List, map, take, Result, Ok, Err, unwrap_or}
use Rattle.port.specs.Compared.{compared}
use Rattle.table.specs.Layout.{place}
use Rattle.table.specs.Table.{count_in, port_at, ports, ours}
use Rattle.control.specs.declared.answer.Reason.{Reason}
use Rattle.control.specs.Answer.{Answer, answer_number}
use Rattle.control.specs.Call.{report}
use Rattle.control.specs.After.{unless}
use Rattle.control.specs.Report.{answered_with}
use Rattle.asked.specs.Layer.{new_layer}
use Rattle.asked.specs.Asked.{front_of}
use Rattle.asked.specs.Calls.{asked_answer}
use Rattle.why.specs.declared.apart.Apart.{Apart}
use Rattle.why.specs.declared.cause.Why.{Why}
use Rattle.why.specs.Cause.{why_of, no_why, cause_number}
use Rattle.why.specs.Apart.{apart_of, nothing, apart_number}

-- header and records of a table; they are its first octets (law `records_are`)
abbrev pub records_in : List ℕ → List ℕ
records_in w = new_layer.records (front_of new_layer w)

abbrev pub first : List ℕ → List ℕ
first w = take (place (count_in w)) w

-- of a table of records alone
abbrev pub why_at : ℕ → List ℕ → Why
why_at n t = why_of (ports t) (port_at t (n - 1))

abbrev pub apart_at : ℕ → ℕ → List ℕ → Apart
apart_at n m t = apart_of (ours t) (map compared (ports t)) (n - 1) (m - 1)

-- the index of port n, from 0, or answers 1 and 2
unfoldable pub port_found : ℕ → List ℕ → Result ℕ Reason
port_found n w = answered_with (asked_answer new_layer (report n) w) (n - 1)

unfoldable pub why_report : ℕ → List ℕ → Result Why Reason
why_report n w = answered_with (asked_answer new_layer (report n) w) (why_at n (records_in w))

-- the first that is refused, if one is
abbrev pub answer_of_two : ℕ → ℕ → List ℕ → Answer
answer_of_two n m w = unless (asked_answer new_layer (report n) w) (asked_answer new_layer (report n) w) (asked_answer new_layer (report m) w)

unfoldable pub apart_report : ℕ → ℕ → List ℕ → Result Apart Reason
apart_report n m w = answered_with (answer_of_two n m w) (apart_at n m (records_in w))

-- ---- beside a refusal, nothing

abbrev pub why_told : Result Why Reason → Why
why_told (Ok why) = why
why_told (Err r) = no_why

abbrev pub apart_told : Result Apart Reason → Apart
apart_told (Ok apart) = apart
apart_told (Err r) = nothing

-- ---- a C function: the answer's number

-- the cause, the port that holds back, and the ticks; 0 for none
abbrev pub MeetsWhy : ℕ → List ℕ → ℕ → ℕ → ℕ → ℕ → Type 0
MeetsWhy port w n cause holder ticks =
    (n ≡ answer_number (why_report port w))
    × (cause ≡ cause_number (why_told (why_report port w)).cause)
    × (holder ≡ unwrap_or (why_told (why_report port w)).holder 0)
    × (ticks ≡ (why_told (why_report port w)).ticks)

abbrev pub MeetsApart : ℕ → ℕ → List ℕ → ℕ → ℕ → Type 0
MeetsApart p q w n reasons = (n ≡ answer_number (apart_report p q w)) × (reasons ≡ apart_number (apart_told (apart_report p q w)))
