-- What lies below: tables that know nothing of Markers of our own, and the calls on them. There are two, since tables have two forms (M-106): without monitors and with them.
use Rattle.std.specs.Prelude.{ℕ, List}
use Rattle.table.specs.Layout.{place}
use Rattle.churn.specs.Whole.{whole_size, base_of}
use Rattle.control.specs.Answer.{Answer}
use Rattle.control.specs.Call.{Call}
use Rattle.control.specs.After.{answer, after, outgoing}
use Rattle.whole.specs.Calls.{whole_answer, whole_after, whole_outgoing}

-- the octets of a table of so many ports; what a call answers, leaves and sends; and the header and records of a table
pub record Layer : Type 0 where
  pub size : ℕ → ℕ
  pub answers : Call → List ℕ → Answer
  pub leaves : Call → List ℕ → List ℕ
  pub sends : Call → List ℕ → List ℕ
  pub records : List ℕ → List ℕ

abbrev pub old_layer : Layer
old_layer = record { size = place; answers = answer; leaves = after; sends = outgoing; records = λ t. t }

abbrev pub new_layer : Layer
new_layer = record { size = whole_size; answers = whole_answer; leaves = whole_after; sends = whole_outgoing; records = base_of }
