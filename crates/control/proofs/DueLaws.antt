-- A port is in the set of those that have something to send exactly if its fetch, lent room for a frame, would be accepted: in a table by the
-- port's record, beyond its ports and in other memory never. Assumes nothing.
use Prim.Native.Nat.{ℕ, ◌+◌, ◌-◌, ◌<◌, ◌≤◌}
use mathlib.Core.Path.{◌≡◌, refl, sym, ap, ◌∙◌}
use mathlib.Core.Logic.{inr}
use mathlib.Core.Bool.{Bool, true, false, cond}
use mathlib.Core.List.{List}
use native.Mathlib.Omega.{arith}
use lib.Dec.{ltb}
use lib.ListN.{length}
use borrow.Author.Tests.{ltb-true, ltb-false}
use Rattle.octets.specs.Octets.{Octets}
use Rattle.octets.specs.Sets.{member}
use Rattle.octets.proofs.SetLaws.{none-member}
use Rattle.std.specs.Prelude.{Result, Ok, Err}
use Rattle.port.specs.declared.transmit.Undue.{Undue}
use Rattle.port.specs.declared.transmit.Undue.TheVariants.{Nothing, Barred}
use Rattle.port.specs.Absent.{no_port}
use Rattle.port.specs.Transmit.{goes, is_due, due as dueOn}
use Rattle.report.specs.Sets.{set_of, due_of}
use Rattle.report.proofs.SetLaws.{set-member, set-member-beyond}
use Rattle.table.specs.Table.{table_in_range, count_in, ports, port_at, state_of, octets_of}
use Rattle.table.proofs.StoreLaws.{ports-length, ports-at}
use Rattle.table.proofs.TableLaws.{octets-back}
use Rattle.control.specs.declared.answer.Accepted.TheVariants.{Done}
use Rattle.control.specs.declared.answer.Reason.TheVariants as reason
use Rattle.control.specs.Answer.{Answer, on_port, with_room, due_answer}
use Rattle.control.specs.Accepted.{accepted}
use Rattle.control.specs.Call.{fetch, due}
use Rattle.control.specs.After.{answer, after, unless, effect}
use Rattle.control.specs.Report.{due_report, answered_with, ports_told}
use Rattle.control.proofs.RuleLaws.{table-first, number-second, number-passes, buffer-passes}

-- an LACPDU goes exactly where the fetch is accepted
goes-accepted : (k : Result (Unit {0}) Undue) → goes k ≡ accepted (due_answer k)
goes-accepted (Ok u) = refl
goes-accepted (Err Nothing) = refl
goes-accepted (Err Barred) = refl

module _ (t : List ℕ) (i : ℕ) (out : List ℕ) (room : 124 ≤ length out) where
  abbrev rest : Answer
  rest = with_room out (due_answer (dueOn (port_at t (i + 1 - 1))))

  -- in a table: a port of it, and none
  a-port : table_in_range t ≡ true → i < count_in t → member (set_of is_due (ports t)) i ≡ accepted (on_port t (i + 1) rest)
  unfolding is_due
  a-port r h =
      let same : i ≡ i + 1 - 1 = omega arith in
      set-member is_due (ports t) i no_port (rw ports-length h)
      ∙ ap is_due (ports-at t i no_port h)
      ∙ goes-accepted (dueOn (port_at t i))
      ∙ ap (λ (j : ℕ). accepted (due_answer (dueOn (port_at t j)))) same
      ∙ sym (ap accepted (number-passes t (i + 1) rest r (omega arith) (omega arith) ∙ buffer-passes out (due_answer (dueOn (port_at t (i + 1 - 1)))) room))

  no_port_lem : table_in_range t ≡ true → count_in t ≤ i → member (set_of is_due (ports t)) i ≡ accepted (on_port t (i + 1) rest)
  no_port_lem r h =
      set-member-beyond is_due (ports t) i (rw ports-length h)
      ∙ sym (ap accepted (number-second t (i + 1) rest r (inr (omega arith))))

  in_table : table_in_range t ≡ true → member (set_of is_due (ports t)) i ≡ accepted (on_port t (i + 1) rest)
  in_table r = by (ltb i (count_in t)) refl
    where
      by : (b : Bool) → ltb i (count_in t) ≡ b → member (set_of is_due (ports t)) i ≡ accepted (on_port t (i + 1) rest)
      by true e = a-port r (ltb-true i (count_in t) e)
      by false e = no_port_lem r (ltb-false i (count_in t) e)

  pub due-fetched : member (ports_told (due_report t)) i ≡ accepted (answer (fetch (i + 1) out) t)
  unfolding due_report answer due_of
  due-fetched = by (table_in_range t) refl
    where
      by : (b : Bool) → table_in_range t ≡ b → member (ports_told (answered_with (cond b (Ok Done) (Err reason.Table)) (set_of is_due (ports t)))) i ≡ accepted (on_port t (i + 1) rest)
      by true r = in_table r
      by false r = none-member i ∙ sym (ap accepted (table-first t (i + 1) rest r))

-- beside a refusal there is none
pub refused-due : (t : List ℕ) → table_in_range t ≡ false → ports_told (due_report t) ≡ 0
unfolding due_report answer
refused-due t e = rw e

-- the report leaves the table as it is
pub due-leaves : (t : List ℕ) → Octets t → after due t ≡ t
unfolding after answer effect
due-leaves t o = by (table_in_range t) refl
  where
    by : (b : Bool) → table_in_range t ≡ b → unless (cond b (Ok Done) (Err reason.Table)) t (octets_of (state_of t)) ≡ t
    by true e = octets-back t e o
    by false e = refl
