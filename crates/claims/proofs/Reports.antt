-- The reports are the truth: a port report answers the record, and an aggregator report the sets of the records, of which the count and
-- the lowest are by the laws of sets. Assumes nothing.
use Prim.Native.Nat.{ℕ, ◌-◌, ◌<◌, ◌≤◌}
use mathlib.Core.Path.{◌≡◌, refl, ap, ◌∙◌}
use mathlib.Core.Bool.{Bool, true, false}
use mathlib.Core.List.{List, []}
use native.Mathlib.Omega.{arith}
use lib.ListN.{length}
use Rattle.std.specs.Prelude.{Ok, Err, MatchResult}
use Rattle.port.specs.declared.record.Port.{Port}
use Rattle.report.specs.Sets.{holds, attached_to, distributes_in, set_of, sets_of}
use Rattle.octets.specs.Sets.{member}
use Rattle.report.proofs.SetLaws.{set-member, set-member-beyond, set-count, none-lowest, lowest-least}
use Rattle.table.specs.Layout.{most_ports}
use Rattle.table.specs.Record.{decoded}
use Rattle.table.specs.Table.{table_in_range, count_in, ports, port_at}
use Rattle.table.proofs.StoreLaws.{ports-length, ports-at}
use Rattle.table.proofs.TableLaws.{in_range}
use Rattle.control.specs.Answer.{Answer}
use Rattle.control.specs.declared.answer.Accepted.{Accepted}
use Rattle.control.specs.declared.answer.Accepted.TheVariants.{Done}
use Rattle.control.specs.Call.{aggregator}
use Rattle.control.specs.After.{answer, unless}
use Rattle.port.specs.Absent.{no_port}
use Rattle.control.specs.Report.{port_report, answered_with, aggregator_report}
use Rattle.control.specs.Accepted.{accepted}
use Rattle.control.proofs.CallLaws.{in_table}
use Rattle.control.proofs.DueLaws.{due-fetched}
use Rattle.claims.specs.Reports.{PortTrue, SetsTrue, AggregatorTrue, DueTrue}

pub port-true : PortTrue
unfolding port_report
port-true t n e = ap (λ (a : Answer). unless a no_port (port_at t (n - 1))) e

module _ (t : List ℕ) (ranged : table_in_range t ≡ true) (k : ℕ) where
  few : length (ports t) ≤ 32
  few = let most : count_in t ≤ most_ports = (in_range t ranged).most in let size : length (ports t) ≡ count_in t = ports-length t in omega arith

  in_list : (i : ℕ) → i < count_in t → i < length (ports t)
  in_list i h = rw ports-length h

  at : (f : Port → Bool) (i : ℕ) → i < count_in t → member (set_of f (ports t)) i ≡ f (port_at t i)
  at f i h = set-member f (ports t) i (decoded []) (in_list i h) ∙ ap f (ports-at t i (decoded []) h)

  beyond : (f : Port → Bool) (i : ℕ) → count_in t ≤ i → member (set_of f (ports t)) i ≡ false
  beyond f i h = set-member-beyond f (ports t) i (rw ports-length h)

  sets_true : SetsTrue k t (sets_of k (ports t))
  unfolding sets_of
  sets_true = record {
    holding = λ i h. at (holds k) i h;
    attached = λ i h. at (attached_to k) i h;
    distributing = λ i h. at (distributes_in k) i h;
    nobody = λ i h. (beyond (holds k) i h, beyond (attached_to k) i h, beyond (distributes_in k) i h);
    count = set-count (distributes_in k) (ports t);
    none = λ f. none-lowest (distributes_in k) (ports t) (decoded [])
        (λ i h. let below : i < count_in t = rw ports-length at h in ap (distributes_in k) (ports-at t i (decoded []) below) ∙ f i below);
    least = λ i h e f. lowest-least (distributes_in k) (ports t) i (decoded []) few (in_list i h)
        (ap (distributes_in k) (ports-at t i (decoded []) h) ∙ e)
        (λ j g. let below : j < count_in t = omega arith in ap (distributes_in k) (ports-at t j (decoded []) below) ∙ f j g);
  }

-- one that is accepted
pub told-true : (t : List ℕ) (k : ℕ) (a : Accepted) → answer (aggregator k) t ≡ Ok a → SetsTrue k t (sets_of k (ports t))
unfolding answer
told-true t k a e = sets_true t (in_table t k (Ok Done) (ap accepted e)) k

pub aggregator-true : AggregatorTrue
unfolding aggregator_report
aggregator-true t k = by (answer (aggregator k) t) refl
  where
    by : (a : Answer) → answer (aggregator k) t ≡ a
        → MatchResult (answered_with a (sets_of k (ports t))) (λ s. SetsTrue k t s) (λ r. answer (aggregator k) t ≡ Err r)
    by (Ok a) e = told-true t k a e
    by (Err r) e = e

pub due-true : DueTrue
due-true t i out room = due-fetched t i out room
