-- A report of a port that is accepted has found it: the records are the first octets of the memory, in range, and the port is one of them. Assumes nothing.
use Prim.Native.Nat.{ℕ, ◌-◌, ◌≤◌}
use mathlib.Core.Path.{◌≡◌, refl, sym, ap, ◌∙◌}
use mathlib.Core.Bool.{Bool, true, false, cond, false≢true}
use mathlib.Core.List.{List}
use native.Mathlib.Omega.{arith}
use lib.ListN.{length, take}
use lib.Dec.{eqb}
use borrow.Author.Tests.{eqb-true}
use Rattle.octets.proofs.RangeLaws.{both}
use Rattle.table.specs.Layout.{place}
use Rattle.table.specs.Table.{count_in, InTable}
use Rattle.table.proofs.TableLaws.{in_range}
use Rattle.churn.specs.Whole.{whole_size}
use Rattle.asks.specs.Groups.{groups_in_range}
use Rattle.control.specs.Answer.{Answer}
use Rattle.control.specs.declared.answer.Reason.{Reason}
use Rattle.std.specs.Prelude.{Result, Ok, Err}
use Rattle.control.specs.declared.answer.Reason.TheVariants as reason
use Rattle.control.specs.Accepted.{accepted}
use Rattle.control.specs.Call.{report}
use Rattle.control.specs.After.{unless}
use Rattle.control.specs.Report.{answered_with}
use Rattle.whole.specs.Calls.{whole_answer}
use Rattle.whole.proofs.CallLaws.{given_back}
use Rattle.asked.specs.Layer.{new_layer}
use Rattle.asked.specs.Asked.{asked_size, groups_of, has_asks}
use Rattle.asked.specs.Calls.{asked_answer}
use Rattle.asked.proofs.AskLaws.{There, port-there}
use Rattle.asked.proofs.CallLaws.{base-is, base-count}
use Rattle.reasons.specs.Reasons.{records_in, first, why_at, apart_at, port_found, answer_of_two, why_report, apart_report}

pub records_are : (m : List ℕ) → records_in m ≡ first m
records_are m = base-is m (whole_size (count_in m)) (place (count_in m)) refl refl

pub record Found (m : List ℕ) (n : ℕ) : Type 0 where
  pub some : 1 ≤ n
  pub most : n ≤ count_in m
  pub few : count_in m ≤ 32
  pub long : place (count_in m) ≤ length m
  pub there : InTable (first m) (n - 1)

accepted-both : (x : Bool) (a : Answer) → accepted (cond x a (Err reason.Table)) ≡ true → (x ≡ true) × (accepted a ≡ true)
accepted-both true a e = (refl, e)
accepted-both false a e = absurd (false≢true e)

module _ (m : List ℕ) (n : ℕ) (e : accepted (asked_answer new_layer (report n) m) ≡ true) where
  parts : (has_asks new_layer m ≡ true) × (accepted (whole_answer (report n) (take (whole_size (count_in m)) m)) ≡ true)
  unfolding asked_answer
  parts = accepted-both (has_asks new_layer m) (whole_answer (report n) (take (whole_size (count_in m)) m)) e

  size : length m ≡ asked_size new_layer (count_in m)
  unfolding has_asks
  size = eqb-true (length m) (asked_size new_layer (count_in m)) (both (eqb (length m) (asked_size new_layer (count_in m))) (groups_in_range (count_in m) (groups_of new_layer m)) parts.0).0

  port : There n m (whole_size (count_in m)) (place (count_in m)) refl refl
  port = port-there n m (whole_size (count_in m)) (place (count_in m)) refl refl parts.1

  base : count_in (first m) ≡ count_in m
  base = base-count m (whole_size (count_in m)) (place (count_in m)) refl refl

  pub found : Found m n
  found =
      let r = in_range (first m) port.ranged in record {
        some = port.some;
        most = port.most;
        few = rw base at r.most;
        long = omega (arith, size);
        there = (port.ranged, rw base (omega (arith, port.some, port.most)));
      }

-- ---- what `?` finds

answered : {T A : Type 0} (a : Result T Reason) (x : A) → accepted a ≡ true → answered_with a x ≡ Ok x
answered (Ok b) x e = refl
answered (Err r) x e = absurd (false≢true e)

module _ (n : ℕ) (w : List ℕ) where
  -- the port, accepted
  pub found-ok : {i : ℕ} → port_found n w ≡ Ok i → (accepted (asked_answer new_layer (report n) w) ≡ true) × (i ≡ n - 1)
  unfolding port_found
  found-ok {i} e = by (asked_answer new_layer (report n) w) e
    where
      at : Result ℕ Reason → ℕ
      at (Ok j) = j
      at (Err r) = i

      by : (a : Answer) → answered_with a (n - 1) ≡ Ok i → (accepted a ≡ true) × (i ≡ n - 1)
      by (Ok a) e = (refl, sym (ap at e))
      by (Err r) e = absurd (false≢true (ap accepted e))

  -- or why it is refused
  pub found-err : {r : Reason} → port_found n w ≡ Err r → asked_answer new_layer (report n) w ≡ Err r
  unfolding port_found
  found-err {r} e = by (asked_answer new_layer (report n) w) e
    where
      reason-of : Result ℕ Reason → Reason
      reason-of (Ok j) = r
      reason-of (Err s) = s

      by : (a : Answer) → answered_with a (n - 1) ≡ Err r → a ≡ Err r
      by (Ok a) e = absurd (false≢true (sym (ap accepted e)))
      by (Err s) e = ap (λ (x : Reason). Err x) (ap reason-of e)

-- ---- the two reports

module _ (n : ℕ) (w : List ℕ) where
  pub why-refused : {r : Reason} → asked_answer new_layer (report n) w ≡ Err r → Err r ≡ why_report n w
  unfolding why_report
  why-refused e = sym (ap (λ (a : Answer). answered_with a (why_at n (records_in w))) e)

  pub why-given : accepted (asked_answer new_layer (report n) w) ≡ true → Ok (why_at n (first w)) ≡ why_report n w
  unfolding why_report
  why-given e = ap (λ (t : List ℕ). Ok (why_at n t)) (sym (records_are w)) ∙ sym (answered (asked_answer new_layer (report n) w) (why_at n (records_in w)) e)

  module _ (m : ℕ) where
    pub apart-refused : {r : Reason} → asked_answer new_layer (report n) w ≡ Err r → Err r ≡ apart_report n m w
    unfolding apart_report
    apart-refused e = sym (ap (λ (a : Answer). answered_with (unless a a (asked_answer new_layer (report m) w)) (apart_at n m (records_in w))) e)

    second : accepted (asked_answer new_layer (report n) w) ≡ true → answer_of_two n m w ≡ asked_answer new_layer (report m) w
    second e = given_back (asked_answer new_layer (report n) w) (asked_answer new_layer (report m) w) (asked_answer new_layer (report n) w) e

    pub apart-refused-then : {r : Reason} → accepted (asked_answer new_layer (report n) w) ≡ true → asked_answer new_layer (report m) w ≡ Err r → Err r ≡ apart_report n m w
    unfolding apart_report
    apart-refused-then done e = sym (ap (λ (a : Answer). answered_with a (apart_at n m (records_in w))) (second done ∙ e))

    pub apart-given : accepted (asked_answer new_layer (report n) w) ≡ true → accepted (asked_answer new_layer (report m) w) ≡ true → Ok (apart_at n m (first w)) ≡ apart_report n m w
    unfolding apart_report
    apart-given done e =
        ap (λ (t : List ℕ). Ok (apart_at n m t)) (sym (records_are w))
        ∙ sym (ap (λ (a : Answer). answered_with a (apart_at n m (records_in w))) (second done) ∙ answered (asked_answer new_layer (report m) w) (apart_at n m (records_in w)) e)
