-- A report of a port that is there is accepted on a table that was made, and reads the records of its front, of which `claims` tells. Assumes nothing.
use Prim.Native.Nat.{ℕ, ◌-◌}
use mathlib.Core.Path.{◌≡◌, refl, sym, ap, ◌∙◌, subst}
use mathlib.Core.Logic.{◌≢◌}
use mathlib.Core.Bool.{true, false, true≢false}
use mathlib.Core.List.{List, map}
use native.Mathlib.Omega.{arith}
use lib.Dec.{eqb}
use lib.ListN.{get_or}
use Rattle.octets.proofs.ListLaws.{map_at}
use Rattle.octets.proofs.RangeLaws.{within-is}
use Rattle.machine.specs.Mux.{distributes}
use Rattle.port.specs.Compared.{Compared, compared}
use Rattle.table.specs.Table.{count_in, port_at, ports, ours}
use Rattle.table.proofs.StoreLaws.{ports-length, ports-at}
use Rattle.trunk.specs.Selection.{nobody}
use Rattle.control.specs.declared.answer.Accepted.TheVariants.{Done}
use Rattle.control.specs.Answer.{Answer}
use Rattle.control.specs.Call.{Call, report}
use Rattle.control.specs.After.{answer, after, unless}
use Rattle.control.specs.Accepted.{accepted}
use Rattle.asked.specs.Layer.{new_layer}
use Rattle.asked.specs.Calls.{asked_answer}
use Rattle.why.specs.declared.cause.Cause.{Cause}
use Rattle.why.specs.declared.cause.Why.{Why}
use Rattle.why.specs.declared.apart.Apart.{Apart}
use Rattle.control.specs.declared.answer.Reason.{Reason}
use Rattle.control.specs.Report.{answered_with}
use Rattle.std.specs.Prelude.{Option, Result, Ok, Err}
use Rattle.why.specs.Cause.{no_why, why_of}
use Rattle.why.specs.Apart.{nothing, apart_of, apart_number}
use Rattle.why.specs.Exact.{is_carrying, Differ}
use Rattle.why.proofs.CauseLaws.{carrying-true, causes-true}
use Rattle.why.proofs.ApartLaws.{apart-shares, reasons-true}
use Rattle.reasons.specs.Reasons.{records_in, why_at, apart_at, answer_of_two, why_report, apart_report, why_told, apart_told}
use Rattle.claims.specs.Run.{Takes, Made}
use Rattle.claims.specs.Told.{why_in, held_in, Stands}
use Rattle.claims.proofs.Calls.{never_stuck}
use Rattle.claims.proofs.Counts.{call-count}
use Rattle.claims.proofs.Told.{always_told, beside-true}
use Rattle.claims.proofs.Thinner.{thinner-told}
use Rattle.promises.specs.Run.{new, memory_of, records_of, call}
use Rattle.promises.specs.Asked.{front_in, table_in, plain, done, AskedMade, NewAsked}
use Rattle.promises.specs.Fronts.{IsPort, record_of, carries}
use Rattle.promises.specs.Reasons.{WhyTrue, ApartTrue, ThinnerTrue, Reasons}
use Rattle.promises.proofs.Run.{base-made, base-calls}
use Rattle.promises.proofs.Asked.{front-made}
use Rattle.promises.proofs.Demands.{front-calls, call-front, made-by_deed, below}

-- the table of the records was made by calls
table-made : (m : List ℕ) → NewAsked m → Made (table_in (new m))
table-made m made = base-made (front_in (new m)) (front-made (new m) made)

-- what a call leaves of it
table-after : (m : List ℕ) → NewAsked m → (c : Call) → Takes c → table_in (done (plain (call c)) (new m)) ≡ after c (table_in (new m))
table-after m made c k = ap records_of (call-front (new m) made c k) ∙ (base-calls (front_in (new m)) (front-made (new m) made) c k).leaves

module _ (m : List ℕ) (made : NewAsked m) where
  t : List ℕ
  t = table_in (new m)

  found : (n : ℕ) → IsPort (front_in (new m)) n → asked_answer new_layer (report n) m ≡ Ok Done
  found n p =
      (front-calls (new m) made (report n) tt refl).answers ∙ (base-calls (front_in (new m)) (front-made (new m) made) (report n) tt).answers
      ∙ unfold answer in rw ((never_stuck (table_in (new m)) (table-made m made)).ranged, within-is 1 n (count_in (table_in (new m))) p.some p.most)

  why-is : (n : ℕ) → IsPort (front_in (new m)) n → why_report n m ≡ Ok (why_in (table_in (new m)) (n - 1))
  unfolding why_report
  why-is n p = ap (λ (a : Answer). answered_with a (why_at n (records_in m))) (found n p)

  why-true : (n : ℕ) → IsPort (front_in (new m)) n → WhyTrue m n
  unfolding why_report why_of
  why-true n p =
      let i = n - 1 in
      let q = port_at (table_in (new m)) i in
      let held = held_in (table_in (new m)) i in
      let is = ap (λ (w : Result Why Reason). (why_told w).cause) (why-is n p) in
      let less = below (new m) n p in
      record {
        answered = ap accepted (why-is n p);
        carries = ap is_carrying is ∙ carrying-true held q;
        only = λ c e. (causes-true held q c).only (sym is ∙ e);
        whenever = λ c e. is ∙ (causes-true held q c).whenever e;
        stands = subst (λ (c : Option Cause). Stands c q) (sym is) (always_told (table_in (new m)) (table-made m made) i less);
        why = why-is n p;
        beside = beside-true (table_in (new m)) (table-made m made) i less;
      }

  both_found : (n k : ℕ) → IsPort (front_in (new m)) n → IsPort (front_in (new m)) k → answer_of_two n k m ≡ Ok Done
  both_found n k p q = (λ j. unless (found n p j) (found n p j) (found k q j))

  apart-is : (n k : ℕ) → IsPort (front_in (new m)) n → IsPort (front_in (new m)) k → apart_report n k m ≡ Ok (apart_at n k (table_in (new m)))
  unfolding apart_report
  apart-is n k p q = ap (λ (a : Answer). answered_with a (apart_at n k (records_in m))) (both_found n k p q)

  read_at : (n : ℕ) → IsPort (front_in (new m)) n → get_or (map compared (ports (table_in (new m)))) (n - 1) nobody ≡ compared (record_of (front_in (new m)) n)
  read_at n p =
      let u = table_in (new m) in
      let less = below (new m) n p in
      map_at compared (ports u) (n - 1) nobody (port_at u (n - 1)) (rw ports-length less) ∙ ap compared (ports-at u (n - 1) (port_at u (n - 1)) less)

  apart-true : (n k : ℕ) → IsPort (front_in (new m)) n → IsPort (front_in (new m)) k → ApartTrue m n k
  apart-true n k p q =
      let u = table_in (new m) in
      let cs = map compared (ports u) in
      let is = ap (λ (r : Result Apart Reason). apart_number (apart_told r)) (apart-is n k p q) in
      record {
        answered = ap accepted (apart-is n k p q);
        shares = ap (λ (x : ℕ). eqb x 0) is ∙ apart-shares (ours u) cs (n - 1) (k - 1);
        differ = λ other.
            let apart : n - 1 ≢ k - 1 = λ e. let a = p.some in let b = q.some in other (omega (arith, a, b, e)) in
            subst (λ (x : ℕ). Differ (ours u) (compared (record_of (front_in (new m)) n)) (compared (record_of (front_in (new m)) k)) x) (sym is)
            (subst (λ (c : Compared). Differ (ours u) c (compared (record_of (front_in (new m)) k)) (apart_number (apart_of (ours u) cs (n - 1) (k - 1)))) (read_at n p)
            (subst (λ (d : Compared). Differ (ours u) (get_or cs (n - 1) nobody) d (apart_number (apart_of (ours u) cs (n - 1) (k - 1)))) (read_at k q)
            (reasons-true (ours u) cs (n - 1) (k - 1) apart)));
      }

-- the same table, made
module _ (m : List ℕ) (made : NewAsked m) (c : Call) (k : Takes c) (n : ℕ) (p : IsPort (front_in (new m)) n) where
  then : AskedMade (done (plain (call c)) (new m))
  then = made-by_deed (new m) made (plain (call c)) k

  still : IsPort (front_in (done (plain (call c)) (new m))) n
  still =
      let same : count_in (table_in (done (plain (call c)) (new m))) ≡ count_in (table_in (new m)) =
      ap count_in (table-after m made c k) ∙ call-count (table_in (new m)) (never_stuck (table_in (new m)) (table-made m made)) c in
      let most = p.most in
      record { some = p.some; most = omega (arith, same, most) }

  thinner-true : carries (front_in (new m)) n ≡ true → carries (front_in (done (plain (call c)) (new m))) n ≡ false → ThinnerTrue c m n
  unfolding done
  thinner-true d e = record {
    thinned =
        thinner-told (table_in (new m)) (table-made m made) c k (n - 1) (below (new m) n p) d
        (ap (λ (u : List ℕ). distributes (port_at u (n - 1)).phase.mux) (sym (table-after m made c k)) ∙ e);
    told =
        why-is (memory_of (done (plain (call c)) (new m))) then n still
        ∙ ap (λ (u : List ℕ). Ok (why_in u (n - 1))) (table-after m made c k);
  }

-- beside a refusal nothing is told
why-unsaid : (r : Result Why Reason) → accepted r ≡ false → why_told r ≡ no_why
why-unsaid (Ok w) e = absurd (true≢false e)
why-unsaid (Err r) e = refl

apart-unsaid : (r : Result Apart Reason) → accepted r ≡ false → apart_told r ≡ nothing
apart-unsaid (Ok a) e = absurd (true≢false e)
apart-unsaid (Err r) e = refl

pub reasons : Reasons
reasons = record {
  why = why-true;
  apart = apart-true;
  thinner = thinner-true;
  unsaid = λ m n e. why-unsaid (why_report n m) e;
  unparted = λ m n k e. apart-unsaid (apart_report n k m) e;
}
