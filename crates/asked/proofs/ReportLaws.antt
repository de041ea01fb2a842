-- The report of a port: the record of the front, and behind it as much of the group as fits. Assumes nothing.
use Rattle.std.specs.Prelude.{Err}
use Prim.Native.Nat.{ℕ, ◌-◌, ◌≤◌, ◌<◌}
use mathlib.Core.Path.{◌≡◌, refl, sym, ap, ◌∙◌}
use mathlib.Core.Bool.{Bool, true, false}
use mathlib.Core.List.{List, ◌++◌}
use native.Mathlib.Omega.{arith}
use lib.ListN.{length, take, drop, replicate, length-append, length-drop}
use lib.Seq.{length-take-le}
use borrow.Rule.Slice.PartMut.{put_mid}
use Rattle.octets.specs.Octets.{fitted}
use Rattle.octets.specs.Rows.{row_at}
use Rattle.table.specs.Record.{encoded}
use Rattle.table.specs.Table.{count_in}
use Rattle.table.proofs.RecordLaws.{encoded-length}
use Rattle.churn.specs.Group.{group_size as monitorsSize}
use Rattle.churn.specs.Whole.{group_place, whole_size, base_of, group_at}
use Rattle.asks.specs.Group.{group_size}
use Rattle.control.specs.Answer.{Answer}
use Rattle.control.specs.declared.answer.Reason.TheVariants as reason
use Rattle.control.specs.Accepted.{accepted}
use Rattle.control.specs.Call.{report}
use Rattle.control.specs.After.{unless}
use Rattle.control.specs.Report.{port_report}
use Rattle.whole.specs.Calls.{whole_answer}
use Rattle.whole.specs.Report.{whole_record_size, whole_record}
use Rattle.whole.proofs.CallLaws.{whole-size, fitted_short, report-behind, group-there, given_back, taken_back}
use Rattle.whole.proofs.FrontLaws.{accepted-room}
use Rattle.asked.specs.Layer.{new_layer}
use Rattle.asked.specs.Asked.{has_asks}
use Rattle.asked.specs.Calls.{asked_answer}
use Rattle.asked.specs.Meets.{MeetsPort}
use Rattle.asked.specs.Report.{asked_record_size, asked_record}
use Rattle.asked.proofs.CallLaws.{below-accepted}

pub record_length : (n : ℕ) (w : List ℕ) → length (whole_record n w) ≡ whole_record_size
record_length n w = by (accepted (whole_answer (report n) w)) refl
  where
    by : (x : Bool) → accepted (whole_answer (report n) w) ≡ x → length (whole_record n w) ≡ whole_record_size
    by false e = unfold whole_record in ap length (taken_back _ _ (whole_answer (report n) w) e)
    by true e = unfold whole_record group_at in
        let has = accepted-room (report n) w e in
        let size = whole-size w has in
        let there = group-there n w has (below-accepted (report n) w e) in
        let some = there.0 in
        let most = there.1 in
        let d = length-drop (group_place (count_in w) (n - 1)) w in
        let k = length-take-le monitorsSize (drop (group_place (count_in w) (n - 1)) w) (omega (arith, d, size, some, most)) in
        let l = encoded-length (port_report n (base_of w)) in
        ap length (given_back _ _ (whole_answer (report n) w) e) ∙ length-append (encoded (port_report n (base_of w))) (take monitorsSize (drop (group_place (count_in w) (n - 1)) w))
        ∙ omega (arith, k, l)

pub report-roomless : (n : ℕ) (m l r : List ℕ) → has_asks new_layer m ≡ false → r ≡ fitted (replicate asked_record_size 0) l → MeetsPort n m l (Err reason.Table) r
unfolding asked_answer asked_record
report-roomless n m l r e left = (rw e, left ∙ rw e)

-- what the wrapper has in hand
module _ (n : ℕ) (m l : List ℕ) (has : has_asks new_layer m ≡ true) (f : ℕ) (isf : f ≡ whole_size (count_in m)) (a : Answer) (r : List ℕ)
    (told : a ≡ whole_answer (report n) (take f m)) (first : r ≡ fitted (whole_record n (take f m)) l) where
  answered : a ≡ asked_answer new_layer (report n) m
  unfolding asked_answer
  answered = told ∙ ap (λ (k : ℕ). whole_answer (report n) (take k m)) isf ∙ rw has

  behind : List ℕ
  behind = unless (whole_answer (report n) (take f m)) (replicate group_size 0) (row_at group_size (drop f m) (n - 1))

  parts : asked_record n m ≡ whole_record n (take f m) ++ behind
  unfolding asked_record behind
  parts =
      rw has
      (ap (λ (k : ℕ). whole_record n (take k m) ++ unless (whole_answer (report n) (take k m)) (replicate group_size 0) (row_at group_size (drop k m) (n - 1))) (sym isf))

  pub reported-short : length l < whole_record_size → MeetsPort n m l a r
  reported-short h = (
    answered,
    first ∙ sym (ap (λ (x : List ℕ). fitted x l) parts
        ∙ fitted_short (whole_record n (take f m)) behind l (let k = record_length n (take f m) in omega (arith, k, h))),
  )

  pub reported : (v g : List ℕ) → whole_record_size ≤ length l
      → v ≡ put_mid whole_record_size (length r - whole_record_size) r (fitted g (take (length r - whole_record_size) (drop whole_record_size r)))
      → g ≡ unless a (replicate group_size 0) (row_at group_size (drop f m) (n - 1)) → MeetsPort n m l a v
  unfolding behind
  reported v g h left group =
      let s = whole_record n (take f m) in
      let k : length s ≡ whole_record_size = record_length n (take f m) in
      let same : g ≡ behind = group ∙ ap (λ (x : Answer). unless x (replicate group_size 0) (row_at group_size (drop f m) (n - 1))) told in (
        answered,
        left ∙ ap (λ (j : ℕ). put_mid j (length r - j) r (fitted g (take (length r - j) (drop j r)))) (sym k)
            ∙ report-behind s g l r first (omega (arith, k, h))
            ∙ ap (λ (x : List ℕ). fitted (s ++ x) l) same ∙ sym (ap (λ (x : List ℕ). fitted x l) parts),
      )
