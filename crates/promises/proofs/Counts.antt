-- A count in 32 bits is what there was to count but for a carry, and carries add up along a run. Assumes nothing.
use Prim.Native.Nat.{ℕ, ◌+◌, ◌*◌, ◌%◌}
use mathlib.Core.Path.{◌≡◌, refl}
use mathlib.Core.Bool.{Bool, true, false, cond, ◌&&◌}
use mathlib.Core.List.{List, [], ◌∷◌}
use native.Mathlib.Omega.{arith}
use lib.ListN.{take}
use lib.Dec.{eqb}
use Rattle.std.specs.Prelude.{Ok, Err}
use Rattle.table.specs.Layout.{place}
use Rattle.control.specs.Answer.{Answer}
use Rattle.control.specs.declared.answer.Accepted.TheVariants.{Done}
use Rattle.control.specs.declared.answer.Reason.TheVariants as reason
use Rattle.control.specs.Accepted.{accepted}
use Rattle.control.specs.Call.{Call, start, receive, tick, line, configure, fetch, report, aggregator, due}
use Rattle.control.specs.After.{answer}
use Rattle.counters.specs.declared.Counters.{Counters}
use Rattle.counters.specs.Counters.{is_marker, received, fetched, all_received, heard, none_counted}
use Rattle.counters.proofs.CounterLaws.{Rose, rose, rose_nowhere, rose-done, more-sent, more-answered}
use Rattle.whole.specs.Calls.{has_room, count_for, whole_answer}
use Rattle.asked.specs.Layer.{old_layer, new_layer}
use Rattle.asked.specs.Asked.{front_of, groups_of, has_asks}
use Rattle.asked.specs.Calls.{is_ours, asked_answer}
use Rattle.promises.specs.Run.{Held, old, new, call, forward, back}
use Rattle.promises.specs.Asked.{Deed, plain, ask, answer_to, done}
use Rattle.promises.specs.Counts.{counted_by, counters_after, heard_on, sent_on, answered_on, all_of, CountersAddUp}

-- a count that was n, and what there was to count, but for a carry
record Carried (after before more : ℕ) : Type 0 where
  carry : ℕ
  is : after + 4294967296 * carry ≡ before + more

nothing : (n : ℕ) → Carried n n 0
nothing n = record { carry = 0; is = omega arith }

-- ---- along a run, for a count of a port's counters, and what there is to count in each call

module _ (n : ℕ) (μ : Counters → ℕ) (f : Call → Answer → ℕ)
    (each : (c : Call) (h : Held) (k : Counters) → Carried (μ (counted_by n c (answer_to c h) k)) (μ k) (f c (answer_to c h))) where
  along : (h : Held) (ds : List Deed) (k : Counters) → Carried (μ (counters_after n h ds k)) (μ k) (all_of f h ds)
  unfolding counters_after all_of
  along h [] k = nothing (μ k)
  along h (plain (call c) ∷ ds) k =
      let one = each c h k in
      let rest = along (done (plain (call c)) h) ds (counted_by n c (answer_to c h) k) in
      let e = one.is in
      let g = rest.is in
      record { carry = one.carry + rest.carry; is = omega (arith, e, g) }
  along h (plain (forward u) ∷ ds) k = along (done (plain (forward u)) h) ds k
  along h (plain (back u) ∷ ds) k = along (done (plain (back u)) h) ds k
  along h (ask m wait out ∷ ds) k = along (done (ask m wait out) h) ds k

  from-zeros : μ none_counted ≡ 0 → (h : Held) (ds : List Deed) → μ (counters_after n h ds none_counted) % 4294967296 ≡ all_of f h ds % 4294967296
  from-zeros z h ds =
      let a = along h ds none_counted in
      let e = a.is in
      omega (arith, e, z)

-- ---- the five

-- of a receive below, in either form
heard-below : (m : ℕ) (frame out : List ℕ) (w : List ℕ) (k : Counters) → Rose (whole_answer (receive m frame out) w) k
unfolding whole_answer
heard-below m frame out w k = by (has_room (receive m frame out) w)
  where
    by : (b : Bool) → Rose (cond b (answer (receive m frame out) (take (place (count_for (receive m frame out) w)) w)) (Err reason.Table)) k
    by true = rose k m frame out (take (place (count_for (receive m frame out) w)) w)
    by false = rose_nowhere k

-- and of the library: a Response that is ours is one more
heard_in : (m : ℕ) (frame out : List ℕ) (h : Held) (k : Counters) → Rose (answer_to (receive m frame out) h) k
unfolding asked_answer
heard_in m frame out (old t) k = by (has_asks old_layer t) (is_ours old_layer (receive m frame out) (front_of old_layer t) (groups_of old_layer t))
  where
    by : (x y : Bool) → Rose (cond x (cond y (Ok Done) (answer (receive m frame out) (front_of old_layer t))) (Err reason.Table)) k
    by true true = rose-done k
    by true false = rose k m frame out (front_of old_layer t)
    by false y = rose_nowhere k
heard_in m frame out (new w) k = by (has_asks new_layer w) (is_ours new_layer (receive m frame out) (front_of new_layer w) (groups_of new_layer w))
  where
    by : (x y : Bool) → Rose (cond x (cond y (Ok Done) (whole_answer (receive m frame out) (front_of new_layer w))) (Err reason.Table)) k
    by true true = rose-done k
    by true false = heard-below m frame out (front_of new_layer w) k
    by false y = rose_nowhere k

module _ (n : ℕ) where
  rises : (c : Call) (h : Held) (k : Counters) → Carried (all_received (counted_by n c (answer_to c h) k)) (all_received k) (heard_on n c (answer_to c h))
  rises (start count system delay s) h k = nothing (all_received k)
  rises (receive m frame out) h k = by (eqb n m)
    where
      by : (b : Bool) → Carried (all_received (cond b (received (answer_to (receive m frame out) h) k) k)) (all_received k) (cond b (heard (answer_to (receive m frame out) h)) 0)
      by true = let r = heard_in m frame out h k in record { carry = r.carry; is = r.is }
      by false = nothing (all_received k)
  rises tick h k = nothing (all_received k)
  rises (line m l) h k = nothing (all_received k)
  rises (configure m s) h k = nothing (all_received k)
  rises (fetch m out) h k = by (eqb n m)
    where
      by : (b : Bool) → Carried (all_received (cond b (fetched (answer_to (fetch m out) h) k) k)) (all_received k) 0
      by true = unfold fetched in nothing (all_received k)
      by false = nothing (all_received k)
  rises (report m) h k = nothing (all_received k)
  rises (aggregator m) h k = nothing (all_received k)
  rises due h k = nothing (all_received k)

  -- ---- the two

  sends : (c : Call) (h : Held) (k : Counters) → Carried (counted_by n c (answer_to c h) k).sent k.sent (sent_on n c (answer_to c h))
  sends (start count system delay s) h k = nothing k.sent
  sends (receive m frame out) h k = by (eqb n m)
    where
      by : (b : Bool) → Carried (cond b (received (answer_to (receive m frame out) h) k) k).sent k.sent 0
      by true = unfold received in nothing k.sent
      by false = nothing k.sent
  sends tick h k = nothing k.sent
  sends (line m l) h k = nothing k.sent
  sends (configure m s) h k = nothing k.sent
  sends (fetch m out) h k = by (eqb n m)
    where
      by : (b : Bool) → Carried (cond b (fetched (answer_to (fetch m out) h) k) k).sent k.sent (cond (b && accepted (answer_to (fetch m out) h)) 1 0)
      by true = let r = more-sent (answer_to (fetch m out) h) k in record { carry = r.carry; is = r.is }
      by false = nothing k.sent
  sends (report m) h k = nothing k.sent
  sends (aggregator m) h k = nothing k.sent
  sends due h k = nothing k.sent

  answers : (c : Call) (h : Held) (k : Counters) → Carried (counted_by n c (answer_to c h) k).answered k.answered (answered_on n c (answer_to c h))
  answers (start count system delay s) h k = nothing k.answered
  answers (receive m frame out) h k = by (eqb n m)
    where
      by : (b : Bool)
          → Carried (cond b (received (answer_to (receive m frame out) h) k) k).answered k.answered (cond (b && is_marker (answer_to (receive m frame out) h)) 1 0)
      by true = let r = more-answered (answer_to (receive m frame out) h) k in record { carry = r.carry; is = r.is }
      by false = nothing k.answered
  answers tick h k = nothing k.answered
  answers (line m l) h k = nothing k.answered
  answers (configure m s) h k = nothing k.answered
  answers (fetch m out) h k = by (eqb n m)
    where
      by : (b : Bool) → Carried (cond b (fetched (answer_to (fetch m out) h) k) k).answered k.answered 0
      by true = unfold fetched in nothing k.answered
      by false = nothing k.answered
  answers (report m) h k = nothing k.answered
  answers (aggregator m) h k = nothing k.answered
  answers due h k = nothing k.answered

pub counters_add-up : CountersAddUp
counters_add-up n h ds = record {
  received = from-zeros n all_received (heard_on n) (rises n) refl h ds;
  sent = from-zeros n (λ k. k.sent) (sent_on n) (sends n) refl h ds;
  answered = from-zeros n (λ k. k.answered) (answered_on n) (answers n) refl h ds;
}
