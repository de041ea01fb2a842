-- The tests of an ask, one after the other, and what it leaves. Assumes nothing.
use Rattle.std.specs.Prelude.{Ok, Err, IsErrAnd}
use Prim.Native.Nat.{ℕ, ◌-◌, ◌≤◌, ◌<◌}
use mathlib.Core.Path.{◌≡◌, refl, sym, ap, ◌∙◌}
use mathlib.Core.Bool.{Bool, true, false, cond, false≢true}
use mathlib.Core.List.{List, ◌++◌}
use lib.ListN.{length, take, drop}
use lib.Dec.{ltb}
use borrow.Author.Tests.{lt-ltb, le-ltb}
use Rattle.octets.specs.Octets.{within}
use Rattle.octets.proofs.RangeLaws.{within-true}
use Rattle.frame.specs.declared.wire.MarkerType.TheVariants as kind
use Rattle.frame.specs.Class.{frame_size}
use Rattle.frame.specs.Wire.{marker}
use Rattle.machine.specs.Mux.{distributes}
use Rattle.port.specs.declared.record.Port.{Port}
use Rattle.table.specs.Layout.{place}
use Rattle.table.specs.Table.{count_in, port_at, ours, table_in_range}
use Rattle.work.specs.Work.{written_over}
use Rattle.churn.specs.Whole.{whole_size, base_of}
use Rattle.asks.specs.declared.ask.Ask.{Ask}
use Rattle.asks.specs.Ask.{longest_wait, is_awaiting, asked}
use Rattle.asks.specs.Groups.{ask_at}
use Rattle.control.specs.declared.answer.Accepted.{Accepted}
use Rattle.control.specs.declared.answer.Accepted.TheVariants.{Done}
use Rattle.control.specs.declared.answer.Reason.{Reason}
use Rattle.control.specs.declared.answer.Reason.TheVariants as reason
use Rattle.control.specs.Accepted.{accepted}
use Rattle.control.specs.Answer.{Answer, is_number}
use Rattle.control.specs.Call.{report}
use Rattle.control.specs.After.{answer}
use Rattle.control.proofs.CallLaws.{passed-up}
use Rattle.whole.specs.Calls.{whole_answer}
use Rattle.whole.proofs.CallLaws.{accepted-number}
use Rattle.asked.specs.declared.said.AskRefusal.{AskRefusal}
use Rattle.asked.specs.declared.said.AskRefusal.TheVariants as refusal
use Rattle.asked.specs.Layer.{new_layer}
use Rattle.asked.specs.Asked.{front_of, groups_of, has_asks, front_found, with_ask, request_of}
use Rattle.asked.specs.Ask.{Said, after_report, unless_said, marker_for, ask_answer, ask_after, ask_outgoing}
use Rattle.asked.specs.Meets.{MeetsAsk}
use Rattle.asked.proofs.AskedLaws.{found-none}
use Rattle.asked.proofs.CallLaws.{base-is, base-count, below-accepted}

-- answer 1 goes up by `?`
pub ask-unfound : (n wait : ℕ) (out m : List ℕ) (a : Said) {r : Reason} → front_found new_layer m ≡ Err r → IsErrAnd a (λ s. s ≡ refusal.Plain r) → MeetsAsk n wait out m a m out
unfolding ask_answer ask_after ask_outgoing
ask-unfound n wait out m a e up =
    let none = found-none new_layer m e in
    (passed-up a up ∙ ap (λ (r : Reason). Err (refusal.Plain r)) none.1 ∙ rw none.0, rw none.0, rw none.0)

-- an accepted report has its port
module _ (n : ℕ) (m : List ℕ) (f b : ℕ) (isf : f ≡ whole_size (count_in m)) (isb : b ≡ place (count_in m)) where
  pub record There : Type 0 where
    pub ranged : table_in_range (take b m) ≡ true
    pub some : 1 ≤ n
    pub most : n ≤ count_in m

  accepted-ranged : (t : List ℕ) (rest : Answer) → accepted (cond (table_in_range t) (cond (is_number t n) rest (Err reason.Number)) (Err reason.Table)) ≡ true → table_in_range t ≡ true
  accepted-ranged t rest e = by (table_in_range t) (is_number t n) e
    where
      by : (x y : Bool) → accepted (cond x (cond y rest (Err reason.Number)) (Err reason.Table)) ≡ true → x ≡ true
      by true y h = refl
      by false y h = absurd (false≢true h)

  pub port-there : accepted (whole_answer (report n) (take f m)) ≡ true → There
  port-there e = record {
    ranged = ap table_in_range (sym (base-is m f b isf isb)) ∙ unfold answer base_of in accepted-ranged (base_of (take f m)) (Ok Done) (below-accepted (report n) (take f m) e);
    some = number.0;
    most = rw (base-count m f b isf isb) at number.1;
  }
    where
      numbered : is_number (take b m) n ≡ true
      numbered = unfold answer base_of in
          ap (λ (t : List ℕ). is_number t n) (sym (base-is m f b isf isb)) ∙ accepted-number (base_of (take f m)) n (Ok Done) (below-accepted (report n) (take f m) e)

      number : (1 ≤ n) × (n ≤ count_in (take b m))
      number = within-true 1 n (count_in (take b m)) numbered

-- the tests behind the report
module _ (n wait : ℕ) (out m : List ℕ) (f b : ℕ) (isf : f ≡ whole_size (count_in m)) (isb : b ≡ place (count_in m)) (has : has_asks new_layer m ≡ true) where
  abbrev holder : Port
  holder = port_at (take b m) (n - 1)

  abbrev q : Ask
  q = ask_at (drop f m) (n - 1)

  abbrev below : Answer
  below = whole_answer (report n) (take f m)

  then : Said
  then =
      cond (ltb (length out) frame_size) (Err (refusal.Plain reason.Buffer))
      (cond (within 1 wait longest_wait)
      (cond (distributes holder.phase.mux) (cond (is_awaiting q.outcome) (Err refusal.Awaiting) (Ok tt)) (Err refusal.NotDistributing))
      (Err refusal.Wait))

  told : ask_answer new_layer n wait out m ≡ after_report below then
  unfolding ask_answer then
  told =
      rw has
      (ap (λ (k : ℕ). after_report (whole_answer (report n) (take k m))
      (cond (ltb (length out) frame_size) (Err (refusal.Plain reason.Buffer))
      (cond (within 1 wait longest_wait)
      (cond (distributes (port_at (base_of (take k m)) (n - 1)).phase.mux) (cond (is_awaiting (ask_at (drop k m) (n - 1)).outcome) (Err refusal.Awaiting) (Ok tt)) (Err refusal.NotDistributing))
      (Err refusal.Wait)))) (sym isf)
      ∙ ap (λ (t : List ℕ). after_report below
      (cond (ltb (length out) frame_size) (Err (refusal.Plain reason.Buffer))
      (cond (within 1 wait longest_wait)
      (cond (distributes (port_at t (n - 1)).phase.mux) (cond (is_awaiting q.outcome) (Err refusal.Awaiting) (Ok tt)) (Err refusal.NotDistributing))
      (Err refusal.Wait)))) (base-is m f b isf isb))

  -- the table and the buffer afterwards, if it is accepted
  abbrev leaving : List ℕ
  leaving = front_of new_layer m ++ with_ask (n - 1) (asked wait (ask_at (groups_of new_layer m) (n - 1))) (groups_of new_layer m)

  abbrev sending : List ℕ
  sending = written_over (marker_for (base_of (front_of new_layer m)) (groups_of new_layer m) n) out

  refused : (r : AskRefusal) → ask_answer new_layer n wait out m ≡ Err r → MeetsAsk n wait out m (Err r) m out
  unfolding ask_after ask_outgoing
  refused r e = (sym e, sym (ap (λ (x : Said). unless_said x m leaving) e), sym (ap (λ (x : Said). unless_said x out sending) e))

  pub ask-first : (s : Said) {r : Reason} → below ≡ Err r → IsErrAnd s (λ x. x ≡ refusal.Plain r) → MeetsAsk n wait out m s m out
  ask-first s {r} is up =
      let no = refused (refusal.Plain r) (told ∙ ap (λ (x : Answer). after_report x then) is) in
      (passed-up s up ∙ no.0, no.1, no.2)

  module _ {x : Accepted} (is : below ≡ Ok x) where
    passed : ask_answer new_layer n wait out m ≡ then
    passed = told ∙ ap (λ (y : Answer). after_report y then) is

    pub ask-short : length out < frame_size → MeetsAsk n wait out m (Err (refusal.Plain reason.Buffer)) m out
    ask-short h = refused (refusal.Plain reason.Buffer) (passed ∙ unfold then in rw (lt-ltb (length out) frame_size h))

    module _ (roomy : frame_size ≤ length out) where
      pub ask-wait : within 1 wait longest_wait ≡ false → MeetsAsk n wait out m (Err refusal.Wait) m out
      ask-wait h = refused refusal.Wait (passed ∙ unfold then in rw (le-ltb (length out) frame_size roomy, h))

      module _ (fit : within 1 wait longest_wait ≡ true) where
        pub ask-not : distributes holder.phase.mux ≡ false → MeetsAsk n wait out m (Err refusal.NotDistributing) m out
        ask-not h = refused refusal.NotDistributing (passed ∙ unfold then in rw (le-ltb (length out) frame_size roomy, fit, h))

        module _ (carries : distributes holder.phase.mux ≡ true) where
          pub ask-awaits : is_awaiting q.outcome ≡ true → MeetsAsk n wait out m (Err refusal.Awaiting) m out
          ask-awaits h = refused refusal.Awaiting (passed ∙ unfold then in rw (le-ltb (length out) frame_size roomy, fit, carries, h))

          pub ask-done : is_awaiting q.outcome ≡ false → (v o : List ℕ) → v ≡ take f m ++ with_ask (n - 1) (asked wait q) (drop f m)
              → o ≡ written_over (marker holder.own.address kind.Marker (request_of n (ours (take b m)).system.address q.number)) out
              → MeetsAsk n wait out m (Ok tt) v o
          unfolding ask_after ask_outgoing
          ask-done h v o left sent =
              let yes : ask_answer new_layer n wait out m ≡ Ok tt = passed ∙ unfold then in rw (le-ltb (length out) frame_size roomy, fit, carries, h) in (
                sym yes,
                left ∙ ap (λ (k : ℕ). take k m ++ with_ask (n - 1) (asked wait (ask_at (drop k m) (n - 1))) (drop k m)) isf ∙ sym (ap (λ (x : Said). unless_said x m leaving) yes),
                sent ∙ ap (λ (t : List ℕ). written_over (marker (port_at t (n - 1)).own.address kind.Marker (request_of n (ours t).system.address q.number)) out) (sym (base-is m f b isf isb))
                    ∙ ap (λ (k : ℕ). written_over (marker (port_at (base_of (take k m)) (n - 1)).own.address kind.Marker (request_of n (ours (base_of (take k m))).system.address (ask_at (drop k m) (n - 1)).number)) out) isf
                    ∙ sym (ap (λ (x : Said). unless_said x out sending) yes),
              )
