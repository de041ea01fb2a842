-- The demands, each from its own theorem of `claims` about the table of the records, which a run leaves in either form; ports by their numbers. That a
-- stranger's monitors stay follows from their function: nothing that they look at has changed, and they were at rest. Assumes nothing.
use Prim.Native.Nat.{ℕ, ◌+◌, ◌-◌, ◌<◌}
use mathlib.Core.Path.{◌≡◌, refl, sym, ap, ◌∙◌, subst}
use mathlib.Core.Bool.{true, false, true≢false}
use mathlib.Core.List.{List, map}
use native.Mathlib.Omega.{arith}
use Rattle.std.specs.Prelude.{Some, Ok, Err}
use Rattle.port.specs.Compared.{compared}
use Rattle.table.specs.Table.{count_in, port_at, ports, ours}
use Rattle.trunk.specs.Selection.{shares_group}
use Rattle.trunk.proofs.GroupLaws.{shares_refl}
use Rattle.churn.specs.declared.Stage.TheVariants.{Other}
use Rattle.churn.specs.Whole.{base_of, monitors_at}
use Rattle.churn.proofs.WholeLaws.{base-count}
use Rattle.control.specs.Answer.{Answer}
use Rattle.control.specs.declared.answer.Accepted.TheVariants.{Done}
use Rattle.control.specs.declared.answer.Reason.{Reason}
use Rattle.control.specs.declared.answer.Reason.TheVariants.{Table}
use Rattle.control.specs.Accepted.{accepted}
use Rattle.control.specs.Call.{Call, start, receive, tick, line, configure, fetch, report, aggregator, due, is_start}
use Rattle.control.specs.After.{unless}
use Rattle.whole.specs.Moves.{moved_forward, forward_answer, forward_to, back_answer, back_to}
use Rattle.claims.specs.Run.{Takes}
use Rattle.claims.specs.Locality.{touches, Apart}
use Rattle.claims.specs.ReadBack.{Reads}
use Rattle.claims.proofs.Calls.{no_answer-one}
use Rattle.claims.proofs.Rule.{rule-afresh, distributing-earned, at_rest}
use Rattle.claims.proofs.Locality.{locality}
use Rattle.claims.proofs.ReadBack.{read_back}
use Rattle.promises.specs.Run.{Held, old, new, call, records_of, answer_in, outgoing_in, stepped, HeldMade}
use Rattle.promises.specs.Churn.{seen_of, churn_in, event_of, churn_after}
use Rattle.promises.specs.Fronts.{IsPort, Strangers, AsItWas, Fronts}
use Rattle.whole.proofs.FrontLaws.{plain-room, plain-count, accepted-room, front-answer, front_out}
use Rattle.promises.proofs.Whole.{held_refusals}
use Rattle.promises.proofs.Run.{held-never_stuck, base-made, base-calls, made-by-step}
use Rattle.promises.proofs.Churn.{watching-is, churn-step}

below : (h : Held) (n : ℕ) → IsPort h n → n - 1 < count_in (records_of h)
below h n p = let some = p.some in let most = p.most in omega arith

-- port k, counted from 0, by its number
numbered : (h : Held) (k : ℕ) → k < count_in (records_of h) → IsPort h (k + 1)
numbered h k g = record { some = omega arith; most = omega arith }

-- ---- who is a stranger to all that a call touches

module _ (h : Held) (m : HeldMade h) (c : Call) (k : Takes c) (n : ℕ) (p : IsPort h n)
    (f : (q : ℕ) → IsPort h q → touches c (records_of h) (q - 1) ≡ true → Strangers c h n q) where
  strangers_apart : (q : ℕ) → q < count_in (records_of h) → touches c (records_of h) q ≡ true → Apart c (records_of h) (n - 1) q
  strangers_apart q g e =
      let same : q + 1 - 1 ≡ q = omega arith in
      let x = f (q + 1) (numbered h q g) (ap (touches c (records_of h)) same ∙ e) in
      let left = (base-calls h m c k).leaves in
      subst (λ (j : ℕ). Apart c (records_of h) (n - 1) j) same (record {
        before = x.before;
        then = ap (λ (t : List ℕ). shares_group (ours (records_of h)) (map compared (ports t)) (n - 1) (q + 1 - 1)) (sym left) ∙ x.then;
      })

  stays : port_at (records_of (stepped (call c) h)) (n - 1) ≡ port_at (records_of h) (n - 1)
  stays =
      ap (λ (t : List ℕ). port_at t (n - 1)) (base-calls h m c k).leaves
      ∙ locality (records_of h) (base-made h m) c k (n - 1) (below h n p) strangers_apart

  -- a call that touches every port touches it too, and it is no stranger to itself
  pub untouched : touches c (records_of h) (n - 1) ≡ true → ⊥
  untouched e = true≢false (sym (shares_refl (ours (records_of h)) (map compared (ports (records_of h))) (n - 1)) ∙ (f n p e).before)

other-event : (w : List ℕ) (c : Call) (i : ℕ) → (touches c (base_of w) i ≡ true → ⊥) → event_of c w ≡ Other
other-event w (start count system delay x) i not = absurd (not refl)
other-event w (receive n frame out) i not = refl
other-event w tick i not = absurd (not refl)
other-event w (line n l) i not = refl
other-event w (configure n x) i not = refl
other-event w (fetch n out) i not = refl
other-event w (report n) i not = refl
other-event w (aggregator n) i not = refl
other-event w due i not = refl

monitors_stay : (h : Held) → HeldMade h → (c : Call) → Takes c → (i : ℕ) → i < count_in (records_of h) → (touches c (records_of h) i ≡ true → ⊥)
    → port_at (records_of (stepped (call c) h)) i ≡ port_at (records_of h) i → churn_in i (stepped (call c) h) ≡ churn_in i h
unfolding stepped
monitors_stay (old t) m c k i g not same = refl
monitors_stay (new w) m c k i g not same =
    let s = held-never_stuck (new w) m in
    let here : i < count_in w = rw (base-count w) at g in
    let event = other-event w c i not in
    ap Some (churn-step w s c k i here ∙ (λ j. churn_after (event j) (seen_of (same j)) (monitors_at w i))
    ∙ sym (watching-is Other (port_at (base_of w) i) (monitors_at w i)) ∙ s.rest i here)

others_stay : (h : Held) → HeldMade h → (c : Call) → Takes c → (n : ℕ) → IsPort h n
    → ((q : ℕ) → IsPort h q → touches c (records_of h) (q - 1) ≡ true → Strangers c h n q) → AsItWas c h n
others_stay h m c k n p f =
    let same = stays h m c k n p f in
    record { fields = same; monitors = monitors_stay h m c k (n - 1) (below h n p) (untouched h m c k n p f) same }

-- ---- calls that find room

unfaulted : (h : Held) → HeldMade h → (c : Call) → is_start c ≡ false → answer_in c h ≡ Err Table → ⊥
unfolding base_of
unfaulted (old t) m c s e = no_answer-one t (base-made (old t) m) c s e
unfaulted (new w) m c s e =
    let room = plain-room c s w ∙ (held-never_stuck (new w) m).ranged in
    no_answer-one (base_of w) (base-made (new w) m) c s (sym (front-answer c w (count_in w) (plain-count c s w) room) ∙ e)

reads-back : (h : Held) (n : ℕ) (out : List ℕ) → answer_in (fetch n out) h ≡ Ok Done → Reads (records_of h) n (outgoing_in (fetch n out) h)
unfolding base_of
reads-back (old t) n out e = read_back t n out e
reads-back (new w) n out e =
    let room = accepted-room (fetch n out) w (ap accepted e) in
    subst (Reads (base_of w) n) (sym (front_out (fetch n out) w (count_in w) refl room))
    (read_back (base_of w) n out (sym (front-answer (fetch n out) w (count_in w) refl room) ∙ e))

-- ---- moves that are refused

pub unmoved : (a : Answer) (u v : List ℕ) (r : Reason) → a ≡ Err r → unless a u v ≡ u
unmoved a u v r e = ap (λ (x : Answer). unless x u v) e

pub fronts : Fronts
fronts = record {
  refused-table = λ h c r e. (held_refusals h c r e).table;
  refused-buffer = λ h c r e. (held_refusals h c r e).buffer;
  refused-forward = λ t u r e. unfold forward_to in unmoved (forward_answer t u) u (moved_forward t) r e;
  refused-back = λ w u r e. unfold back_to in unmoved (back_answer w u) u (base_of w) r e;
  made = made-by-step;
  unfaulted = unfaulted;
  finished = λ h m. at_rest (records_of h) (base-made h m);
  watched = λ w m n p. (held-never_stuck (new w) m).rest (n - 1) (rw (base-count w) at (below (new w) n p));
  reads-back = reads-back;
  aggregator = λ h m n p. (rule-afresh (records_of h) (base-made h m) (n - 1) (below h n p)).holds;
  up = λ h m n p d. (distributing-earned (records_of h) (base-made h m) (n - 1) (below h n p) d).up;
  in_sync_lem = λ h m n p d. (distributing-earned (records_of h) (base-made h m) (n - 1) (below h n p) d).synchronization;
  collected = λ h m n p d. (distributing-earned (records_of h) (base-made h m) (n - 1) (below h n p) d).collecting;
  group = λ h m n k p q d a e.
      let x = distributing-earned (records_of h) (base-made h m) (n - 1) (below h n p) d in
      (x.group (k - 1) (below h k q) a e, x.lag (k - 1) (below h k q) a e);
  others_stay = others_stay;
}
