-- A line call and a received Response: what the code finds is what the definitions ask of the front's records. Assumes nothing.
use Rattle.std.specs.Prelude.{Ok, Err}
use Prim.Native.Nat.{ℕ, ◌-◌, ◌≤◌}
use mathlib.Core.Path.{◌≡◌, refl, sym, ap, ◌∙◌, subst}
use mathlib.Core.Bool.{Bool, true, false, cond, ◌&&◌}
use mathlib.Core.List.{List}
use native.Mathlib.Omega.{arith}
use lib.ListN.{length, take, drop}
use lib.Seq.{get_or-take, take-take}
use lib.Dec.{eqb, ltb}
use borrow.Author.Tests.{eq-eqb}
use Rattle.octets.proofs.RangeLaws.{within-true}
use Rattle.frame.specs.declared.class.Kind.TheVariants as kind
use Rattle.frame.specs.declared.class.Refusal.TheVariants as refusal
use Rattle.frame.specs.Class.{Class, class_of, frame_size}
use Rattle.frame.proofs.ClassLaws.{passes, passed-whole}
use Rattle.machine.specs.declared.states.Line.{Line}
use Rattle.machine.specs.declared.states.Mux.{Mux}
use Rattle.port.specs.declared.record.Port.{Port}
use Rattle.table.specs.Layout.{place}
use Rattle.table.specs.Table.{count_in, port_at, ours, table_in_range}
use Rattle.churn.specs.Whole.{whole_size, base_of}
use Rattle.asks.specs.Groups.{ask_at}
use Rattle.control.specs.declared.answer.Accepted.TheVariants.{Done}
use Rattle.control.specs.declared.answer.Reason.TheVariants as reason
use Rattle.control.specs.Accepted.{accepted}
use Rattle.control.specs.Answer.{Answer, answer_number, is_number, frame_answer}
use Rattle.control.specs.Call.{Call, line, receive}
use Rattle.control.specs.After.{answer}
use Rattle.whole.specs.Calls.{count_for, base_for, has_room, whole_answer, whole_after}
use Rattle.whole.proofs.CallLaws.{accepted-number}
use Rattle.whole.proofs.FrontLaws.{accepted-room, front-answer, lost_answer, whole-refused}
use Rattle.asked.specs.Layer.{new_layer}
use Rattle.asked.specs.Asked.{brings_back}
use Rattle.asked.specs.Calls.{falls_from, is_ours}

-- ---- header and records

-- the records of a front are the first octets of the memory
module _ (m : List ℕ) (f b : ℕ) (isf : f ≡ whole_size (count_in m)) (isb : b ≡ place (count_in m)) where
  pub front-count : count_in (take f m) ≡ count_in m
  front-count = get_or-take f m 0 0 (omega (arith, isf))

  pub base-is : base_of (take f m) ≡ take b m
  unfolding base_of
  base-is = ap (λ (n : ℕ). take (place n) (take f m)) front-count ∙ ap (λ (n : ℕ). take n (take f m)) (sym isb) ∙ take-take b f m (omega (arith, isf, isb))

  pub base-count : count_in (take b m) ≡ count_in m
  base-count = get_or-take b m 0 0 (omega (arith, isb))

-- an accepted call on a front is accepted on its records
pub below-accepted : (c : Call) (w : List ℕ) → accepted (whole_answer c w) ≡ true → accepted (answer c (base_for c w)) ≡ true
below-accepted c w e = sym (ap accepted (front-answer c w (count_for c w) refl (accepted-room c w e))) ∙ e

-- ---- a line call

pub both-alike : (a r s : Bool) → (a ≡ true → r ≡ s) → a && r ≡ a && s
both-alike true r s f = f refl
both-alike false r s f = refl

module _ (n : ℕ) (l : Line) (m : List ℕ) (f b : ℕ) (isf : f ≡ whole_size (count_in m)) (isb : b ≡ place (count_in m)) where
  pub line-there : accepted (whole_answer (line n l) (take f m)) ≡ true → is_number (take b m) n ≡ true
  unfolding answer base_of
  line-there e =
      ap (λ (t : List ℕ). is_number t n) (sym (base-is m f b isf isb)) ∙ accepted-number (base_of (take f m)) n (Ok Done) (below-accepted (line n l) (take f m) e)

  -- what the code found is what the definition asks
  pub line-ends : (a : Answer) (r : Bool) → a ≡ whole_answer (line n l) (take f m) → (is_number (take b m) n ≡ true → r ≡ falls_from (port_at (take b m) (n - 1)).line l)
      → accepted a && r ≡ accepted (whole_answer (line n l) (take f m)) && falls_from (port_at (base_of (take f m)) (n - 1)).line l
  line-ends a r told found =
      both-alike (accepted a) r (falls_from (port_at (base_of (take f m)) (n - 1)).line l)
      (λ e. found (line-there (sym (ap accepted told) ∙ e)) ∙ ap (λ (t : List ℕ). falls_from (port_at t (n - 1)).line l) (sym (base-is m f b isf isb)))
      ∙ ap (λ (x : Answer). accepted x && falls_from (port_at (base_of (take f m)) (n - 1)).line l) told

-- ---- a Response

-- what answer 12 says of a received frame
pub record Responds (t : List ℕ) (n : ℕ) (frame : List ℕ) : Type 0 where
  pub ranged : table_in_range t ≡ true
  pub some : 1 ≤ n
  pub most : n ≤ count_in t
  pub long : frame_size ≤ length frame

response-passes : (k : Class) (l : Line) (x : Mux) → answer_number (frame_answer k l x) ≡ 12 → passes k ≡ true
response-passes (Ok kind.Lacpdu) l x e = refl
response-passes (Ok kind.Marker) l x e = refl
response-passes (Ok kind.Response) l x e = refl
response-passes (Err refusal.Foreign) l x e = absurd (omega (arith, e))
response-passes (Err refusal.Unknown) l x e = absurd (omega (arith, e))
response-passes (Err refusal.Illegal) l x e = absurd (omega (arith, e))

pub response-below : (n : ℕ) (frame out t : List ℕ) → answer_number (answer (receive n frame out) t) ≡ 12 → Responds t n frame
unfolding answer
response-below n frame out t e = by (table_in_range t) refl (is_number t n) refl (ltb (length out) frame_size) e
  where
    p : Port
    p = port_at t (n - 1)

    then : Answer
    then = frame_answer (class_of frame) p.line p.phase.mux

    by : (x : Bool) → table_in_range t ≡ x → (y : Bool) → is_number t n ≡ y → (z : Bool)
        → answer_number (cond x (cond y (cond z (Err reason.Buffer) then) (Err reason.Number)) (Err reason.Table)) ≡ 12 → Responds t n frame
    by true r true h false g =
        let w = within-true 1 n (count_in t) h in
        record { ranged = r; some = w.0; most = w.1; long = passed-whole frame (response-passes (class_of frame) p.line p.phase.mux g) }
    by true r true h true g = absurd (omega (arith, g))
    by true r false h z g = absurd (omega (arith, g))
    by false r y h z g = absurd (omega (arith, g))

module _ (n : ℕ) (frame out m : List ℕ) (f b : ℕ) (isf : f ≡ whole_size (count_in m)) (isb : b ≡ place (count_in m)) where
  pub responds : answer_number (whole_answer (receive n frame out) (take f m)) ≡ 12 → Responds (take b m) n frame
  unfolding base_of
  responds e = subst (λ (t : List ℕ). Responds t n frame) (base-is m f b isf isb) (by (has_room (receive n frame out) (take f m)) refl)
    where
      by : (x : Bool) → has_room (receive n frame out) (take f m) ≡ x → Responds (base_of (take f m)) n frame
      by true room =
          response-below n frame out (base_of (take f m)) (sym (ap answer_number (front-answer (receive n frame out) (take f m) (count_in (take f m)) refl room)) ∙ e)
      by false room = let no = ap answer_number (lost_answer (receive n frame out) (take f m) room) in absurd (omega (arith, no, e))

  -- it is a refusal, so the front is as it was
  pub response-leaves : answer_number (whole_answer (receive n frame out) (take f m)) ≡ 12 → whole_after (receive n frame out) (take f m) ≡ take f m
  response-leaves e = by (whole_answer (receive n frame out) (take f m)) refl e
    where
      by : (a : Answer) → whole_answer (receive n frame out) (take f m) ≡ a → answer_number a ≡ 12 → whole_after (receive n frame out) (take f m) ≡ take f m
      by (Ok a) g h = absurd (omega (arith, h))
      by (Err r) g h = (whole-refused (receive n frame out) (take f m) r g).0

  -- whether it is ours, by the number alone, and then by the request
  pub ours-by-number : eqb (answer_number (whole_answer (receive n frame out) (take f m))) 12 ≡ false → is_ours new_layer (receive n frame out) (take f m) (drop f m) ≡ false
  ours-by-number e = rw e

  pub ours-by_request : answer_number (whole_answer (receive n frame out) (take f m)) ≡ 12 → (r : Bool)
      → r ≡ brings_back n (ours (take b m)).system.address frame (ask_at (drop f m) (n - 1)) → is_ours new_layer (receive n frame out) (take f m) (drop f m) ≡ r
  ours-by_request e r found =
      rw (eq-eqb (answer_number (whole_answer (receive n frame out) (take f m))) 12 e)
      (ap (λ (t : List ℕ). brings_back n (ours t).system.address frame (ask_at (drop f m) (n - 1))) (base-is m f b isf isb) ∙ sym found)
