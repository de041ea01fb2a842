-- A call on a table with monitors finds its room or not; where it does, it is the call on the front, and a refused one leaves all as it came. Assumes nothing.
use Rattle.std.specs.Prelude.{Err}
use Prim.Native.Nat.{ℕ}
use mathlib.Core.Path.{◌≡◌, refl, sym, ap, ◌∙◌}
use mathlib.Core.Bool.{Bool, true, false, false≢true, true≢false}
use mathlib.Core.List.{List, ◌++◌}
use lib.ListN.{take, drop, take-append-drop}
use Rattle.table.specs.Layout.{place}
use Rattle.table.specs.Table.{count_in}
use Rattle.churn.specs.Whole.{has_monitors}
use Rattle.control.specs.Answer.{Answer}
use Rattle.control.specs.declared.answer.Reason.{Reason}
use Rattle.control.specs.declared.answer.Reason.TheVariants as reason
use Rattle.control.specs.Accepted.{accepted}
use Rattle.control.specs.Call.{Call, start, receive, tick, line, configure, fetch, report, aggregator, due, is_start}
use Rattle.control.specs.After.{answer, after, buffer_of, outgoing}
use Rattle.control.proofs.CallLaws.{refused-table, refused-buffer}
use Rattle.whole.specs.Calls.{count_for, has_room, settles, stage_of, watched_if, whole_answer, whole_after, whole_outgoing}

-- ---- the memory of a call: its front, and the rest

-- a call that is no start takes the memory's own count, and asks for monitors in range
pub plain-count : (c : Call) → is_start c ≡ false → (w : List ℕ) → count_for c w ≡ count_in w
plain-count (start count system delay x) s w = absurd (true≢false s)
plain-count (receive n frame out) s w = refl
plain-count tick s w = refl
plain-count (line n l) s w = refl
plain-count (configure n x) s w = refl
plain-count (fetch n out) s w = refl
plain-count (report n) s w = refl
plain-count (aggregator k) s w = refl
plain-count due s w = refl

pub plain-room : (c : Call) → is_start c ≡ false → (w : List ℕ) → has_room c w ≡ has_monitors w
plain-room (start count system delay x) s w = absurd (true≢false s)
plain-room (receive n frame out) s w = refl
plain-room tick s w = refl
plain-room (line n l) s w = refl
plain-room (configure n x) s w = refl
plain-room (fetch n out) s w = refl
plain-room (report n) s w = refl
plain-room (aggregator k) s w = refl
plain-room due s w = refl

-- a refused call did no work
refused-idle : (c : Call) (t : List ℕ) (r : Reason) → settles c t (Err r) ≡ false
refused-idle (start count system delay x) t r = refl
refused-idle (receive n frame out) t r = refl
refused-idle tick t r = refl
refused-idle (line n l) t r = refl
refused-idle (configure n x) t r = refl
refused-idle (fetch n out) t r = refl
refused-idle (report n) t r = refl
refused-idle (aggregator k) t r = refl
refused-idle due t r = refl

-- a call that finds no room changes nothing, and one that finds it is the call on the front
module _ (c : Call) (w : List ℕ) where
  pub lost_after : has_room c w ≡ false → whole_after c w ≡ w
  unfolding whole_after
  lost_after e = rw e

  pub lost_answer : has_room c w ≡ false → whole_answer c w ≡ Err reason.Table
  unfolding whole_answer
  lost_answer e = rw e

  pub lost_out : has_room c w ≡ false → whole_outgoing c w ≡ buffer_of c
  unfolding whole_outgoing
  lost_out e = rw e

  -- one that is accepted has found it
  pub accepted-room : accepted (whole_answer c w) ≡ true → has_room c w ≡ true
  accepted-room done = by (has_room c w) refl
    where
      by : (b : Bool) → has_room c w ≡ b → has_room c w ≡ true
      by true e = e
      by false e = absurd (false≢true (sym (ap accepted (lost_answer e)) ∙ done))

  module _ (count : ℕ) (is : count_for c w ≡ count) (room : has_room c w ≡ true) where
    pub front-answer : whole_answer c w ≡ answer c (take (place count) w)
    unfolding whole_answer
    front-answer = rw room (ap (λ (n : ℕ). answer c (take (place n) w)) is)

    pub front_out : whole_outgoing c w ≡ outgoing c (take (place count) w)
    unfolding whole_outgoing
    front_out = rw room (ap (λ (n : ℕ). outgoing c (take (place n) w)) is)

    pub front-after : whole_after c w
        ≡ watched_if (settles c (take (place count) w) (answer c (take (place count) w))) (stage_of c) (after c (take (place count) w) ++ drop (place count) w)
    unfolding whole_after
    front-after =
        rw room (ap (λ (n : ℕ). watched_if (settles c (take (place n) w) (answer c (take (place n) w))) (stage_of c) (after c (take (place n) w) ++ drop (place n) w)) is)

    refused-front : {r : Reason} → answer c (take (place count) w) ≡ Err r → whole_after c w ≡ w
    refused-front {r} e =
        front-after
        ∙ ap (λ (a : Answer). watched_if (settles c (take (place count) w) a) (stage_of c) (after c (take (place count) w) ++ drop (place count) w)) e
        ∙ ap (λ (b : Bool). watched_if b (stage_of c) (after c (take (place count) w) ++ drop (place count) w)) (refused-idle c (take (place count) w) r)
        ∙ ap (λ (u : List ℕ). u ++ drop (place count) w) (refused-table c (take (place count) w) e) ∙ take-append-drop (place count) w

-- a refusal, in any memory
pub whole-refused : (c : Call) (w : List ℕ) (r : Reason) → whole_answer c w ≡ Err r → (whole_after c w ≡ w) × (whole_outgoing c w ≡ buffer_of c)
whole-refused c w r e = by (has_room c w) refl
  where
    by : (b : Bool) → has_room c w ≡ b → (whole_after c w ≡ w) × (whole_outgoing c w ≡ buffer_of c)
    by true room =
        let no = sym (front-answer c w (count_for c w) refl room) ∙ e in
        (refused-front c w (count_for c w) refl room no, front_out c w (count_for c w) refl room ∙ refused-buffer c (take (place (count_for c w)) w) no)
    by false room = (lost_after c w room, lost_out c w room)
