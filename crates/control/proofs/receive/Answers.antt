-- `control::receive` meets its contract: answers 1 and 2, or what the port's part of it gives. Assumes nothing.
use Prim.Native.Nat.{ℕ}
use mathlib.Core.Path.{◌≡◌, sym, ap, ◌∙◌}
use Rattle.frame.specs.Class.{class_of}
use Rattle.table.specs.Table.{port_at, state_of, on_octets}
use Rattle.control.specs.Answer.{with_room, frame_answer}
use Rattle.control.specs.Call as call
use Rattle.control.specs.After.{answer, unless, after_frame, sent_for, effect, after, written_by, outgoing}
use Rattle.control.proofs.CallLaws.{passed-up, found-refused, found-answers, found-table, found_inside, found-index, refused-table, refused-buffer, frame-sent}
use Rattle.control.proofs.receive.Goals as goal

pub receive_at-requires : goal.receive_at-requires
receive_at-requires c =
    let t = c.args.table.now in
    let here = sym c.find.ensures ∙ c.in_ok-i.was in
    (found-table t _ here, found_inside t _ here)

pub returns-in_err-i : goal.returns-in_err-i
unfolding answer
returns-in_err-i c =
    let a = c.args in
    let t = a.table.now in
    let this = call.receive a.n a.frame.now a.out.now in
    let refused = found-refused t a.n (sym c.find.ensures ∙ c.in_err-i.was) _ in
    (passed-up _ c.from_residual.ensures.1 ∙ sym refused, sym (refused-table this t refused), sym (refused-buffer this t refused))

pub returns : goal.returns
unfolding answer effect after written_by outgoing
returns c =
    let a = c.args in
    let t = a.table.now in
    let frame = a.frame.now in
    let out = a.out.now in
    let this = call.receive a.n frame out in
    let here = sym c.find.ensures ∙ c.in_ok-i.was in
    let i = found-index t a.n here in
    let did = c.receive_at.ensures in
    let is : c.receive_at.result ≡ answer this t =
    did.0 ∙ ap (λ (k : ℕ). with_room out (frame_answer (class_of frame) (port_at t k).line (port_at t k).phase.mux)) i ∙ sym (found-answers t a.n here _) in (
      is,
      did.1 ∙ (λ j. unless (is j) t (on_octets (after_frame (is j) (i j) frame) t)),
      did.2 ∙ (λ j. sent_for (is j) (state_of t) (i j) frame out) ∙ frame-sent (answer this t) (state_of t) _ frame out,
    )
