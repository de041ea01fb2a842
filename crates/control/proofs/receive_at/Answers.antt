-- `control::receive_at` meets its contract: answer 3, then what the frame and the port say; an LACPDU is heard, a Marker answered. The record is
-- loaded once: what is judged, heard and answered is of the port as it came. Assumes nothing.
use mathlib.Core.Path.{refl, sym, ap, ◌∙◌}
use native.Mathlib.Omega.{arith}
use lib.ListN.{length}
use borrow.Author.Tests.{lt-ltb, le-ltb}
use Rattle.frame.specs.Class.{frame_size}
use Rattle.frame.specs.Wire.{response}
use borrow.Author.Rules.{rules}
use Rattle.table.specs.Table.{on_octets, port_at}
use Rattle.table.proofs.TableLaws.{octets-back}
use Rattle.work.specs.Work.{after_received, response_of, written_over}
use Rattle.std.specs.Prelude.{Ok}
use Rattle.control.specs.Answer.{frame_answer}
use Rattle.control.proofs.CallLaws.{passed-up, lacpdu-whole, marker-whole}
use Rattle.control.proofs.receive_at.Goals as goal

pub returns-then-out-lt-FRAME : goal.returns-then-out-lt-FRAME
returns-then-out-lt-FRAME c = let short = lt-ltb (length c.args.out.now) frame_size c.if-out-lt-FRAME.true in (rw short, refl, refl)

pub load-p-requires : goal.load-p-requires
load-p-requires c = rw c.known.ensures c.requires.1

pub receive-requires : goal.receive-requires
receive-requires c =
    let a = c.args in
    let p = port_at a.table.now a.i in
    let loaded = c.load-p.ensures.0 ∙ ap (λ l. port_at l c.args.i) c.known.ensures in
    let is = (λ j. frame_answer (sym c.classify.ensures j) (sym loaded j).line (sym loaded j).phase.mux) ∙ sym c.judge.ensures ∙ c.in_ok-judge.was ∙ ap Ok c.in-Lacpdu.is in
    (rw c.known-in-Lacpdu.ensures.1 c.requires.1, loaded ∙ ap (λ l. port_at l a.i) (sym c.known-in-Lacpdu.ensures.1), lacpdu-whole a.frame.now p.line p.phase.mux is)

pub respond-requires : goal.respond-requires
respond-requires c =
    let a = c.args in
    let p = port_at a.table.now a.i in
    let loaded = c.load-p.ensures.0 ∙ ap (λ l. port_at l c.args.i) c.known.ensures in
    let is = (λ j. frame_answer (sym c.classify.ensures j) (sym loaded j).line (sym loaded j).phase.mux) ∙ sym c.judge.ensures ∙ c.in_ok-judge.was ∙ ap Ok c.in-Marker.is in
    (marker-whole a.frame.now p.line p.phase.mux is, omega (arith, c.if-out-lt-FRAME.false))

pub returns-in-Done : goal.returns-in-Done
returns-in-Done c =
    let long = le-ltb (length c.args.out.now) frame_size c.if-out-lt-FRAME.false in
    let loaded = c.load-p.ensures.0 ∙ ap (λ l. port_at l c.args.i) c.known.ensures in
    let is = (λ j. frame_answer (sym c.classify.ensures j) (sym loaded j).line (sym loaded j).phase.mux) ∙ sym c.judge.ensures ∙ c.in_ok-judge.was ∙ ap Ok c.in-Done.is in
    let same = octets-back c.args.table.now c.requires.0 (λ j. (c.slice_known-1.given j).fits) in
    (rw (long, is), sym same, refl)

pub returns-in-Lacpdu : goal.returns-in-Lacpdu
returns-in-Lacpdu c =
    let did = c.receive.ensures in
    let long = le-ltb (length c.args.out.now) frame_size c.if-out-lt-FRAME.false in
    let loaded = c.load-p.ensures.0 ∙ ap (λ l. port_at l c.args.i) c.known.ensures in
    let is = (λ j. frame_answer (sym c.classify.ensures j) (sym loaded j).line (sym loaded j).phase.mux) ∙ sym c.judge.ensures ∙ c.in_ok-judge.was ∙ ap Ok c.in-Lacpdu.is in
    (rw (long, is), search rules ∙ did.made ∙ ap (on_octets (after_received c.args.i c.args.frame.now)) c.known-in-Lacpdu.ensures.1, refl)

pub returns-in-Marker : goal.returns-in-Marker
unfolding response_of
returns-in-Marker c =
    let a = c.args in
    let long = le-ltb (length c.args.out.now) frame_size c.if-out-lt-FRAME.false in
    let loaded = c.load-p.ensures.0 ∙ ap (λ l. port_at l c.args.i) c.known.ensures in
    let is = (λ j. frame_answer (sym c.classify.ensures j) (sym loaded j).line (sym loaded j).phase.mux) ∙ sym c.judge.ensures ∙ c.in_ok-judge.was ∙ ap Ok c.in-Marker.is in
    let same = octets-back c.args.table.now c.requires.0 (λ j. (c.slice_known-1.given j).fits) in
    (rw (long, is), sym same, c.respond.ensures ∙ (λ j. written_over (response (loaded j).own.address a.frame.now) a.out.now))

pub returns-in_err-judge : goal.returns-in_err-judge
returns-in_err-judge c =
    let long = le-ltb (length c.args.out.now) frame_size c.if-out-lt-FRAME.false in
    let loaded = c.load-p.ensures.0 ∙ ap (λ l. port_at l c.args.i) c.known.ensures in
    let is = (λ j. frame_answer (sym c.classify.ensures j) (sym loaded j).line (sym loaded j).phase.mux) ∙ sym c.judge.ensures ∙ c.in_err-judge.was in
    rw (long, is, passed-up _ c.from_residual.ensures.1) (refl, refl, refl)
