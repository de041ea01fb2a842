-- `control::fetch_at` meets its contract: answer 3, then 10 where NTT is clear, then 10 and 11 by what is due of the record that is loaded, or the
-- send. Assumes nothing.
use mathlib.Core.Path.{◌≡◌, refl, sym, ap, ◌∙◌}
use mathlib.Core.Bool.{false}
use native.Mathlib.Omega.{arith}
use lib.ListN.{length}
use borrow.Author.Tests.{lt-ltb, le-ltb}
use Rattle.frame.specs.Class.{frame_size}
use Rattle.port.specs.declared.record.Port.{Port}
use Rattle.std.specs.Prelude.{Err}
use Rattle.port.specs.declared.transmit.Undue.TheVariants.{Nothing}
use Rattle.port.specs.Transmit.{due}
use borrow.Author.Rules.{rules}
use Rattle.table.specs.Table.{on_octets, port_at, state_of}
use Rattle.work.specs.Work.{after_send, lacpdu_of, written_over}
use Rattle.control.proofs.CallLaws.{passed-up}
use Rattle.control.proofs.fetch_at.Goals as goal

none-due : (p : Port) → p.ntt ≡ false → due p ≡ Err Nothing
unfolding due
none-due p clear = rw clear

pub returns-then-out-lt-FRAME : goal.returns-then-out-lt-FRAME
returns-then-out-lt-FRAME c = let short = lt-ltb (length c.args.out.now) frame_size c.if-out-lt-FRAME.true in (rw short, refl, refl)

pub returns-then-not-ntt : goal.returns-then-not-ntt
returns-then-not-ntt c =
    let a = c.args in
    let long = le-ltb (length c.args.out.now) frame_size c.if-out-lt-FRAME.false in
    (rw (long, none-due (port_at a.table.now a.i) (ap (λ l. (port_at l a.i).ntt) (sym c.known-known.ensures) ∙ sym c.ntt.ensures ∙ c.if-not-ntt.true)), refl, refl)

pub send-requires : goal.send-requires
send-requires c =
    let loaded = c.load-p.ensures.0 ∙ ap (λ l. port_at l c.args.i) c.known-known.ensures in
    (rw c.known.ensures.1 c.requires.1, loaded ∙ ap (λ l. port_at l c.args.i) (sym c.known.ensures.1), omega (arith, c.if-out-lt-FRAME.false))

pub returns-in_err-due : goal.returns-in_err-due
returns-in_err-due c =
    let loaded = c.load-p.ensures.0 ∙ ap (λ l. port_at l c.args.i) c.known-known.ensures in
    let long = le-ltb (length c.args.out.now) frame_size c.if-out-lt-FRAME.false in
    rw (long, ap due (sym loaded) ∙ sym c.due.ensures ∙ c.in_err-due.was, passed-up _ c.from_residual.ensures.1) (refl, refl, refl)

pub returns : goal.returns
returns c =
    let did = c.send.ensures.0 in
    let loaded = c.load-p.ensures.0 ∙ ap (λ l. port_at l c.args.i) c.known-known.ensures in
    let long = le-ltb (length c.args.out.now) frame_size c.if-out-lt-FRAME.false in
    (rw (long, ap due (sym loaded) ∙ sym c.due.ensures ∙ c.in_ok-due.was), search rules ∙ did.made ∙ ap (on_octets (after_send c.args.i)) c.known.ensures.1, c.send.ensures.1 ∙ ap (λ l. written_over (lacpdu_of (state_of l) c.args.i) c.args.out.now) c.known.ensures.1)
