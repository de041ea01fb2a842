-- `control::line` meets its contract: answers 1 and 2, or the work of the port's new link and duplex. Assumes nothing.
use Prim.Native.Nat.{ℕ}
use borrow.Author.Rules.{rules}
use mathlib.Core.Path.{sym, ap, ◌∙◌}
use Rattle.table.specs.Table.{on_octets}
use Rattle.work.specs.Work.{after_line}
use Rattle.std.specs.Prelude.{Ok}
use Rattle.control.specs.declared.answer.Accepted.TheVariants.{Done}
use Rattle.control.specs.Call as call
use Rattle.control.specs.After.{answer, effect}
use Rattle.control.proofs.CallLaws.{passed-up, found-refused, found-answers, found-table, found_inside, found-index, refused-table, done-table}
use Rattle.control.proofs.line.Goals as goal

pub known-requires : goal.known-requires
known-requires c = found-table c.args.table.now _ (sym c.find.ensures ∙ c.in_ok-i.was)

pub set_line-requires : goal.set_line-requires
set_line-requires c = rw c.known.ensures.1 (found_inside c.args.table.now _ (sym c.find.ensures ∙ c.in_ok-i.was))

pub returns-in_err-i : goal.returns-in_err-i
unfolding answer
returns-in_err-i c =
    let a = c.args in
    let t = a.table.now in
    let refused = found-refused t a.n (sym c.find.ensures ∙ c.in_err-i.was) (Ok Done) in
    (passed-up _ c.from_residual.ensures.1 ∙ sym refused, sym (refused-table (call.line a.n a.line) t refused))

pub returns : goal.returns
unfolding answer effect
returns c =
    let a = c.args in
    let t = a.table.now in
    let here = sym c.find.ensures ∙ c.in_ok-i.was in
    let done = found-answers t a.n here (Ok Done) in
    let did = c.set_line.ensures in (
      sym done,
      search rules
          ∙ did.made
          ∙ ap (on_octets (after_line c.in_ok-i.i a.line)) c.known.ensures.1
          ∙ ap (λ (i : ℕ). on_octets (after_line i a.line) t) (found-index t a.n here)
          ∙ sym (done-table (call.line a.n a.line) t done),
    )
