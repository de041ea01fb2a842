-- `control::configure` meets its contract: answers 1, 2 and 4, or the work of new settings. Assumes nothing.
use mathlib.Core.Path.{◌≡◌, sym, ap, ◌∙◌}
use Prim.Native.Nat.{ℕ}
use borrow.Author.Rules.{rules}
use Rattle.table.specs.Table.{on_octets}
use Rattle.work.specs.Work.{after_settings}
use Rattle.std.specs.Prelude.{Ok, Err}
use Rattle.control.specs.declared.answer.Accepted.TheVariants.{Done}
use Rattle.control.specs.declared.answer.Reason.TheVariants as reason
use Rattle.control.specs.Answer.{with_default}
use Rattle.control.specs.Call as call
use Rattle.control.specs.After.{answer, effect}
use Rattle.control.proofs.CallLaws.{passed-up, found-refused, found-answers, found-table, found_inside, found-index, refused-table, done-table}
use Rattle.control.proofs.configure.Goals as goal

pub returns-else-is_lawful : goal.returns-else-is_lawful
unfolding answer
returns-else-is_lawful c =
    let a = c.args in
    let t = a.table.now in
    let here = sym c.find.ensures ∙ c.in_ok-i.was in
    let wrong : with_default a.settings (Ok Done) ≡ Err reason.Default = rw (sym c.is_lawful.ensures ∙ c.if-is_lawful.false) in
    let refused = found-answers t a.n here (with_default a.settings (Ok Done)) ∙ wrong in
    (sym refused, sym (refused-table (call.configure a.n a.settings) t refused))

pub known-requires : goal.known-requires
known-requires c = found-table c.args.table.now _ (sym c.find.ensures ∙ c.in_ok-i.was)

pub configure-requires : goal.configure-requires
configure-requires c = rw c.known.ensures.1 (found_inside c.args.table.now _ (sym c.find.ensures ∙ c.in_ok-i.was))

pub returns-in_err-i : goal.returns-in_err-i
unfolding answer
returns-in_err-i c =
    let a = c.args in
    let t = a.table.now in
    let refused = found-refused t a.n (sym c.find.ensures ∙ c.in_err-i.was) (with_default a.settings (Ok Done)) in
    (passed-up _ c.from_residual.ensures.1 ∙ sym refused, sym (refused-table (call.configure a.n a.settings) t refused))

pub returns-then-is_lawful : goal.returns-then-is_lawful
unfolding answer effect
returns-then-is_lawful c =
    let a = c.args in
    let t = a.table.now in
    let here = sym c.find.ensures ∙ c.in_ok-i.was in
    let lawful : with_default a.settings (Ok Done) ≡ Ok Done = rw (sym c.is_lawful.ensures ∙ c.if-is_lawful.true) in
    let done = found-answers t a.n here (with_default a.settings (Ok Done)) ∙ lawful in
    let did = c.configure.ensures in (
      sym done,
      search rules
          ∙ did.made
          ∙ ap (on_octets (after_settings c.in_ok-i.i a.settings)) c.known.ensures.1
          ∙ ap (λ (i : ℕ). on_octets (after_settings i a.settings) t) (found-index t a.n here)
          ∙ sym (done-table (call.configure a.n a.settings) t done),
    )
