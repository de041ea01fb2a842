-- `control::tick` meets its contract: answer 1, or the work of a tick. Assumes nothing.
use mathlib.Core.Path.{◌≡◌, sym, ap, ◌∙◌}
use borrow.Author.Rules.{rules}
use Rattle.table.specs.Table.{on_octets}
use Rattle.work.specs.Work.{after_tick}
use Rattle.std.specs.Prelude.{Ok, Err}
use Rattle.control.specs.declared.answer.Accepted.TheVariants.{Done}
use Rattle.control.specs.declared.answer.Reason.TheVariants as reason
use Rattle.control.specs.Call as call
use Rattle.control.specs.After.{answer, effect}
use Rattle.control.proofs.CallLaws.{refused-table, done-table}
use Rattle.control.proofs.tick.Goals as goal

pub returns-then-not-is_table : goal.returns-then-not-is_table
unfolding answer
returns-then-not-is_table c =
    let t = c.args.table.now in
    let a : answer call.tick t ≡ Err reason.Table = rw (sym c.is_table.ensures ∙ c.if-not-is_table.true) in
    (sym a, sym (refused-table call.tick t a))

pub known-requires : goal.known-requires
known-requires c = sym c.is_table.ensures ∙ c.if-not-is_table.false

pub returns : goal.returns
unfolding answer effect
returns c =
    let t = c.args.table.now in
    let a : answer call.tick t ≡ Ok Done = rw (sym c.is_table.ensures ∙ c.if-not-is_table.false) in
    let did = c.advance.ensures in
    (sym a, search rules ∙ did.made ∙ ap (on_octets after_tick) c.known.ensures.1 ∙ sym (done-table call.tick t a))
