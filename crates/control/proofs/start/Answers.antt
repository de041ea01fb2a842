-- `control::start` meets its contract: answers 1 and 4, or a new table; no content of the memory is read. Assumes nothing.
use mathlib.Core.Path.{◌≡◌, sym, ◌∙◌}
use native.Mathlib.Omega.{arith}
use Rattle.octets.specs.Octets.{within}
use Rattle.octets.proofs.RangeLaws.{both, within-true}
use Rattle.table.specs.Layout.{most_ports}
use Rattle.std.specs.Prelude.{Ok, Err}
use Rattle.control.specs.declared.answer.Accepted.TheVariants.{Done}
use Rattle.control.specs.declared.answer.Reason.TheVariants as reason
use Rattle.control.specs.Call as call
use Rattle.control.specs.After.{answer, effect}
use Rattle.control.proofs.CallLaws.{refused-table, done-table}
use Rattle.control.proofs.start.Goals as goal

pub returns-then-not-is_room : goal.returns-then-not-is_room
unfolding answer
returns-then-not-is_room c =
    let a = c.args in
    let t = a.table.now in
    let this = call.start a.count a.system a.delay a.settings in
    let refused : answer this t ≡ Err reason.Table = rw (sym c.is_room.ensures ∙ c.if-not-is_room.true) in
    (sym refused, sym (refused-table this t refused))

pub returns-then-not-is_lawful : goal.returns-then-not-is_lawful
unfolding answer
returns-then-not-is_lawful c =
    let a = c.args in
    let t = a.table.now in
    let this = call.start a.count a.system a.delay a.settings in
    let refused : answer this t ≡ Err reason.Default =
    rw (sym c.is_room.ensures ∙ c.if-not-is_room.false, sym c.is_lawful.ensures ∙ c.if-not-is_lawful.true) in
    (sym refused, sym (refused-table this t refused))

pub overflow_cast-header : goal.overflow_cast-header
overflow_cast-header c =
    let a = c.args in
    let room = sym c.is_room.ensures ∙ c.if-not-is_room.false in
    let few = (within-true 1 a.count most_ports (both (within 1 a.count most_ports) _ room).0).1 in
    omega arith

pub begin-requires : goal.begin-requires
begin-requires c = sym c.is_room.ensures ∙ c.if-not-is_room.false

pub returns : goal.returns
unfolding answer effect
returns c =
    let a = c.args in
    let t = a.table.now in
    let this = call.start a.count a.system a.delay a.settings in
    let done : answer this t ≡ Ok Done =
    rw (sym c.is_room.ensures ∙ c.if-not-is_room.false, sym c.is_lawful.ensures ∙ c.if-not-is_lawful.false) in
    (sym done, c.begin.ensures ∙ sym (done-table this t done))
