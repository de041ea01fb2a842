-- `start` meets its contract: the base's start, and the machines begun. Assumes nothing.
use mathlib.Core.Path.{◌≡◌, sym, ap, ◌∙◌}
use lib.ListN.{length, take}
use lib.Seq.{length-take-le}
use Rattle.control.specs.Call as call
use native.Mathlib.Omega.{arith}
use Rattle.control.specs.Accepted.{accepted}
use Rattle.whole.proofs.CallLaws.{roomless, finished, room-size, restarted}
use borrow.Author.Rules.{rules}
use Rattle.whole.proofs.start.Goals as goal

pub returns-then-not-is_room : goal.returns-then-not-is_room
returns-then-not-is_room c =
    let a = c.args in
    roomless (call.start a.count a.system a.delay a.settings) a.table.now (sym c.is_room.ensures ∙ c.if-not-is_room.true)

pub slice_bounds-start-end : goal.slice_bounds-start-end
slice_bounds-start-end c =
    let a = c.args in
    let size = room-size a.table.now a.count (sym c.is_room.ensures ∙ c.if-not-is_room.false) in
    omega (arith, size, c.place_of-b.ensures)

pub slice_bounds-start-end-2 : goal.slice_bounds-start-end-2
slice_bounds-start-end-2 c =
    let a = c.args in
    let size = room-size a.table.now a.count (sym c.is_room.ensures ∙ c.if-not-is_room.false) in
    sym (length-take-le c.place_of-b.result a.table.now (omega (arith, size, c.place_of-b.ensures)))

pub watch_if-requires : goal.watch_if-requires
watch_if-requires c e =
    let a = c.args in
    let has = sym c.is_room.ensures ∙ c.if-not-is_room.false in
    let same : length c.start-a.new.table ≡ length (take c.place_of-b.result a.table.now) = search rules in
    let told = c.start-a.ensures in
    restarted a.count a.system a.delay a.settings a.table.now has c.place_of-b.result c.place_of-b.ensures c.start-a.new.table same told.1
    (ap accepted (sym told.0) ∙ sym c.is_ok.ensures.value ∙ e)

pub returns : goal.returns
returns c =
    let a = c.args in
    let has = sym c.is_room.ensures ∙ c.if-not-is_room.false in
    let told = c.start-a.ensures in
    finished (call.start a.count a.system a.delay a.settings) a.table.now c.place_of-b.result c.place_of-b.ensures _ _ _ _ has told.0 told.1 c.is_ok.ensures.value c.watch_if.ensures
