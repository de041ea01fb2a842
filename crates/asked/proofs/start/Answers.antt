-- `start` meets its contract: the call on the front, and groups of ports that never asked. Assumes nothing.
use Prim.Native.Nat.{◌≤◌}
use mathlib.Core.Path.{◌≡◌, refl, sym, ◌∙◌}
use mathlib.Core.Bool.{cond}
use mathlib.Core.List.{◌++◌}
use native.Mathlib.Omega.{arith}
use lib.ListN.{length, take, drop}
use lib.Seq.{length-take-le}
use Rattle.asks.specs.Groups.{all_begun}
use Rattle.control.specs.Accepted.{accepted}
use Rattle.control.specs.Call as call
use Rattle.asked.specs.Layer.{new_layer}
use Rattle.asked.proofs.AskedLaws.{roomless, room-size, room-few, finished, new-front, old_tail, same_size}
use borrow.Author.Rules.{rules}
use Rattle.asked.proofs.start.Goals as goal

pub returns-then-not-is_room : goal.returns-then-not-is_room
returns-then-not-is_room c =
    let a = c.args in
    roomless (call.start a.count a.system a.delay a.settings) a.table.now (sym c.is_room.ensures ∙ c.if-not-is_room.true)

pub whole_size-f-requires : goal.whole_size-f-requires
whole_size-f-requires c =
    let a = c.args in
    let room = sym c.is_room.ensures ∙ c.if-not-is_room.false in
    let few = room-few new_layer a.table.now a.count room in omega (arith, few)

pub slice_bounds-start-end : goal.slice_bounds-start-end
slice_bounds-start-end c =
    let a = c.args in
    let m = a.table.now in
    let room = sym c.is_room.ensures ∙ c.if-not-is_room.false in
    let size = room-size new_layer m a.count room in
    let most : c.whole_size-f.result ≤ length m = omega (arith, size, c.whole_size-f.ensures) in
    most

pub slice_bounds-start-end-2 : goal.slice_bounds-start-end-2
slice_bounds-start-end-2 c =
    let a = c.args in
    let m = a.table.now in
    let room = sym c.is_room.ensures ∙ c.if-not-is_room.false in
    let size = room-size new_layer m a.count room in
    let f = c.whole_size-f.result in
    let most : f ≤ length m = omega (arith, size, c.whole_size-f.ensures) in
    sym (length-take-le f m most)

pub begin_if-requires : goal.begin_if-requires
begin_if-requires c =
    let a = c.args in
    let m = a.table.now in
    let room = sym c.is_room.ensures ∙ c.if-not-is_room.false in
    let size = room-size new_layer m a.count room in
    let f = c.whole_size-f.result in
    let isf = c.whole_size-f.ensures in
    let most : f ≤ length m = omega (arith, size, isf) in
    let u = c.start-a.new.table in
    let same : length u ≡ length (take f m) = search rules in
    let whole = same_size f m u most same in omega (arith, whole, size, isf)

pub returns : goal.returns
returns c =
    let a = c.args in
    let m = a.table.now in
    let room = sym c.is_room.ensures ∙ c.if-not-is_room.false in
    let size = room-size new_layer m a.count room in
    let f = c.whole_size-f.result in
    let isf = c.whole_size-f.ensures in
    let most : f ≤ length m = omega (arith, size, isf) in
    let u = c.start-a.new.table in
    let same : length u ≡ length (take f m) = search rules in
    finished (call.start a.count a.system a.delay a.settings) m f isf room _ u _ _ refl c.start-a.ensures.0 c.start-a.ensures.1 (λ i. cond (accepted (c.start-a.ensures.0 i)) (all_begun a.count) (drop f m))
    (c.begin_if.ensures ∙ (λ i. new-front f m u most same i ++ cond (c.is_ok.ensures.value i) (all_begun a.count) (old_tail f m u most same i)))
