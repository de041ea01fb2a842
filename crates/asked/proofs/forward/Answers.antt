-- `forward` meets its contract: the front moves, and the groups go along. Assumes nothing.
use Prim.Native.Nat.{ℕ, ◌+◌, ◌*◌}
use mathlib.Core.Path.{◌≡◌, sym, ap, ◌∙◌}
use mathlib.Core.List.{List, ◌++◌}
use native.Mathlib.Omega.{arith}
use lib.ListN.{length, take, drop, length-drop}
use lib.Seq.{length-take-le}
use borrow.Author.Tests.{ne_eqb}
use Rattle.octets.specs.Octets.{put_at}
use Rattle.table.specs.Table.{count_in, table_in_range}
use Rattle.asks.specs.Group.{group_size}
use Rattle.asked.specs.Asked.{asked_size, front_of}
use Rattle.asked.specs.Layer.{old_layer, new_layer}
use Rattle.asked.proofs.AskedLaws.{found-front, found-none, asked-size, tail_is, same_size}
use Rattle.asked.proofs.MoveLaws.{forward-refused, forward-done, forward-not, and-false}
use borrow.Author.Rules.{rules}
use Rattle.std.specs.Prelude.{Err}
use Rattle.control.proofs.CallLaws.{passed-up}
use Rattle.asked.proofs.forward.Goals as goal

pub returns-in_err-b : goal.returns-in_err-b
returns-in_err-b c =
    let none = found-none old_layer c.args.old.now (sym c.front_size.ensures.0 ∙ c.in_err-b.was) in
    let no = forward-refused c.args.old.now c.args.new.now (rw none.0) in
    (passed-up _ c.from_residual.ensures.1 ∙ ap Err none.1 ∙ no.0, no.1)

pub bounds-old-0 : goal.bounds-old-0
bounds-old-0 c =
    let front = found-front old_layer c.args.old.now (sym c.front_size.ensures.0 ∙ c.in_ok-b.was) in
    let long = asked-size old_layer c.args.old.now front.has in
    omega (arith, long)

pub whole_size-f-requires : goal.whole_size-f-requires
whole_size-f-requires c = omega (arith, c.type_inv.old 0)

pub overflow_add-f : goal.overflow_add-f
overflow_add-f c = let is = c.whole_size-f.ensures in omega (arith, is, c.type_inv.old 0)

pub returns-then-new-f : goal.returns-then-new-f
returns-then-new-f c =
    let front = found-front old_layer c.args.old.now (sym c.front_size.ensures.0 ∙ c.in_ok-b.was) in
    let a = c.args in
    let m = a.old.now in
    let u = a.new.now in
    forward-refused m u (rw (front.has, ne_eqb (length u) (asked_size new_layer (count_in m)) (λ e. let k = c.if-new-f.true in omega (arith, k, e, front.is, c.whole_size-f.ensures))) (and-false (table_in_range (front_of old_layer m))))

pub slice_bounds-forward-end : goal.slice_bounds-forward-end
slice_bounds-forward-end c =
    let front = found-front old_layer c.args.old.now (sym c.front_size.ensures.0 ∙ c.in_ok-b.was) in
    let m = c.args.old.now in
    let long = asked-size old_layer m front.has in
    sym (length-take-le c.in_ok-b.b m (omega (arith, long, front.is, c.whole_size-f.ensures)))

pub slice_bounds-forward-end-3 : goal.slice_bounds-forward-end-3
slice_bounds-forward-end-3 c =
    let a = c.args in
    let u = a.new.now in
    let f = c.whole_size-f.result in
    let size : length u ≡ f + group_size * count_in a.old.now = let k = c.if-new-f.false in omega (arith, k) in
    sym (length-take-le f u (omega (arith, size)))

pub slice_bounds-put-count : goal.slice_bounds-put-count
slice_bounds-put-count c =
    let front = found-front old_layer c.args.old.now (sym c.front_size.ensures.0 ∙ c.in_ok-b.was) in
    let long = asked-size old_layer c.args.old.now front.has in
    omega (arith, long, front.is, c.whole_size-f.ensures)

pub slice_bounds-put-start : goal.slice_bounds-put-start
slice_bounds-put-start c =
    let front = found-front old_layer c.args.old.now (sym c.front_size.ensures.0 ∙ c.in_ok-b.was) in
    let long = asked-size old_layer c.args.old.now front.has in
    omega (arith, long, front.is, c.whole_size-f.ensures)

pub put-requires : goal.put-requires
put-requires c =
    let front = found-front old_layer c.args.old.now (sym c.front_size.ensures.0 ∙ c.in_ok-b.was) in
    let a = c.args in
    let m = a.old.now in
    let long = asked-size old_layer m front.has in
    let u = a.new.now in
    let b = c.in_ok-b.b in
    let f = c.whole_size-f.result in
    let size : length u ≡ f + group_size * count_in m = let k = c.if-new-f.false in omega (arith, k) in
    let v = c.forward-a.new.new in
    let same : length v ≡ length (take f u) = search rules in
    let k = same_size f u v (omega (arith, size)) same in
    rw (tail_is b m) (let d = length-drop b m in omega (arith, d, k, size, long, front.is, c.whole_size-f.ensures))

pub returns-then-is_ok : goal.returns-then-is_ok
returns-then-is_ok c =
    let front = found-front old_layer c.args.old.now (sym c.front_size.ensures.0 ∙ c.in_ok-b.was) in
    let a = c.args in
    let m = a.old.now in
    let u = a.new.now in
    let b = c.in_ok-b.b in
    let f = c.whole_size-f.result in
    let size : length u ≡ f + group_size * count_in m = let k = c.if-new-f.false in omega (arith, k) in
    let v = c.forward-a.new.new in
    let same : length v ≡ length (take f u) = search rules in
    forward-done m u b f front.is c.whole_size-f.ensures front.has size _ v c.forward-a.ensures.0 c.forward-a.ensures.1 (sym c.is_ok.ensures.value ∙ c.if-is_ok.true) same _
    (c.put.ensures ∙ ap (λ (l : List ℕ). put_at f l (v ++ drop f u)) (tail_is b m))

pub returns-else-is_ok : goal.returns-else-is_ok
returns-else-is_ok c =
    let front = found-front old_layer c.args.old.now (sym c.front_size.ensures.0 ∙ c.in_ok-b.was) in
    let a = c.args in
    let m = a.old.now in
    let u = a.new.now in
    let f = c.whole_size-f.result in
    let size : length u ≡ f + group_size * count_in m = let k = c.if-new-f.false in omega (arith, k) in
    forward-not m u c.in_ok-b.b f front.is c.whole_size-f.ensures front.has size _ c.forward-a.new.new c.forward-a.ensures.0 c.forward-a.ensures.1 (sym c.is_ok.ensures.value ∙ c.if-is_ok.false)
