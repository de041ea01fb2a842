-- `back` meets its contract: the front moves, and the groups go along. Assumes nothing.
use Prim.Native.Nat.{ℕ, ◌+◌, ◌*◌}
use mathlib.Core.Path.{◌≡◌, sym, ap, ◌∙◌}
use mathlib.Core.List.{List, ◌++◌}
use native.Mathlib.Omega.{arith}
use lib.ListN.{length, take, drop, length-drop}
use lib.Seq.{length-take-le}
use borrow.Author.Tests.{ne_eqb}
use Rattle.octets.specs.Octets.{put_at}
use Rattle.table.specs.Table.{count_in}
use Rattle.asks.specs.Group.{group_size}
use Rattle.whole.specs.Moves.{is_new}
use Rattle.asked.specs.Asked.{asked_size, front_of}
use Rattle.asked.specs.Layer.{old_layer, new_layer}
use Rattle.asked.proofs.AskedLaws.{found-front, found-none, asked-size, tail_is, same_size}
use Rattle.asked.proofs.MoveLaws.{back-refused, back_done, back-not, and-false}
use borrow.Author.Rules.{rules}
use Rattle.std.specs.Prelude.{Err}
use Rattle.control.proofs.CallLaws.{passed-up}
use Rattle.asked.proofs.back.Goals as goal

pub returns-in_err-f : goal.returns-in_err-f
returns-in_err-f c =
    let none = found-none new_layer c.args.new.now (sym c.front_size.ensures.0 ∙ c.in_err-f.was) in
    let no = back-refused c.args.new.now c.args.old.now (rw none.0) in
    (passed-up _ c.from_residual.ensures.1 ∙ ap Err none.1 ∙ no.0, no.1)

pub bounds-new-0 : goal.bounds-new-0
bounds-new-0 c =
    let front = found-front new_layer c.args.new.now (sym c.front_size.ensures.0 ∙ c.in_ok-f.was) in
    let long = asked-size new_layer c.args.new.now front.has in
    omega (arith, long)

pub place_of-b-requires : goal.place_of-b-requires
place_of-b-requires c = omega (arith, c.type_inv.new 0)

pub returns-then-old-b : goal.returns-then-old-b
returns-then-old-b c =
    let front = found-front new_layer c.args.new.now (sym c.front_size.ensures.0 ∙ c.in_ok-f.was) in
    let a = c.args in
    let m = a.new.now in
    let u = a.old.now in
    back-refused m u (rw (front.has, ne_eqb (length u) (asked_size old_layer (count_in m)) (λ e. let k = c.if-old-b.true in omega (arith, k, e, c.place_of-b.ensures, front.is))) (and-false (is_new (front_of new_layer m))))

pub slice_bounds-back-end : goal.slice_bounds-back-end
slice_bounds-back-end c =
    let front = found-front new_layer c.args.new.now (sym c.front_size.ensures.0 ∙ c.in_ok-f.was) in
    let m = c.args.new.now in
    let long = asked-size new_layer m front.has in
    sym (length-take-le c.in_ok-f.f m (omega (arith, long, c.place_of-b.ensures, front.is)))

pub slice_bounds-back-end-3 : goal.slice_bounds-back-end-3
slice_bounds-back-end-3 c =
    let a = c.args in
    let u = a.old.now in
    let b = c.place_of-b.result in
    let size : length u ≡ b + group_size * count_in a.new.now = let k = c.if-old-b.false in omega (arith, k) in
    sym (length-take-le b u (omega (arith, size)))

pub slice_bounds-put-count : goal.slice_bounds-put-count
slice_bounds-put-count c =
    let front = found-front new_layer c.args.new.now (sym c.front_size.ensures.0 ∙ c.in_ok-f.was) in
    let long = asked-size new_layer c.args.new.now front.has in
    omega (arith, long, c.place_of-b.ensures, front.is)

pub slice_bounds-put-start : goal.slice_bounds-put-start
slice_bounds-put-start c =
    let front = found-front new_layer c.args.new.now (sym c.front_size.ensures.0 ∙ c.in_ok-f.was) in
    let long = asked-size new_layer c.args.new.now front.has in
    omega (arith, long, c.place_of-b.ensures, front.is)

pub put-requires : goal.put-requires
put-requires c =
    let front = found-front new_layer c.args.new.now (sym c.front_size.ensures.0 ∙ c.in_ok-f.was) in
    let a = c.args in
    let m = a.new.now in
    let long = asked-size new_layer m front.has in
    let u = a.old.now in
    let b = c.place_of-b.result in
    let f = c.in_ok-f.f in
    let size : length u ≡ b + group_size * count_in m = let k = c.if-old-b.false in omega (arith, k) in
    let v = c.back-a.new.old in
    let same : length v ≡ length (take b u) = search rules in
    let k = same_size b u v (omega (arith, size)) same in
    rw (tail_is f m) (let d = length-drop f m in omega (arith, d, k, size, long, c.place_of-b.ensures, front.is))

pub returns-then-is_ok : goal.returns-then-is_ok
returns-then-is_ok c =
    let front = found-front new_layer c.args.new.now (sym c.front_size.ensures.0 ∙ c.in_ok-f.was) in
    let a = c.args in
    let m = a.new.now in
    let u = a.old.now in
    let b = c.place_of-b.result in
    let f = c.in_ok-f.f in
    let size : length u ≡ b + group_size * count_in m = let k = c.if-old-b.false in omega (arith, k) in
    let v = c.back-a.new.old in
    let same : length v ≡ length (take b u) = search rules in
    back_done m u b f c.place_of-b.ensures front.is front.has size _ v c.back-a.ensures.0 c.back-a.ensures.1 (sym c.is_ok.ensures.value ∙ c.if-is_ok.true) same _
    (c.put.ensures ∙ ap (λ (l : List ℕ). put_at b l (v ++ drop b u)) (tail_is f m))

pub returns-else-is_ok : goal.returns-else-is_ok
returns-else-is_ok c =
    let front = found-front new_layer c.args.new.now (sym c.front_size.ensures.0 ∙ c.in_ok-f.was) in
    let a = c.args in
    let m = a.new.now in
    let u = a.old.now in
    let b = c.place_of-b.result in
    let size : length u ≡ b + group_size * count_in m = let k = c.if-old-b.false in omega (arith, k) in
    back-not m u b c.in_ok-f.f c.place_of-b.ensures front.is front.has size _ c.back-a.new.old c.back-a.ensures.0 c.back-a.ensures.1 (sym c.is_ok.ensures.value ∙ c.if-is_ok.false)
