-- `line` meets its contract: the call on the front, and a Marker that is awaited on a link that falls is cancelled. Assumes nothing.
use Prim.Native.Nat.{◌-◌}
use mathlib.Core.Path.{◌≡◌, refl, sym, ap, ◌∙◌}
use mathlib.Core.Bool.{Bool, cond, ◌&&◌}
use mathlib.Core.List.{◌++◌}
use native.Mathlib.Omega.{arith}
use lib.ListN.{length, take, drop}
use lib.Seq.{length-take-le}
use Rattle.octets.proofs.RangeLaws.{both, within-true}
use Rattle.table.specs.Table.{count_in}
use Rattle.table.specs.Layout.{place}
use Rattle.asks.specs.declared.ask.Outcome.TheVariants.{Cancelled}
use Rattle.control.specs.Accepted.{accepted}
use Rattle.control.specs.Call as call
use Rattle.asked.specs.Asked.{ended_at}
use Rattle.asked.proofs.AskedLaws.{unfound, found-front, finished, new-front, old_tail, same_size}
use Rattle.asked.proofs.CallLaws.{line-there, line-ends, base-count}
use borrow.Author.Rules.{rules}
use Rattle.asked.specs.Layer.{new_layer}
use Rattle.asked.proofs.line.Goals as goal

pub returns-in_err-f : goal.returns-in_err-f
returns-in_err-f c = unfound (call.line c.args.n c.args.line) c.args.table.now c.from_residual.result refl (sym c.front_size.ensures.0 ∙ c.in_err-f.was) c.from_residual.ensures.1

pub bounds-table-0 : goal.bounds-table-0
bounds-table-0 c =
    let front = found-front new_layer c.args.table.now (sym c.front_size.ensures.0 ∙ c.in_ok-f.was) in
    omega (arith, front.size, front.is)

pub slice_bounds-falls-end : goal.slice_bounds-falls-end
slice_bounds-falls-end c =
    let front = found-front new_layer c.args.table.now (sym c.front_size.ensures.0 ∙ c.in_ok-f.was) in
    omega (arith, front.size, front.is, c.place_of-b.ensures)

pub slice_bounds-falls-end-2 : goal.slice_bounds-falls-end-2
slice_bounds-falls-end-2 c =
    let front = found-front new_layer c.args.table.now (sym c.front_size.ensures.0 ∙ c.in_ok-f.was) in
    sym (length-take-le c.place_of-b.result c.args.table.now (omega (arith, front.size, front.is, c.place_of-b.ensures)))

pub falls-ends-requires : goal.falls-ends-requires
falls-ends-requires c =
    let front = found-front new_layer c.args.table.now (sym c.front_size.ensures.0 ∙ c.in_ok-f.was) in
    let m = c.args.table.now in
    let isf = front.is in
    let isb = c.place_of-b.ensures in
    length-take-le c.place_of-b.result m (omega (arith, front.size, isf, isb)) ∙ isb ∙ ap place (sym (base-count m c.in_ok-f.f c.place_of-b.result isf isb))

pub slice_bounds-line-end-2 : goal.slice_bounds-line-end-2
slice_bounds-line-end-2 c =
    let front = found-front new_layer c.args.table.now (sym c.front_size.ensures.0 ∙ c.in_ok-f.was) in
    sym (length-take-le c.in_ok-f.f c.args.table.now front.most)

pub overflow_sub-i : goal.overflow_sub-i
overflow_sub-i c =
    let front = found-front new_layer c.args.table.now (sym c.front_size.ensures.0 ∙ c.in_ok-f.was) in
    let a = c.args in
    let m = a.table.now in
    let b = c.place_of-b.result in
    let done = sym (ap accepted c.line-a.ensures.0) ∙ sym c.is_ok.ensures.value ∙ (both c.is_ok.result c.falls-ends.result c.if-is_ok-ends.true).0 in
    let there = within-true 1 a.n (count_in (take b m)) (line-there a.n a.line m c.in_ok-f.f b front.is c.place_of-b.ensures done) in
    there.0

pub end-requires : goal.end-requires
end-requires c =
    let front = found-front new_layer c.args.table.now (sym c.front_size.ensures.0 ∙ c.in_ok-f.was) in
    let a = c.args in
    let m = a.table.now in
    let f = c.in_ok-f.f in
    let isf = front.is in
    let b = c.place_of-b.result in
    let isb = c.place_of-b.ensures in
    let done = sym (ap accepted c.line-a.ensures.0) ∙ sym c.is_ok.ensures.value ∙ (both c.is_ok.result c.falls-ends.result c.if-is_ok-ends.true).0 in
    let there = within-true 1 a.n (count_in (take b m)) (line-there a.n a.line m f b isf isb done) in
    let u = c.line-a.new.table in
    let same : length u ≡ length (take f m) = search rules in
    let whole = same_size f m u front.most same in
    let count = base-count m f b isf isb in
    omega (arith, whole, front.size, there.0, there.1, count)

pub returns-then-is_ok-ends : goal.returns-then-is_ok-ends
returns-then-is_ok-ends c =
    let front = found-front new_layer c.args.table.now (sym c.front_size.ensures.0 ∙ c.in_ok-f.was) in
    let a = c.args in
    let m = a.table.now in
    let f = c.in_ok-f.f in
    let isf = front.is in
    let most = front.most in
    let l = a.line in
    let told = c.line-a.ensures.0 in
    let u = c.line-a.new.table in
    let same : length u ≡ length (take f m) = search rules in
    let ends = sym (line-ends a.n l m f c.place_of-b.result isf c.place_of-b.ensures c.line-a.result c.falls-ends.result told c.falls-ends.ensures) ∙ ap (λ (x : Bool). x && c.falls-ends.result) (sym c.is_ok.ensures.value) ∙ c.if-is_ok-ends.true in
    let grouped = sym (ap (λ (x : Bool). cond x (ended_at Cancelled (a.n - 1) (drop f m)) (drop f m)) ends) in
    finished (call.line a.n l) m f isf front.has _ u _ _ refl told c.line-a.ensures.1 grouped
    (c.end.ensures ∙ (λ i. new-front f m u most same i ++ ended_at Cancelled (a.n - 1) (old_tail f m u most same i)))

pub returns-else-is_ok-ends : goal.returns-else-is_ok-ends
returns-else-is_ok-ends c =
    let front = found-front new_layer c.args.table.now (sym c.front_size.ensures.0 ∙ c.in_ok-f.was) in
    let a = c.args in
    let m = a.table.now in
    let f = c.in_ok-f.f in
    let isf = front.is in
    let l = a.line in
    let told = c.line-a.ensures.0 in
    let ends = sym (line-ends a.n l m f c.place_of-b.result isf c.place_of-b.ensures c.line-a.result c.falls-ends.result told c.falls-ends.ensures) ∙ ap (λ (x : Bool). x && c.falls-ends.result) (sym c.is_ok.ensures.value) ∙ c.if-is_ok-ends.false in
    let grouped = sym (ap (λ (x : Bool). cond x (ended_at Cancelled (a.n - 1) (drop f m)) (drop f m)) ends) in
    finished (call.line a.n l) m f isf front.has _ c.line-a.new.table _ _ refl told c.line-a.ensures.1 grouped refl
