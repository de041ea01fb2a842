-- `tick` meets its contract: the call on the front, and the timers fall. Assumes nothing.
use mathlib.Core.Path.{◌≡◌, refl, sym, ◌∙◌}
use mathlib.Core.List.{◌++◌}
use native.Mathlib.Omega.{arith}
use lib.ListN.{length, take, drop}
use lib.Seq.{get_or-take, length-take-le}
use Rattle.control.specs.Accepted.{accepted}
use Rattle.control.specs.Call as call
use Rattle.asked.proofs.AskedLaws.{unfound, found-front, finished, new-front, old_tail, same_size}
use Rattle.asks.specs.Groups.{all_fallen}
use mathlib.Core.Bool.{cond}
use Rattle.table.specs.Table.{count_in}
use borrow.Author.Rules.{rules}
use Rattle.asked.specs.Layer.{new_layer}
use Rattle.asked.proofs.tick.Goals as goal

pub returns-in_err-f : goal.returns-in_err-f
returns-in_err-f c = unfound call.tick c.args.table.now c.from_residual.result refl (sym c.front_size.ensures.0 ∙ c.in_err-f.was) c.from_residual.ensures.1

pub bounds-table-0 : goal.bounds-table-0
bounds-table-0 c =
    let front = found-front new_layer c.args.table.now (sym c.front_size.ensures.0 ∙ c.in_ok-f.was) in
    let size = front.size in let is = front.is in omega (arith, size, is)

pub slice_bounds-tick-end-2 : goal.slice_bounds-tick-end-2
slice_bounds-tick-end-2 c =
    let front = found-front new_layer c.args.table.now (sym c.front_size.ensures.0 ∙ c.in_ok-f.was) in
    sym (length-take-le c.in_ok-f.f c.args.table.now front.most)

pub fall_if-requires : goal.fall_if-requires
fall_if-requires c =
    let front = found-front new_layer c.args.table.now (sym c.front_size.ensures.0 ∙ c.in_ok-f.was) in
    let m = c.args.table.now in
    let same : length c.tick-a.new.table ≡ length (take c.in_ok-f.f m) = search rules in
    same_size c.in_ok-f.f m c.tick-a.new.table front.most same ∙ front.size

pub returns : goal.returns
returns c =
    let front = found-front new_layer c.args.table.now (sym c.front_size.ensures.0 ∙ c.in_ok-f.was) in
    let m = c.args.table.now in
    let most = front.most in
    let f = c.in_ok-f.f in
    let u = c.tick-a.new.table in
    let same : length u ≡ length (take f m) = search rules in
    let count : count_in (take f m) ≡ count_in m = let is = front.is in get_or-take f m 0 0 (omega (arith, is)) in
    finished call.tick m f front.is front.has _ u _ _ refl c.tick-a.ensures.0 c.tick-a.ensures.1 (let back = sym count in λ i. cond (accepted (c.tick-a.ensures.0 i)) (all_fallen (back i) (drop f m)) (drop f m))
    (c.fall_if.ensures ∙ (λ i. new-front f m u most same i ++ cond (c.is_ok.ensures.value i) (all_fallen (count_in m) (old_tail f m u most same i)) (old_tail f m u most same i)))
