-- `tick` meets its contract: the base's tick, and the machines. Assumes nothing.
use mathlib.Core.Path.{◌≡◌, refl, sym, ◌∙◌}
use lib.ListN.{length, take}
use lib.Seq.{length-take-le}
use Rattle.control.specs.Call as call
use Rattle.whole.proofs.CallLaws.{unfound, found-base, finished, rejoined}
use borrow.Author.Rules.{rules}
use Rattle.whole.proofs.tick.Goals as goal

pub returns-in_err-b : goal.returns-in_err-b
returns-in_err-b c = unfound call.tick c.args.table.now c.from_residual.result refl (sym c.base_size.ensures.0 ∙ c.in_err-b.was) c.from_residual.ensures.1

pub slice_bounds-tick-end-2 : goal.slice_bounds-tick-end-2
slice_bounds-tick-end-2 c =
    let base = found-base c.args.table.now (sym c.base_size.ensures.0 ∙ c.in_ok-b.was) in
    sym (length-take-le c.in_ok-b.b c.args.table.now base.most)

pub watch_if-requires : goal.watch_if-requires
watch_if-requires c e =
    let base = found-base c.args.table.now (sym c.base_size.ensures.0 ∙ c.in_ok-b.was) in
    let w = c.args.table.now in
    let same : length c.tick-a.new.table ≡ length (take c.in_ok-b.b w) = search rules in
    rejoined call.tick refl w base.has c.in_ok-b.b base.is c.tick-a.new.table same c.tick-a.ensures.1

pub returns : goal.returns
returns c =
    let base = found-base c.args.table.now (sym c.base_size.ensures.0 ∙ c.in_ok-b.was) in
    finished call.tick c.args.table.now _ base.is _ _ _ _ base.has c.tick-a.ensures.0 c.tick-a.ensures.1 c.is_ok.ensures.value c.watch_if.ensures
