-- `fetch` meets its contract: the base's fetch; no machine runs. Assumes nothing.
use mathlib.Core.Path.{refl, sym, ◌∙◌}
use lib.Seq.{length-take-le}
use Rattle.control.specs.Call as call
use mathlib.Core.Bool.{false}
use Rattle.whole.proofs.CallLaws.{unfound-out, found-base, finished-out}
use Rattle.whole.proofs.fetch.Goals as goal

pub returns-in_err-b : goal.returns-in_err-b
returns-in_err-b c = unfound-out (call.fetch c.args.n c.args.out.now) c.args.table.now c.from_residual.result refl (sym c.base_size.ensures.0 ∙ c.in_err-b.was) c.from_residual.ensures.1

pub slice_bounds-fetch-end-2 : goal.slice_bounds-fetch-end-2
slice_bounds-fetch-end-2 c =
    let base = found-base c.args.table.now (sym c.base_size.ensures.0 ∙ c.in_ok-b.was) in
    sym (length-take-le c.in_ok-b.b c.args.table.now base.most)

pub returns : goal.returns
returns c =
    let base = found-base c.args.table.now (sym c.base_size.ensures.0 ∙ c.in_ok-b.was) in
    let a = c.args in
    let told = c.fetch.ensures in
    finished-out (call.fetch a.n a.out.now) a.table.now c.in_ok-b.b base.is _ _ _ _ false base.has told.0 told.1 told.2 refl refl
