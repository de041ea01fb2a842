-- `fetch` meets its contract: the call on the front. Assumes nothing.
use mathlib.Core.Path.{refl, sym, ◌∙◌}
use lib.Seq.{length-take-le}
use Rattle.control.specs.Call as call
use Rattle.asked.proofs.AskedLaws.{unfound-out, found-front, finished-out}
use Rattle.asked.specs.Layer.{new_layer}
use Rattle.asked.proofs.fetch.Goals as goal

pub returns-in_err-f : goal.returns-in_err-f
returns-in_err-f c = unfound-out (call.fetch c.args.n c.args.out.now) c.args.table.now c.from_residual.result refl (sym c.front_size.ensures.0 ∙ c.in_err-f.was) c.from_residual.ensures.1

pub slice_bounds-fetch-end-2 : goal.slice_bounds-fetch-end-2
slice_bounds-fetch-end-2 c =
    let front = found-front new_layer c.args.table.now (sym c.front_size.ensures.0 ∙ c.in_ok-f.was) in
    sym (length-take-le c.in_ok-f.f c.args.table.now front.most)

pub returns : goal.returns
returns c =
    let front = found-front new_layer c.args.table.now (sym c.front_size.ensures.0 ∙ c.in_ok-f.was) in
    let a = c.args in
    finished-out (call.fetch a.n a.out.now) a.table.now c.in_ok-f.f front.is front.has _ _ _ _ _ refl c.fetch.ensures.0 c.fetch.ensures.1 refl refl c.fetch.ensures.2
