-- `receive` meets its contract: the base's call, and the machines for an LACPDU. Assumes nothing.
use mathlib.Core.Path.{◌≡◌, refl, sym, ◌∙◌}
use lib.ListN.{length, take}
use lib.Seq.{length-take-le}
use Rattle.control.specs.Call as call
use Rattle.whole.proofs.CallLaws.{unfound-out, found-base, finished-out, rejoined}
use borrow.Author.Rules.{rules}
use Rattle.whole.proofs.receive.Goals as goal

pub returns-in_err-b : goal.returns-in_err-b
returns-in_err-b c = unfound-out (call.receive c.args.n c.args.frame.now c.args.out.now) c.args.table.now c.from_residual.result refl (sym c.base_size.ensures.0 ∙ c.in_err-b.was) c.from_residual.ensures.1

pub slice_bounds-receive-end-2 : goal.slice_bounds-receive-end-2
slice_bounds-receive-end-2 c =
    let base = found-base c.args.table.now (sym c.base_size.ensures.0 ∙ c.in_ok-b.was) in
    sym (length-take-le c.in_ok-b.b c.args.table.now base.most)

pub watch_if-requires : goal.watch_if-requires
watch_if-requires c e =
    let base = found-base c.args.table.now (sym c.base_size.ensures.0 ∙ c.in_ok-b.was) in
    let a = c.args in
    let same : length c.receive-a.new.table ≡ length (take c.in_ok-b.b a.table.now) = search rules in
    rejoined (call.receive a.n a.frame.now a.out.now) refl a.table.now base.has c.in_ok-b.b base.is c.receive-a.new.table same c.receive-a.ensures.1

pub returns : goal.returns
returns c =
    let base = found-base c.args.table.now (sym c.base_size.ensures.0 ∙ c.in_ok-b.was) in
    let a = c.args in
    let told = c.receive-a.ensures in
    finished-out (call.receive a.n a.frame.now a.out.now) a.table.now c.in_ok-b.b base.is _ _ _ _ _ base.has told.0 told.1 told.2 c.is_lacpdu.ensures c.watch_if.ensures
