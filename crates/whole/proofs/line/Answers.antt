-- `line` meets its contract: the base's call, and the machines where the line is another. Assumes nothing.
use Rattle.std.specs.Prelude.{Ok}
use mathlib.Core.Path.{◌≡◌, refl, sym, ap, ◌∙◌}
use lib.ListN.{length, take}
use lib.Seq.{length-take-le}
use Rattle.control.specs.Call as call
use Prim.Native.Nat.{ℕ, ◌-◌}
use mathlib.Core.Bool.{Bool, not, ◌&&◌}
use Rattle.machine.specs.States.{same_line}
use Rattle.table.specs.Table.{port_at}
use Rattle.control.specs.declared.answer.Accepted.TheVariants.{Done}
use Rattle.control.specs.Accepted.{accepted}
use Rattle.control.specs.After.{answer}
use Rattle.whole.proofs.CallLaws.{unfound, found-base, finished, rejoined, base-whole, same-settles, accepted-number}
use borrow.Author.Rules.{rules}
use Rattle.whole.proofs.line.Goals as goal

pub returns-in_err-b : goal.returns-in_err-b
returns-in_err-b c = unfound (call.line c.args.n c.args.line) c.args.table.now c.from_residual.result refl (sym c.base_size.ensures.0 ∙ c.in_err-b.was) c.from_residual.ensures.1

pub slice_bounds-has_line-end-2 : goal.slice_bounds-has_line-end-2
slice_bounds-has_line-end-2 c =
    let base = found-base c.args.table.now (sym c.base_size.ensures.0 ∙ c.in_ok-b.was) in
    sym (length-take-le c.in_ok-b.b c.args.table.now base.most)

pub has_line-same-requires : goal.has_line-same-requires
has_line-same-requires c =
    let base = found-base c.args.table.now (sym c.base_size.ensures.0 ∙ c.in_ok-b.was) in
    base-whole c.args.table.now c.in_ok-b.b base.is base.most

pub slice_bounds-line-end-2 : goal.slice_bounds-line-end-2
slice_bounds-line-end-2 c =
    let base = found-base c.args.table.now (sym c.base_size.ensures.0 ∙ c.in_ok-b.was) in
    sym (length-take-le c.in_ok-b.b c.args.table.now base.most)

pub watch_if-requires : goal.watch_if-requires
watch_if-requires c e =
    let base = found-base c.args.table.now (sym c.base_size.ensures.0 ∙ c.in_ok-b.was) in
    let a = c.args in
    let same : length c.line-a.new.table ≡ length (take c.in_ok-b.b a.table.now) = search rules in
    rejoined (call.line a.n a.line) refl a.table.now base.has c.in_ok-b.b base.is c.line-a.new.table same c.line-a.ensures.1

pub returns : goal.returns
unfolding answer
returns c =
    let base = found-base c.args.table.now (sym c.base_size.ensures.0 ∙ c.in_ok-b.was) in
    let a = c.args in
    let w = a.table.now in
    let told = c.line-a.ensures in
    let n = c.in_ok-b.b in
    let is = base.is in
    let ran = ap (λ (x : Bool). x && not c.has_line-same.result) c.is_ok.ensures.value ∙ same-settles c.line-a.result _ _ (λ e. c.has_line-same.ensures (accepted-number (take n w) a.n (Ok Done) (ap accepted (sym told.0) ∙ e)) ∙ ap (λ (k : ℕ). same_line a.line (port_at (take k w) (a.n - 1)).line) is) in
    finished (call.line a.n a.line) w n is _ _ _ _ base.has told.0 told.1 ran c.watch_if.ensures
