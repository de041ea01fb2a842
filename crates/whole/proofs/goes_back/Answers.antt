-- `goes_back` meets its contract: each way out has the tests that led there. Assumes nothing.
use mathlib.Core.Path.{sym, ap, ◌∙◌}
use mathlib.Core.Bool.{Bool, ◌&&◌}
use lib.Dec.{eqb}
use lib.ListN.{length}
use lib.Seq.{length-take-le}
use Rattle.whole.proofs.CallLaws.{found-base, found-none}
use Rattle.whole.proofs.MoveLaws.{back-is}
use Rattle.whole.proofs.goes_back.Goals as goal

pub returns-in-Err : goal.returns-in-Err
returns-in-Err c = rw (found-none c.args.new.now (sym c.base_size.ensures.0 ∙ c.in-Err.is)).0

pub slice_bounds-is_table-end : goal.slice_bounds-is_table-end
slice_bounds-is_table-end c =
    let base = found-base c.args.new.now (sym c.base_size.ensures.0 ∙ c.in-Ok.is) in
    sym (length-take-le c.in-Ok.b c.args.new.now base.most)

pub returns-in-Ok : goal.returns-in-Ok
returns-in-Ok c =
    let a = c.args in
    let base = found-base a.new.now (sym c.base_size.ensures.0 ∙ c.in-Ok.is) in
    ap (λ (x : Bool). x && eqb (length a.old.now) c.in-Ok.b) c.is_table.ensures ∙ sym (back-is a.new.now a.old.now c.in-Ok.b base.is base.has)
