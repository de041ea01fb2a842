-- `back` meets its contract: the front of the source over all of the target. Assumes nothing.
use mathlib.Core.Path.{sym, ◌∙◌}
use native.Mathlib.Omega.{arith}
use lib.Seq.{length-take-le}
use Rattle.whole.proofs.CallLaws.{whole-size}
use Rattle.whole.proofs.MoveLaws.{back-refused, back-has, back-size, back_done}
use Rattle.whole.proofs.back.Goals as goal

pub returns-then-not-goes_back : goal.returns-then-not-goes_back
returns-then-not-goes_back c =
    let a = c.args in
    back-refused a.new.now a.old.now (sym c.goes_back.ensures ∙ c.if-not-goes_back.true)

pub bounds-new-0 : goal.bounds-new-0
bounds-new-0 c =
    let a = c.args in
    let size = whole-size a.new.now (back-has a.new.now a.old.now (sym c.goes_back.ensures ∙ c.if-not-goes_back.false)) in
    omega (arith, size)

pub place_of-b-requires : goal.place_of-b-requires
place_of-b-requires c = omega (arith, c.type_inv.new 0)

pub slice_bounds-put-end : goal.slice_bounds-put-end
slice_bounds-put-end c =
    let a = c.args in
    let size = whole-size a.new.now (back-has a.new.now a.old.now (sym c.goes_back.ensures ∙ c.if-not-goes_back.false)) in
    sym (length-take-le c.place_of-b.result a.new.now (omega (arith, size, c.place_of-b.ensures)))

pub put-requires : goal.put-requires
put-requires c =
    let a = c.args in
    let goes = sym c.goes_back.ensures ∙ c.if-not-goes_back.false in
    let size = whole-size a.new.now (back-has a.new.now a.old.now goes) in
    let s = back-size a.new.now a.old.now goes in
    let l = length-take-le c.place_of-b.result a.new.now (omega (arith, size, c.place_of-b.ensures)) in
    omega (arith, s, c.place_of-b.ensures, l)

pub returns : goal.returns
returns c =
    let a = c.args in
    let goes = sym c.goes_back.ensures ∙ c.if-not-goes_back.false in
    back_done a.new.now a.old.now goes c.place_of-b.result c.place_of-b.ensures _ c.put.ensures
