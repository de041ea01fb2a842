-- `forward` meets its contract: the source over the front of the target, and the machines begun. Assumes nothing.
use mathlib.Core.Path.{sym, ◌∙◌}
use native.Mathlib.Omega.{arith}
use Rattle.whole.proofs.MoveLaws.{forward-refused, source-size, target_size, put-fits, forward-done}
use Rattle.whole.proofs.forward.Goals as goal

pub returns-then-not-goes_forward : goal.returns-then-not-goes_forward
returns-then-not-goes_forward c =
    let a = c.args in
    forward-refused a.old.now a.new.now (sym c.goes_forward.ensures ∙ c.if-not-goes_forward.true)

pub put-requires : goal.put-requires
put-requires c =
    let a = c.args in
    let goes = sym c.goes_forward.ensures ∙ c.if-not-goes_forward.false in
    let s = source-size a.old.now a.new.now goes in
    let l = target_size a.old.now a.new.now goes in
    omega (arith, s, l)

pub watch_all-requires : goal.watch_all-requires
watch_all-requires c =
    let a = c.args in
    let goes = sym c.goes_forward.ensures ∙ c.if-not-goes_forward.false in
    rw c.put.ensures (put-fits a.old.now a.new.now goes)

pub returns : goal.returns
returns c =
    let a = c.args in
    let goes = sym c.goes_forward.ensures ∙ c.if-not-goes_forward.false in
    forward-done a.old.now a.new.now goes _ (c.watch_all.ensures ∙ rw c.put.ensures)
