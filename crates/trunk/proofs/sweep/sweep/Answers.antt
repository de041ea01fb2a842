-- `trunk::sweep::sweep` meets its contract: the loop has done the first i records (`done_to`), and a turn does the next. Assumes nothing.
use mathlib.Core.Path.{◌≡◌, refl}
use native.Mathlib.Omega.{arith}
use Rattle.table.specs.Table.{count_in}
use Rattle.table.specs.Lent.{Has}
use Rattle.trunk.proofs.TableWork.{loop_begins, loop_ends, in_count, turn}
use Rattle.trunk.proofs.sweep.sweep.Goals as goal

pub loop-i-init : goal.loop-i-init
loop-i-init g c = loop_begins g.does c.args.table.now

pub loop-i-preserved : goal.loop-i-preserved
loop-i-preserved g c =
    let so_far = c.loop-i.invariant in
    let i = c.loop-i.i in
    let h : Has c.args.table.now i = omega (arith, c.loop-i-test.true, rw c.lent.ensures at c.count-i-end.ensures.count) in
    turn g.does i so_far h (g.does i) (c.requires.1.1 _ i _ (in_count g.does i so_far h) c.step.ensures) refl

pub step-requires : goal.step-requires
step-requires g c =
    let so_far = c.loop-i.invariant in
    let h : Has c.args.table.now c.loop-i.i = omega (arith, c.loop-i-test.true, rw c.lent.ensures at c.count-i-end.ensures.count) in
    c.requires.1.0 _ c.loop-i.i (in_count g.does c.loop-i.i so_far h)

pub returns : goal.returns
returns g c =
    let end : count_in c.args.table.now.octets.now ≡ c.loop-i.i = omega (arith, c.loop-i-test.false, c.loop-i.auto.i-end, rw c.lent.ensures at c.count-i-end.ensures.count) in
    loop_ends g.does c.loop-i.i end c.loop-i.invariant
