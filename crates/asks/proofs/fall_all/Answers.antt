-- `fall_all` meets its contract: the loop has done the first i groups, and a turn does the next. Assumes nothing.
use native.Mathlib.Numerals.{add-one}
use native.Mathlib.Omega.{arith}
use Rattle.asks.proofs.GroupLaws.{fallen_at, done_first, fall_turn, fall_end}
use Rattle.asks.proofs.fall_all.Goals as goal

pub loop-i-init : goal.loop-i-init
loop-i-init c = done_first (fallen_at c.args.groups.now) c.args.groups.now

pub loop-i-preserved : goal.loop-i-preserved
loop-i-preserved c =
    let a = c.args in
    let loop = c.loop-i in
    rw add-one (fall_turn a.groups.now a.n c.requires loop.i _ loop.invariant _ c.fall_one.ensures)

pub returns : goal.returns
returns c = fall_end c.args.groups.now c.args.n c.requires c.loop-i.i _ c.loop-i.invariant (omega arith)
