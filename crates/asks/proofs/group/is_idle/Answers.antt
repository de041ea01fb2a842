-- `is_idle` meets its contract: a group without a timer that is not awaited falls to itself. Assumes nothing.
use lib.Dec.{eqb}
use borrow.Author.Tests.{eqb-false, not-true}
use Rattle.asks.proofs.RestLaws.{unwaited-falls}
use Rattle.asks.proofs.group.is_idle.Goals as goal

pub returns-then-w-le4 : goal.returns-then-w-le4
returns-then-w-le4 c e =
    let r = c.first_octets-w.result in
    let is = c.first_octets-w.ensures in
    unwaited-falls c.args.s.now c.fits-s c.told-s (rw (← is) c.if-w-le4.true) (rw (← is) (eqb-false r 1 (not-true (eqb r 1) e)))
