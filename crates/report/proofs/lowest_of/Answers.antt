-- `report::lowest_of` meets its contract: the test for an empty set is the definition's, and the trailing zeros of a 32-bit number are
-- at most 32, so one more fits. Assumes nothing.
use native.Mathlib.Omega.{arith}
use lib.Count.{trailing_le}
use borrow.Author.Tests.{ne_eqb}
use Rattle.report.proofs.lowest_of.Goals as goal

pub returns-then-set-eq0 : goal.returns-then-set-eq0
returns-then-set-eq0 c = rw c.if-set-eq0.true

pub overflow_add-result : goal.overflow_add-result
overflow_add-result c = let most = trailing_le 32 c.args.set in omega arith

pub returns : goal.returns
returns c = rw (ne_eqb _ 0 c.if-set-eq0.false)
