-- `base_size` meets its contract: answer 1 without monitors, and with them the place behind the last record. Assumes nothing.
use mathlib.Core.Path.{sym, ◌∙◌}
use native.Mathlib.Omega.{arith}
use Rattle.whole.specs.Calls.{base_found}
use Rattle.whole.proofs.CallLaws.{whole-size}
use Rattle.whole.proofs.base_size.Goals as goal

pub returns-then-not-has_monitors : goal.returns-then-not-has_monitors
unfolding base_found
returns-then-not-has_monitors c = (rw (sym c.has_monitors.ensures ∙ c.if-not-has_monitors.true), tt)

pub bounds-table-0 : goal.bounds-table-0
bounds-table-0 c = let size = whole-size _ (sym c.has_monitors.ensures ∙ c.if-not-has_monitors.false) in omega (arith, size)

pub place_of-requires : goal.place_of-requires
place_of-requires c = omega (arith, c.type_inv.table 0)

pub returns : goal.returns
unfolding base_found
returns c =
    let has = sym c.has_monitors.ensures ∙ c.if-not-has_monitors.false in
    let size = whole-size _ has in
    let is = c.place_of.ensures in
    (rw (has, is), omega (arith, size, is))
