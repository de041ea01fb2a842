-- `goes_forward` meets its contract: each way out has the tests that led there. Assumes nothing.
use mathlib.Core.Path.{sym, ◌∙◌}
use native.Mathlib.Omega.{arith}
use Rattle.table.proofs.TableLaws.{in_range}
use Rattle.whole.proofs.goes_forward.Goals as goal

pub returns-then-not-is_table : goal.returns-then-not-is_table
returns-then-not-is_table c = rw (sym c.is_table.ensures ∙ c.if-not-is_table.true)

pub bounds-old-0 : goal.bounds-old-0
bounds-old-0 c =
    let h = (in_range c.args.old.now (sym c.is_table.ensures ∙ c.if-not-is_table.false)).header in
    omega (arith, h)

pub whole_size-requires : goal.whole_size-requires
whole_size-requires c = omega (arith, c.type_inv.old 0)

pub returns : goal.returns
returns c = rw (sym c.is_table.ensures ∙ c.if-not-is_table.false, c.whole_size.ensures)
