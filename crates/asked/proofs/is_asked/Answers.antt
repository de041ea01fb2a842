-- `is_asked` meets its contract: the size is tested without a sum that could pass the range. Assumes nothing.
use Prim.Native.Nat.{◌+◌, ◌*◌}
use mathlib.Core.Path.{ap, ◌∙◌}
use native.Mathlib.Omega.{arith}
use lib.ListN.{length}
use borrow.Author.Tests.{ne_eqb, eq-eqb}
use Rattle.table.specs.Table.{count_in}
use Rattle.asks.specs.Group.{group_size}
use Rattle.asks.specs.Groups.{groups_in_range}
use Rattle.asked.proofs.AskedLaws.{tail_is}
use Rattle.asked.proofs.is_asked.Goals as goal

pub overflow_mul-g : goal.overflow_mul-g
overflow_mul-g c = omega (arith, c.type_inv.table 0)

pub returns-then-table-g : goal.returns-then-table-g
returns-then-table-g c =
    let a = c.args in
    let t = a.table.now in
    rw (ne_eqb (length t) (a.f + group_size * count_in t) (λ e. omega (arith, c.if-table-g.true, e)))

pub returns-then-table-g-2 : goal.returns-then-table-g-2
returns-then-table-g-2 c =
    let a = c.args in
    let t = a.table.now in
    rw (ne_eqb (length t) (a.f + group_size * count_in t) (λ e. omega (arith, c.if-table-g-2.true, c.if-table-g.false, e)))

pub returns : goal.returns
returns c =
    let a = c.args in
    let t = a.table.now in
    rw (eq-eqb (length t) (a.f + group_size * count_in t) (omega (arith, c.if-table-g-2.false, c.if-table-g.false)))
    (c.are_groups.ensures ∙ ap (λ l. groups_in_range (count_in t) l) (tail_is a.f t))
