-- `control::checks::find` meets its contract: answer 1, then answer 2, then the port's place. Assumes nothing.
use mathlib.Core.Path.{◌≡◌, sym, ◌∙◌}
use mathlib.Core.Bool.{true, false}
use native.Mathlib.Omega.{arith}
use Rattle.octets.proofs.RangeLaws.{within-true}
use Rattle.table.specs.Table.{count_in, table_in_range}
use Rattle.control.specs.Answer.{found, is_number}
use Rattle.control.proofs.checks.find.Goals as goal

pub returns-in_default : goal.returns-in_default
unfolding found
returns-in_default c =
    let none : table_in_range c.args.table.now ≡ false = sym (rw c.in_default.is at c.of.ensures.range) in
    rw none

pub returns-then-not-is_number : goal.returns-then-not-is_number
unfolding found
returns-then-not-is_number c =
    let t = c.args.table.now in
    let ranged : table_in_range t ≡ true = sym (rw c.in-Some.is at c.of.ensures.range) in
    let none : is_number t c.args.n ≡ false = rw (rw c.in-Some.is at c.of.ensures.table) at (sym c.is_number.ensures ∙ c.if-not-is_number.true) in
    rw (ranged, none)

pub overflow_sub-i : goal.overflow_sub-i
overflow_sub-i c = let some = (within-true 1 c.args.n (count_in c.in-Some.table) (sym c.is_number.ensures ∙ c.if-not-is_number.false)).0 in omega arith

pub returns : goal.returns
unfolding found
returns c =
    let t = c.args.table.now in
    let ranged : table_in_range t ≡ true = sym (rw c.in-Some.is at c.of.ensures.range) in
    let some : is_number t c.args.n ≡ true = rw (rw c.in-Some.is at c.of.ensures.table) at (sym c.is_number.ensures ∙ c.if-not-is_number.false) in
    rw (ranged, some)
