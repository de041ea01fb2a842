-- `is_group` meets its contract: one look tells of a group of which the first octets are 0; else its tests are those of the definition. Assumes nothing.
use mathlib.Core.Path.{sym, ◌∙◌}
use native.Mathlib.Omega.{arith}
use borrow.Author.Tests.{eq-eqb}
use Rattle.asks.proofs.RestLaws.{unwaited-ranged}
use Rattle.asks.proofs.group.is_group.Goals as goal

pub returns-then-first_octets-eq0 : goal.returns-then-first_octets-eq0
returns-then-first_octets-eq0 c =
    let is = c.first_octets.ensures in
    let none = c.if-first_octets-eq0.true in
    eq-eqb _ 0 none ∙ sym (unwaited-ranged c.args.s.now c.fits-s (omega (arith, is, none)))
