-- `work::set_line` meets its contract: values as they are change nothing, others go through `change`. Assumes nothing.
use mathlib.Core.Path.{◌≡◌, refl, sym, ◌∙◌}
use mathlib.Core.Bool.{true, false}
use Rattle.machine.specs.States.{same_line}
use Rattle.machine.proofs.CompareLaws.{beq-alike}
use Rattle.port.proofs.RangeLaws.{lined-ranged}
use Rattle.table.specs.Table.{port_at}
use Rattle.table.proofs.TableLaws.{octets-back}
use Rattle.work.specs.Work.{after_line}
use Rattle.work.proofs.set_line.Goals as goal

pub returns-then-eq : goal.returns-then-eq
unfolding after_line
returns-then-eq c =
    let a = c.args in
    let t = a.table.now in
    let p = c.load-p.result.line in
    let told : c.eq.result ≡ same_line a.line p = rw (c.eq.ensures, beq-alike a.line.up p.up, beq-alike a.line.full p.full) in
    let same : same_line a.line (port_at t.octets.now a.i).line ≡ true =
    rw (c.load-p.ensures.0, c.lent.ensures) at (sym told ∙ c.if-eq.true) in
    record { memory = refl; made = rw same (sym (octets-back t.octets.now t.in_range t.fits)) }

pub change-requires : goal.change-requires
change-requires c =
    (c.requires, rw (c.set_line.ensures, ← c.lent.ensures) (lined-ranged _ c.args.line c.load-p.result c.load-p.ensures.1))

pub returns : goal.returns
unfolding after_line
returns c =
    let a = c.args in
    let p = c.load-p.result.line in
    let told : c.eq.result ≡ same_line a.line p = rw (c.eq.ensures, beq-alike a.line.up p.up, beq-alike a.line.full p.full) in
    let other : same_line a.line (port_at a.table.now.octets.now a.i).line ≡ false =
    rw (c.load-p.ensures.0, c.lent.ensures) at (sym told ∙ c.if-eq.false) in
    record { memory = c.change.ensures.memory; made = c.change.ensures.made ∙ rw (other, c.set_line.ensures, c.load-p.ensures.0, c.lent.ensures) }
