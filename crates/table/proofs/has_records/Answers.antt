-- `has_records` meets its contract. The loop's invariant: the first i records are in range; it ends early at one that is not.
-- Assumes nothing.
use mathlib.Core.Path.{◌≡◌, refl, sym, ap, ◌∙◌}
use native.Mathlib.Omega.{arith}
use native.Mathlib.Numerals.{add-one}
use Rattle.octets.proofs.RangeLaws.{both_true}
use Rattle.table.specs.Range.{record_in_range}
use Rattle.table.specs.Table.{first_in_range}
use Rattle.table.proofs.TableLaws.{first-not}
use Rattle.table.proofs.has_records.Goals as goal

pub loop-i-init : goal.loop-i-init
unfolding first_in_range
loop-i-init c = refl

pub returns-then-not-is_record : goal.returns-then-not-is_record
returns-then-not-is_record c =
    let a = c.args in
    let i = c.loop-i.i in
    let bad = sym (c.is_record.ensures ∙ ap (record_in_range a.count) c.record_at.ensures) ∙ c.if-not-is_record.true in
    sym (first-not a.count a.count a.table.now i (omega arith) bad)

pub loop-i-preserved : goal.loop-i-preserved
unfolding first_in_range
loop-i-preserved c =
    let a = c.args in
    let good = sym (c.is_record.ensures ∙ ap (record_in_range a.count) c.record_at.ensures) ∙ c.if-not-is_record.false in
    rw add-one (both_true c.loop-i.invariant good)

pub returns : goal.returns
returns c =
    let all : c.loop-i.i ≡ c.args.count = omega arith in
    sym (rw all at c.loop-i.invariant)
