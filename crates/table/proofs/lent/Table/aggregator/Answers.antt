-- `aggregator` meets its contract: the aggregator as the octets of record i tell of it, one of a table in range. Assumes nothing.
use mathlib.Core.Path.{ap, ◌∙◌}
use native.Mathlib.Omega.{arith}
use Rattle.octets.proofs.RangeLaws.{within-true}
use Rattle.port.specs.declared.record.Port.{Port}
use Rattle.port.proofs.RangeLaws.{ranged}
use Rattle.table.specs.Record.{decoded}
use Rattle.table.proofs.TableLaws.{in_range}
use Rattle.table.proofs.lent.Table.aggregator.Goals as goal

pub returns : goal.returns
unfolding decoded
returns c =
    let told = c.aggregator_in.ensures ∙ ap (λ (p : Port). p.aggregator) c.look.ensures.octets.0 in
    let all = c.look.ensures.in_range in
    let held = within-true _ _ _ (ranged _ _ all.1).aggregator in
    let most = (in_range _ all.0).most in
    (told, rw told held.0, rw told (omega (arith, held.1, most)))
