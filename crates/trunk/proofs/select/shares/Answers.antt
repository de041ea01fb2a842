-- `trunk::select::shares` meets its contract: where the neighbours' addresses end alike, by all that is compared; where not, they are not alike. Assumes nothing.
use mathlib.Core.Path.{◌≡◌, sym, ap, ◌∙◌}
use Rattle.port.specs.declared.record.Port.{Port}
use Rattle.port.specs.Compared.{compared}
use Rattle.table.specs.Keys.{compared_by}
use Rattle.table.specs.Record.{decoded}
use Rattle.table.specs.Table.{port_at}
use Rattle.trunk.proofs.SelectLaws.{other_neighbour}
use borrow.Author.Tests.{ne_eqb}
use Rattle.trunk.proofs.select.shares.Goals as goal

pub returns-else-neighbour_in-c : goal.returns-else-neighbour_in-c
unfolding decoded
returns-else-neighbour_in-c c =
    let a = c.args in
    let p = port_at a.table.now a.j in
    let low : c.neighbour_in.result ≡ p.partner.system.address.low =
    c.neighbour_in.ensures ∙ ap (λ (x : Port). x.partner.system.address.low) c.look.ensures.octets.0 in
    ne_eqb _ _ c.if-neighbour_in-c.false ∙ sym (other_neighbour a.ours (compared_by a.c) (compared p) (λ e. c.if-neighbour_in-c.false (low ∙ sym e)))
