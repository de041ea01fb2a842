-- `trunk::settle::join_all` meets its contract: steps 3 and 4, and 5. Assumes nothing.
use mathlib.Core.Path.{ap, ◌∙◌}
use Rattle.table.specs.declared.layout.Header.{Header}
use Rattle.table.specs.Layout.{header_of}
use Rattle.table.specs.Table.{ports}
use Rattle.trunk.specs.Settled.{selected_all, attached_all}
use Rattle.trunk.proofs.StepLaws.{all-chosen}
use Rattle.trunk.proofs.TableWork.{told, then_all}
use Rattle.trunk.proofs.settle.join_all.Goals as goal

pub attach_all-requires : goal.attach_all-requires
attach_all-requires c = rw c.select_all.ensures.left.records (all-chosen _ (ports c.args.table.now.octets.now))

pub returns : goal.returns
returns c =
    let t = c.args.table.now.octets.now in
    let ours = c.header-ours.ensures ∙ ap header_of c.lent.ensures in
    told (ap (λ (h : Header). attached_all (selected_all h (ports t))) ours) (then_all c.select_all.ensures c.attach_all.ensures)
