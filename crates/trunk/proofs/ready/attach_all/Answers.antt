-- `trunk::ready::attach_all` meets its contract: every port attaches by the set of aggregators that were held back at first. Assumes nothing.
use Prim.Native.Nat.{◌≤◌}
use mathlib.Core.Path.{◌∙◌}
use lib.ListN.{get_or}
use Rattle.octets.proofs.ListLaws.{sweep_map}
use Rattle.table.specs.Table.{ports}
use Rattle.trunk.proofs.TableWork.{told}
use Rattle.table.proofs.StoreLaws.{ports-length, ports-at}
use Rattle.trunk.specs.Settled.{attaching, attached_all}
use Rattle.trunk.specs.Groups.{attached_unless}
use Rattle.trunk.proofs.EachLaws.{map_alike}
use Rattle.trunk.proofs.GroupSets.{holds-some, attaches}
use Rattle.trunk.proofs.ready.attach_all.Goals as goal

pub returns : goal.returns
unfolding attached_all
returns c =
    let t = c.args.table.now.octets.now in
    let held = c.held_back-held.result in
    told
    (sweep_map (attached_unless held) 0 (ports t)
    ∙ map_alike (attached_unless held) (attaching (ports t)) (ports t)
    (λ i d h.
    let less = rw ports-length at h in
    let some : 1 ≤ (get_or (ports t) i d).aggregator = rw (ports-at t i d less) (holds-some t i (c.args.table.now.in_range, less) c.args.table.now.fits).0 in
    attaches (ports t) i d h (c.requires i d h) some held (rw c.lent.ensures at c.held_back-held.ensures)))
    c.sweep.ensures
