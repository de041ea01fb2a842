-- `work::begin` meets its contract: memory is filled with the record with which a port begins, and steps 3 to 6 done. Assumes nothing.
use mathlib.Core.Path.{◌≡◌, sym, ap, ◌∙◌}
use Prim.Native.Nat.{ℕ}
use mathlib.Core.List.{List}
use lib.ListN.{replicate}
use Rattle.port.specs.declared.record.Port.{Port}
use Rattle.settings.specs.Settings.{started}
use Rattle.port.specs.Range.{own_fits}
use Rattle.table.specs.Layout.{header_of}
use Rattle.table.specs.Table.{ports, table_octets}
use Rattle.trunk.specs.Settled.{settled}
use Rattle.work.specs.Work.{after_start}
use Rattle.table.proofs.FillLaws.{room-is}
use borrow.Author.Rules.{rules}
use Rattle.trunk.proofs.TableWork.{then_all, remade}
use Rattle.settings.proofs.RangeLaws.{started_typed}
use Rattle.work.proofs.WorkLaws.{own_typed}
use Rattle.work.proofs.begin.Goals as goal

pub fill-requires : goal.fill-requires
fill-requires c =
    let a = c.args in
    let room = c.requires in
    let is : c.start.result ≡ started a.settings = c.start.ensures in
    let own = own_typed c.start.result.own _ _ c.start.type_inv.1.1.1.1.1.1.1.1.1.0.1 in
    (room, rw is (started_typed a.header.count a.settings (room-is a.table.now a.header.count room).some (ap (λ (q : Port). own_fits q.own) (sym is) ∙ own)))

pub returns : goal.returns
unfolding after_start settled
returns c =
    let laid = c.fill.ensures in
    let left = remade (then_all c.join_all.ensures c.mux_all.ensures) in
    search rules
    ∙ left.made
    ∙ ap (λ (l : List ℕ). table_octets (header_of l) (settled (header_of l) (ports l))) c.known-table.ensures.1
    ∙ (λ j. table_octets (laid.0 j) (settled (laid.0 j) ((laid.2 ∙ ap (replicate c.args.header.count) c.start.ensures) j)))
