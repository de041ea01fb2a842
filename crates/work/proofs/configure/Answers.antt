-- `work::configure` meets its contract: equal settings change nothing, others go through `change`. Assumes nothing.
use mathlib.Core.Path.{◌≡◌, refl, sym, ap, ◌∙◌}
use mathlib.Core.Bool.{true, false}
use Rattle.port.specs.declared.record.Port.{Port}
use Rattle.port.specs.Range.{own_fits}
use Rattle.settings.specs.Settings.{same_settings}
use Rattle.table.specs.Table.{port_at}
use Rattle.table.proofs.TableLaws.{octets-back}
use Rattle.settings.proofs.RangeLaws.{configured_typed}
use Rattle.work.specs.Work.{after_settings}
use Rattle.work.proofs.WorkLaws.{own_typed}
use Rattle.work.proofs.configure.Goals as goal

pub returns-then-is_held : goal.returns-then-is_held
unfolding after_settings
returns-then-is_held c =
    let a = c.args in
    let t = a.table.now in
    let same : same_settings a.settings (port_at t.octets.now a.i) ≡ true =
    rw (c.load-p.ensures.0, c.lent.ensures) at (sym c.is_held.ensures ∙ c.if-is_held.true) in
    record { memory = refl; made = rw same (sym (octets-back t.octets.now t.in_range t.fits)) }

pub change-requires : goal.change-requires
change-requires c =
    let a = c.args in
    let p = c.load-p.result in
    let own = own_typed c.configure.result.own _ _ c.configure.type_inv.1.1.1.1.1.1.1.1.1.0.1 in (
      c.requires,
      rw (c.configure.ensures, ← c.lent.ensures)
          (configured_typed _ a.settings p (ap (λ (q : Port). own_fits q.own) (sym c.configure.ensures) ∙ own) c.load-p.ensures.1),
    )

pub returns : goal.returns
unfolding after_settings
returns c =
    let a = c.args in
    let other : same_settings a.settings (port_at a.table.now.octets.now a.i) ≡ false =
    rw (c.load-p.ensures.0, c.lent.ensures) at (sym c.is_held.ensures ∙ c.if-is_held.false) in
    record { memory = c.change.ensures.memory; made = c.change.ensures.made ∙ rw (other, c.configure.ensures, c.load-p.ensures.0, c.lent.ensures) }
