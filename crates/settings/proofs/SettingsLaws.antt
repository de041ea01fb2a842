-- Settings that change what the selection rule reads make the port UNSELECTED, and none touches the partner block. Assumes nothing.
use Prim.Native.Nat.{ℕ}
use mathlib.Core.Path.{◌≡◌, refl}
use mathlib.Core.Bool.{Bool, true, false, cond, and-eq-true_iff}
use native.Mathlib.Omega.{arith}
use lib.Dec.{eqb}
use borrow.Author.Tests.{eqb-true}
use Rattle.machine.specs.declared.states.Selection.TheVariants.{Unselected, Selected}
use Rattle.machine.proofs.CompareLaws.{alike-true}
use Rattle.port.specs.declared.record.Port.{Port}
use Rattle.port.specs.Compared.{Compared, compared}
use Rattle.port.specs.Receive.{unselected}
use Rattle.settings.specs.declared.Settings.{Settings}
use Rattle.settings.specs.Settings.{same_grouping, regrouped, configured}

apart : {A : Type 0} → Unselected ≡ Selected → A
apart e = let z : ◌≡◌ {A = ℕ} 0 1 = cc in absurd (omega arith)

-- the record as the rule reads it after new settings, where the grouping is the same
same-rule : (s : Settings) (p : Port) → same_grouping s p ≡ true
    → ◌≡◌ {A = Compared} (record {
      key = s.key;
      aggregation = s.aggregation;
      system = p.partner.system;
      partner_key = p.partner.key;
      partner_aggregation = p.partner.state.aggregation;
    }) (compared p)
unfolding same_grouping
same-rule s p e =
    let k = (and-eq-true_iff (eqb s.key p.own.key) _).0 e in
    let a = (and-eq-true_iff (eqb s.priority p.own.priority) _).0 k.1 in
    λ i. record {
      key = eqb-true s.key p.own.key k.0 i;
      aggregation = alike-true s.aggregation p.actor.aggregation a.1 i;
      system = p.partner.system;
      partner_key = p.partner.key;
      partner_aggregation = p.partner.state.aggregation;
    }

pub configured_unselects : (s : Settings) (p : Port) → (configured s p).phase.selected ≡ Selected → compared (configured s p) ≡ compared p
unfolding configured regrouped
configured_unselects s p h = go (same_grouping s p) refl h
  where
    go : (b : Bool) → same_grouping s p ≡ b → (cond b p (unselected p)).phase.selected ≡ Selected
        → ◌≡◌ {A = Compared} (record {
          key = s.key;
          aggregation = s.aggregation;
          system = (cond b p (unselected p)).partner.system;
          partner_key = (cond b p (unselected p)).partner.key;
          partner_aggregation = (cond b p (unselected p)).partner.state.aggregation;
        }) (compared p)
    go false e h = apart h
    go true e h = same-rule s p e

if-partner : (b : Bool) (p : Port) → (cond b p (unselected p)).partner ≡ p.partner
if-partner true p = refl
if-partner false p = refl

-- R12.4: no settings touch the partner block in force
pub configured-partner : (s : Settings) (p : Port) → (configured s p).partner ≡ p.partner
unfolding configured regrouped
configured-partner s p = if-partner (same_grouping s p) p
