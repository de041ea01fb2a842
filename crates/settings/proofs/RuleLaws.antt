-- What the rules say of settings: when they are the ones that a port has, when they regroup it, and that others ask for an LACPDU. Assumes nothing.
use mathlib.Core.Path.{◌≡◌, refl, ap}
use mathlib.Core.Logic.{◌⊎◌, inl, inr}
use mathlib.Core.Bool.{Bool, true, false, cond, ◌&&◌}
use lib.Dec.{eqb}
use borrow.Author.Tests.{eqb-true, ne_eqb}
use Rattle.octets.proofs.RangeLaws.{both}
use Rattle.machine.specs.declared.states.Selection.TheVariants.{Unselected}
use Rattle.machine.specs.Bits.{alike}
use Rattle.machine.specs.Compare.{same_address}
use Rattle.machine.proofs.CompareLaws.{alike-true, address-true, block-true}
use Rattle.port.specs.declared.record.Port.{Port}
use Rattle.port.specs.Receive.{unselected}
use Rattle.settings.specs.declared.Settings.{Settings}
use Rattle.settings.specs.Settings.{same_grouping, same_settings, regrouped, configured, lawful}

-- R12.1: equal settings are equal in every field
pub record Has (p : Port) (s : Settings) : Type 0 where
  pub address : s.address ≡ p.own.address
  pub key : s.key ≡ p.own.key
  pub priority : s.priority ≡ p.own.priority
  pub activity : s.activity ≡ p.actor.activity
  pub timeout : s.timeout ≡ p.actor.timeout
  pub aggregation : s.aggregation ≡ p.actor.aggregation
  pub default : s.default ≡ p.own.default

pub settings-true : (s : Settings) (p : Port) → same_settings s p ≡ true → Has p s
unfolding same_settings same_grouping
settings-true s p e =
    let g = both (eqb s.key p.own.key && (eqb s.priority p.own.priority && alike s.aggregation p.actor.aggregation)) _ e in
    let k = both (eqb s.key p.own.key) _ g.0 in
    let n = both (eqb s.priority p.own.priority) _ k.1 in
    let a = both (same_address s.address p.own.address) _ g.1 in
    let b = both (alike s.activity p.actor.activity) _ a.1 in
    let c = both (alike s.timeout p.actor.timeout) _ b.1 in
    record {
      address = address-true s.address p.own.address a.0;
      key = eqb-true s.key p.own.key k.0;
      priority = eqb-true s.priority p.own.priority n.0;
      activity = alike-true s.activity p.actor.activity b.0;
      timeout = alike-true s.timeout p.actor.timeout c.0;
      aggregation = alike-true s.aggregation p.actor.aggregation n.1;
      default = block-true s.default p.own.default c.1;
    }

-- R12.2: another key, another port priority or another Aggregation makes the port UNSELECTED
differs : (a b c : Bool) → (a ≡ false) ⊎ ((b ≡ false) ⊎ (c ≡ false)) → a && (b && c) ≡ false
differs a b c (inl e) = rw e
differs true b c (inr (inl e)) = rw e
differs false b c (inr (inl e)) = refl
differs true true c (inr (inr e)) = e
differs true false c (inr (inr e)) = refl
differs false b c (inr (inr e)) = refl

unlike : (x y : Bool) → (x ≡ y → ⊥) → alike x y ≡ false
unlike true true e = absurd (e refl)
unlike true false e = refl
unlike false true e = refl
unlike false false e = absurd (e refl)

other_grouping : (s : Settings) (p : Port) → same_grouping s p ≡ false → (configured s p).phase.selected ≡ Unselected
unfolding configured regrouped
other_grouping s p e = ap (λ (b : Bool). (cond b p (unselected p)).phase.selected) e

module _ (s : Settings) (p : Port) where
  -- of key, port priority and Aggregation one differs
  one-differs : (eqb s.key p.own.key ≡ false) ⊎ ((eqb s.priority p.own.priority ≡ false) ⊎ (alike s.aggregation p.actor.aggregation ≡ false))
      → (configured s p).phase.selected ≡ Unselected
  one-differs h =
      other_grouping s p
      (unfold same_grouping in differs (eqb s.key p.own.key) (eqb s.priority p.own.priority) (alike s.aggregation p.actor.aggregation) h)

  pub key_regroups : (s.key ≡ p.own.key → ⊥) → (configured s p).phase.selected ≡ Unselected
  key_regroups e = one-differs (inl (ne_eqb s.key p.own.key e))

  pub priority_regroups : (s.priority ≡ p.own.priority → ⊥) → (configured s p).phase.selected ≡ Unselected
  priority_regroups e = one-differs (inr (inl (ne_eqb s.priority p.own.priority e)))

  pub aggregation_regroups : (s.aggregation ≡ p.actor.aggregation → ⊥) → (configured s p).phase.selected ≡ Unselected
  aggregation_regroups e = one-differs (inr (inr (unlike s.aggregation p.actor.aggregation e)))

-- R12.3
pub change_calls : (s : Settings) (p : Port) → (configured s p).ntt ≡ true
unfolding configured
change_calls s p = refl

-- R2.4: the default block says of Collecting what it says of Synchronization
pub lawful-true : (s : Settings) → lawful s ≡ true → s.default.state.collecting ≡ s.default.state.synchronization
unfolding lawful
lawful-true s e = alike-true s.default.state.collecting s.default.state.synchronization e

pub unlawful : (s : Settings) → (s.default.state.collecting ≡ s.default.state.synchronization → ⊥) → lawful s ≡ false
unfolding lawful
unlawful s e = unlike s.default.state.collecting s.default.state.synchronization e
