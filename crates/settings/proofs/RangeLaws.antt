-- New settings keep a record in range, and the record with which a port begins is in range. Assumes nothing.
use Prim.Native.Nat.{ℕ, ◌≤◌}
use mathlib.Core.Path.{◌≡◌, refl}
use mathlib.Core.Bool.{true, cond}
use native.Mathlib.Omega.{arith}
use Rattle.octets.proofs.RangeLaws.{within-is}
use Rattle.port.specs.declared.record.Port.{Port}
use Rattle.port.specs.Receive.{record_default, initialized, port_disabled, unselected, moved}
use Rattle.port.specs.Range.{timers_in_range, ages_in_range, own_fits, port_in_range}
use Rattle.port.proofs.RangeLaws.{ranged, ranged-is, default-fits, if-unselected, moved-ranged}
use Rattle.settings.specs.declared.Settings.{Settings}
use Rattle.settings.specs.Settings.{own_of, same_grouping, regrouped, configured, blank, started}

module _ (count : ℕ) where
  pub configured-ranged : (s : Settings) (p : Port) → own_fits (own_of s) ≡ true → port_in_range count p ≡ true → port_in_range count (configured s p) ≡ true
  unfolding configured regrouped
  configured-ranged s p h e =
      let r = ranged count (cond (same_grouping s p) p (unselected p)) (if-unselected count (same_grouping s p) p e) in
      ranged-is count (configured s p) (record { aggregator = r.aggregator; timers = r.timers; ages = r.ages; own = h; partner = r.partner })

  -- the same from what the record then holds
  pub configured_typed : (s : Settings) (p : Port) → own_fits (configured s p).own ≡ true → port_in_range count p ≡ true
      → port_in_range count (configured s p) ≡ true
  unfolding configured
  configured_typed s p h e = configured-ranged s p h e

  pub started-ranged : (s : Settings) → 1 ≤ count → own_fits (own_of s) ≡ true → port_in_range count (started s) ≡ true
  unfolding started blank timers_in_range ages_in_range
  started-ranged s some h =
      moved-ranged count (blank s) (ranged-is count (blank s) (record {
        aggregator = within-is 1 1 count (omega arith) some;
        timers = refl;
        ages = refl;
        own = h;
        partner = default-fits (own_of s) h;
      }))

  -- the same from what the record then holds
  pub started_typed : (s : Settings) → 1 ≤ count → own_fits (started s).own ≡ true → port_in_range count (started s) ≡ true
  unfolding started blank moved port_disabled initialized record_default
  started_typed s some h = started-ranged s some h
