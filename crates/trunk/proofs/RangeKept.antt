-- Steps 3 to 6 and displacement keep a record in range: their parts do, by port's laws. Assumes nothing.
use Prim.Native.Nat.{ℕ}
use mathlib.Core.Path.{◌≡◌}
use mathlib.Core.Bool.{true, not, ◌&&◌}
use lib.Dec.{eqb}
use Rattle.octets.specs.Octets.{within}
use Rattle.frame.specs.declared.block.Block.{Block}
use Rattle.port.specs.declared.record.Port.{Port}
use Rattle.port.specs.Mux.{mux_run, detached, placed}
use Rattle.port.specs.Receive.{moved}
use Rattle.port.specs.Range.{port_in_range}
use Rattle.port.proofs.RangeLaws.{if-ranged, detached-ranged, placed-ranged, mux-ranged, cleared_ranged, moved-ranged}
use Rattle.trunk.specs.Settled.{must_move, reselected, muxed}
use Rattle.trunk.specs.Displaced.{displaced_if, is_displaced}

module _ (count : ℕ) where
  pub reselected-ranged : (k : ℕ) (p : Port) → within 1 k count ≡ true → port_in_range count p ≡ true → port_in_range count (reselected k p) ≡ true
  unfolding reselected
  reselected-ranged k p h e = if-ranged count (must_move k p) (placed k (detached p)) p (placed-ranged count k (detached p) h (detached-ranged count p e)) e

  pub muxed-ranged : (p : Port) → port_in_range count p ≡ true → port_in_range count (muxed p) ≡ true
  unfolding muxed
  muxed-ranged p e = cleared_ranged count (mux_run p) (mux-ranged count p e)

  pub displaced-ranged : (r : ℕ) (a : Block) (i : ℕ) (p : Port) → port_in_range count p ≡ true → port_in_range count (displaced_if r a i p) ≡ true
  unfolding displaced_if
  displaced-ranged r a i p e = if-ranged count (not (eqb i r) && is_displaced a p) (moved p) p (moved-ranged count p e) e
