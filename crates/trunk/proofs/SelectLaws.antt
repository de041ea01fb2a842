-- Whether two records of a table share a group, and what steps 3 and 4 make of one port. Assumes nothing.
use Prim.Native.Nat.{ℕ, ◌<◌}
use mathlib.Core.Path.{◌≡◌, refl, ap}
use mathlib.Core.Bool.{Bool, true, false, not, ◌&&◌, and-false}
use mathlib.Core.List.{List, map}
use lib.Dec.{eqb}
use Rattle.frame.specs.declared.block.SystemId.{SystemId}
use Rattle.machine.specs.Compare.{same_system}
use Rattle.machine.proofs.CompareLaws.{system-true}
use Rattle.port.specs.Compared.{Compared, compared}
use Rattle.table.specs.declared.layout.Header.{Header}
use Rattle.table.specs.Table.{count_in, ports, port_at}
use Rattle.trunk.specs.Selection.{individual, same_keys, same_group, nobody, joins}
use Rattle.port.specs.declared.record.Port.{Port}
use Rattle.port.specs.Mux.{detached, placed}
use Rattle.trunk.specs.Settled.{must_move, reselected}
use Rattle.trunk.proofs.TableWork.{map-port_at}

-- whether two records of a table share a group
pub joins_at : (ours : Header) (t : List ℕ) (i j : ℕ) → i < count_in t → j < count_in t
    → joins ours (map compared (ports t)) i j ≡ same_group ours (compared (port_at t i)) (compared (port_at t j))
unfolding joins
joins_at ours t i j hi hj = rw (map-port_at compared t i nobody hi, map-port_at compared t j nobody hj)

-- ports whose neighbours' addresses end in other octets share none
pub other_neighbour : (ours : Header) (c d : Compared) → (c.system.address.low ≡ d.system.address.low → ⊥) → same_group ours c d ≡ false
unfolding same_group same_keys
other_neighbour ours c d differ = by (same_system c.system d.system) refl
  where
    by : (b : Bool) → same_system c.system d.system ≡ b
        → (not (individual ours c) && (not (individual ours d) && (eqb c.key d.key && (b && eqb c.partner_key d.partner_key)))) ≡ false
    by true e = absurd (differ (ap (λ (x : SystemId). x.address.low) (system-true c.system d.system e)))
    by false e = rw (and-false (eqb c.key d.key), and-false (not (individual ours d)), and-false (not (individual ours c)))

-- ---- steps 3 and 4 for one port

-- a port that must move goes to DETACHED and then to the rule's aggregator
pub reselected-moves : (k : ℕ) (p : Port) → must_move k p ≡ true → reselected k p ≡ placed k (detached p)
unfolding reselected
reselected-moves k p e = rw e

-- one that need not is left alone
pub reselected-unmoved : (k : ℕ) (p : Port) → must_move k p ≡ false → reselected k p ≡ p
unfolding reselected
reselected-unmoved k p e = rw e
