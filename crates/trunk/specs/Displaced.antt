-- Displaced ports (43.4.8 port_moved, R7.15).
use Rattle.std.specs.Prelude.{ℕ, Bool, cond, not, ◌&&◌, List, eqb}
use Rattle.octets.specs.Lists.{map_from}
use Rattle.frame.specs.declared.block.Block.{Block}
use Rattle.machine.specs.Receive.{is_disabled}
use Rattle.machine.specs.Compare.{same_address}
use Rattle.port.specs.declared.record.Port.{Port}
use Rattle.port.specs.Receive.{moved}

-- in PORT_DISABLED, with a partner whose system address and port are those of the block `a`
unfoldable pub is_displaced : Block → Port → Bool
is_displaced a p =
    is_disabled p.phase.receive
    && (same_address p.partner.system.address a.system.address && eqb p.partner.port.number a.port.number)

-- port r heard the block `a`: every other port that is displaced does INITIALIZE, then PORT_DISABLED
unfoldable pub displaced_if : ℕ → Block → ℕ → Port → Port
displaced_if r a i p = cond (not (eqb i r) && is_displaced a p) (moved p) p

unfoldable pub displaced : ℕ → Block → List Port → List Port
displaced r a ps = map_from (displaced_if r a) 0 ps
