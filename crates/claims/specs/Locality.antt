-- Whom a call can affect: the ports that it touches, and those that share a group with one of them before or after.
use Rattle.std.specs.Prelude.{ℕ, ◌<◌, ◌-◌, ◌≡◌, Bool, true, false, ◌&&◌, ◌||◌, List, map, eqb}
use Rattle.frame.specs.Block.{block_of}
use Rattle.frame.specs.Wire.{actor_part}
use Rattle.port.specs.Compared.{compared}
use Rattle.table.specs.Table.{count_in, ports, port_at, ours}
use Rattle.trunk.specs.Selection.{shares_group}
use Rattle.trunk.specs.Displaced.{is_displaced}
use Rattle.control.specs.Call.{Call, start, receive, tick, line, configure, fetch, report, aggregator, due}
use Rattle.control.specs.After.{answer, after}
use Rattle.control.specs.Accepted.{is_lacpdu}
use Rattle.claims.specs.Run.{Takes, Made}

-- port k, from 0, is one that the call names, or is in PORT_DISABLED and an accepted LACPDU shows that its partner has moved; a tick
-- and a start are for every port, and reports for none
abbrev pub touches : Call → List ℕ → ℕ → Bool
touches (start count system delay s) t k = true
touches (receive n frame out) t k =
    eqb k (n - 1) || (is_lacpdu (answer (receive n frame out) t) && is_displaced (block_of (actor_part frame)) (port_at t k))
touches tick t k = true
touches (line n l) t k = eqb k (n - 1)
touches (configure n s) t k = eqb k (n - 1)
touches (fetch n out) t k = eqb k (n - 1)
touches (report n) t k = false
touches (aggregator n) t k = false
touches due t k = false

-- port j shares a group with port k neither before nor after the call
pub record Apart (c : Call) (t : List ℕ) (j k : ℕ) : Type 0 where
  pub before : shares_group (ours t) (map compared (ports t)) j k ≡ false
  pub then : shares_group (ours t) (map compared (ports (after c t))) j k ≡ false

-- 3: a port that shares a group, before and after, with none that a call touches is as it was
abbrev pub Locality : Type 0
Locality = (t : List ℕ) → Made t → (c : Call) → Takes c → (j : ℕ) → j < count_in t
    → ((k : ℕ) → k < count_in t → touches c t k ≡ true → Apart c t j k) → port_at (after c t) j ≡ port_at t j
