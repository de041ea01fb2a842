-- What every call leaves: each port's machines are at rest in the states that go with its link and duplex, and steps 3 to 6 (R4) change
-- nothing.
use Rattle.std.specs.Prelude.{ℕ, ◌≡◌, true, List}
use Rattle.octets.specs.Lists.{Each}
use Rattle.octets.specs.Octets.{Octets}
use Rattle.port.specs.declared.record.Port.{Port}
use Rattle.port.specs.Rest.{Resting}
use Rattle.table.specs.declared.layout.Header.{Header}
use Rattle.table.specs.Layout.{header_of}
use Rattle.table.specs.Table.{table_in_range, ports}
use Rattle.trunk.specs.Settled.{settled}

pub record AtRest (ours : Header) (ps : List Port) : Type 0 where
  pub each : Each Resting ps
  pub together : settled ours ps ≡ ps

-- a table that no call refuses with answer 1, of octets, at rest
pub record Sound (t : List ℕ) : Type 0 where
  pub ranged : table_in_range t ≡ true
  pub octets : Octets t
  pub rest : AtRest (header_of t) (ports t)
