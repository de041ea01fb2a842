-- The Link Aggregation Group Identifier (43.3.6): both ends' system and key, and where the link is individual both ends' port too.
use Rattle.std.specs.Prelude.{ℕ, ◌+◌, Bool, cond, not, ◌||◌, List}
use Rattle.frame.specs.declared.block.SystemId.{SystemId}
use Rattle.frame.specs.declared.block.PortId.{PortId}
use Rattle.port.specs.declared.record.Port.{Port}
use Rattle.table.specs.Table.{port_at, ours}

pub record LagId : Type 0 where
  pub system : SystemId
  pub key : ℕ
  pub port : PortId
  pub partner_system : SystemId
  pub partner_key : ℕ
  pub partner_port : PortId

-- an Individual link: one end or the other may not aggregate (43.3.5). R10.1 has one kind more, a partner that is our own system.
abbrev pub individual_link : Port → Bool
individual_link p = not p.actor.aggregation || not p.partner.state.aggregation

-- a port that may aggregate is not told apart by its number
abbrev pub any_port : PortId
any_port = record { priority = 0; number = 0 }

-- of port `number` of the system `s`
abbrev pub lag_of : SystemId → ℕ → Port → LagId
lag_of s number p = record {
  system = s;
  key = p.own.key;
  port = cond (individual_link p) (record { priority = p.own.priority; number = number }) any_port;
  partner_system = p.partner.system;
  partner_key = p.partner.key;
  partner_port = cond (individual_link p) p.partner.port any_port;
}

-- ports are counted from 0 here
abbrev pub lag_at : List ℕ → ℕ → LagId
lag_at t i = lag_of (ours t).system (i + 1) (port_at t i)
