-- What the selection rule reads of a record (43.4.14, R10).
use Rattle.std.specs.Prelude.{ℕ, Bool}
use Rattle.frame.specs.declared.block.SystemId.{SystemId}
use Rattle.port.specs.declared.record.Port.{Port}

-- own key and own Aggregation; the partner's system priority and system, key and Aggregation
pub record Compared : Type 0 where
  pub key : ℕ
  pub aggregation : Bool
  pub system : SystemId
  pub partner_key : ℕ
  pub partner_aggregation : Bool

abbrev pub compared : Port → Compared
compared p = record {
  key = p.own.key;
  aggregation = p.actor.aggregation;
  system = p.partner.system;
  partner_key = p.partner.key;
  partner_aggregation = p.partner.state.aggregation;
}
