-- A state with one bit changed, and two bits compared.
use Rattle.std.specs.Prelude.{Bool, true, false, not}
use Rattle.frame.specs.declared.state.PortState.{PortState}

abbrev pub state : Bool → Bool → Bool → Bool → Bool → Bool → Bool → Bool → PortState
state a t g s c d f e = record {
  activity = a;
  timeout = t;
  aggregation = g;
  synchronization = s;
  collecting = c;
  distributing = d;
  defaulted = f;
  expired = e;
}

abbrev pub with_timeout : PortState → Bool → PortState
with_timeout x b =
    state x.activity b x.aggregation x.synchronization x.collecting x.distributing x.defaulted x.expired

abbrev pub with_aggregation : PortState → Bool → PortState
with_aggregation x b =
    state x.activity x.timeout b x.synchronization x.collecting x.distributing x.defaulted x.expired

abbrev pub with_synchronization : PortState → Bool → PortState
with_synchronization x b =
    state x.activity x.timeout x.aggregation b x.collecting x.distributing x.defaulted x.expired

abbrev pub with_collecting : PortState → Bool → PortState
with_collecting x b =
    state x.activity x.timeout x.aggregation x.synchronization b x.distributing x.defaulted x.expired

abbrev pub with_distributing : PortState → Bool → PortState
with_distributing x b =
    state x.activity x.timeout x.aggregation x.synchronization x.collecting b x.defaulted x.expired

abbrev pub with_defaulted : PortState → Bool → PortState
with_defaulted x b =
    state x.activity x.timeout x.aggregation x.synchronization x.collecting x.distributing b x.expired

abbrev pub with_expired : PortState → Bool → PortState
with_expired x b =
    state x.activity x.timeout x.aggregation x.synchronization x.collecting x.distributing x.defaulted b

-- whether two bits are alike
abbrev pub alike : Bool → Bool → Bool
alike true b = b
alike false b = not b
