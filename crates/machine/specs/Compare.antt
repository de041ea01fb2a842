-- The comparisons of 43.4.9, over information blocks.
use Rattle.std.specs.Prelude.{ℕ, ◌≡◌, ◌⊎◌, Bool, true, false, not, ◌&&◌, ◌||◌, eqb}
use Rattle.frame.specs.declared.block.Address.{Address}
use Rattle.frame.specs.declared.block.Block.{Block}
use Rattle.frame.specs.declared.block.SystemId.{SystemId}
use Rattle.frame.specs.declared.block.PortId.{PortId}
use Rattle.frame.specs.declared.state.PortState.{PortState}
use Rattle.machine.specs.Bits.{alike}

unfoldable pub same_address : Address → Address → Bool
same_address x y = eqb x.high y.high && (eqb x.middle y.middle && eqb x.low y.low)

unfoldable pub same_system : SystemId → SystemId → Bool
same_system x y = eqb x.priority y.priority && same_address x.address y.address

-- port, port priority, system, system priority, key: the five numbers
unfoldable pub same_numbers : Block → Block → Bool
same_numbers x y =
    same_system x.system y.system
    && (eqb x.key y.key && (eqb x.port.priority y.port.priority && eqb x.port.number y.port.number))

-- and Aggregation: what update_Selected, update_Default_Selected and recordPDU compare (43.4.9)
unfoldable pub same_party : Block → Block → Bool
same_party x y = same_numbers x y && alike x.state.aggregation y.state.aggregation

-- whom a block names: just these six
pub record Party : Type 0 where
  pub system : SystemId
  pub key : ℕ
  pub port : PortId
  pub aggregation : Bool

abbrev pub party : Block → Party
party b = record { system = b.system; key = b.key; port = b.port; aggregation = b.state.aggregation }

-- and Activity, Timeout, Synchronization: what update_NTT compares (43.4.9)
unfoldable pub same_view : Block → Block → Bool
same_view x y =
    same_party x y
    && (alike x.state.activity y.state.activity
    && (alike x.state.timeout y.state.timeout && alike x.state.synchronization y.state.synchronization))

-- how a block presents its port: the party, and just these three bits
pub record View : Type 0 where
  pub party : Party
  pub activity : Bool
  pub timeout : Bool
  pub synchronization : Bool

abbrev pub view : Block → View
view b = record { party = party b; activity = b.state.activity; timeout = b.state.timeout; synchronization = b.state.synchronization }

-- whether one end at least is active, and known to be: `us` is what we say of ourselves, the frame says `a` of its sender and `b` of us
unfoldable pub maintained : Block → Block → Block → Bool
maintained us a b = a.state.activity || (us.state.activity && b.state.activity)

-- Partner_Oper_Port_State.Synchronization, as recordPDU sets it (43.4.9)
unfoldable pub in_sync : Block → Block → Block → Bool
in_sync us a b = a.state.synchronization && (maintained us a b && (same_party b us || not a.state.aggregation))

-- the same in full: the sender says so, an active end keeps the link alive, and the sender has us right or does not aggregate
pub record InSync (us a b : Block) : Type 0 where
  pub says : a.state.synchronization ≡ true
  pub alive : (a.state.activity ≡ true) ⊎ ((us.state.activity ≡ true) × (b.state.activity ≡ true))
  pub agreed : (party b ≡ party us) ⊎ (a.state.aggregation ≡ false)

-- all eight bits
unfoldable pub same_state : PortState → PortState → Bool
same_state x y =
    alike x.activity y.activity
    && (alike x.timeout y.timeout
    && (alike x.aggregation y.aggregation
    && (alike x.synchronization y.synchronization
    && (alike x.collecting y.collecting
    && (alike x.distributing y.distributing
    && (alike x.defaulted y.defaulted
    && alike x.expired y.expired))))))

-- every octet of two blocks
unfoldable pub same_block : Block → Block → Bool
same_block x y = same_numbers x y && same_state x.state y.state
