-- The transitions of the Receive machine but for those with an LACPDU (43.4.12, figure 43-10).
use Rattle.std.specs.Prelude.{Bool, true, false, Option, Some, None}
use Rattle.machine.specs.declared.states.Receive.{Receive}
use Rattle.machine.specs.declared.states.Receive.TheVariants.{Initialize, PortDisabled, Expired, LacpDisabled, Defaulted, Current}

-- what a state means to others
abbrev pub is_disabled : Receive → Bool
is_disabled Initialize = false
is_disabled PortDisabled = true
is_disabled Expired = false
is_disabled LacpDisabled = false
is_disabled Defaulted = false
is_disabled Current = false

abbrev pub is_current : Receive → Bool
is_current Initialize = false
is_current PortDisabled = false
is_current Expired = false
is_current LacpDisabled = false
is_current Defaulted = false
is_current Current = true

-- the transition that applies, if any, by link, duplex, and whether the current-while timer has run out
abbrev pub receive_next : Receive → Bool → Bool → Bool → Option Receive
receive_next Initialize up full out = Some PortDisabled
receive_next PortDisabled false full out = None
receive_next PortDisabled true true out = Some Expired
receive_next PortDisabled true false out = Some LacpDisabled
receive_next Expired false full out = Some PortDisabled
receive_next Expired true full true = Some Defaulted
receive_next Expired true full false = None
receive_next LacpDisabled false full out = Some PortDisabled
receive_next LacpDisabled true full out = None
receive_next Defaulted false full out = Some PortDisabled
receive_next Defaulted true full out = None
receive_next Current false full out = Some PortDisabled
receive_next Current true full true = Some Expired
receive_next Current true full false = None
