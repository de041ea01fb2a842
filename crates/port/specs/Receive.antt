-- The Receive machine (43.4.12, figure 43-10) and its functions (43.4.9). The current-while timer belongs to EXPIRED and CURRENT.
use Rattle.std.specs.Prelude.{ℕ, Bool, true, false, cond, not, ◌&&◌, ◌||◌, Option, Some, None, is_none}
use Rattle.frame.specs.declared.block.Block.{Block}
use Rattle.frame.specs.declared.block.SystemId.{SystemId}
use Rattle.frame.specs.declared.state.PortState.{PortState}
use Rattle.frame.specs.declared.wire.Source.{Source}
use Rattle.frame.specs.declared.wire.Source.TheVariants.{Default, Pdu}
use Rattle.frame.specs.Wire.{applying}
use Rattle.machine.specs.declared.states.Receive.{Receive}
use Rattle.machine.specs.declared.states.Receive.TheVariants.{Initialize, PortDisabled, Expired, LacpDisabled, Defaulted, Current}
use Rattle.machine.specs.declared.states.Selection.TheVariants.{Unselected}
use Rattle.machine.specs.declared.states.Line.{Line}
use Rattle.port.specs.declared.record.Port.{Port}
use Rattle.machine.specs.States.{ticks}
use Rattle.machine.specs.Receive.{is_current, receive_next}
use Rattle.port.specs.Record.{with_receive, with_selected, with_current, with_ntt, with_actor, with_partner, with_line, actor_block}
use Rattle.port.specs.Absent.{no_block}
use Rattle.machine.specs.Bits.{with_timeout, with_aggregation, with_synchronization, with_defaulted, with_expired}
use Rattle.machine.specs.Compare.{same_party, same_view, in_sync, same_block}
use Rattle.machine.specs.Time.{ran_out, short_timeout_time, timeout_time}

-- ---- functions

abbrev pub with_state : Block → PortState → Block
with_state b s = record { system = b.system; key = b.key; port = b.port; state = s }

abbrev pub with_partner_state : Port → PortState → Port
with_partner_state p s = with_partner p (with_state p.partner s)

abbrev pub unselected : Port → Port
unselected p = with_selected p Unselected

abbrev pub expired_bit : Port → Bool → Port
expired_bit p b = with_actor p (with_expired p.actor b)

-- Defaulted, by what is recorded
abbrev pub is_default : Source → Bool
is_default Default = true
is_default Pdu = false

-- what 43.4.9 records: of the frame's block and the default one the one that applies, and by Defaulted which it was
abbrev pub recorded : Source → Block → Block → Port → Port
recorded source pdu default p = with_actor (with_partner p (applying source pdu default)) (with_defaulted p.actor (is_default source))

-- 43.4.9 recordDefault; there is no frame's block
unfoldable pub record_default : Port → Port
record_default p = recorded Default no_block p.own.default p

-- the block that recordPDU records: `us` is what we say of ourselves, the frame says `a` of its sender and `b` of us
abbrev pub pdu_block : Block → Block → Block → Block
pdu_block us a b = with_state a (with_synchronization a.state (in_sync us a b))

-- 43.4.9 recordPDU
unfoldable pub record_pdu : Block → Block → Block → Port → Port
record_pdu us a b p = recorded Pdu (pdu_block us a b) p.own.default p

-- 43.4.9 update_Selected
unfoldable pub update_selected : Block → Port → Port
update_selected a p = cond (same_party a p.partner) p (unselected p)

-- 43.4.9 update_Default_Selected
unfoldable pub update_default_selected : Port → Port
update_default_selected p = update_selected p.own.default p

-- 43.4.9 update_NTT
unfoldable pub update_ntt : Block → Block → Port → Port
update_ntt us b p = cond (same_view b us) p (with_ntt p true)

-- ---- states (43.4.12): the actions on entry, in the figure's order

-- INITIALIZE
unfoldable pub initialized : Port → Port
initialized p = with_receive (with_current (expired_bit (record_default (unselected p)) false) (ticks 0)) Initialize

-- PORT_DISABLED
unfoldable pub port_disabled : Port → Port
port_disabled p = with_receive (with_current (with_partner_state p (with_synchronization p.partner.state false)) (ticks 0)) PortDisabled

-- EXPIRED
unfoldable pub expired : Port → Port
expired p =
    with_receive (expired_bit (with_current (with_partner_state p (with_timeout (with_synchronization p.partner.state false) true)) (ticks short_timeout_time)) true) Expired

without_aggregation : Port → Port
without_aggregation p = with_partner_state p (with_aggregation p.partner.state false)

-- LACP_DISABLED
unfoldable pub lacp_disabled : Port → Port
unfolding without_aggregation
lacp_disabled p = with_receive (with_current (expired_bit (without_aggregation (record_default (unselected p))) false) (ticks 0)) LacpDisabled

-- DEFAULTED
unfoldable pub defaulted : Port → Port
defaulted p = with_receive (with_current (expired_bit (record_default (update_default_selected p)) false) (ticks 0)) Defaulted

-- CURRENT: what it does with the LACPDU
unfoldable pub pdu_recorded : Block → Block → Block → Port → Port
pdu_recorded us a b p = record_pdu us a b (update_ntt us b (update_selected a p))

-- CURRENT; our own Timeout bit sets our current-while timer
unfoldable pub current : Block → Block → Block → Port → Port
current us a b p = with_receive (expired_bit (with_current (pdu_recorded us a b p) (timeout_time p.actor.timeout)) false) Current

-- whether an LACPDU says nothing new: CURRENT, which the port is in, leaves all but the current-while timer as it is (law `repeats-is`)
unfoldable pub repeats : Block → Block → Block → Port → Bool
repeats us a b p =
    is_current p.phase.receive
    && (not (p.actor.defaulted || p.actor.expired) && (same_block (pdu_block us a b) p.partner && (same_view b us || p.ntt)))

-- ---- the machine without an LACPDU

-- CURRENT is entered with an LACPDU alone
abbrev pub receive_entered : Receive → Port → Port
receive_entered Initialize p = initialized p
receive_entered PortDisabled p = port_disabled p
receive_entered Expired p = expired p
receive_entered LacpDisabled p = lacp_disabled p
receive_entered Defaulted p = defaulted p
receive_entered Current p = p

abbrev pub receive_taken : Option Receive → Port → Port
receive_taken None p = p
receive_taken (Some s) p = receive_entered s p

unfoldable pub receive_choice : Port → Option Receive
receive_choice p = receive_next p.phase.receive p.line.up p.line.full (ran_out p.timers.current)

unfoldable pub receive_step : Port → Port
receive_step p = receive_taken (receive_choice p) p

-- until no step applies: two steps lead to rest (law `receive-rests`)
unfoldable pub receive_run : Port → Port
receive_run p = receive_step (receive_step p)

-- whether the machine leaves the record as it is (law `receive-gives-back`)
unfoldable pub rests_receive : Port → Bool
rests_receive p = is_none (receive_choice p)

-- ---- events

-- a frame on another port showed that the partner of this one, which is disabled, has moved (port_moved)
unfoldable pub moved : Port → Port
moved p = port_disabled (initialized p)

-- an accepted LACPDU on port `number` of `system`
unfoldable pub received : SystemId → ℕ → Block → Block → Port → Port
received system number a b p = current (actor_block system number p) a b p

-- another line (R8): every one is reached by way of down, which is what R8.3 asks of an up port
abbrev pub down : Line → Line
down l = record { up = false; full = l.full }

unfoldable pub lined : Line → Port → Port
lined l p = receive_run (with_line (receive_run (with_line p (down p.line))) l)
