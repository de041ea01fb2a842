-- What the rules say of a record that has entered a state or got a block, field by field. Assumes nothing.
use mathlib.Core.Path.{◌≡◌, refl}
use mathlib.Core.Bool.{true, false, cond}
use Rattle.frame.specs.declared.block.Block.{Block}
use Rattle.machine.specs.declared.states.Line.{Line}
use Rattle.machine.specs.declared.states.Selection.TheVariants.{Unselected}
use Rattle.machine.specs.Bits.{with_aggregation, with_timeout, with_synchronization}
use Rattle.machine.specs.Compare.{in_sync}
use Rattle.port.specs.declared.record.Port.{Port}
use Rattle.port.specs.Compared.{compared}
use Rattle.port.specs.Record.{with_line}
use Rattle.port.specs.Receive.{with_state, record_default, record_pdu, expired, lacp_disabled, current}
use Rattle.port.specs.Transmit.{sent}

-- R7.12: the default block is in force, and Defaulted says so
pub record OnDefault (p q : Port) : Type 0 where
  pub partner : q.partner ≡ p.own.default
  pub defaulted : q.actor.defaulted ≡ true

pub records-default : (p : Port) → OnDefault p (record_default p)
unfolding record_default
records-default p = record { partner = refl; defaulted = refl }

-- R7.11: what the frame says of its sender is in force, but for Synchronization, and Defaulted is clear
pub record OnPdu (us a b : Block) (q : Port) : Type 0 where
  pub partner : with_state q.partner (with_synchronization q.partner.state false) ≡ with_state a (with_synchronization a.state false)
  pub synchronization : q.partner.state.synchronization ≡ in_sync us a b
  pub defaulted : q.actor.defaulted ≡ false

pub records_pdu : (us a b : Block) (p : Port) → OnPdu us a b (record_pdu us a b p)
unfolding record_pdu
records_pdu us a b p = record { partner = refl; synchronization = refl; defaulted = refl }

-- R7.4: three seconds are left to be heard, and the partner is taken for one with a short timeout
pub record IsExpired (p q : Port) : Type 0 where
  pub timer : q.timers.current.0 ≡ 30
  pub partner : q.partner ≡ with_state p.partner (with_timeout (with_synchronization p.partner.state false) true)
  pub expired : q.actor.expired ≡ true

pub expires : (p : Port) → IsExpired p (expired p)
unfolding expired
expires p = record { timer = refl; partner = refl; expired = refl }

-- R7.6: without LACP the port is UNSELECTED, on its default block, and its partner does not aggregate
pub record IsOff (p q : Port) : Type 0 where
  pub selected : q.phase.selected ≡ Unselected
  pub partner : q.partner ≡ with_state p.own.default (with_aggregation p.own.default.state false)
  pub defaulted : q.actor.defaulted ≡ true
  pub expired : q.actor.expired ≡ false

pub turns_off : (p : Port) → IsOff p (lacp_disabled p)
unfolding lacp_disabled record_default
turns_off p = record { selected = refl; partner = refl; defaulted = refl; expired = refl }

-- R7.8: our own Timeout bit as it was, 30 or 900, whatever the frame says
pub own-timeout : (us a b : Block) (p : Port) → (current us a b p).timers.current.0 ≡ cond p.actor.timeout 30 900
unfolding current
own-timeout us a b p = refl

-- R10.6: the rule does not look at the link
pub line_unread : (p : Port) (l : Line) → compared (with_line p l) ≡ compared p
line_unread p l = refl

-- R13.3: nothing is left to be sent
pub sent_clear : (p : Port) → (sent p).ntt ≡ false
unfolding sent
sent_clear p = refl
