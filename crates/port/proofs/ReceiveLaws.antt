-- The Receive machine without an LACPDU comes to rest after two steps. PORT_DISABLED and EXPIRED keep whom the partner block names
-- and what the selection rule reads; every state that may change it makes the port UNSELECTED where it does. Assumes nothing.
use Prim.Native.Nat.{ℕ}
use mathlib.Core.Path.{◌≡◌, refl, ap, ◌∙◌}
use mathlib.Core.Bool.{Bool, true, false, cond}
use native.Mathlib.Omega.{arith}
use Rattle.std.specs.Prelude.{Option, Some, None}
use Rattle.frame.specs.declared.block.Block.{Block}
use Rattle.machine.specs.declared.states.Receive.{Receive}
use Rattle.machine.specs.declared.states.Receive.TheVariants.{Initialize, PortDisabled, Expired, LacpDisabled, Defaulted, Current}
use Rattle.machine.specs.declared.states.Selection.TheVariants.{Unselected, Selected}
use Rattle.machine.specs.Receive.{receive_next}
use Rattle.machine.specs.States.{ticks}
use Rattle.machine.specs.Time.{ran_out}
use Rattle.machine.specs.Bits.{with_synchronization, with_timeout}
use Rattle.machine.specs.Compare.{party, same_party, same_view}
use Rattle.machine.proofs.CompareLaws.{party-true}
use Rattle.port.specs.declared.record.Port.{Port}
use Rattle.port.specs.Record.{with_receive, with_current, with_ntt}
use Rattle.port.specs.Compared.{Compared, compared}
use Rattle.port.specs.Receive.{record_default, record_pdu, update_selected, update_default_selected, update_ntt, unselected, with_partner_state, expired_bit, initialized, port_disabled, expired, lacp_disabled, defaulted, pdu_recorded, current, receive_entered, receive_taken, receive_choice, receive_step, receive_run}

-- ---- rest

record Seen (p : Port) (s : Receive) (up full out : Bool) : Type 0 where
  state : p.phase.receive ≡ s
  link : p.line.up ≡ up
  duplex : p.line.full ≡ full
  timer : ran_out p.timers.current ≡ out

seen : (p : Port) → Seen p p.phase.receive p.line.up p.line.full (ran_out p.timers.current)
seen p = record { state = refl; link = refl; duplex = refl; timer = refl }

step : {p : Port} {s : Receive} {up full out : Bool} → Seen p s up full out → receive_step p ≡ receive_taken (receive_next s up full out) p
unfolding receive_step receive_choice
step h = rw (h.state, h.link, h.duplex, h.timer)

moves : {p : Port} {s : Receive} {up full out : Bool} (n : Receive) → Seen p s up full out → receive_next s up full out ≡ Some n → receive_step p ≡ receive_entered n p
moves {p} n h e = step h ∙ ap (λ (k : Option Receive). receive_taken k p) e

stays : {p : Port} {s : Receive} {up full out : Bool} → Seen p s up full out → receive_next s up full out ≡ None → receive_step p ≡ p
stays {p} h e = step h ∙ ap (λ (k : Option Receive). receive_taken k p) e

-- what is seen after entering a state
in_disabled : {p : Port} {s : Receive} {up full out : Bool} → Seen p s up full out → Seen (port_disabled p) PortDisabled up full true
unfolding port_disabled
in_disabled h = record { state = refl; link = h.link; duplex = h.duplex; timer = refl }

in_expired : {p : Port} {s : Receive} {up full out : Bool} → Seen p s up full out → Seen (expired p) Expired up full false
unfolding expired
in_expired h = record { state = refl; link = h.link; duplex = h.duplex; timer = refl }

in_off : {p : Port} {s : Receive} {up full out : Bool} → Seen p s up full out → Seen (lacp_disabled p) LacpDisabled up full true
unfolding lacp_disabled record_default
in_off h = record { state = refl; link = h.link; duplex = h.duplex; timer = refl }

line_kept : (b : Bool) (p : Port) → (cond b p (unselected p)).line ≡ p.line
line_kept true p = refl
line_kept false p = refl

in_defaulted : {p : Port} {s : Receive} {up full out : Bool} → Seen p s up full out → Seen (defaulted p) Defaulted up full true
unfolding defaulted record_default update_default_selected update_selected
in_defaulted {p} h =
    let e = line_kept (same_party p.own.default p.partner) p in
    record { state = refl; link = ap (λ l. l.up) e ∙ h.link; duplex = ap (λ l. l.full) e ∙ h.duplex; timer = refl }

resting : (p x y : Port) → receive_step p ≡ x → receive_step x ≡ y → receive_step y ≡ y → receive_step (receive_run p) ≡ receive_run p
unfolding receive_run
resting p x y a b c = rw (a, b, c)

idle : (p : Port) → receive_step p ≡ p → receive_step (receive_run p) ≡ receive_run p
idle p e = resting p p p e e e

one : (p x : Port) → receive_step p ≡ x → receive_step x ≡ x → receive_step (receive_run p) ≡ receive_run p
one p x a b = resting p x x a b b

-- a link that is down
falls : {p : Port} {s : Receive} {full out : Bool} → Seen p s false full out → receive_next s false full out ≡ Some PortDisabled → receive_step (receive_run p) ≡ receive_run p
falls {p} h e = one p (port_disabled p) (moves PortDisabled h e) (stays (in_disabled h) refl)

at_rest : {p : Port} (s : Receive) (up full out : Bool) → Seen p s up full out → receive_step (receive_run p) ≡ receive_run p
at_rest {p} Initialize false full out h = falls h refl
at_rest {p} Initialize true true out h =
    let x = in_disabled h in
    resting p (port_disabled p) (expired (port_disabled p)) (moves PortDisabled h refl) (moves Expired x refl) (stays (in_expired x) refl)
at_rest {p} Initialize true false out h =
    let x = in_disabled h in
    resting p (port_disabled p) (lacp_disabled (port_disabled p)) (moves PortDisabled h refl) (moves LacpDisabled x refl) (stays (in_off x) refl)
at_rest {p} PortDisabled false full out h = idle p (stays h refl)
at_rest {p} PortDisabled true true out h = one p (expired p) (moves Expired h refl) (stays (in_expired h) refl)
at_rest {p} PortDisabled true false out h = one p (lacp_disabled p) (moves LacpDisabled h refl) (stays (in_off h) refl)
at_rest {p} Expired false full out h = falls h refl
at_rest {p} Expired true full true h = one p (defaulted p) (moves Defaulted h refl) (stays (in_defaulted h) refl)
at_rest {p} Expired true full false h = idle p (stays h refl)
at_rest {p} LacpDisabled false full out h = falls h refl
at_rest {p} LacpDisabled true full out h = idle p (stays h refl)
at_rest {p} Defaulted false full out h = falls h refl
at_rest {p} Defaulted true full out h = idle p (stays h refl)
at_rest {p} Current false full out h = falls h refl
at_rest {p} Current true full true h = one p (expired p) (moves Expired h refl) (stays (in_expired h) refl)
at_rest {p} Current true full false h = idle p (stays h refl)

-- until no step applies: one more step changes nothing
pub receive-rests : (p : Port) → receive_step (receive_run p) ≡ receive_run p
receive-rests p = at_rest p.phase.receive p.line.up p.line.full (ran_out p.timers.current) (seen p)

-- where the machine is at rest, a run changes nothing
pub receive-idle : (p : Port) → receive_step p ≡ p → receive_run p ≡ p
unfolding receive_run
receive-idle p e = ap receive_step e ∙ e

-- a step, and a run of one step, by what the machine chooses
pub step_stays : (p : Port) → receive_choice p ≡ None → receive_step p ≡ p
unfolding receive_step
step_stays p e = rw e

step-enters : (p : Port) (r : Receive) → receive_choice p ≡ Some r → receive_step p ≡ receive_entered r p
unfolding receive_step
step-enters p r e = rw e

pub run-stays : (p : Port) → receive_choice p ≡ None → receive_run p ≡ p
run-stays p e = receive-idle p (step_stays p e)

pub run_enters : (p : Port) (r : Receive) → receive_choice p ≡ Some r → receive_choice (receive_entered r p) ≡ None → receive_run p ≡ receive_entered r p
unfolding receive_run
run_enters p r e f = ap receive_step (step-enters p r e) ∙ step_stays (receive_entered r p) f

-- ---- what is kept

-- everything but the receive state, its timer, Expired and the partner's Synchronization and Timeout
abbrev pub beside_receive : Port → Port
beside_receive p =
    with_receive (with_current (expired_bit (with_partner_state p (with_timeout (with_synchronization p.partner.state false) false)) false) (ticks 0)) Initialize

pub disabled_keeps : (p : Port) → beside_receive (port_disabled p) ≡ beside_receive p
unfolding port_disabled
disabled_keeps p = refl

pub expired-keeps : (p : Port) → beside_receive (expired p) ≡ beside_receive p
unfolding expired
expired-keeps p = refl

-- so both keep whom the partner block names, and what the selection rule reads
pub disabled_party : (p : Port) → party (port_disabled p).partner ≡ party p.partner
disabled_party p = ap (λ (q : Port). party q.partner) (disabled_keeps p)

pub expired-party : (p : Port) → party (expired p).partner ≡ party p.partner
expired-party p = ap (λ (q : Port). party q.partner) (expired-keeps p)

disabled_compared : (p : Port) → compared (port_disabled p) ≡ compared p
disabled_compared p = ap compared (disabled_keeps p)

expired-compared : (p : Port) → compared (expired p) ≡ compared p
expired-compared p = ap compared (expired-keeps p)

-- ---- a change of what the rule reads makes the port UNSELECTED

pub initialized_unselects : (p : Port) → (initialized p).phase.selected ≡ Unselected
unfolding initialized record_default
initialized_unselects p = refl

pub off_unselects : (p : Port) → (lacp_disabled p).phase.selected ≡ Unselected
unfolding lacp_disabled record_default
off_unselects p = refl

apart : {A : Type 0} → Unselected ≡ Selected → A
apart e = let z : ◌≡◌ {A = ℕ} 0 1 = cc in absurd (omega arith)

-- a port that is still SELECTED has recorded a block that names the party that was named before
same-rule : (p : Port) (b : Block) → party b ≡ party p.partner
    → ◌≡◌ {A = Compared} (record { key = p.own.key; aggregation = p.actor.aggregation; system = b.system; partner_key = b.key; partner_aggregation = b.state.aggregation })
    (compared p)
same-rule p b e = λ i. record {
  key = p.own.key;
  aggregation = p.actor.aggregation;
  system = (e i).system;
  partner_key = (e i).key;
  partner_aggregation = (e i).aggregation;
}

pub defaulted_unselects : (p : Port) → (defaulted p).phase.selected ≡ Selected → compared (defaulted p) ≡ compared p
unfolding defaulted record_default update_default_selected update_selected
defaulted_unselects p s = go (same_party p.own.default p.partner) refl s
  where
    go : (b : Bool) → same_party p.own.default p.partner ≡ b → (cond b p (unselected p)).phase.selected ≡ Selected
        → compared (record_default (cond b p (unselected p))) ≡ compared p
    go true e s = same-rule p p.own.default (party-true p.own.default p.partner e)
    go false e s = apart s

pub current_unselects : (us a b : Block) (p : Port) → (current us a b p).phase.selected ≡ Selected → compared (current us a b p) ≡ compared p
unfolding current pdu_recorded record_pdu update_ntt update_selected
current_unselects us a b p s = go (same_party a p.partner) (same_view b us) refl s
  where
    go : (t v : Bool) → same_party a p.partner ≡ t → (cond v (cond t p (unselected p)) (with_ntt (cond t p (unselected p)) true)).phase.selected ≡ Selected
        → compared (record_pdu us a b (cond v (cond t p (unselected p)) (with_ntt (cond t p (unselected p)) true))) ≡ compared p
    go true true e s = same-rule p a (party-true a p.partner e)
    go true false e s = same-rule p a (party-true a p.partner e)
    go false true e s = apart s
    go false false e s = apart s
