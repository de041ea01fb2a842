-- An LACPDU that says nothing new leaves all but the current-while timer as it is, and only such a one does: field by field. Assumes nothing.
use mathlib.Core.Path.{◌≡◌, refl, sym, ap, ◌∙◌}
use mathlib.Core.Bool.{Bool, true, false, cond, not, ◌||◌, false≢true}
use Rattle.octets.proofs.RangeLaws.{both, both_true}
use Rattle.frame.specs.declared.block.Block.{Block}
use Rattle.machine.specs.declared.states.Receive.{Receive}
use Rattle.machine.specs.declared.states.Receive.TheVariants.{Initialize, PortDisabled, Expired, LacpDisabled, Defaulted, Current}
use Rattle.machine.specs.Compare.{same_party, same_view, same_block, party}
use Rattle.machine.specs.Receive.{is_current}
use Rattle.machine.specs.Time.{timeout_time}
use Rattle.machine.proofs.CompareLaws.{block-true, block_refl, party-is}
use Rattle.port.specs.declared.record.Port.{Port}
use Rattle.port.specs.Record.{with_current, with_ntt}
use Rattle.port.specs.Receive.{unselected, pdu_block, record_pdu, update_selected, update_ntt, pdu_recorded, current, repeats}

in_current : (s : Receive) → is_current s ≡ true → s ≡ Current
in_current Initialize e = absurd (false≢true e)
in_current PortDisabled e = absurd (false≢true e)
in_current Expired e = absurd (false≢true e)
in_current LacpDisabled e = absurd (false≢true e)
in_current Defaulted e = absurd (false≢true e)
in_current Current e = refl

neither : (a b : Bool) → not (a || b) ≡ true → (a ≡ false) × (b ≡ false)
neither false false e = (refl, refl)
neither false true e = absurd (false≢true e)
neither true b e = absurd (false≢true e)

-- the test taken apart
record Repeats (us a b : Block) (p : Port) : Type 0 where
  state : p.phase.receive ≡ Current
  defaulted : p.actor.defaulted ≡ false
  expired : p.actor.expired ≡ false
  partner : pdu_block us a b ≡ p.partner
  ntt : same_view b us || p.ntt ≡ true

repeats-parts : (us a b : Block) (p : Port) → repeats us a b p ≡ true → Repeats us a b p
unfolding repeats
repeats-parts us a b p e =
    let h = both (is_current p.phase.receive) _ e in
    let k = both (not (p.actor.defaulted || p.actor.expired)) _ h.1 in
    let l = both (same_block (pdu_block us a b) p.partner) _ k.1 in
    let n = neither p.actor.defaulted p.actor.expired k.0 in
    record {
      state = in_current p.phase.receive h.0;
      defaulted = n.0;
      expired = n.1;
      partner = block-true (pdu_block us a b) p.partner l.0;
      ntt = l.1;
    }

-- the comparisons with what is recorded
party-stays : (us a b : Block) (p : Port) → pdu_block us a b ≡ p.partner → same_party a p.partner ≡ true
party-stays us a b p e = party-is a p.partner (ap party e)

ntt-stays : (same : Bool) (p : Port) → same || p.ntt ≡ true → cond same p (with_ntt p true) ≡ p
ntt-stays true p e = refl
ntt-stays false p e = ap (with_ntt p) (sym e)

pub repeats-is : (us a b : Block) (p : Port) → repeats us a b p ≡ true → current us a b p ≡ with_current p (timeout_time p.actor.timeout)
unfolding current pdu_recorded record_pdu update_selected update_ntt
repeats-is us a b p e =
    let h = repeats-parts us a b p e in
    rw (party-stays us a b p h.partner, ntt-stays (same_view b us) p h.ntt)
    (λ i. record {
      phase = record { receive = sym h.state i; periodic = p.phase.periodic; mux = p.phase.mux; selected = p.phase.selected };
      aggregator = p.aggregator;
      ntt = p.ntt;
      line = p.line;
      actor = record {
        activity = p.actor.activity;
        timeout = p.actor.timeout;
        aggregation = p.actor.aggregation;
        synchronization = p.actor.synchronization;
        collecting = p.actor.collecting;
        distributing = p.actor.distributing;
        defaulted = sym h.defaulted i;
        expired = sym h.expired i;
      };
      timers = record { current = timeout_time p.actor.timeout; periodic = p.timers.periodic; wait = p.timers.wait };
      ages = p.ages;
      own = p.own;
      partner = h.partner i;
    })

-- NTT as the comparisons leave it
told : (same : Bool) (p : Port) → (cond same p (unselected p)).ntt ≡ p.ntt
told true p = refl
told false p = refl

noted : (same : Bool) (p q : Port) → q.ntt ≡ p.ntt → (cond same q (with_ntt q true)).ntt ≡ p.ntt → same || p.ntt ≡ true
noted true p q h e = refl
noted false p q h e = sym e

pub repeats-only : (us a b : Block) (p : Port) → current us a b p ≡ with_current p (timeout_time p.actor.timeout) → repeats us a b p ≡ true
unfolding repeats current pdu_recorded record_pdu update_selected update_ntt
repeats-only us a b p e =
    let q = cond (same_party a p.partner) p (unselected p) in
    let state : Current ≡ p.phase.receive = ap (λ (r : Port). r.phase.receive) e in
    let defaulted : p.actor.defaulted ≡ false = sym (ap (λ (r : Port). r.actor.defaulted) e) in
    let expired : p.actor.expired ≡ false = sym (ap (λ (r : Port). r.actor.expired) e) in
    let partner : pdu_block us a b ≡ p.partner = ap (λ (r : Port). r.partner) e in
    let ntt : (cond (same_view b us) q (with_ntt q true)).ntt ≡ p.ntt = ap (λ (r : Port). r.ntt) e in
    let said : not (p.actor.defaulted || p.actor.expired) ≡ true = rw (defaulted, expired) in
    both_true (ap is_current (sym state))
    (both_true said
    (both_true (ap (λ (x : Block). same_block x p.partner) partner ∙ block_refl p.partner)
    (noted (same_view b us) p q (told (same_party a p.partner) p) ntt)))
