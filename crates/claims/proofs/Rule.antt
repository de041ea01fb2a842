-- Read off a sound table: every port holds what the rule gives and is SELECTED; one that distributes has earned it; the bits are true; and
-- steps 2 to 6 once more change nothing. Assumes nothing.
use Prim.Native.Nat.{ℕ, ◌<◌}
use mathlib.Core.Path.{◌≡◌, refl, sym, ap, ◌∙◌, subst}
use mathlib.Core.Bool.{Bool, true, false, true≢false, false≢true}
use mathlib.Core.List.{List, [], map}
use lib.ListN.{get_or}
use Rattle.std.specs.Prelude.{None}
use Rattle.std.proofs.lemmas.Option.{none-some}
use Rattle.octets.proofs.ListLaws.{map_same}
use Rattle.machine.specs.declared.states.Mux.{Mux}
use Rattle.machine.specs.declared.states.Mux.TheVariants.{Detached, Waiting, Attached, Collecting, Distributing}
use Rattle.machine.specs.declared.states.Selection.{Selection}
use Rattle.machine.specs.declared.states.Selection.TheVariants.{Selected}
use Rattle.machine.specs.Mux.{mux_next, distributes}
use Rattle.port.specs.declared.record.Port.{Port}
use Rattle.port.specs.Compared.{compared}
use Rattle.port.specs.Mux.{mux_choice}
use Rattle.port.specs.Receive.{receive_run}
use Rattle.port.specs.Periodic.{periodic_run}
use Rattle.port.proofs.ReceiveLaws.{receive-idle}
use Rattle.port.proofs.PeriodicLaws.{periodic-idle}
use Rattle.port.proofs.RestParts.{standing}
use Rattle.port.specs.Rest.{is_unheard, Resting}
use Rattle.port.proofs.RestKept.{stays-idle, down_disabled}
use Rattle.table.specs.Record.{decoded}
use Rattle.table.specs.Table.{count_in, port_at, ports, ours}
use Rattle.table.proofs.StoreLaws.{ports-at}
use Rattle.trunk.specs.Selection.{rule_of, shares_group}
use Rattle.trunk.specs.Ready.{ready}
use Rattle.trunk.specs.Settled.{settled, Chosen}
use Rattle.trunk.proofs.GroupLaws.{rule-apart}
use Rattle.work.specs.Work.{worked}
use Rattle.trunk.proofs.Settles.{Firm, settles}
use Rattle.claims.specs.AtRest.{Sound}
use Rattle.claims.specs.Claims.{Ruled, RuleAfresh, DistributingEarned, BitsTrue, StaysAtRest}
use Rattle.claims.proofs.Sound.{in_ports, port-resting}
use Rattle.claims.proofs.Calls.{never_stuck}
use Rattle.claims.proofs.Lag.{group-has-lag}

-- ---- the rule

module _ (t : List ℕ) (s : Sound t) (i : ℕ) (h : i < count_in t) where
  pub port_firm : Firm (rule_of (ours t) (map compared (ports t)) i) (λ k. ready k (ports t)) (port_at t i)
  port_firm =
      subst (Firm (rule_of (ours t) (map compared (ports t)) i) (λ k. ready k (ports t))) (ports-at t i (decoded []) h)
      (settles (ours t) (ports t) s.rest.together i (decoded []) (in_ports t s i h))

  pub sound-ruled : Ruled t i
  sound-ruled = record { holds = port_firm.rule; selected = port_firm.chosen }

pub rule-afresh : RuleAfresh
rule-afresh t m i h = sound-ruled t (never_stuck t m) i h

-- ---- distributing is earned

-- a SELECTED port that distributes at rest
stays-earned : (m : Mux) (sync coll : Bool) → distributes m ≡ true → mux_next m Selected false sync coll ≡ None → (sync ≡ true) × (coll ≡ true)
stays-earned Detached sync coll d e = absurd (false≢true d)
stays-earned Waiting sync coll d e = absurd (false≢true d)
stays-earned Attached sync coll d e = absurd (false≢true d)
stays-earned Collecting sync coll d e = absurd (false≢true d)
stays-earned Distributing true true d e = (refl, refl)
stays-earned Distributing true false d e = absurd (none-some Collecting (sym e))
stays-earned Distributing false coll d e = absurd (none-some Collecting (sym e))

pub port-earned : (p : Port) → Chosen p → mux_choice false p ≡ None → distributes p.phase.mux ≡ true
    → (p.partner.state.synchronization ≡ true) × (p.partner.state.collecting ≡ true)
unfolding mux_choice Chosen
port-earned p s e d =
    let sync = p.partner.state.synchronization in
    let coll = p.partner.state.collecting in
    stays-earned p.phase.mux sync coll d
    (ap (λ (x : Selection). mux_next p.phase.mux x false sync coll) (sym s) ∙ e)

-- a port whose partner is in sync has its link up: with the link down it is in PORT_DISABLED
synced-up : (p : Port) → Resting p → p.partner.state.synchronization ≡ true → p.line.up ≡ true
synced-up p r e = by p.line.up refl
  where
    by : (b : Bool) → p.line.up ≡ b → p.line.up ≡ true
    by true u = u
    by false u = absurd (true≢false (sym e ∙ r.unheard (ap is_unheard (down_disabled p.line p.phase.receive r.state u))))

pub distributing-earned : DistributingEarned
distributing-earned t m i h d =
    let s = never_stuck t m in
    let f = port_firm t s i h in
    let e = port-earned (port_at t i) f.chosen f.stays d in
    record {
      up = synced-up (port_at t i) (port-resting t s i h) e.0;
      synchronization = e.0;
      collecting = e.1;
      group = λ j k a x. shares j k x;
      lag = λ j k a x. group-has-lag t i j h k (shares j k x);
    }
  where
    shares : (j : ℕ) → j < count_in t → (port_at t j).aggregator ≡ (port_at t i).aggregator → shares_group (ours t) (map compared (ports t)) i j ≡ true
    shares j k x =
        let s = never_stuck t m in
        rule-apart (ours t) (map compared (ports t)) i j (sym (port_firm t s i h).rule ∙ sym x ∙ (port_firm t s j k).rule)

pub bits_true : BitsTrue
bits_true t m i h = (port-resting t (never_stuck t m) i h).says

-- ---- nothing is left to do

pub at_rest : StaysAtRest
unfolding worked
at_rest t m =
    let s = never_stuck t m in
    let receive : map receive_run (ports t) ≡ ports t =
    map_same receive_run (ports t) (λ i d h. receive-idle (get_or (ports t) i d) (stays-idle (get_or (ports t) i d) (standing (get_or (ports t) i d) (s.rest.each i d h)).receive)) in
    let periodic : map periodic_run (ports t) ≡ ports t =
    map_same periodic_run (ports t) (λ i d h. periodic-idle (get_or (ports t) i d) (s.rest.each i d h).periodic) in
    ap (λ (l : List Port). settled (ours t) (map periodic_run l)) receive ∙ ap (settled (ours t)) periodic ∙ s.rest.together
