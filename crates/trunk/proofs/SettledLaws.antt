-- After steps 3 to 6 every port is SELECTED and holds what the rule gives afresh, for none of them changes what the rule reads. By the
-- elements: each step changes a record by its index alone. Assumes nothing.
use Prim.Native.Nat.{ℕ, ◌+◌, ◌<◌}
use mathlib.Core.Path.{◌≡◌, refl, sym, ap, ◌∙◌}
use mathlib.Core.Bool.{Bool, true, false, cond, not, ◌||◌, true≢false}
use mathlib.Core.List.{List, map}
use native.Mathlib.Omega.{arith}
use lib.ListN.{length, get_or, length-map}
use lib.Dec.{eqb}
use borrow.Author.Tests.{eqb-true, eq-eqb, not-false}
use Rattle.octets.specs.Lists.{map_from}
use Rattle.octets.proofs.ListLaws.{map_at, map-keeps, done_to, pointwise, sweep_length, sweep_at, sweep_keeps, sweep_map}
use Rattle.machine.specs.declared.states.Selection.{Selection}
use Rattle.machine.specs.declared.states.Selection.TheVariants.{Unselected, Selected}
use Rattle.machine.specs.Mux.{waits, is_unselected}
use Rattle.port.specs.declared.record.Port.{Port}
use Rattle.port.specs.Compared.{compared}
use Rattle.port.specs.Mux.{detached, placed, attached_if, mux_run}
use Rattle.port.proofs.MuxLaws.{mux-keeps, placed-keeps, attached-keeps}
use Rattle.port.proofs.TransmitLaws.{cleared_keeps}
use Rattle.table.specs.declared.layout.Header.{Header}
use Rattle.trunk.specs.Selection.{shares_group, rule_of}
use Rattle.trunk.specs.Ready.{ready}
use Rattle.trunk.specs.Settled.{must_move, reselected, selecting, selected_all, attaching, attached_all, muxed, settled, Chosen}
use Rattle.trunk.proofs.KeepLaws.{reselected-compared, attached-compared, muxed-compared}
use Rattle.trunk.proofs.ReadyLaws.{ready_meanwhile}
use Rattle.trunk.proofs.GroupLaws.{rule_shared, rule-apart}

-- ---- one port

-- what keeps Selected keeps a port as the rule chose
pub chosen-kept : (p q : Port) → q.phase.selected ≡ p.phase.selected → Chosen p → Chosen q
unfolding Chosen
chosen-kept p q e s = e ∙ s

-- a port that stays is SELECTED and holds what the rule gives
stays-selected : (s : Selection) (b : Bool) → is_unselected s || not b ≡ false → (s ≡ Selected) × (b ≡ true)
stays-selected Unselected b e = absurd (true≢false e)
stays-selected Selected b e = (refl, not-false b e)

-- after steps 3 and 4 a port is SELECTED and holds aggregator k
reselected-is : (k : ℕ) (p : Port) → Chosen (reselected k p) × ((reselected k p).aggregator ≡ k)
unfolding reselected must_move Chosen
reselected-is k p = by (must_move k p) refl
  where
    by : (b : Bool) → must_move k p ≡ b → Chosen (cond b (placed k (detached p)) p) × ((cond b (placed k (detached p)) p).aggregator ≡ k)
    by true e = (
      ap (λ (x : Port). x.phase.selected) (placed-keeps k (detached p)),
      ap (λ (x : Port). x.aggregator) (placed-keeps k (detached p)),
    )
    by false e =
        let h = stays-selected p.phase.selected (eqb p.aggregator k) e in
        (h.0, eqb-true p.aggregator k h.1)

-- such a port is left alone
pub reselected-stays : (k : ℕ) (p : Port) → Chosen p → p.aggregator ≡ k → reselected k p ≡ p
unfolding reselected must_move Chosen
reselected-stays k p s e = rw (s, eq-eqb p.aggregator k e)

-- steps 5 and 6 keep a port's aggregator and its being SELECTED
pub attached-holds : (r : Bool) (p : Port) → ((attached_if r p).phase.selected ≡ p.phase.selected) × ((attached_if r p).aggregator ≡ p.aggregator)
attached-holds r p = (
  ap (λ (x : Port). x.phase.selected) (attached-keeps r p),
  ap (λ (x : Port). x.aggregator) (attached-keeps r p),
)

pub muxed-holds : (p : Port) → ((muxed p).phase.selected ≡ p.phase.selected) × ((muxed p).aggregator ≡ p.aggregator)
unfolding muxed
muxed-holds p = (
  ap (λ (x : Port). x.phase.selected) (cleared_keeps (mux_run p)) ∙ ap (λ (x : Port). x.phase.selected) (mux-keeps p),
  ap (λ (x : Port). x.aggregator) (cleared_keeps (mux_run p)) ∙ ap (λ (x : Port). x.aggregator) (mux-keeps p),
)

-- ---- all ports

attached_compares : (ps : List Port) → map compared (attached_all ps) ≡ map compared ps
unfolding attached_all
attached_compares ps =
    map-keeps compared (attaching ps) (λ p. attached-compared (ready p.aggregator ps) p) ps

pub attached-length : (ps : List Port) → length (attached_all ps) ≡ length ps
unfolding attached_all
attached-length ps = length-map ps (attaching ps)

pub attached-at : (ps : List Port) (i : ℕ) (d : Port) → i < length ps
    → get_or (attached_all ps) i d ≡ attached_if (ready (get_or ps i d).aggregator ps) (get_or ps i d)
unfolding attached_all
attached-at ps i d h = map_at (attaching ps) ps i d d h

module _ (ours : Header) (ps : List Port) where
  -- what the rule reads is kept by steps 3 and 4, and by all of them
  selected_compares : map compared (selected_all ours ps) ≡ map compared ps
  unfolding selected_all
  selected_compares =
      sweep_keeps compared (selecting ours ps) (λ i p. reselected-compared (rule_of ours (map compared ps) i) p) 0 ps

  pub settled_compares : map compared (settled ours ps) ≡ map compared ps
  unfolding settled
  settled_compares =
      map-keeps compared muxed muxed-compared (attached_all (selected_all ours ps)) ∙ attached_compares (selected_all ours ps) ∙ selected_compares

  -- and so is the number of ports
  pub selected-length : length (selected_all ours ps) ≡ length ps
  unfolding selected_all
  selected-length = sweep_length (selecting ours ps) 0 ps

  pub settled-length : length (settled ours ps) ≡ length ps
  unfolding settled
  settled-length = length-map (attached_all (selected_all ours ps)) muxed ∙ attached-length (selected_all ours ps) ∙ selected-length

  module _ (i : ℕ) (d : Port) (h : i < length ps) where
    -- one record after steps 3 and 4, and after all of them
    pub selected-at : get_or (selected_all ours ps) i d ≡ reselected (rule_of ours (map compared ps) i) (get_or ps i d)
    unfolding selected_all
    selected-at =
        let e : 0 + i ≡ i = omega arith in
        sweep_at (selecting ours ps) 0 ps i d h
        ∙ ap (λ (k : ℕ). reselected (rule_of ours (map compared ps) k) (get_or ps i d)) e

    pub settled-from : get_or (settled ours ps) i d ≡ muxed (get_or (attached_all (selected_all ours ps)) i d)
    unfolding settled
    settled-from = map_at muxed (attached_all (selected_all ours ps)) i d d (rw (attached-length (selected_all ours ps), selected-length) h)

    pub settled_at : get_or (settled ours ps) i d
        ≡ muxed (attached_if (ready (get_or (selected_all ours ps) i d).aggregator (selected_all ours ps)) (get_or (selected_all ours ps) i d))
    settled_at = settled-from ∙ ap muxed (attached-at (selected_all ours ps) i d (rw selected-length h))

    -- after steps 3 and 4 a port is SELECTED and holds what the rule gives
    pub selected-chosen : Chosen (get_or (selected_all ours ps) i d)
    selected-chosen = rw selected-at (reselected-is (rule_of ours (map compared ps) i) (get_or ps i d)).0

    pub selected-rule : (get_or (selected_all ours ps) i d).aggregator ≡ rule_of ours (map compared ps) i
    selected-rule = rw selected-at (reselected-is (rule_of ours (map compared ps) i) (get_or ps i d)).1

    -- it still is after all of them
    pub settled-chosen : Chosen (get_or (settled ours ps) i d)
    settled-chosen =
        let s = get_or (selected_all ours ps) i d in
        let r = ready s.aggregator (selected_all ours ps) in
        chosen-kept s (get_or (settled ours ps) i d)
        (ap (λ (x : Port). x.phase.selected) settled_at ∙ (muxed-holds (attached_if r s)).0 ∙ (attached-holds r s).0) selected-chosen

    settled_before : (get_or (settled ours ps) i d).aggregator ≡ rule_of ours (map compared ps) i
    settled_before =
        let s = get_or (selected_all ours ps) i d in
        let r = ready s.aggregator (selected_all ours ps) in
        ap (λ (x : Port). x.aggregator) settled_at ∙ (muxed-holds (attached_if r s)).1 ∙ (attached-holds r s).1 ∙ selected-rule

    -- and holds what the rule gives afresh
    pub settled-rule : (get_or (settled ours ps) i d).aggregator ≡ rule_of ours (map compared (settled ours ps)) i
    settled-rule = rw settled_compares settled_before

  -- ---- groups and aggregators, i and j two ports

  module _ (i j : ℕ) (d : Port) (hi : i < length ps) (hj : j < length ps) where
    -- ports in one group hold one aggregator
    pub group-holds : shares_group ours (map compared ps) i j ≡ true → (get_or (settled ours ps) i d).aggregator ≡ (get_or (settled ours ps) j d).aggregator
    group-holds e = settled_before i d hi ∙ rule_shared ours (map compared ps) i j e ∙ sym (settled_before j d hj)

    -- and ports that hold one aggregator are in one group
    pub holds-group : (get_or (settled ours ps) i d).aggregator ≡ (get_or (settled ours ps) j d).aggregator → shares_group ours (map compared ps) i j ≡ true
    holds-group e = rule-apart ours (map compared ps) i j (sym (settled_before i d hi) ∙ e ∙ settled_before j d hj)

  -- ---- step 5 port by port, in the list that steps 3 and 4 leave

  -- while a port waits there, Ready of its aggregator is what it was before any port was attached
  ready-selected : (i : ℕ) (d : Port) → i < length ps → waits (get_or (selected_all ours ps) i d).phase.mux ≡ true
      → ready (get_or (selected_all ours ps) i d).aggregator (done_to (pointwise (attaching (selected_all ours ps))) i (selected_all ours ps))
      ≡ ready (get_or (selected_all ours ps) i d).aggregator (selected_all ours ps)
  ready-selected i d h w =
      ready_meanwhile (selected_all ours ps) d (λ j k. selected-chosen j d (rw selected-length at k)) i (rw selected-length h) w

-- so step 5 is a sweep
attached_sweep : (ps : List Port) → map_from (pointwise (attaching ps)) 0 ps ≡ attached_all ps
unfolding attached_all
attached_sweep ps = sweep_map (attaching ps) 0 ps
