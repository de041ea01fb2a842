-- What steps 3 to 6 make of a port that must move: it enters every state that leads down, gets the rule's aggregator, and waits for it,
-- since its own timer has just been started; and of one that need not move: it keeps its aggregator. Assumes nothing.
use Prim.Native.Nat.{ℕ, ◌+◌, ◌<◌}
use mathlib.Core.Path.{◌≡◌, ap, ◌∙◌}
use mathlib.Core.Bool.{Bool, true, false}
use mathlib.Core.List.{List, map}
use native.Mathlib.Omega.{arith}
use lib.ListN.{length, get_or}
use Rattle.octets.proofs.ListLaws.{sweep_at}
use Rattle.frame.specs.declared.block.Block.{Block}
use Rattle.machine.specs.declared.states.Mux.TheVariants.{Waiting}
use Rattle.machine.specs.declared.states.Selection.TheVariants.{Selected}
use Rattle.machine.specs.Mux.{waits}
use Rattle.machine.specs.Time.{aggregate_wait_time, ran_out}
use Rattle.port.specs.declared.record.Port.{Port}
use Rattle.port.specs.Record.{with_aggregator, with_selected}
use Rattle.port.specs.Compared.{compared}
use Rattle.port.specs.Mux.{mux_entered, detached, placed, attached_if}
use Rattle.port.specs.Transmit.{ntt_cleared}
use Rattle.port.proofs.MuxLaws.{detached-is, placed-is}
use Rattle.port.proofs.TransmitLaws.{cleared_keeps}
use Rattle.table.specs.declared.layout.Header.{Header}
use Rattle.trunk.specs.Selection.{rule_of}
use Rattle.trunk.specs.Ready.{holds_back, ready}
use Rattle.trunk.specs.Displaced.{displaced_if, displaced}
use Rattle.trunk.specs.Settled.{must_move, reselected, selected_all, muxed, settled}
use Rattle.trunk.proofs.ReadyLaws.{attached-other, attached-stays, waits-own}
use Rattle.trunk.proofs.SettledLaws.{muxed-holds, attached-holds, selected-at, selected-chosen, selected-length, settled_at}
use Rattle.trunk.proofs.RestLaws.{waiting-muxed, entered-holds, some_holds, held-unready}

reselected-moves : (k : ℕ) (p : Port) → must_move k p ≡ true → reselected k p ≡ placed k (detached p)
unfolding reselected
reselected-moves k p e = rw e

reselected-keeps : (k : ℕ) (p : Port) → must_move k p ≡ false → reselected k p ≡ p
unfolding reselected
reselected-keeps k p e = rw e

-- a port that is placed waits, and holds its aggregator back
placed-waits : (k : ℕ) (p : Port) → placed k (detached p) ≡ mux_entered Waiting (with_selected (with_aggregator (detached p) k) Selected)
placed-waits k p = placed-is k (detached p) (detached-is p)

pub placed-waiting : (k : ℕ) (p : Port) → waits (placed k (detached p)).phase.mux ≡ true
placed-waiting k p = ap (λ (x : Port). waits x.phase.mux) (placed-waits k p)

placed-holds : (k : ℕ) (p : Port) → holds_back k (placed k (detached p)) ≡ true
placed-holds k p =
    ap (λ (x : Port). holds_back k x) (placed-waits k p) ∙ entered-holds (with_selected (with_aggregator (detached p) k) Selected)

-- so does any port that waits with its timer running
waiting-holds : (p : Port) → waits p.phase.mux ≡ true → ran_out p.timers.wait ≡ false → holds_back p.aggregator p ≡ true
unfolding holds_back
waiting-holds p w out = rw (waits-own p w, out)

placed-aggregator : (k : ℕ) (p : Port) → (placed k (detached p)).aggregator ≡ k
placed-aggregator k p = ap (λ (x : Port). x.aggregator) (placed-waits k p)

module _ (ours : Header) (ps : List Port) (i : ℕ) (d : Port) (h : i < length ps) where
  rule : ℕ
  rule = rule_of ours (map compared ps) i

  then : Port
  then = get_or (selected_all ours ps) i d

  pub settled-moves : must_move (rule_of ours (map compared ps) i) (get_or ps i d) ≡ true
      → get_or (settled ours ps) i d ≡ ntt_cleared (placed (rule_of ours (map compared ps) i) (detached (get_or ps i d)))
  unfolding rule then
  settled-moves e =
      let ss = selected_all ours ps in
      let is : then ≡ placed rule (detached (get_or ps i d)) = selected-at ours ps i d h ∙ reselected-moves rule (get_or ps i d) e in
      let waiting : waits then.phase.mux ≡ true = rw is (placed-waiting rule (get_or ps i d)) in
      let chosen = selected-chosen ours ps i d h in
      let holds : holds_back rule then ≡ true = rw is (placed-holds rule (get_or ps i d)) in
      let aggregator : then.aggregator ≡ rule = rw is (placed-aggregator rule (get_or ps i d)) in
      let unready : ready then.aggregator ss ≡ false =
      rw aggregator (held-unready rule ss (some_holds rule ss i d (rw (selected-length ours ps) h) holds)) in
      settled_at ours ps i d h ∙ ap (λ (b : Bool). muxed (attached_if b then)) unready ∙ ap muxed (attached-stays then waiting chosen)
      ∙ waiting-muxed then waiting chosen ∙ ap ntt_cleared is

  -- a port that need not move and does not wait goes through step 6 alone
  pub settled-stays : must_move (rule_of ours (map compared ps) i) (get_or ps i d) ≡ false → waits (get_or ps i d).phase.mux ≡ false
      → get_or (settled ours ps) i d ≡ muxed (get_or ps i d)
  unfolding rule then
  settled-stays e w =
      let is : then ≡ get_or ps i d = selected-at ours ps i d h ∙ reselected-keeps rule (get_or ps i d) e in
      settled_at ours ps i d h
      ∙ ap muxed (attached-other (ready then.aggregator (selected_all ours ps)) then (rw is w)) ∙ ap muxed is

  -- one that need not move and waits with its timer running goes on waiting
  pub settled-waits : must_move (rule_of ours (map compared ps) i) (get_or ps i d) ≡ false → waits (get_or ps i d).phase.mux ≡ true
      → ran_out (get_or ps i d).timers.wait ≡ false → get_or (settled ours ps) i d ≡ ntt_cleared (get_or ps i d)
  unfolding rule then
  settled-waits e w out =
      let ss = selected_all ours ps in
      let is : then ≡ get_or ps i d = selected-at ours ps i d h ∙ reselected-keeps rule (get_or ps i d) e in
      let waiting : waits then.phase.mux ≡ true = rw is w in
      let chosen = selected-chosen ours ps i d h in
      let holds : holds_back then.aggregator then ≡ true = waiting-holds then waiting (rw is out) in
      let unready : ready then.aggregator ss ≡ false =
      held-unready then.aggregator ss (some_holds then.aggregator ss i d (rw (selected-length ours ps) h) holds) in
      settled_at ours ps i d h ∙ ap (λ (b : Bool). muxed (attached_if b then)) unready ∙ ap muxed (attached-stays then waiting chosen)
      ∙ waiting-muxed then waiting chosen ∙ ap ntt_cleared is

  -- one that need not move holds what it held
  pub settled-held : must_move (rule_of ours (map compared ps) i) (get_or ps i d) ≡ false → (get_or (settled ours ps) i d).aggregator ≡ (get_or ps i d).aggregator
  unfolding rule then
  settled-held e =
      let r = ready then.aggregator (selected_all ours ps) in
      ap (λ (x : Port). x.aggregator) (settled_at ours ps i d h) ∙ (muxed-holds (attached_if r then)).1 ∙ (attached-holds r then).1
      ∙ ap (λ (x : Port). x.aggregator) (selected-at ours ps i d h ∙ reselected-keeps rule (get_or ps i d) e)

  -- one that must has just begun to wait, for the rule's aggregator
  pub moves-aggregator : must_move (rule_of ours (map compared ps) i) (get_or ps i d) ≡ true → (get_or (settled ours ps) i d).aggregator ≡ rule_of ours (map compared ps) i
  unfolding rule
  moves-aggregator e =
      let p = get_or ps i d in
      ap (λ (x : Port). x.aggregator) (settled-moves e) ∙ ap (λ (x : Port). x.aggregator) (cleared_keeps (placed rule (detached p))) ∙ placed-aggregator rule p

  pub moves-waiting : must_move (rule_of ours (map compared ps) i) (get_or ps i d) ≡ true
      → (waits (get_or (settled ours ps) i d).phase.mux ≡ true) × ((get_or (settled ours ps) i d).timers.wait.0 ≡ aggregate_wait_time)
  unfolding rule
  moves-waiting e =
      let p = get_or ps i d in
      let is = settled-moves e in (
        ap (λ (x : Port). waits x.phase.mux) is ∙ ap (λ (x : Port). waits x.phase.mux) (cleared_keeps (placed rule (detached p))) ∙ placed-waiting rule p,
        ap (λ (x : Port). x.timers.wait.0) is ∙ ap (λ (x : Port). x.timers.wait.0) (cleared_keeps (placed rule (detached p)))
            ∙ ap (λ (x : Port). x.timers.wait.0) (placed-waits rule p),
      )

-- a port among those that an LACPDU on port r may displace
pub displaced-at : (r : ℕ) (a : Block) (ps : List Port) (i : ℕ) (d : Port) → i < length ps → get_or (displaced r a ps) i d ≡ displaced_if r a i (get_or ps i d)
unfolding displaced
displaced-at r a ps i d h =
    let z : 0 + i ≡ i = omega arith in
    sweep_at (displaced_if r a) 0 ps i d h ∙ ap (λ (k : ℕ). displaced_if r a k (get_or ps i d)) z
