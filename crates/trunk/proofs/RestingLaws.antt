-- What a tick, a moved partner and steps 3 to 6 do to one port keeps its rest. Assumes nothing.
use Prim.Native.Nat.{ℕ}
use mathlib.Core.Path.{◌≡◌, refl, sym, ap, ◌∙◌, subst}
use mathlib.Core.Bool.{Bool, true, false, cond, not, ◌&&◌}
use mathlib.Core.List.{List}
use lib.Dec.{eqb}
use Rattle.octets.specs.Lists.{Each}
use Rattle.frame.specs.declared.block.Block.{Block}
use Rattle.machine.specs.declared.states.Selection.TheVariants.{Unselected, Selected}
use Rattle.machine.specs.Mux.{waits}
use Rattle.port.specs.declared.record.Port.{Port}
use Rattle.port.specs.Record.{with_aggregator, with_selected}
use Rattle.port.specs.Mux.{mux_step, mux_run, detached, placed, attached_if}
use Rattle.port.specs.Receive.{moved}
use Rattle.port.specs.Rest.{Resting}
use Rattle.port.proofs.TransmitLaws.{cleared_keeps}
use Rattle.port.proofs.RestParts.{receive_part, periodic_part, mux_part, ReceiveRests, PeriodicPartTimed, MuxAgrees, calm_part, Standing, resting-is, standing, calm_rests, rests_calm, step-agrees}
use Rattle.port.proofs.RestKept.{moved-standing, disabled_down}
use Rattle.octets.proofs.RangeLaws.{both}
use Rattle.table.specs.declared.layout.Header.{Header}
use Rattle.machine.specs.Receive.{is_disabled}
use Rattle.trunk.specs.Displaced.{is_displaced, displaced_if}
use Rattle.trunk.specs.Settled.{must_move, reselected, muxed, settled}
use Rattle.trunk.proofs.EachLaws.{each-settled}
use Rattle.trunk.proofs.BesideLaws.{beside_settled, reselected-beside, attached-beside, muxed-beside}

-- ---- a moved partner

-- a port that is displaced has its link down
pub displaced-standing : (r : ℕ) (a : Block) (i : ℕ) (p : Port) → Standing p → Standing (displaced_if r a i p)
unfolding displaced_if is_displaced
displaced-standing r a i p s = by (not (eqb i r) && is_displaced a p) refl
  where
    by : (b : Bool) → not (eqb i r) && is_displaced a p ≡ b → Standing (cond b (moved p) p)
    by true e =
        let x = (both (not (eqb i r)) (is_displaced a p) e).1 in
        let y = (both (is_disabled p.phase.receive) _ x).0 in
        moved-standing p (disabled_down p.line p.phase.receive s.receive.state y) s
    by false e = s

-- ---- steps 3 to 6 keep the mux part's bits and timer

reselected-agrees : (k : ℕ) (p : Port) → MuxAgrees (mux_part p) → MuxAgrees (mux_part (reselected k p))
unfolding reselected placed detached
reselected-agrees k p h = by (must_move k p)
  where
    q : Port
    q = with_selected p Unselected

    by : (b : Bool) → MuxAgrees (mux_part (cond b (placed k (detached p)) p))
    by true =
        step-agrees false (with_selected (with_aggregator (detached p) k) Selected)
        (step-agrees false (mux_step false (mux_step false q)) (step-agrees false (mux_step false q) (step-agrees false q h)))
    by false = h

attached-agrees : (r : Bool) (p : Port) → MuxAgrees (mux_part p) → MuxAgrees (mux_part (attached_if r p))
unfolding attached_if
attached-agrees r p h = by (waits p.phase.mux)
  where
    by : (b : Bool) → MuxAgrees (mux_part (cond b (mux_step r p) p))
    by true = step-agrees r p h
    by false = h

muxed-agrees : (p : Port) → MuxAgrees (mux_part p) → MuxAgrees (mux_part (muxed p))
unfolding muxed mux_run
muxed-agrees p h =
    let q = mux_step false (mux_step false p) in
    subst MuxAgrees (sym (ap (λ (x : Port). mux_part x) (cleared_keeps q))) (step-agrees false (mux_step false p) (step-agrees false p h))

-- ---- so they keep a port's rest

beside-resting : (p q : Port) → beside_settled q ≡ beside_settled p → MuxAgrees (mux_part q) → Resting p → Resting q
beside-resting p q e m r =
    let s = standing p r in
    let f = sym e in
    resting-is q
    (record {
      receive = subst ReceiveRests (ap (λ (x : Port). receive_part x) f) s.receive;
      timed = subst PeriodicPartTimed (ap (λ (x : Port). periodic_part x) f) s.timed;
      mux = m;
    })
    (calm_rests q (ap (λ (x : Port). calm_part (periodic_part x)) e ∙ rests_calm p r.periodic))

reselected-resting : (k : ℕ) (p : Port) → Resting p → Resting (reselected k p)
reselected-resting k p r = beside-resting p (reselected k p) (reselected-beside k p) (reselected-agrees k p (standing p r).mux) r

attached-resting : (b : Bool) (p : Port) → Resting p → Resting (attached_if b p)
attached-resting b p r = beside-resting p (attached_if b p) (attached-beside b p) (attached-agrees b p (standing p r).mux) r

pub muxed-resting : (p : Port) → Resting p → Resting (muxed p)
muxed-resting p r = beside-resting p (muxed p) (muxed-beside p) (muxed-agrees p (standing p r).mux) r

-- and of every port
pub settled-resting : (s : Header) (ps : List Port) → Each Resting ps → Each Resting (settled s ps)
settled-resting s ps e =
    each-settled Resting s ps (λ k p a b h. reselected-resting k p h) (λ r p h. attached-resting r p h) (λ p h. muxed-resting p h) e
