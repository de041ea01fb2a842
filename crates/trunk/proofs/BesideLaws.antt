-- Steps 3 to 6 leave all of a port but its mux part, Selected, the aggregator held and NTT. Assumes nothing.
use Prim.Native.Nat.{ℕ, ◌<◌}
use mathlib.Core.Path.{◌≡◌, refl, ap, ◌∙◌}
use mathlib.Core.Bool.{Bool, true, false, cond}
use mathlib.Core.List.{List, map}
use lib.ListN.{length, get_or}
use Rattle.machine.specs.declared.states.Selection.TheVariants.{Unselected}
use Rattle.port.specs.declared.record.Port.{Port}
use Rattle.port.specs.Record.{with_aggregator, with_selected}
use Rattle.port.specs.Compared.{compared}
use Rattle.port.specs.Mux.{mux_run, detached, placed, attached_if}
use Rattle.port.proofs.MuxLaws.{beside_mux, mux-keeps, detached-keeps, placed-keeps, attached-keeps}
use Rattle.port.proofs.TransmitLaws.{cleared_keeps}
use Rattle.table.specs.declared.layout.Header.{Header}
use Rattle.trunk.specs.Selection.{rule_of}
use Rattle.trunk.specs.Ready.{ready}
use Rattle.trunk.specs.Settled.{must_move, reselected, selected_all, muxed, settled}
use Rattle.trunk.proofs.SettledLaws.{settled_at, selected-at}

abbrev pub beside_settled : Port → Port
beside_settled p = with_aggregator (with_selected (beside_mux p) Unselected) 0

abbrev aside : Port → Port
aside p = with_aggregator (with_selected p Unselected) 0

pub reselected-beside : (k : ℕ) (p : Port) → beside_settled (reselected k p) ≡ beside_settled p
unfolding reselected
reselected-beside k p = by (must_move k p)
  where
    by : (b : Bool) → beside_settled (cond b (placed k (detached p)) p) ≡ beside_settled p
    by true = ap (λ (x : Port). aside x) (placed-keeps k (detached p)) ∙ ap (λ (x : Port). aside x) (detached-keeps p)
    by false = refl

pub attached-beside : (r : Bool) (p : Port) → beside_settled (attached_if r p) ≡ beside_settled p
attached-beside r p = ap (λ (x : Port). aside x) (attached-keeps r p)

pub muxed-beside : (p : Port) → beside_settled (muxed p) ≡ beside_settled p
unfolding muxed
muxed-beside p = ap (λ (x : Port). beside_settled x) (cleared_keeps (mux_run p)) ∙ ap (λ (x : Port). aside x) (mux-keeps p)

-- all ports
pub settled-beside : (s : Header) (ps : List Port) (i : ℕ) (d : Port) → i < length ps → beside_settled (get_or (settled s ps) i d) ≡ beside_settled (get_or ps i d)
settled-beside s ps i d h =
    let ss = selected_all s ps in
    let r = ready (get_or ss i d).aggregator ss in
    ap (λ (x : Port). beside_settled x) (settled_at s ps i d h)
    ∙ muxed-beside (attached_if r (get_or ss i d)) ∙ attached-beside r (get_or ss i d)
    ∙ ap (λ (x : Port). beside_settled x) (selected-at s ps i d h) ∙ reselected-beside (rule_of s (map compared ps) i) (get_or ps i d)
