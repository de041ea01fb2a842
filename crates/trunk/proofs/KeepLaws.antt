-- Steps 3 to 6 keep what the selection rule reads, record by record. Assumes nothing.
use Prim.Native.Nat.{ℕ}
use mathlib.Core.Path.{◌≡◌, refl, ap, ◌∙◌}
use mathlib.Core.Bool.{Bool, true, false, cond}
use Rattle.port.specs.declared.record.Port.{Port}
use Rattle.port.specs.Compared.{compared}
use Rattle.port.specs.Mux.{detached, placed, attached_if, mux_run}
use Rattle.port.proofs.MuxLaws.{mux-keeps, detached-keeps, placed-keeps, attached-keeps}
use Rattle.port.proofs.TransmitLaws.{cleared_keeps}
use Rattle.trunk.specs.Settled.{must_move, reselected, muxed}

if-compared : (b : Bool) (q p : Port) → compared q ≡ compared p → compared (cond b q p) ≡ compared p
if-compared true q p e = e
if-compared false q p e = refl

pub reselected-compared : (k : ℕ) (p : Port) → compared (reselected k p) ≡ compared p
unfolding reselected
reselected-compared k p =
    if-compared (must_move k p) (placed k (detached p)) p (ap compared (placed-keeps k (detached p)) ∙ ap compared (detached-keeps p))

pub attached-compared : (ready : Bool) (p : Port) → compared (attached_if ready p) ≡ compared p
attached-compared ready p = ap compared (attached-keeps ready p)

pub muxed-compared : (p : Port) → compared (muxed p) ≡ compared p
unfolding muxed
muxed-compared p = ap compared (cleared_keeps (mux_run p)) ∙ ap compared (mux-keeps p)
