-- `records` meets its contract: as many octets from the front as its header says. Assumes nothing.
use Prim.Native.Nat.{ℕ}
use mathlib.Core.Path.{sym, ap}
use lib.ListN.{take}
use lib.Seq.{length-take-le}
use Rattle.reasons.proofs.records.Goals as goal

pub slice_bounds-result-end : goal.slice_bounds-result-end
slice_bounds-result-end c =
    let m = c.args.table.now in
    let is = c.place_of.ensures in
    sym (length-take-le c.place_of.result m (rw is c.requires))

pub returns : goal.returns
returns c = ap (λ (b : ℕ). take b c.args.table.now) c.place_of.ensures
