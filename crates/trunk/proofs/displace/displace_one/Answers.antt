-- `trunk::displace::displace_one` meets its contract: a record that is displaced is loaded, stepped and stored, and stays in range; any
-- other is left alone, as the definition leaves it. One that is not in PORT_DISABLED is not displaced. Assumes nothing.
use Prim.Native.Nat.{ℕ}
use mathlib.Core.Path.{◌≡◌, sym}
use mathlib.Core.Bool.{true, false, not, ◌&&◌, and-false}
use lib.Dec.{eqb}
use Rattle.frame.specs.declared.block.Block.{Block}
use Rattle.machine.specs.Receive.{is_disabled}
use Rattle.port.specs.declared.record.Port.{Port}
use Rattle.port.specs.Receive.{moved}
use Rattle.table.specs.Table.{port_at}
use Rattle.trunk.proofs.TableWork.{may_store, changed-at, left_be, told_at}
use Rattle.trunk.specs.Displaced.{is_displaced, displaced_if}
use Rattle.port.proofs.RangeLaws.{moved-ranged}
use Rattle.std.proofs.Common.{rules}
use Rattle.trunk.proofs.displace.displace_one.Goals as goal

moves : (r : ℕ) (a : Block) (i : ℕ) (p : Port) → not (eqb i r) && is_displaced a p ≡ true → displaced_if r a i p ≡ moved p
unfolding displaced_if
moves r a i p e = rw e

stays : (r : ℕ) (a : Block) (i : ℕ) (p : Port) → not (eqb i r) && is_displaced a p ≡ false → displaced_if r a i p ≡ p
unfolding displaced_if
stays r a i p e = rw e

enabled : (r : ℕ) (a : Block) (i : ℕ) (p : Port) → is_disabled p.phase.receive ≡ false → not (eqb i r) && is_displaced a p ≡ false
unfolding is_displaced
enabled r a i p e = rw (e, and-false (not (eqb i r)))

pub store-requires : goal.store-requires
store-requires c = may_store moved c.args.table.now c.args.i c.requires (moved-ranged _) (c.lent-then-eq.ensures, c.load-p.ensures) c.moved_away.ensures

pub returns-then-i-r : goal.returns-then-i-r
returns-then-i-r c =
    let a = c.args in
    let p = port_at a.table.now.octets.now a.i in
    let move : not (eqb a.i a.r) && is_displaced a.a p ≡ true = rw (c.is_displaced.ensures, c.load-p.ensures.0, c.lent-then-eq.ensures) at c.if-i-r.true in
    told_at moved (displaced_if a.r a.a a.i) a.i (sym (moves a.r a.a a.i p move)) (changed-at moved a.table.now a.i (c.lent-then-eq.ensures, c.load-p.ensures) c.moved_away.ensures c.store.ensures)

pub returns-else-i-r : goal.returns-else-i-r
returns-else-i-r c =
    let a = c.args in
    let p = port_at a.table.now.octets.now a.i in
    let stay : not (eqb a.i a.r) && is_displaced a.a p ≡ false = rw (c.is_displaced.ensures, c.load-p.ensures.0, c.lent-then-eq.ensures) at c.if-i-r.false in
    left_be (displaced_if a.r a.a a.i) a.table.now a.i c.requires (stays a.r a.a a.i p stay)

pub returns-else-eq : goal.returns-else-eq
returns-else-eq c =
    let a = c.args in
    let p = port_at a.table.now.octets.now a.i in
    let other : is_disabled p.phase.receive ≡ false = search rules in
    left_be (displaced_if a.r a.a a.i) a.table.now a.i c.requires (stays a.r a.a a.i p (enabled a.r a.a a.i p other))
