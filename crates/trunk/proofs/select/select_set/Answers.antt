-- `trunk::select::select_set` meets its contract: the loop has done the ports below j (`done_to`), and a turn does the next; those below i are in no such set, nor are those
-- from its end on. Assumes nothing.
use Prim.Native.Nat.{◌+◌, ◌≤◌}
use mathlib.Core.Path.{◌≡◌, refl, sym, ap, ◌∙◌}
use mathlib.Core.Bool.{Bool, true, false, cond}
use native.Mathlib.Omega.{arith}
use Rattle.octets.specs.Sets.{member}
use Rattle.octets.proofs.ListLaws.{done_to, done-idle, done-rest}
use Rattle.octets.proofs.RangeLaws.{within-is}
use Rattle.table.specs.Lent.{Has}
use Rattle.table.specs.Table.{count_in, ports, port_at}
use Rattle.table.proofs.LeavesLaws.{count_kept}
use Rattle.table.proofs.StoreLaws.{ports-length}
use Rattle.table.proofs.TableLaws.{in_range}
use Rattle.trunk.specs.Groups.{placing}
use Rattle.trunk.specs.Settled.{reselected}
use Rattle.trunk.proofs.TableWork.{in_count, left_be, nothing, told, turn}
use Rattle.trunk.proofs.select.select_set.Goals as goal
use Rattle.trunk.proofs.select.select_set.Goals.{then-has, else-has}
use Rattle.trunk.proofs.select.select_set.Invariants.{bound}

pub overflow_add-k : goal.overflow_add-k
overflow_add-k c = let most = (in_range _ c.args.table.now.in_range).most in let less = c.requires.0 in omega arith

pub overflow_cast-k : goal.overflow_cast-k
overflow_cast-k c = let most = (in_range _ c.args.table.now.in_range).most in let less = c.requires.0 in omega arith

pub loop-j-init : goal.loop-j-init
loop-j-init c =
    let a = c.args in
    let t = a.table.now.octets.now in
    let idle : done_to (placing a.set a.i) a.i (ports t) ≡ ports t =
    done-idle (placing a.set a.i) (ports t) a.i (λ m x h. ap (λ (b : Bool). cond b (reselected (a.i + 1) x) x) (c.requires.1 m h)) in
    (rw (c.min-j-end.ensures, c.count.ensures.count, c.lent.ensures) (bound a.set (count_in t) c.end.result c.end.ensures.1), told (sym idle) (nothing a.table.now))

pub has-requires : goal.has-requires
has-requires c =
    let most = (in_range _ c.args.table.now.in_range).most in
    let few = c.loop-j.invariant.0.few in
    omega (arith, few, most)

pub select_one-requires : goal.select_one-requires
select_one-requires c =
    let a = c.args in
    let inv = c.loop-j.invariant in
    let j = c.loop-j.j in
    let h : Has a.table.now j = omega (arith, inv.0.few) in
    let n = count_in c.loop-j.table.octets.now in
    let some = c.requires.0 in
    let most : a.i + 1 ≤ n = rw (count_kept inv.1.left) (omega arith) in
    (in_count (placing a.set a.i) j inv.1 h, within-is 1 (a.i + 1) n (omega arith) most)

pub loop-j-preserved : goal.loop-j-preserved
loop-j-preserved c =
    let a = c.args in
    let inv = c.loop-j.invariant in
    let j = c.loop-j.j in
    let u = c.loop-j.table in
    let f = placing a.set a.i in
    let h : Has a.table.now j = omega (arith, inv.0.few, c.loop-j-test.true) in
    let p = port_at a.table.now.octets.now j in (
      inv.0,
      elim c.if-has.branch [
        | then-has w ↦
            let told : member a.set j ≡ true = sym c.has.ensures ∙ w.if-has.true in
            let is : reselected (a.i + 1) p ≡ f j p = ap (λ (b : Bool). cond b (reselected (a.i + 1) p) p) (sym told) in
            rw w.table-is (turn f j inv.1 h (reselected (a.i + 1)) w.select_one.ensures is)
        | else-has w ↦
            let told : member a.set j ≡ false = sym c.has.ensures ∙ w.if-has.false in
            let is : p ≡ f j p = ap (λ (b : Bool). cond b (reselected (a.i + 1) p) p) (sym told) in
            rw w.table-is (turn f j inv.1 h (λ x. x) (left_be (λ x. x) u j (in_count f j inv.1 h) refl) is)
      ],
    )

pub returns : goal.returns
returns c =
    let a = c.args in
    let t = a.table.now.octets.now in
    let inv = c.loop-j.invariant in
    let j = c.loop-j.j in
    let over : c.min-j-end.result ≤ j = omega arith in
    told
    (done-rest (placing a.set a.i) (ports t) j (port_at t 0)
    (λ m x h k. ap (λ (b : Bool). cond b (reselected (a.i + 1) x) x) (inv.0.rest m (omega (arith, over, h)) (rw ports-length at k))))
    inv.1
