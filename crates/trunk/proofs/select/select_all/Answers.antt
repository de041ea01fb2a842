-- `trunk::select::select_all` meets its contract: the groups whose lowest port is below i are done (`done_below`), and a turn does that of port i, if it is the lowest of one. Assumes nothing.
use Prim.Native.Nat.{ℕ, ◌<◌}
use mathlib.Core.Path.{◌≡◌, sym, ap, ◌∙◌}
use mathlib.Core.Bool.{true, false}
use mathlib.Core.List.{List, map}
use native.Mathlib.Omega.{arith}
use borrow.Author.Tests.{le-ltb, ltb-true, ltb-false}
use Rattle.octets.specs.Sets.{member}
use Rattle.octets.proofs.SetLaws.{none-member}
use Rattle.port.specs.declared.record.Port.{Port}
use Rattle.port.specs.Compared.{compared}
use Rattle.table.specs.Lent.{Has}
use Rattle.table.specs.Table.{count_in, ports}
use Rattle.table.proofs.LeavesLaws.{count_kept}
use Rattle.table.proofs.StoreLaws.{ports-length}
use Rattle.table.proofs.TableLaws.{in_range}
use Rattle.trunk.specs.Selection.{lowest}
use Rattle.trunk.specs.Groups.{since}
use Rattle.trunk.proofs.GroupLaws.{lowest-le}
use Rattle.trunk.proofs.GroupSets.{since-before, below_none, below_all, below_compares, below-same, below-done, below_more, more-done}
use Rattle.trunk.proofs.TableWork.{nothing, then_all, told}
use Rattle.trunk.proofs.select.select_all.Goals as goal
use Rattle.trunk.proofs.select.select_all.Goals.{then-not-has, else-not-has}

pub loop-i-init : goal.loop-i-init
loop-i-init c =
    let a = c.args in
    let t = a.table.now.octets.now in (
      λ m. none-member m ∙ sym (le-ltb (lowest a.ours (map compared (ports t)) m) 0 (omega arith)),
      told (sym (below_none a.ours (ports t))) (nothing a.table.now),
    )

pub has-requires : goal.has-requires
has-requires c = let most = (in_range _ c.args.table.now.in_range).most in omega (arith, c.loop-i-test.true, rw c.lent.ensures at c.count-i-end.ensures.count, most)

pub group_of-set-requires : goal.group_of-set-requires
group_of-set-requires c = rw (c.lent-then-not-has.ensures, count_kept c.loop-i.invariant.1.left) (omega (arith, c.loop-i-test.true, rw c.lent.ensures at c.count-i-end.ensures.count))

pub select_set-requires : goal.select_set-requires
select_set-requires c =
    let u = c.loop-i.table in
    let i = c.loop-i.i in
    let at : Has u i = rw (count_kept c.loop-i.invariant.1.left) (omega (arith, c.loop-i-test.true, rw c.lent.ensures at c.count-i-end.ensures.count)) in
    (at, λ m h. (rw c.lent-then-not-has.ensures at (c.group_of-set.ensures m)) ∙ since-before c.args.ours (map compared (ports u.octets.now)) i m h)

pub loop-i-preserved : goal.loop-i-preserved
loop-i-preserved c =
    let a = c.args in
    let t = a.table.now.octets.now in
    let inv = c.loop-i.invariant in
    let i = c.loop-i.i in
    let u = c.loop-i.table.octets.now in
    let low = lowest a.ours (map compared (ports t)) i in
    let read : map compared (ports u) ≡ map compared (ports t) = ap (λ (l : List Port). map compared l) inv.1.left.records ∙ below_compares a.ours (ports t) i in
    elim c.if-not-has.branch [
      | then-not-has w ↦
          let none : member c.loop-i.done i ≡ false = sym c.has.ensures ∙ w.if-not-has.true in
          let is : low ≡ i = omega (arith, lowest-le a.ours (map compared (ports t)) i, ltb-false low i (sym (inv.0 i) ∙ none)) in
          let set = w.group_of-set.result in
          let is_set : (m : ℕ) → member set m ≡ since a.ours (map compared (ports t)) i m = λ m. (rw w.lent-then-not-has.ensures at (w.group_of-set.ensures m)) ∙ ap (λ l. since a.ours l i m) read in
          rw (w.table-is, w.done-is) (
            more-done a.ours (ports t) i is set is_set c.loop-i.done w.all_of-done.result inv.0 w.all_of-done.ensures,
            told (below_more a.ours (ports t) i is set is_set) (then_all inv.1 w.select_set.ensures),
          )
      | else-not-has w ↦
          let some : member c.loop-i.done i ≡ true = sym c.has.ensures ∙ w.if-not-has.false in
          let less : low < i = ltb-true low i (sym (inv.0 i) ∙ some) in
          rw (w.table-is, w.done-is) (below-done a.ours (ports t) i less c.loop-i.done inv.0, told (below-same a.ours (ports t) i less) inv.1)
    ]

pub returns : goal.returns
returns c =
    let a = c.args in
    let t = a.table.now.octets.now in
    let inv = c.loop-i.invariant in
    let end : count_in t ≡ c.loop-i.i = omega (arith, c.loop-i-test.false, c.loop-i.auto.i-end, rw c.lent.ensures at c.count-i-end.ensures.count) in
    told (below_all a.ours (ports t) c.loop-i.i (ports-length t ∙ end)) inv.1
