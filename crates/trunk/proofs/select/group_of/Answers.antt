-- `trunk::select::group_of` meets its contract: an individual port is alone; else port i, and then each later port by what is compared. Assumes nothing.
use Prim.Native.Nat.{◌<◌}
use mathlib.Core.Path.{◌≡◌, sym, ap, ◌∙◌}
use mathlib.Core.Bool.{true}
use mathlib.Core.List.{map}
use native.Mathlib.Omega.{arith}
use lib.ListN.{length, get_or, length-map}
use Rattle.port.specs.Compared.{Compared, compared}
use Rattle.table.specs.Table.{count_in, ports, port_at}
use Rattle.table.proofs.StoreLaws.{ports-length}
use Rattle.table.proofs.TableLaws.{in_range}
use Rattle.trunk.specs.Selection.{individual, same_group, nobody, joins}
use Rattle.trunk.proofs.SelectLaws.{joins_at}
use Rattle.trunk.proofs.TableWork.{map-port_at}
use Rattle.trunk.proofs.GroupSets.{group-begins, group-alone, group-more, group-ends}
use Rattle.trunk.proofs.select.group_of.Goals as goal

pub with-set-requires : goal.with-set-requires
with-set-requires c = let most = (in_range _ c.count-n.ensures.in_range).most in let less = c.requires in omega arith

pub returns-then-is_individual : goal.returns-then-is_individual
returns-then-is_individual c =
    let a = c.args in
    let t = a.table.now in
    let alone : individual a.ours (get_or (map compared (ports t)) a.i nobody) ≡ true =
    ap (λ (x : Compared). individual a.ours x) (map-port_at compared t a.i nobody c.requires ∙ sym c.keys-c.ensures) ∙ sym c.is_individual.ensures ∙ c.if-is_individual.true in
    group-alone a.ours (map compared (ports t)) a.i c.with-set.result alone c.with-set.ensures

pub loop-j-init : goal.loop-j-init
loop-j-init c =
    let a = c.args in
    let less = c.requires in
    (group-begins a.ours (map compared (ports a.table.now)) a.i c.with-set.result c.with-set.ensures)

pub shares-requires : goal.shares-requires
shares-requires c = let end = c.count-n.ensures.count in omega (arith, end)

pub with_if-set-requires : goal.with_if-set-requires
with_if-set-requires c = let most = (in_range _ c.count-n.ensures.in_range).most in let end = c.count-n.ensures.count in omega (arith, end, most)

pub loop-j-preserved : goal.loop-j-preserved
loop-j-preserved c =
    let a = c.args in
    let t = a.table.now in
    let inv = c.loop-j.invariant in
    let j = c.loop-j.j in
    let end = c.count-n.ensures.count in
    let less : j < count_in t = omega (arith, end) in
    let told : c.shares.result ≡ joins a.ours (map compared (ports t)) a.i j =
    c.shares.ensures
    ∙ ap (λ (x : Compared). same_group a.ours x (compared (port_at t j))) c.keys-c.ensures
    ∙ sym (joins_at a.ours t a.i j c.requires less) in
    (group-more a.ours (map compared (ports t)) a.i j c.loop-j.set c.with_if-set.result c.shares.result (omega (arith, c.loop-j.auto.j)) told inv c.with_if-set.ensures)

pub returns : goal.returns
returns c =
    let a = c.args in
    let t = a.table.now in
    let inv = c.loop-j.invariant in
    let end : c.loop-j.j ≡ count_in t = omega (arith, c.count-n.ensures.count) in
    let size : length (map compared (ports t)) ≡ c.loop-j.j = length-map (ports t) compared ∙ ports-length t ∙ sym end in
    let inside : a.i < c.loop-j.j = omega (arith, c.loop-j.auto.j) in
    group-ends a.ours (map compared (ports t)) a.i c.loop-j.set c.loop-j.j inside size inv
