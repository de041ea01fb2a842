-- `front_size` meets its contract: memory of no octet has no front, and the rest is tested by its size. Assumes nothing.
use Prim.Native.Nat.{ℕ, ◌+◌, ◌*◌}
use mathlib.Core.Path.{◌≡◌, sym, ap, ◌∙◌}
use mathlib.Core.Bool.{true, ◌&&◌}
use native.Mathlib.Omega.{arith}
use lib.Dec.{eqb}
use lib.ListN.{length, drop}
use borrow.Author.Tests.{ne_eqb}
use Rattle.table.specs.Table.{count_in}
use Rattle.asks.specs.Group.{group_size}
use Rattle.asks.specs.Groups.{groups_in_range}
use Rattle.asked.specs.Asked.{asked_size, has_asks, front_found}
use Rattle.asked.proofs.AskedLaws.{asked-size}
use Rattle.asked.proofs.front_size.Goals as goal

pub returns-then-table-eq0 : goal.returns-then-table-eq0
unfolding has_asks front_found
returns-then-table-eq0 g c =
    let t = c.args.table.now in
    let some = g.met.F.Form.some (count_in t) in
    (rw (ne_eqb (length t) (asked_size g.F.Form.layer (count_in t)) (λ e. omega (arith, c.if-table-eq0.true, e, some))), tt)

pub returns-then-not-is_asked : goal.returns-then-not-is_asked
unfolding has_asks front_found
returns-then-not-is_asked g c =
    let t = c.args.table.now in
    let is = ap (λ (k : ℕ). eqb (length t) (k + group_size * count_in t) && groups_in_range (count_in t) (drop k t)) c.front_size-f.ensures.is in
    (rw (sym is ∙ sym c.is_asked.ensures ∙ c.if-not-is_asked.true), tt)

pub returns : goal.returns
unfolding has_asks front_found
returns g c =
    let t = c.args.table.now in
    let is = ap (λ (k : ℕ). eqb (length t) (k + group_size * count_in t) && groups_in_range (count_in t) (drop k t)) c.front_size-f.ensures.is in
    let has : has_asks g.F.Form.layer t ≡ true = sym is ∙ sym c.is_asked.ensures ∙ c.if-not-is_asked.false in
    let long = asked-size g.F.Form.layer t has in
    let f = c.front_size-f.ensures.is in
    (rw (has, f), omega (arith, long, f))
