-- `trunk::ready::held_back` meets its contract: from the top port down, the set is that of the records from i on. Assumes nothing.
use Prim.Native.Nat.{ℕ, suc, ◌+◌, ◌-◌, ◌<◌, ◌≤◌}
use mathlib.Core.Path.{◌≡◌, sym, ap, ◌∙◌}
use mathlib.Core.Bool.{true, false, not, ◌&&◌, ◌||◌}
use native.Mathlib.Omega.{arith}
use lib.ListN.{drop}
use lib.Dec.{eqb}
use Rattle.octets.specs.Sets.{member}
use Rattle.machine.specs.Mux.{waits}
use Rattle.machine.specs.Time.{ran_out}
use Rattle.table.specs.Table.{count_in, ports, port_at}
use Rattle.table.proofs.StoreLaws.{ports-length, ports-at}
use Rattle.trunk.specs.Ready.{held_back}
use Rattle.trunk.proofs.GroupSets.{held_more, held_same, held_end}
use Rattle.trunk.proofs.ready.held_back.Goals as goal

pub loop-i-init : goal.loop-i-init
loop-i-init c =
    let t = c.args.table.now in
    (omega (arith, c.count-i.ensures.count), held_end (ports t) c.count-i.result (ports-length t ∙ sym c.count-i.ensures.count))

pub loop-i-preserved-then-holds_back : goal.loop-i-preserved-then-holds_back
loop-i-preserved-then-holds_back c =
    let a = c.args in
    let t = a.table.now in
    let inv = c.loop-i.invariant in
    let i = c.loop-i.i in
    let less : i - 1 < count_in t = omega arith in
    let p = port_at t (i - 1) in
    let back : suc (i - 1) ≡ i = omega arith in
    let here = ports-at t (i - 1) p less in
    let so_far : (k : ℕ) → member c.loop-i.set k ≡ held_back (k + 1) (drop (suc (i - 1)) (ports t)) = λ k. inv.1 k ∙ ap (λ (m : ℕ). held_back (k + 1) (drop m (ports t))) (sym back) in
    let told : waits p.phase.mux && not (ran_out p.timers.wait) ≡ true = sym c.holds_back.ensures ∙ c.if-holds_back.true in
    let some : 1 ≤ p.aggregator = rw c.aggregator.ensures.0 at c.aggregator.ensures.1 in
    let grown : (k : ℕ) → member c.with-set.result k ≡ (eqb k (p.aggregator - 1) || member c.loop-i.set k) = λ k. c.with-set.ensures k ∙ ap (λ (g : ℕ). eqb k (g - 1) || member c.loop-i.set k) c.aggregator.ensures.0 in
    (omega arith, (held_more (ports t) (i - 1) p (rw ports-length less) (rw here some) (rw here told) c.loop-i.set c.with-set.result so_far (rw here grown)))

pub loop-i-preserved : goal.loop-i-preserved
loop-i-preserved c =
    let a = c.args in
    let t = a.table.now in
    let inv = c.loop-i.invariant in
    let i = c.loop-i.i in
    let less : i - 1 < count_in t = omega arith in
    let p = port_at t (i - 1) in
    let back : suc (i - 1) ≡ i = omega arith in
    let here = ports-at t (i - 1) p less in
    let so_far : (k : ℕ) → member c.loop-i.set k ≡ held_back (k + 1) (drop (suc (i - 1)) (ports t)) = λ k. inv.1 k ∙ ap (λ (m : ℕ). held_back (k + 1) (drop m (ports t))) (sym back) in
    let told : waits p.phase.mux && not (ran_out p.timers.wait) ≡ false = sym c.holds_back.ensures ∙ c.if-holds_back.false in
    (omega arith, held_same (ports t) (i - 1) p (rw ports-length less) (rw here told) c.loop-i.set so_far)

pub returns : goal.returns
returns c =
    let inv = c.loop-i.invariant in
    let end : c.loop-i.i ≡ 0 = omega arith in
    λ k. inv.1 k ∙ ap (λ (m : ℕ). held_back (k + 1) (drop m (ports c.args.table.now))) end
