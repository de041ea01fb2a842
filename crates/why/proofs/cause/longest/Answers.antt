-- `why::cause::longest` meets its contract: from the top port down, the longest wait is that of the records from i on. Assumes nothing.
use Prim.Native.Nat.{ℕ, suc, ◌+◌, ◌-◌, ◌<◌}
use mathlib.Core.Path.{◌≡◌, sym, ap, ap₂, ◌∙◌}
use native.Mathlib.Omega.{arith}
use lib.ListN.{drop, get_or}
use Rattle.std.specs.Prelude.{Option}
use Rattle.table.specs.Table.{count_in, ports, port_at}
use Rattle.table.proofs.StoreLaws.{ports-length, ports-at}
use Rattle.why.specs.declared.cause.Hold.{Hold}
use Rattle.why.specs.Cause.{wait_for, longer, longest}
use Rattle.why.proofs.CauseLaws.{longest-next, longest_end}
use Rattle.why.proofs.cause.longest.Goals as goal

pub loop-i-init : goal.loop-i-init
loop-i-init c =
    let t = c.args.table.now in
    (omega (arith, c.count-i.ensures.count), sym (longest_end c.args.k (c.count-i.result + 1) (ports t) c.count-i.result (ports-length t ∙ sym c.count-i.ensures.count)))

pub loop-i-preserved : goal.loop-i-preserved
loop-i-preserved c =
    let a = c.args in
    let t = a.table.now in
    let inv = c.loop-i.invariant in
    let i = c.loop-i.i in
    let less : i - 1 < count_in t = omega (arith, inv.0) in
    let over : i + 1 ≡ i - 1 + 1 + 1 = omega arith in
    let next : i ≡ suc (i - 1) = omega arith in
    let here : wait_for a.k (port_at t (i - 1)) ≡ wait_for a.k (get_or (ports t) (i - 1) (port_at t (i - 1))) = ap (wait_for a.k) (sym (ports-at t (i - 1) (port_at t (i - 1)) less)) in (
      omega (arith, inv.0),
      c.longer-hold.ensures
          ∙ ap₂ (λ (w : Option ℕ) (h : Option Hold). longer w (i - 1 + 1) h)
          (c.wait_for.ensures ∙ here) (inv.1 ∙ ap₂ (λ (m n : ℕ). longest a.k m (drop n (ports t))) over next)
          ∙ sym (longest-next a.k (ports t) (i - 1) (i - 1 + 1) (port_at t (i - 1)) (rw ports-length less)),
    )

pub returns : goal.returns
returns c =
    let a = c.args in
    let end : c.loop-i.i ≡ 0 = omega arith in
    c.loop-i.invariant.1 ∙ ap (λ (m : ℕ). longest a.k (m + 1) (drop m (ports a.table.now))) end
