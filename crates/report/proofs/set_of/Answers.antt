-- `report::set_of` meets its contract: from the top port down, the set is that of the records from i on, and it fits 32 bits since a table
-- has at most 32 ports. Assumes nothing.
use Prim.Native.Nat.{ℕ, suc, ◌≤◌, ◌<◌, ◌-◌, ◌*◌, ◌+◌}
use mir.Val.{bool_byte}
use mathlib.Core.Path.{◌≡◌, refl, sym, ap, ap₂, ◌∙◌}
use mathlib.Core.Bool.{Bool, true, false}
use mathlib.Core.List.{List}
use native.Mathlib.Omega.{arith}
use lib.ListN.{drop}
use Rattle.frame.specs.State.{weighed}
use Rattle.port.specs.declared.record.Port.{Port}
use Rattle.table.specs.Table.{table_in_range, count_in, ports, port_at}
use Rattle.table.proofs.StoreLaws.{ports-length, ports-at}
use Rattle.table.proofs.TableLaws.{in_range}
use Rattle.report.specs.Sets.{set_of}
use Rattle.report.proofs.SetLaws.{weight_less, set_next, set_end, set-fits}
use Rattle.report.proofs.set_of.Goals as goal

-- before a turn the set is below 2 ^ 31
fits : (f : Port → Bool) (t : List ℕ) → table_in_range t ≡ true → (i : ℕ) → 1 ≤ i → {set : ℕ} → set ≡ set_of f (drop i (ports t)) → set < 2147483648
fits f t e i more so_far = rw so_far (set-fits f (ports t) i (rw ports-length (in_range t e).most) more)

-- a turn puts record i - 1 into bit 0
turn : (f : Port → Bool) (t : List ℕ) (i : ℕ) → 1 ≤ i → i ≤ count_in t → {set : ℕ} → set ≡ set_of f (drop i (ports t))
    → set * 2 + weighed (f (port_at t (i - 1))) 1 ≡ set_of f (drop (i - 1) (ports t))
turn f t i more h {set} so_far =
    let p = port_at t (i - 1) in
    let below : i - 1 < count_in t = omega arith in
    let back : suc (i - 1) ≡ i = omega arith in
    sym (set_next f (ports t) (i - 1) p (rw ports-length below)
    ∙ ap₂ (λ (m : ℕ) (q : Port). set_of f (drop m (ports t)) * 2 + weighed (f q) 1) back (ports-at t (i - 1) p below)
    ∙ ap (λ (x : ℕ). x * 2 + weighed (f p) 1) (sym so_far))

-- a flag as a number is its weight
weight : (b : Bool) → bool_byte b ≡ weighed b 1
weight true = refl
weight false = refl

pub loop-i-init : goal.loop-i-init
loop-i-init g c =
    let t = c.args.table.now in
    sym (set_end g.test (ports t) c.count-i.result (ports-length t ∙ sym c.count-i.ensures.count))

pub overflow_mul-set : goal.overflow_mul-set
overflow_mul-set g c =
    let less = fits g.test c.args.table.now c.count-i.ensures.in_range c.loop-i.i (omega (arith, c.loop-i-test.true)) c.loop-i.invariant in
    omega (arith, less)

pub passes-requires : goal.passes-requires
passes-requires g c =
    let h : c.loop-i.i - 1 < count_in c.args.table.now = omega (arith, c.loop-i-test.true, c.loop-i.auto.i, c.count-i.ensures.count) in
    c.requires.1.0 _ (c.loop-i.i - 1) h

pub overflow_add-set : goal.overflow_add-set
overflow_add-set g c =
    let less = fits g.test c.args.table.now c.count-i.ensures.in_range c.loop-i.i (omega (arith, c.loop-i-test.true)) c.loop-i.invariant in
    let least = weight_less c.passes.result in
    omega (arith, less, least, c.from.ensures ∙ weight c.passes.result)

pub loop-i-preserved : goal.loop-i-preserved
loop-i-preserved g c =
    let t = c.args.table.now in
    let i = c.loop-i.i in
    let most : i ≤ count_in t = omega (arith, c.loop-i.auto.i, c.count-i.ensures.count) in
    let h : i - 1 < count_in t = omega (arith, c.loop-i-test.true, most) in
    let told : c.passes.result ≡ g.test (port_at t (i - 1)) = c.requires.1.1 _ (i - 1) _ h c.passes.ensures in
    ap (λ (n : ℕ). c.loop-i.set * 2 + n) (c.from.ensures ∙ weight c.passes.result ∙ ap (λ (b : Bool). weighed b 1) told)
    ∙ turn g.test t i (omega (arith, c.loop-i-test.true)) most c.loop-i.invariant

pub returns : goal.returns
returns g c =
    let end : c.loop-i.i ≡ 0 = omega (arith, c.loop-i-test.false) in
    c.loop-i.invariant ∙ ap (λ (m : ℕ). set_of g.test (drop m (ports c.args.table.now))) end
