-- `why::apart::Apart::number` meets its contract: what is done, and the reasons before it, come to the number. Assumes nothing.
use Prim.Native.Nat.{ℕ, ◌+◌, ◌*◌}
use mathlib.Core.Path.{ap, ◌∙◌}
use mathlib.Core.List.{List}
use mathlib.Core.Bool.{Bool}
use native.Mathlib.Omega.{arith}
use Rattle.std.proofs.Common.{rules}
use Rattle.why.specs.Apart.{apart_number, reasons}
use Rattle.why.proofs.ApartLaws.{bits_before, bits-begun, bits-turn, bits-fit, bits-ended, number-most}
use Rattle.why.proofs.apart.Apart.number.Goals as goal

pub loop-reason-init : goal.loop-reason-init
unfolding apart_number
loop-reason-init c = ap (λ (l : List Bool). bits_before l 0) (search rules) ∙ bits-begun (reasons c.args.self)

pub overflow_mul-number : goal.overflow_mul-number
overflow_mul-number c =
    let less = bits-fit _ _ _ c.in-Some.ensures.steps c.loop-reason.invariant in
    omega (arith, less, number-most c.args.self)

pub overflow_add-number : goal.overflow_add-number
overflow_add-number c =
    let less = bits-fit _ _ _ c.in-Some.ensures.steps c.loop-reason.invariant in
    omega (arith, less, c.from.ensures, number-most c.args.self)

pub loop-reason-preserved : goal.loop-reason-preserved
loop-reason-preserved c =
    ap (λ (n : ℕ). bits_before c.next.new.self.iter.rest.now (c.loop-reason.number * 2 + n)) c.from.ensures
    ∙ bits-turn _ _ _ c.in-Some.ensures.steps c.loop-reason.invariant

pub returns : goal.returns
returns c = bits-ended _ _ c.in-None.ensures.steps.0 c.loop-reason.invariant
