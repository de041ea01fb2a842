-- `record_of` meets its contract: none for a number that no port has, and otherwise the port's record. Assumes nothing.
use Prim.Native.Nat.{◌-◌, ◌<◌}
use mathlib.Core.Path.{◌≡◌, sym, ap, ◌∙◌}
use mathlib.Core.Bool.{true}
use native.Mathlib.Omega.{arith}
use Rattle.octets.proofs.RangeLaws.{within-true}
use Rattle.table.specs.Record.{decoded}
use Rattle.table.specs.Table.{count_in, decoded_at}
use Rattle.table.proofs.StoreLaws.{port-decoded}
use Rattle.control.specs.Answer.{is_number}
use borrow.Author.Rules.{rules}
use Rattle.whole.proofs.record_of.Goals as goal

pub returns : goal.returns
unfolding decoded_at
returns c =
    let t = c.args.base.now in
    let n = c.args.n in
    let there : is_number t n ≡ true = search rules in
    let here : n - 1 < count_in t = let h = within-true 1 n (count_in t) there in omega (arith, h.0, h.1) in
    (sym there, ap decoded c.record_at.ensures ∙ sym (port-decoded t (n - 1) here))
