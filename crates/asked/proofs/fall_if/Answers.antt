-- `fall_if` meets its contract, by its test: the part behind the front falls or stays. Assumes nothing.
use Prim.Native.Nat.{ℕ, ◌-◌}
use mathlib.Core.Path.{◌≡◌, sym, ap, ◌∙◌}
use mathlib.Core.List.{List, ◌++◌}
use native.Mathlib.Omega.{arith}
use lib.ListN.{length, take, take-append-drop}
use Rattle.asks.specs.Groups.{all_fallen}
use Rattle.asked.proofs.AskedLaws.{tail_is, tail_put}
use borrow.Author.Rules.{rules}
use Rattle.asked.proofs.fall_if.Goals as goal

pub returns-then-falls : goal.returns-then-falls
returns-then-falls c =
    let a = c.args in
    let m = a.table.now in
    let size : length c.fall_all.new.groups ≡ length m - a.f = search rules in
    rw c.if-falls.true
    (tail_put a.f m _ (omega (arith, c.requires)) size ∙ ap (λ (l : List ℕ). take a.f m ++ l) (c.fall_all.ensures ∙ ap (λ (l : List ℕ). all_fallen a.n l) (tail_is a.f m)))

pub returns-else-falls : goal.returns-else-falls
returns-else-falls c =
    let a = c.args in
    rw c.if-falls.false (sym (take-append-drop a.f a.table.now))
