-- `begin_if` meets its contract, by its test: the part behind the front begins or stays. Assumes nothing.
use Prim.Native.Nat.{ℕ, ◌-◌}
use mathlib.Core.Path.{◌≡◌, sym, ap, ◌∙◌}
use mathlib.Core.List.{List, ◌++◌}
use native.Mathlib.Omega.{arith}
use lib.ListN.{length, take, take-append-drop}
use Rattle.asked.proofs.AskedLaws.{tail_put}
use borrow.Author.Rules.{rules}
use Rattle.asked.proofs.begin_if.Goals as goal

pub returns-then-begins : goal.returns-then-begins
returns-then-begins c =
    let a = c.args in
    let m = a.table.now in
    let size : length c.begin_all.new.groups ≡ length m - a.f = search rules in
    rw c.if-begins.true
    (tail_put a.f m _ (omega (arith, c.requires)) size ∙ ap (λ (l : List ℕ). take a.f m ++ l) c.begin_all.ensures)

pub returns-else-begins : goal.returns-else-begins
returns-else-begins c =
    let a = c.args in
    rw c.if-begins.false (sym (take-append-drop a.f a.table.now))
