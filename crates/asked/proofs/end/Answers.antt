-- `end` meets its contract: one group behind the front is written anew. Assumes nothing.
use Prim.Native.Nat.{ℕ, ◌-◌}
use mathlib.Core.Path.{◌≡◌, ap, ◌∙◌}
use mathlib.Core.List.{List, ◌++◌}
use native.Mathlib.Omega.{arith}
use lib.ListN.{length, take}
use Rattle.asked.specs.Asked.{ended_at}
use Rattle.asked.proofs.AskedLaws.{tail_is, tail_put}
use borrow.Author.Rules.{rules}
use Rattle.asked.proofs.end.Goals as goal

pub returns : goal.returns
returns c =
    let a = c.args in
    let m = a.table.now in
    let size : length c.store.new.groups ≡ length m - a.f = search rules in
    tail_put a.f m _ (omega (arith, c.requires)) size
    ∙ ap (λ (l : List ℕ). take a.f m ++ l)
    (c.store.ensures ∙ rw (c.end.ensures, c.at-a.ensures) (ap (λ (l : List ℕ). ended_at a.outcome a.i l) (tail_is a.f m)))
