-- `are_groups` meets its contract: all chunks are in range where all rows are. Assumes nothing.
use Rattle.std.proofs.Common.{rules, ◌≡◌, ◌∙◌, take}
use native.Mathlib.Omega.{arith}
use borrow.Author.Tests.{tests}
use Rattle.std.specs.List.{list_all}
use Rattle.std.proofs.lemmas.Iterator.{YieldsList-from_slice}
use Rattle.std.proofs.lemmas.Iterator.Search.{all_from_yields_List}
use Rattle.asks.specs.Group.{group_in_range}
use Rattle.asks.proofs.GroupLaws.{chunks-ranged}
use Rattle.asks.proofs.are_groups.Goals as goal

pub returns : goal.returns
returns c =
    let chunks = c.as_chunks.result.0.now in
    let told : c.all.result ≡ list_all group_in_range (take c.args.n chunks) =
    all_from_yields_List group_in_range _ _ c.all.result c.all.ensures.ran (YieldsList-from_slice (take c.args.n chunks) cc) (λ x b q k. search (rules, tests)) in
    told ∙ rw c.as_chunks.ensures.front (chunks-ranged _ c.args.groups.now c.args.n (let h = c.requires in omega (arith, h)))
