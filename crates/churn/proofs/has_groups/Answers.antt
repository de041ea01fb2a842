-- `has_groups` meets its contract: all parts of the table's end are in range where all groups are. Assumes nothing.
use Rattle.std.proofs.Common.{rules, ◌≡◌, ◌∙◌}
use borrow.Author.Tests.{tests}
use Rattle.std.specs.List.{list_all}
use Rattle.std.proofs.lemmas.List.{take_rest}
use Rattle.std.proofs.lemmas.Iterator.{YieldsList-from_slice}
use Rattle.std.proofs.lemmas.Iterator.Search.{all_from_yields_List}
use Rattle.churn.specs.Group.{group_in_range}
use Rattle.churn.proofs.WholeLaws.{chunks-all}
use Rattle.churn.proofs.has_groups.Goals as goal

pub returns : goal.returns
returns c =
    let chunks = c.as_chunks.result.0.now in
    let told : c.all.result ≡ list_all group_in_range chunks =
    all_from_yields_List group_in_range _ _ c.all.result c.all.ensures.ran (YieldsList-from_slice chunks cc) (λ x b q k. search (rules, tests)) in
    told ∙ rw (c.as_chunks.ensures.front, c.place_of.ensures, take_rest) (chunks-all c.args.table.now c.requires)
