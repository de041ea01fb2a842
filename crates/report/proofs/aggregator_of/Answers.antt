-- `report::aggregator_of` meets its contract: the definition field by field, with what the three sets and the lowest port are ensured
-- to be put in. Assumes nothing.
use Rattle.report.specs.Sets.{sets_of}
use Rattle.report.proofs.aggregator_of.Goals as goal

pub returns : goal.returns
unfolding sets_of
returns c =
    rw (c.lowest_of.ensures, c.set_of-distributing.ensures, c.set_of-attached.ensures, c.set_of-holding.ensures)
