-- `report::aggregator_of` meets its contract: the test of each of its three sets. Assumes nothing.
use Rattle.report.specs.Sets.{holds, attached_to, distributes_in}
use Rattle.report.proofs.aggregator_of.Given as goal

abbrev pub ghost-set_of : goal.ghost-set_of
ghost-set_of a = holds a.passes.0.now

abbrev pub ghost-set_of-2 : goal.ghost-set_of-2
ghost-set_of-2 a = attached_to a.passes.0.now

abbrev pub ghost-set_of-3 : goal.ghost-set_of-3
ghost-set_of-3 a = distributes_in a.passes.0.now
