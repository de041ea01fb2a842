-- `fetched` meets its contract: one counter, by the answer. Assumes nothing.
use Rattle.counters.specs.Counters.{fetched}
use Rattle.counters.proofs.Counters.fetched.Goals as goal

pub returns : goal.returns
unfolding fetched
returns c = simp (c.counted_if.ensures, c.is_ok.ensures.value)
