-- `port::record::Port::expire` meets its contract: the definition, with what the callees ensure put in. Assumes nothing.
use Rattle.port.specs.Receive.{expired}
use Rattle.port.proofs.record.Port.expire.Goals as goal

pub returns : goal.returns
unfolding expired
returns c = simp c.in_state.ensures
