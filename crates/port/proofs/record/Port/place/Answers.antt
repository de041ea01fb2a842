-- `port::record::Port::place` meets its contract: a detached port that is placed enters WAITING (`placed-is`). Assumes nothing.
use Rattle.port.proofs.MuxLaws.{placed-is}
use Rattle.port.proofs.record.Port.place.Goals as goal

pub returns : goal.returns
returns c =
    let a = c.args in
    rw (placed-is a.aggregator a.self c.requires, c.enter_mux.ensures, c.with_selected.ensures)
