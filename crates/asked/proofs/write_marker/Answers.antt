-- `write_marker` meets its contract: the request in twelve octets, and the frame over the first of `out`. Assumes nothing.
use Rattle.asked.proofs.write_marker.Goals as goal

pub returns : goal.returns
returns c = rw (c.write_marker.ensures, c.write_request.ensures, c.header-header.ensures, c.load-p.ensures.0)
