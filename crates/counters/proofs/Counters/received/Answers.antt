-- `received` meets its contract: each counter, by the answer. Assumes nothing.
use Rattle.counters.specs.Counters.{received}
use Rattle.counters.proofs.Counters.received.Goals as goal

pub returns : goal.returns
unfolding received
returns c =
    let first = c in
    simp (
      c.counted_if-6.ensures,
      c.is_marker.ensures,
      c.counted_if-5.ensures,
      c.counted_if-4.ensures,
      c.as_illegal.ensures,
      c.as_unknown.ensures,
      c.counted_if-3.ensures,
      c.as_response.ensures,
      c.counted_if-2.ensures,
      c.as_marker.ensures,
      first.counted_if.ensures,
      first.as_lacpdu.ensures,
    )
