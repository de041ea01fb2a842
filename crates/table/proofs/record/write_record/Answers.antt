-- `write_record` meets its contract: six pieces, one after the other from the front on, the last of them a lent part that comes
-- back as a block, cover the 57 octets. Assumes nothing.
use mathlib.Core.Path.{refl, ◌∙◌}
use mathlib.Core.List.{[], ◌∷◌}
use native.Mathlib.Omega.{arith}
use Rattle.octets.specs.Octets.{put_at}
use Rattle.octets.proofs.Laws.{put-part, written, over-all}
use Rattle.frame.specs.Block.{block_octets}
use Rattle.table.specs.Record.{phase_octets, status_octets, timers_octets, ages_octets, own_octets, encoded}
use Rattle.table.proofs.record.write_record.Goals as goal

pub returns : goal.returns
unfolding encoded
returns c =
    let p = c.args.p in
    let l = c.args.out.now in
    let status = status_octets p.aggregator p.ntt p.line p.actor in
    let front =
    put_at 17 (own_octets p.own) (put_at 14 (ages_octets p.ages) (put_at 9 (timers_octets p.timers) (put_at 4 status (put_at 0 (phase_octets p.phase) l)))) in
    rw (
      c.write.ensures,
      c.write_own.ensures,
      c.put-4.ensures,
      c.ages_octets.ensures,
      c.put-3.ensures,
      c.timers_octets.ensures,
      c.put-2.ensures,
      c.status_octets.ensures,
      c.put.ensures,
      c.phase_octets.ensures,
    )
    (put-part 42 57 (block_octets p.partner) front refl
    ∙ written
    (phase_octets p.phase ∷ status ∷ timers_octets p.timers ∷ ages_octets p.ages ∷ own_octets p.own ∷ block_octets p.partner ∷ []) l
    ∙ over-all (encoded p) l (omega arith))
