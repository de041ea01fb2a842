-- `write_header` meets its contract: three pieces, written one after the other from the front on, are the header.
-- Assumes nothing.
use mathlib.Core.Path.{◌∙◌}
use mathlib.Core.List.{[], ◌∷◌}
use Rattle.octets.specs.Octets.{number_octets}
use Rattle.octets.proofs.Laws.{written, over-put}
use Rattle.frame.specs.Block.{system_octets}
use Rattle.table.specs.Layout.{header_octets}
use Rattle.table.proofs.layout.write_header.Goals as goal

pub returns : goal.returns
returns c =
    let h = c.args.header in
    let l = c.args.table.now in
    rw (
      c.put_number.ensures,
      c.write.ensures,
      c.put.ensures,
    )
    (written
    ((h.count ∷ []) ∷ system_octets h.system ∷ number_octets h.delay.0 ∷ []) l
    ∙ over-put (header_octets h) l)
