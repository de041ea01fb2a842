-- `Block::write` meets its contract: five pieces, written one after the other from the front on, cover the 15 octets.
-- Assumes nothing.
use mathlib.Core.Path.{◌∙◌}
use mathlib.Core.List.{[], ◌∷◌}
use native.Mathlib.Omega.{arith}
use Rattle.octets.proofs.Laws.{written, over-all}
use Rattle.frame.specs.Block.{block_octets, system_octets}
use Rattle.frame.specs.State.{state_octet}
use Rattle.octets.specs.Octets.{number_octets}
use Rattle.frame.proofs.block.Block.write.Goals as goal

pub returns : goal.returns
returns c =
    let b = c.args.self in
    let l = c.args.out.now in
    rw (c.put.ensures, c.from.ensures, c.put_number-3.ensures, c.put_number-2.ensures, c.put_number.ensures, c.write.ensures)
    (written
    (system_octets b.system ∷ number_octets b.key
    ∷ number_octets b.port.priority ∷ number_octets b.port.number ∷ (state_octet b.state ∷ []) ∷ []) l
    ∙ over-all (block_octets b) l (omega arith))
