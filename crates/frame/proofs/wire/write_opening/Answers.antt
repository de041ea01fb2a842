-- `write_opening` meets its contract: four pieces from the front on make up octets 0 to 17. Assumes nothing.
use mathlib.Core.Path.{◌∙◌}
use mathlib.Core.List.{[], ◌∷◌}
use Rattle.octets.specs.Octets.{number_octets}
use Rattle.octets.proofs.Laws.{written, over-put}
use Rattle.frame.specs.Block.{address_octets}
use Rattle.frame.specs.Class.{slow_address, slow_type}
use Rattle.frame.specs.Wire.{opening}
use Rattle.frame.proofs.wire.write_opening.Goals as goal

pub returns : goal.returns
returns c =
    let a = c.args in
    let l = a.out.now in
    rw (c.put-2.ensures, c.put_number.ensures, c.write.ensures, c.put.ensures)
    (written (slow_address ∷ address_octets a.source ∷ number_octets slow_type ∷ (a.subtype ∷ 1 ∷ a.first ∷ a.size ∷ []) ∷ []) l
    ∙ over-put (opening a.source a.subtype a.first a.size) l)
