-- `write_request` meets its contract: the three parts written one after the other. Assumes nothing.
use mathlib.Core.Path.{◌∙◌}
use mathlib.Core.List.{[], ◌∷◌}
use native.Mathlib.Omega.{arith}
use Rattle.octets.specs.Octets.{number_octets, long_octets}
use Rattle.octets.proofs.Laws.{written, over-all}
use Rattle.frame.specs.Block.{address_octets}
use Rattle.asked.specs.Asked.{request_of}
use Rattle.asked.proofs.write_request.Goals as goal

pub returns : goal.returns
returns c =
    let a = c.args in
    rw (c.put_number-2.ensures, c.write.ensures, c.put_number.ensures)
    (written (number_octets a.n ∷ address_octets a.system ∷ long_octets a.number ∷ []) a.out.now
    ∙ over-all (request_of a.n a.system a.number) a.out.now (omega arith))
