-- `codes_in_range` meets its contract: four octets at a time say what each by itself says. Assumes nothing.
use native.Mathlib.Omega.{arith}
use Rattle.octets.specs.Octets.{word}
use Rattle.table.proofs.CodesAtOnce.{codes-at_once}
use Rattle.table.proofs.range.codes_in_range.Goals as goal

pub overflow_add-result : goal.overflow_add-result
unfolding word
overflow_add-result c =
    let o = c.fits-s in
    omega (arith, c.word-states.ensures, o 0, o 1, o 2, o 3)

pub returns : goal.returns
returns c = rw (c.word-flags.ensures, c.word-states.ensures) (codes-at_once c.args.s.now c.fits-s)
