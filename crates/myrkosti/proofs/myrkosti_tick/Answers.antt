-- `myrkosti_tick` meets its contract: `asked::tick`, and its answer's number. Assumes nothing.
use mathlib.Core.Path.{ap, ◌∙◌}
use Rattle.control.specs.Answer.{answer_number}
use Rattle.myrkosti.proofs.myrkosti_tick.Goals as goal

pub returns : goal.returns
returns c =
    (c.number.ensures ∙ ap answer_number c.tick-a.ensures.0, c.tick-a.ensures.1)
