-- `myrkosti_line` meets its contract: `asked::line`, and its answer's number. Assumes nothing.
use mathlib.Core.Path.{ap, ◌∙◌}
use Rattle.control.specs.Answer.{answer_number}
use Rattle.myrkosti.proofs.myrkosti_line.Goals as goal

pub returns : goal.returns
returns c =
    (c.number.ensures ∙ ap answer_number c.line-a.ensures.0, c.line-a.ensures.1)
