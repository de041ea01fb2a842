-- `myrkosti_forward` meets its contract: `asked::forward`, and its answer's number. Assumes nothing.
use mathlib.Core.Path.{ap, ◌∙◌}
use Rattle.control.specs.Answer.{answer_number}
use Rattle.myrkosti.proofs.myrkosti_forward.Goals as goal

pub returns : goal.returns
returns c =
    (c.number.ensures ∙ ap answer_number c.forward-a.ensures.0, c.forward-a.ensures.1)
