-- `myrkosti_back` meets its contract: `asked::back`, and its answer's number. Assumes nothing.
use mathlib.Core.Path.{ap, ◌∙◌}
use Rattle.control.specs.Answer.{answer_number}
use Rattle.myrkosti.proofs.myrkosti_back.Goals as goal

pub returns : goal.returns
returns c =
    (c.number.ensures ∙ ap answer_number c.back-a.ensures.0, c.back-a.ensures.1)
