-- `myrkosti_port` meets its contract: `asked::report_port`, and its answer's number. Assumes nothing.
use mathlib.Core.Path.{ap, ◌∙◌}
use Rattle.control.specs.Answer.{answer_number}
use Rattle.myrkosti.proofs.myrkosti_port.Goals as goal

pub returns : goal.returns
returns c =
    (c.number.ensures ∙ ap answer_number c.report_port-a.ensures.0, c.report_port-a.ensures.1)
