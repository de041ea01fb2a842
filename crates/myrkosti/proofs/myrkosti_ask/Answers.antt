-- `myrkosti_ask` meets its contract: `asked::ask`, and its answer's number. Assumes nothing.
use mathlib.Core.Path.{ap, ◌∙◌}
use Rattle.asked.specs.Ask.{said_number}
use Rattle.myrkosti.proofs.myrkosti_ask.Goals as goal

pub returns : goal.returns
returns c =
    let did = c.ask-a.ensures in
    (c.number.ensures ∙ ap said_number did.0, did.1, did.2)
