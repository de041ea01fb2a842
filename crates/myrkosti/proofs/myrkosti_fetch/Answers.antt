-- `myrkosti_fetch` meets its contract: `asked::fetch`, its answer's number, and what that answer counts. Assumes nothing.
use mathlib.Core.Path.{ap, ◌∙◌}
use Rattle.control.specs.Answer.{Answer, answer_number}
use Rattle.counters.specs.Counters.{fetched}
use Rattle.myrkosti.proofs.myrkosti_fetch.Goals as goal

pub returns : goal.returns
returns c =
    let did = c.fetch-a.ensures in
    ((c.number.ensures ∙ ap answer_number did.0, did.1, did.2), c.fetched.ensures ∙ ap (λ (x : Answer). fetched x c.args.counters.now) did.0)
