-- `myrkosti_receive` meets its contract: `asked::receive`, its answer's number, the length sent, and what that answer counts. Assumes nothing.
use mathlib.Core.Path.{ap, ◌∙◌}
use Rattle.control.specs.Answer.{Answer, answer_number, length_sent}
use Rattle.counters.specs.Counters.{received}
use Rattle.myrkosti.proofs.myrkosti_receive.Goals as goal

pub returns : goal.returns
returns c =
    let did = c.receive-a.ensures in (
      (c.number.ensures ∙ ap answer_number did.0, did.1, did.2, c.length_sent.ensures ∙ ap length_sent did.0),
      c.received.ensures ∙ ap (λ (x : Answer). received x c.args.counters.now) did.0,
    )
