-- `myrkosti_settings` meets its contract: `asked::configure` with the settings that the octets say. Assumes nothing.
use mathlib.Core.Path.{ap, ◌∙◌}
use Rattle.settings.specs.declared.Settings.{Settings}
use Rattle.control.specs.Answer.{answer_number}
use Rattle.control.specs.Call.{configure}
use Rattle.asked.specs.Layer.{new_layer}
use Rattle.asked.specs.Calls.{asked_answer, asked_after}
use Rattle.myrkosti.proofs.myrkosti_settings.Goals as goal

pub returns : goal.returns
returns c =
    let a = c.args in
    let t = a.table.now in
    let did = c.configure-a.ensures in
    let said = c.settings_of-s.ensures in (
      c.number.ensures ∙ ap answer_number did.0 ∙ ap (λ (s : Settings). answer_number (asked_answer new_layer (configure a.port s) t)) said,
      did.1 ∙ ap (λ (s : Settings). asked_after new_layer (configure a.port s) t) said,
    )
