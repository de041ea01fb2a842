-- `myrkosti_start` meets its contract: `asked::start` with the system and the settings that the octets say. Assumes nothing.
use mathlib.Core.Path.{◌≡◌, ap, ◌∙◌}
use Rattle.control.specs.Answer.{answer_number}
use Rattle.control.specs.Call.{Call, start}
use Rattle.asked.specs.Layer.{new_layer}
use Rattle.asked.specs.Calls.{asked_answer, asked_after}
use Rattle.myrkosti.proofs.myrkosti_start.Goals as goal

pub returns : goal.returns
returns c =
    let a = c.args in
    let t = a.table.now in
    let did = c.start-a.ensures in
    let said = c.settings_of-s.ensures in
    let address = c.read.ensures in
    let is : ◌≡◌ {A = Call} _ _ = λ j. start a.ports (record { priority = a.system_priority; address = address j }) (record { 0 = a.collector_max_delay }) (said j) in
    (c.number.ensures ∙ ap answer_number did.0 ∙ ap (λ (x : Call). answer_number (asked_answer new_layer x t)) is, did.1 ∙ ap (λ (x : Call). asked_after new_layer x t) is)
