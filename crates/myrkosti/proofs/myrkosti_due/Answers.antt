-- `myrkosti_due` meets its contract: `asked::report_due`, its number, and the ports, none beside a refusal. Assumes nothing.
use mathlib.Core.Path.{◌≡◌, refl, ap, ◌∙◌}
use Prim.Native.Nat.{ℕ}
use Rattle.std.specs.Prelude.{Result, Ok, Err}
use Rattle.std.specs.Result.{result_unwrap_or}
use Rattle.control.specs.declared.answer.Reason.{Reason}
use Rattle.control.specs.Answer.{answer_number}
use Rattle.control.specs.Report.{ports_told}
use Rattle.myrkosti.proofs.myrkosti_due.Goals as goal

told : (r : Result ℕ Reason) → result_unwrap_or r 0 ≡ ports_told r
told (Ok ports) = refl
told (Err why) = refl

pub returns : goal.returns
returns c =
    let did = c.report_due-r.ensures in
    (c.number.ensures ∙ ap answer_number did, c.unwrap_or.ensures ∙ told c.report_due-r.result ∙ ap ports_told did)
