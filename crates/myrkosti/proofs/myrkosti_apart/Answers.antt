-- `myrkosti_apart` meets its contract: `reasons::apart`, its number, and a bit for each reason. Assumes nothing.
use mathlib.Core.Path.{◌≡◌, refl, ap, ◌∙◌}
use Rattle.control.specs.Answer.{answer_number}
use Rattle.control.specs.declared.answer.Reason.{Reason}
use Rattle.std.specs.Prelude.{Result, Ok, Err}
use Rattle.std.specs.Result.{result_unwrap_or}
use Rattle.why.specs.declared.apart.Apart.{Apart}
use Rattle.why.specs.Apart.{apart_number, nothing}
use Rattle.reasons.specs.Reasons.{apart_told}
use Rattle.myrkosti.proofs.myrkosti_apart.Goals as goal

told : (r : Result Apart Reason) → result_unwrap_or r nothing ≡ apart_told r
told (Ok apart) = refl
told (Err why) = refl

pub returns : goal.returns
returns c =
    let did = c.apart-r.ensures in
    let told = c.unwrap_or.ensures ∙ told c.apart-r.result in
    (c.number-2.ensures ∙ ap answer_number did, c.number.ensures ∙ ap apart_number (told ∙ ap apart_told did))
