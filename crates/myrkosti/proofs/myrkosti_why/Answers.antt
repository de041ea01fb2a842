-- `myrkosti_why` meets its contract: `reasons::why`, number by number, zeros beside a refusal. Assumes nothing.
use mathlib.Core.Path.{◌≡◌, refl, ap, ◌∙◌}
use Rattle.std.specs.Prelude.{unwrap_or, Result, Ok, Err}
use Rattle.std.specs.Result.{result_unwrap_or}
use Rattle.control.specs.Answer.{answer_number}
use Rattle.control.specs.declared.answer.Reason.{Reason}
use Rattle.why.specs.declared.cause.Why.{Why}
use Rattle.why.specs.Cause.{cause_number, no_why}
use Rattle.reasons.specs.Reasons.{why_told}
use Rattle.myrkosti.proofs.myrkosti_why.Goals as goal

told : (r : Result Why Reason) → result_unwrap_or r no_why ≡ why_told r
told (Ok why) = refl
told (Err refusal) = refl

pub returns : goal.returns
returns c =
    let did = c.why-r.ensures in
    let told = c.unwrap_or-why.ensures ∙ told c.why-r.result ∙ ap why_told did in (
      c.number.ensures ∙ ap answer_number did,
      c.number_of.ensures ∙ ap (λ (w : Why). cause_number w.cause) told,
      c.unwrap_or.ensures ∙ ap (λ (w : Why). unwrap_or w.holder 0) told,
      ap (λ (w : Why). w.ticks) told,
    )
