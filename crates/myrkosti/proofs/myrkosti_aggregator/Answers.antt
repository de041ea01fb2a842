-- `myrkosti_aggregator` meets its contract: `asked::report_aggregator`, number by number, zeros beside a refusal. Assumes nothing.
use mathlib.Core.Path.{◌≡◌, refl, ap, ◌∙◌}
use Rattle.report.specs.declared.Sets.{Sets}
use Rattle.control.specs.Answer.{answer_number}
use Rattle.control.specs.Report.{sets_told, no_sets}
use Rattle.std.specs.Prelude.{Result, Ok, Err}
use Rattle.std.specs.Result.{result_unwrap_or}
use Rattle.control.specs.declared.answer.Reason.{Reason}
use Rattle.myrkosti.proofs.myrkosti_aggregator.Goals as goal

told : (r : Result Sets Reason) → result_unwrap_or r no_sets ≡ sets_told r
told (Ok sets) = refl
told (Err why) = refl

pub returns : goal.returns
returns c =
    let did = c.report_aggregator-r.ensures in
    let told = c.unwrap_or-sets.ensures ∙ told c.report_aggregator-r.result ∙ ap sets_told did in (
      c.number.ensures ∙ ap answer_number did,
      ap (λ (s : Sets). s.holding) told,
      ap (λ (s : Sets). s.attached) told,
      ap (λ (s : Sets). s.distributing) told,
      ap (λ (s : Sets). s.count) told,
      ap (λ (s : Sets). s.lowest) told,
    )
