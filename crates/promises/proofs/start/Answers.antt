-- `promises::start` makes such a table of any memory where it is accepted; that its arguments are what `Takes` asks for, their types say. Assumes nothing.
use mathlib.Core.Path.{sym, ap, ◌∙◌, subst}
use Rattle.promises.specs.Asked.{NewAsked}
use Rattle.promises.proofs.Demands.{made_start}
use Rattle.table.specs.Range.{header_fits}
use Rattle.octets.proofs.RangeLaws.{both_true}
use Rattle.control.specs.Answer.{Answer}
use Rattle.control.specs.Accepted.{accepted}
use Rattle.promises.proofs.Typed.{fit, settings_typed}
use Rattle.promises.proofs.start.Goals as goal

pub returns : goal.returns
unfolding header_fits
returns c = λ e.
    let start = c in
    let a = start.args in
    let says = c.start.ensures in
    let s = start.well_formed.1.1.0 in
    let x = s.1.1.1.0 in
    let system = both_true (fit _ s.1.1.0.1) (both_true (both_true (fit _ x.1.1.0.1) (both_true (fit _ x.1.1.1.0.1) (fit _ x.1.1.1.1.0.1))) (fit _ start.well_formed.1.1.1.0.1.1.0.1)) in
    subst NewAsked (sym says.1)
    (made_start a.table.now (λ j. (c.slice_known-1.given j).fits) a.count a.system a.delay a.settings
    (system, settings_typed a.settings _ _ start.well_formed.1.1.1.1.0.1) (ap (λ (r : Answer). accepted r) (sym says.0) ∙ e))
